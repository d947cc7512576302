use Rattle.std.proofs.lemmas.Result.{err_from_is_err_and}
use Rattle.script_file.specs.Json.{value_of}
use Rattle.script_file.specs.Script.{head_at, head_of}
use Rattle.script_file.proofs.ListLemmas.{fails_bind}
use Rattle.script_file.proofs.ScriptLemmas.{fails_reads}
use Rattle.script_file.proofs.script.Script.read.Goals as goal

pub returns-in_err-value : goal.returns-in_err-value
unfolding head_of
returns-in_err-value c =
    let p = err_from_is_err_and c.from_residual.result c.from_residual.ensures.1 in
    rw (p.1, p.2) (fails_reads c.in_err-value.field-0.0 _ (fails_bind c.in_err-value.field-0.0 (value_of c.args.bytes.now) head_at c.in_err-value.ensures))

pub returns : goal.returns
unfolding head_of
returns c = rw c.in_ok-value.ensures c.script_of.ensures
