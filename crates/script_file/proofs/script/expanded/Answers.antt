use Rattle.std.proofs.Common.{inr, refl}
use Rattle.std.proofs.lemmas.Result.{err_from_is_err_and}
use Rattle.script_file.specs.Outline.{outline_view}
use Rattle.script_file.proofs.ScriptLemmas.{contents_reads}
use Rattle.script_file.proofs.script.expanded.Goals as goal

pub returns-in_err-contents : goal.returns-in_err-contents
returns-in_err-contents c =
    let p = err_from_is_err_and c.from_residual-in_err-contents.result c.from_residual-in_err-contents.ensures.1 in
    rw (p.1, p.2) (contents_reads (outline_view c.args.outline.now) c.args.job c.in_ok-graph.graph c.in_err-contents.field-0.0 c.in_ok-graph.ensures.ok (rw (← c.sources.ensures) c.in_err-contents.ensures))

pub returns : goal.returns
returns c = inr (c.in_ok-graph.graph, c.in_ok-graph.ensures.ok, rw (← c.sources.ensures, c.in_ok-contents.ensures) refl)
