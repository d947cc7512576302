use Rattle.std.proofs.Common.{sym, ◌∙◌, ◌<◌, arith}
use Rattle.std.specs.Prelude.{is_some}
use Rattle.std.specs.FinMap as fin
use Rattle.snapshot_store.proofs.Kept.{all_below_fails}
use Rattle.snapshot_store.proofs.memory_store.has_all_parts.Goals as goal

pub returns-then-not-has : goal.returns-then-not-has
returns-then-not-has c =
    let lt : c.loop-task.task < c.args.tasks = omega arith in
    sym (all_below_fails (λ t. is_some (fin.get c.args.parts.now (c.args.number, t))) c.args.tasks c.loop-task.task lt (sym c.has.ensures ∙ c.if-not-has.true))
