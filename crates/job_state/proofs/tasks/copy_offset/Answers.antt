use Rattle.std.proofs.Common.{Some, sym, ap, ◌∙◌}
use Rattle.job_state.specs.declared.holding.Holding.TheVariants as Holding
use Rattle.task_part.specs.declared.part.Part.TheVariants as Part
use Rattle.job_state.proofs.Standings.{holdings_kept, copies_set, held}
use Rattle.job_state.proofs.tasks.copy_offset.Goals as goal

pub returns-clause-holdings : goal.returns-clause-holdings
returns-clause-holdings g c =
    let is = held c.args.tasks.now c.args.task c.index-tasks-task.result c.requires.there (Holding.Source c.args.offset) c.requires.holds in
    holdings_kept c.args.tasks.now c.args.task c.index-tasks-task.result c.requires.there c.copied_source.result (ap (λ t. t.holding) c.copied_source.ensures ∙ sym is)

pub returns-clause-copies : goal.returns-clause-copies
returns-clause-copies g c = copies_set c.args.tasks.now c.args.task c.copied_source.result (Some (Part.Source c.args.offset)) (ap (λ t. t.copy) c.copied_source.ensures)
