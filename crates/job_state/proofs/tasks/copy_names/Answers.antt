use Rattle.std.proofs.Common.{[], Some, ap}
use Rattle.job_state.specs.declared.holding.Holding.TheVariants as Holding
use Rattle.task_part.specs.declared.part.Part.TheVariants as Part
use Rattle.job_state.proofs.Standings.{holdings_set, copies_set}
use Rattle.job_state.proofs.tasks.copy_names.Goals as goal

pub returns-clause-holdings : goal.returns-clause-holdings
returns-clause-holdings g c = holdings_set c.args.tasks.now c.args.task c.copied_sink.result (Holding.Sink c.args.sink) (ap (λ t. t.holding) c.copied_sink.ensures)

pub returns-clause-copies : goal.returns-clause-copies
returns-clause-copies g c = copies_set c.args.tasks.now c.args.task c.copied_sink.result (Some (Part.Sink c.args.names [])) (ap (λ t. t.copy) c.copied_sink.ensures)
