use Rattle.std.proofs.Common.{ap}
use Rattle.job_state.specs.declared.holding.Holding.TheVariants as Holding
use Rattle.job_state.proofs.Standings.{holdings_set, copies_kept}
use Rattle.job_state.proofs.tasks.advance.Goals as goal

pub returns-clause-holdings : goal.returns-clause-holdings
returns-clause-holdings g c = holdings_set c.args.tasks.now c.args.task c.advance.new.self (Holding.Source c.args.offset) (ap (λ t. t.holding) c.advance.ensures)

pub returns-clause-copies : goal.returns-clause-copies
returns-clause-copies g c = copies_kept c.args.tasks.now c.args.task c.index-tasks-task.result c.requires.there c.advance.new.self (ap (λ t. t.copy) c.advance.ensures)
