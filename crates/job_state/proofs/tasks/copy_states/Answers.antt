use Rattle.std.proofs.Common.{[], Some}
use Rattle.job_state.specs.declared.holding.Holding.TheVariants as Holding
use Rattle.task_part.specs.declared.part.Part.TheVariants as Part
use Rattle.job_state.proofs.Standings.{holdings_kept, copies_set, copies_kept, held}
use Rattle.job_state.proofs.Holds.{on_ok, on_refused}
use Rattle.job_state.proofs.tasks.copy_states.Goals as goal

pub returns-clause-holdings : goal.returns-clause-holdings
returns-clause-holdings g c = holdings_kept c.args.tasks.now c.args.task c.index-tasks-task.result c.requires.there c.copy_states.new.self c.copy_states.ensures.holding

pub returns-clause-ok : goal.returns-clause-ok
returns-clause-ok g c = on_ok c.copy_states.result (λ all entries at.
    let is = held c.args.tasks.now c.args.task c.index-tasks-task.result c.requires.there (Holding.Operator entries) at in
    copies_set c.args.tasks.now c.args.task c.copy_states.new.self (Some (Part.Operator entries [])) (all entries is)) c.copy_states.ensures.ok

pub returns-clause-err : goal.returns-clause-err
returns-clause-err g c = on_refused c.copy_states.result (copies_kept c.args.tasks.now c.args.task c.index-tasks-task.result c.requires.there c.copy_states.new.self) c.copy_states.ensures.err
