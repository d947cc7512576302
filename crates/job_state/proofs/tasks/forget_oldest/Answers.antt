use Rattle.std.proofs.Common.{drop}
use Rattle.job_state.specs.declared.holding.Holding.TheVariants as Holding
use Rattle.job_state.proofs.Standings.{holdings_set, copies_kept, held}
use Rattle.job_state.proofs.tasks.forget_oldest.Goals as goal

pub returns-clause-holdings : goal.returns-clause-holdings
returns-clause-holdings g c = λ sink at.
    let is = held c.args.tasks.now c.args.task c.index-tasks-task.result c.requires (Holding.Sink sink) at in
    holdings_set c.args.tasks.now c.args.task c.forget_oldest.new.self (Holding.Sink (record sink { pending = drop 1 sink.pending })) (c.forget_oldest.ensures.oldest sink is)

pub returns-clause-copies : goal.returns-clause-copies
returns-clause-copies g c = copies_kept c.args.tasks.now c.args.task c.index-tasks-task.result c.requires c.forget_oldest.new.self c.forget_oldest.ensures.copy
