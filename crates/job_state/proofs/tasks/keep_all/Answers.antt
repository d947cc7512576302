use Rattle.std.proofs.Common.{refl, ap}
use Rattle.job_state.specs.declared.holding.Holding.TheVariants as Holding
use Rattle.job_state.proofs.Holds.{on_ok, on_refused}
use Rattle.job_state.proofs.Standings.{holdings_set, holdings_kept, copies_kept, holding_here, held}
use Rattle.job_state.proofs.tasks.keep_all.Goals as goal

pub keep_all-requires-clause-holds : goal.keep_all-requires-clause-holds
keep_all-requires-clause-holds g c = (c.requires.holds.0, held c.args.tasks.now c.args.task c.index-tasks-task.result c.requires.there (Holding.Operator c.requires.holds.0) c.requires.holds.1)

pub returns-clause-ok : goal.returns-clause-ok
returns-clause-ok g c = on_ok c.keep_all.result (λ keeps. (_, _, holding_here c.args.tasks.now c.args.task c.index-tasks-task.result c.requires.there, holdings_set c.args.tasks.now c.args.task c.keep_all.new.self _ refl, keeps)) c.keep_all.ensures.ok

pub returns-clause-copies : goal.returns-clause-copies
returns-clause-copies g c = copies_kept c.args.tasks.now c.args.task c.index-tasks-task.result c.requires.there c.keep_all.new.self c.keep_all.ensures.copy

pub returns-clause-err : goal.returns-clause-err
returns-clause-err g c = on_refused c.keep_all.result (λ same. holdings_kept c.args.tasks.now c.args.task c.index-tasks-task.result c.requires.there c.keep_all.new.self (ap (λ t. t.holding) same)) c.keep_all.ensures.err

pub returns-clause-expected : goal.returns-clause-expected
returns-clause-expected g c = λ entries at. c.keep_all.ensures.expected entries (held c.args.tasks.now c.args.task c.index-tasks-task.result c.requires.there (Holding.Operator entries) at)

pub returns-clause-changed : goal.returns-clause-changed
returns-clause-changed g c = λ entries at told. c.keep_all.ensures.changed entries (held c.args.tasks.now c.args.task c.index-tasks-task.result c.requires.there (Holding.Operator entries) at) told
