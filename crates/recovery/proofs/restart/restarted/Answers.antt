use Rattle.std.proofs.Common.{rules, arith}
use Rattle.engine_model.specs.Restart.{AreStarts, before_tasks}
use Rattle.engine_model.proofs.Restart.Starts.{takes_length}
use Rattle.recovery.proofs.Starting.{starts_below, restart_full, restart_whole}
use Rattle.engine_model.proofs.RulesOf.{rules_of}
use Rattle.recovery.proofs.restart.restarted.Goals as goal

pub settle_transactions-requires-clause-below : goal.settle_transactions-requires-clause-below
settle_transactions-requires-clause-below g c =
    let are : AreStarts (rules_of g.O.Operator g.O.Key.Ord g.O.Record.Codec g.O.Key.Codec g.O.State.Codec) c.args.graph.now c.args.operators.now (g.P.Partitions.records c.args.log.now) (g.S.SnapshotStore.state c.args.store.now) c.in_ok-restored.restored.0 c.in_ok-restored.restored.1 = search rules in
    starts_below (rules_of g.O.Operator g.O.Key.Ord g.O.Record.Codec g.O.Key.Codec g.O.State.Codec) c.args.graph.now c.args.operators.now (g.P.Partitions.records c.args.log.now) (g.S.SnapshotStore.state c.args.store.now) c.in_ok-restored.restored.0 c.in_ok-restored.restored.1 (g.X.Transactions.state c.args.transactions.now).subtasks are c.requires.sinks

pub new-requires : goal.new-requires
new-requires g c =
    let are : AreStarts (rules_of g.O.Operator g.O.Key.Ord g.O.Record.Codec g.O.Key.Codec g.O.State.Codec) c.args.graph.now c.args.operators.now (g.P.Partitions.records c.args.log.now) (g.S.SnapshotStore.state c.args.store.now) c.in_ok-restored.restored.0 c.in_ok-restored.restored.1 = search rules in
    let X = g.X.Transactions in
    let long = takes_length c.in_ok-restored.restored.1 (before_tasks (X.state c.args.transactions.now)) (record { ledger = X.state c.settle_transactions.new.transactions; tasks = c.in_ok-tasks.tasks.items }) (c.in_ok-tasks.ensures.ends).0 in
    omega (arith, long, are.one_each, c.tasks.ensures.expanded.few_tasks)

pub returns-in_err-attempt-clause-ends : goal.returns-in_err-attempt-clause-ends
returns-in_err-attempt-clause-ends g c =
    let are : AreStarts (rules_of g.O.Operator g.O.Key.Ord g.O.Record.Codec g.O.Key.Codec g.O.State.Codec) c.args.graph.now c.args.operators.now (g.P.Partitions.records c.args.log.now) (g.S.SnapshotStore.state c.args.store.now) c.in_ok-restored.restored.0 c.in_ok-restored.restored.1 = search rules in
    let X = g.X.Transactions in
    let stops = restart_full (rules_of g.O.Operator g.O.Key.Ord g.O.Record.Codec g.O.Key.Codec g.O.State.Codec) c.args.graph.now c.args.operators.now (g.P.Partitions.records c.args.log.now) (g.S.SnapshotStore.state c.args.store.now) (X.state c.args.transactions.now) (X.state c.settle_transactions.new.transactions) c.in_ok-restored.restored.0 c.in_ok-restored.restored.1 (c.in_ok-tasks.tasks.items, c.in_ok-tasks.openings.items) are c.in_ok-tasks.ensures.ends in
    search (rules, stops)

pub returns-clause-ends : goal.returns-clause-ends
returns-clause-ends g c =
    let are : AreStarts (rules_of g.O.Operator g.O.Key.Ord g.O.Record.Codec g.O.Key.Codec g.O.State.Codec) c.args.graph.now c.args.operators.now (g.P.Partitions.records c.args.log.now) (g.S.SnapshotStore.state c.args.store.now) c.in_ok-restored.restored.0 c.in_ok-restored.restored.1 = search rules in
    let X = g.X.Transactions in
    restart_whole (rules_of g.O.Operator g.O.Key.Ord g.O.Record.Codec g.O.Key.Codec g.O.State.Codec) c.args.graph.now c.args.operators.now (g.P.Partitions.records c.args.log.now) (g.S.SnapshotStore.state c.args.store.now) (X.state c.args.transactions.now) (X.state c.settle_transactions.new.transactions) c.in_ok-restored.restored.0 c.number-number.result c.in_ok-restored.restored.1 (c.in_ok-tasks.tasks.items, c.in_ok-tasks.openings.items) c.in_ok-attempt.attempt c.number-number.ensures are c.in_ok-tasks.ensures.ends c.in_ok-attempt.ensures
