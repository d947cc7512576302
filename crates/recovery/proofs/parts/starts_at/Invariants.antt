use Rattle.std.proofs.Common.{◌≡◌, ℕ, Some, slice_get, length}
use Rattle.engine_model.specs.Restart.{IsStart}
use Rattle.engine_model.specs.declared.start.Start.{Start}
use Rattle.job_graph.specs.declared.role.Role.{Role}
use Rattle.recovery.proofs.parts.starts_at.Given as goal
use Rattle.engine_model.proofs.RulesOf.{rules_of}

-- the tasks met so far have a start each
abbrev pub invariant-loop-task : goal.invariant-loop-task
invariant-loop-task g l =
    let O = g.O in
    record {
      len : length l.starts.items ≡ l.task;
      each : (t : ℕ) (r : Role) (st : Start g.row.O-Record.Denot g.row.O-Key.Denot g.row.O-State.Denot) → slice_get l.graph.tasks t ≡ Some r → slice_get l.starts.items t ≡ Some st
          → IsStart (rules_of O.Operator O.Key.Ord O.Record.Codec O.Key.Codec O.State.Codec) l.graph l.operators (g.P.Partitions.records l.log) (g.S.SnapshotStore.state l.fn.store) l.last t r st;
      same : g.S.SnapshotStore.state l.store ≡ g.S.SnapshotStore.state l.fn.store;
      counted : g.S.SnapshotStore.fault_count l.store ≡ g.S.SnapshotStore.fault_count l.fn.store;
    }
