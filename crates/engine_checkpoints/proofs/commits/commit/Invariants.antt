use Rattle.std.proofs.Common.{◌≡◌, Some, slice_get, List}
use Rattle.commit_sink.specs.Ledger.{Ledger}
use Rattle.commit_sink.specs.Sink.{Sinking}
use Rattle.job_state.specs.Held.{Held}
use Rattle.job_state.specs.declared.holding.Holding.TheVariants as Holding
use Rattle.engine_model.specs.Commits.{CommitsEach}
use Rattle.engine_model.specs.Keeps.{SinkIn}
use Rattle.engine_checkpoints.proofs.Rounds.{pending_in}
use Rattle.engine_checkpoints.proofs.commits.commit.Given as goal

-- the rounds so far, and what is kept of the sink
abbrev pub invariant-rounds : goal.invariant-rounds
invariant-rounds g l = record {
  rounds : (rounds : List (Held g.row.O-Record.Denot g.row.O-Key.Denot g.row.O-State.Denot × Ledger)) × CommitsEach l.task l.fn.attempt (g.X.Transactions.state l.fn.transactions) rounds l.attempt (g.X.Transactions.state l.transactions);
  sinks : (sink : Sinking) → slice_get l.attempt.tasks l.task ≡ Some (Holding.Sink sink) → SinkIn (g.X.Transactions.state l.transactions) l.subtask sink;
  counted : g.X.Transactions.fault_count l.transactions ≡ g.X.Transactions.fault_count l.fn.transactions;
}

abbrev pub decreases-rounds : goal.decreases-rounds
decreases-rounds g l = pending_in (slice_get l.attempt.tasks l.task)
