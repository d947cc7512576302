-- What a running job gives a task's work.
use Rattle.std.proofs.Common.{◌≡◌, ◌<◌, Some, None, slice_get, length, ℕ, List, sym, subst, arith}
use Rattle.std.proofs.lemmas.Option.{slice_get_within}
use Rattle.commit_sink.specs.Ledger.{Ledger, open_refusal}
use Rattle.commit_sink.specs.Sink.{Sinking}
use Rattle.job_graph.specs.Expanded.{Expanded}
use Rattle.job_graph.specs.declared.role.Role.{Role}
use Rattle.job_graph.specs.declared.role.Role.TheVariants as role
use Rattle.job_state.specs.Held.{Held}
use Rattle.job_state.specs.declared.holding.Holding.TheVariants as holds
use Rattle.engine_model.specs.AllRules.{AllRules}
use Rattle.engine_model.specs.Keeps.{GateFits}
use Rattle.engine_model.proofs.Ledger.Sinks.{open_not_refused}
use Rattle.engine_model.proofs.Numbers.{none_past, operator_within, sink_within}
use Rattle.claims.specs.Tasks.{Serves}

module _ {R K S O : Type 0} (rules : AllRules R K S O) (graph : Expanded) (operators : List O) (ledger : Ledger) (h : Held R K S) (serves : Serves rules graph operators ledger h) (task : ℕ) where
  -- a task has its place among the copies
  pub copies_within : (r : Role) → slice_get graph.tasks task ≡ Some r → task < length h.copies
  copies_within r at = let less = slice_get_within graph.tasks task r at in omega (arith, less, serves.shape.copies)

  -- and a gate that stands with what it holds
  pub gate_there : (r : Role) → slice_get graph.tasks task ≡ Some r → GateFits graph h task
  gate_there r at = serves.shape.gate_fits task (slice_get_within graph.tasks task r at)

  -- an operator's task holds its states, and has its operator
  pub holds_states : (number : ℕ) → slice_get graph.tasks task ≡ Some (role.Operator number) → (entries : List (K × S)) × (slice_get h.tasks task ≡ Some (holds.Operator entries))
  holds_states number at = serves.shape.forms task (role.Operator number) at

  pub operator_there : (number : ℕ) → slice_get graph.tasks task ≡ Some (role.Operator number) → slice_get operators number ≡ None → ⊥
  operator_there number at none =
      let less = operator_within graph serves.expanded task number at in
      omega (arith, less, serves.given, none_past operators number none)

  -- a sink's task holds its transactions, of which one is open
  pub holds_sink : (subtask : ℕ) → slice_get graph.tasks task ≡ Some (role.Sink subtask) → (sink : Sinking) × (slice_get h.tasks task ≡ Some (holds.Sink sink)) × (open_refusal ledger sink.open_one ≡ None)
  holds_sink subtask at =
      let held = serves.shape.forms task (role.Sink subtask) at in
      (held.0, held.1, open_not_refused ledger subtask held.0 (serves.sinks task subtask held.0 at held.1))

  pub subtask_within : (subtask : ℕ) → slice_get graph.tasks task ≡ Some (role.Sink subtask) → subtask < ledger.subtasks
  subtask_within subtask at = subst (λ n. subtask < n) (sym serves.subtasks) (sink_within graph serves.expanded task subtask at)
