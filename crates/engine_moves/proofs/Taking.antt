-- What a task's gate has for an input of the task.
use Rattle.std.proofs.Common.{◌≡◌, ◌<◌, ℕ, Option, Some, None, List, [], length, slice_get, unwrap_or, refl, arith}
use Rattle.std.proofs.lemmas.Option.{slice_get_within}
use Rattle.alignment.specs.Table.{Alignment}
use Rattle.alignment.specs.declared.input.Phase.TheVariants.{AtRest}
use Rattle.job_graph.specs.Expanded.{Expanded}
use Rattle.job_state.specs.Held.{Held}
use Rattle.engine_model.specs.Calls.{input_at, IsBarrierNext}
use Rattle.engine_model.specs.Keeps.{GateFits}
use Rattle.engine_model.proofs.Shape.Gates.{within_gate, awaits, is_for}
use Rattle.engine_model.proofs.Numbers.{channel_in}
use Rattle.engine_moves.specs.Taking.{GateAwaits}

-- a task whose gate has inputs has a gate
has_gate : (gates : List Alignment) (task input : ℕ) (gate : Option Alignment) → slice_get gates task ≡ gate → input < length (unwrap_or gate (record { phase = AtRest; inputs = [] })).inputs → task < length gates
has_gate gates task input None is within = absurd (omega (arith, within))
has_gate gates task input (Some gate) is within = slice_get_within gates task gate is

module _ {R K S : Type 0} (graph : Expanded) (h : Held R K S) (task : ℕ) (fits : GateFits graph h task) (input channel : ℕ) (leads : input_at graph task input ≡ Some channel) where
  pub gate_in : task < length h.gates
  gate_in = has_gate h.gates task input (slice_get h.gates task) refl (within_gate graph h task fits input channel leads)

  pub gate_awaits : length h.came ≡ length graph.channels → (checkpoint : ℕ) → IsBarrierNext h channel checkpoint → GateAwaits task input channel checkpoint h
  gate_awaits came checkpoint barrier = record {
    task_in = gate_in;
    input_in = within_gate graph h task fits input channel leads;
    channel_in = channel_in graph task input channel h.came leads came;
    awaited = awaits graph h task fits input channel leads checkpoint barrier.1 barrier.2;
    is_for = is_for graph h task fits input channel leads checkpoint barrier.1 barrier.2;
  }
