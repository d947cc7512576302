-- What barrier is taken from a task's input, which is this channel, and why none is.
use Rattle.std.specs.Prelude.{◌≡◌, ◌⊎◌, ◌<◌, ◌+◌, ℕ, false, length, Result, Ok, Err}
use Rattle.alignment.specs.Inputs as gates
use Rattle.alignment.specs.Table.{IsFor, effect_of}
use Rattle.commit_sink.specs.Ledger.{Ledger, begun, pre_committed}
use Rattle.job_state.specs.Held.{Held, gate_at}
use Rattle.engine_model.specs.Calls.{IsBlocked, IsBarrierNext, CopiesSink, FailsToCopySink}
use Rattle.engine_model.specs.declared.fault.CoreFault.{CoreFault}
use Rattle.engine_model.specs.declared.fault.CoreFault.TheVariants.{NotReady, ChannelBlocked, Memory, Device}

module _ {R K S : Type 0} (task input channel : ℕ) (h : Held R K S) where
  -- the input is blocked, or the pending checkpoint's barrier does not stand first
  abbrev pub RefusesBarrier : CoreFault → Type 0
  RefusesBarrier ChannelBlocked = IsBlocked task input h
  RefusesBarrier NotReady = ¬ IsBlocked task input h × ((checkpoint : ℕ) → ¬ IsBarrierNext h channel checkpoint)
  RefusesBarrier other = ⊥

-- the task's gate has the input, and awaits its barrier of this checkpoint
pub record GateAwaits {R K S : Type 0} (task input channel checkpoint : ℕ) (h : Held R K S) : Type 0 where
  pub task_in : task < length h.gates
  pub input_in : input < length (gate_at h task).inputs
  pub channel_in : channel < length h.came
  pub awaited : (gates.input_at (gate_at h task).inputs input).came ≡ false
  pub is_for : IsFor (gate_at h task).phase checkpoint

-- a subtask's next transaction is begun, and the last one is pre-committed for a checkpoint
abbrev pub EndsBegin : (subtask last checkpoint : ℕ) → Ledger → Ledger → Result ℕ CoreFault → Type 0
EndsBegin subtask last checkpoint old new (Ok number) = (number ≡ length old.transactions + 1) × (new ≡ pre_committed (begun old subtask) last checkpoint)
EndsBegin subtask last checkpoint old new (Err Memory) = new ≡ old
EndsBegin subtask last checkpoint old new (Err Device) = ((new ≡ old) ⊎ (new ≡ begun old subtask)) ⊎ (new ≡ pre_committed (begun old subtask) last checkpoint)
EndsBegin subtask last checkpoint old new (Err other) = ⊥

-- a sink copies
abbrev pub EndsSinkCopy : {R K S : Type 0} → ℕ → ℕ → Held R K S → Held R K S → ℕ → ℕ → Ledger → Ledger → Result Unit CoreFault → Type 0
EndsSinkCopy task input h k channel subtask old new (Ok u) = CopiesSink task input h k channel subtask old new (effect_of (gate_at h task) input)
EndsSinkCopy task input h k channel subtask old new (Err Memory) = (k ≡ h) × (new ≡ old)
EndsSinkCopy task input h k channel subtask old new (Err Device) = FailsToCopySink task input h k channel subtask old new
EndsSinkCopy task input h k channel subtask old new (Err other) = ⊥
