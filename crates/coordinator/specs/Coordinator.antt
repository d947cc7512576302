-- What a coordinator knows, and what its calls do to it.
use Rattle.std.specs.Prelude.{◌==◌, ◌&&◌, ℕ, List, Bool, true, false, Option, Some, None, Result, Ok, Err, IsTrue, IsSome, All, is_some, slice_index_or, slice_set, replicate, length, if◌then◌else◌}
use Rattle.std.specs.Option.{option_map_or}
use Rattle.std.specs.List.{list_all}
use Rattle.coordinator.specs.declared.fault.CoordinatorFault.{CoordinatorFault}
use Rattle.coordinator.specs.declared.fault.CoordinatorFault.TheVariants.{AlreadyPending, NotPending, NotAllAcked, AlreadyAcked}

pub record Coordination : Type 0 where
  -- the number of the checkpoint that is pending
  pub pending : Option ℕ
  -- task by task, whether it has acknowledged the number that is pending
  pub acked : List Bool
  pub last_complete : Option ℕ

-- so many tasks, and no checkpoint yet
abbrev pub at_first : ℕ → Coordination
at_first tasks = record { pending = None; acked = replicate tasks false; last_complete = None }

-- a number is pending, and the task has acknowledged it
abbrev pub has_acked : Coordination → ℕ → Bool
has_acked c task = is_some c.pending && slice_index_or c.acked task false

-- a number is pending, and every task has acknowledged it
abbrev pub IsReady : Coordination → Type 0
IsReady c = IsSome c.pending × All IsTrue c.acked

-- this number is pending
abbrev pub is_pending : Coordination → ℕ → Bool
is_pending c number = option_map_or (λ pending. pending == number) c.pending false

-- a refusal is answered where there is one
abbrev pub ok_unless : Option CoordinatorFault → Result Unit CoordinatorFault
ok_unless None = Ok tt
ok_unless (Some fault) = Err fault

abbrev pub start_refusal : Coordination → Option CoordinatorFault
start_refusal c = if is_some c.pending then Some AlreadyPending else None

abbrev pub ack_refusal : Coordination → ℕ → ℕ → Option CoordinatorFault
ack_refusal c number task =
    if is_pending c number then (if slice_index_or c.acked task false then Some AlreadyAcked else None) else Some NotPending

abbrev pub complete_refusal : Coordination → ℕ → Option CoordinatorFault
complete_refusal c number =
    if is_pending c number then (if list_all (λ acked. acked) c.acked then None else Some NotAllAcked) else Some NotPending

-- the number is pending, and no task has acknowledged it
abbrev pub started : Coordination → ℕ → Coordination
started c number = record c { pending = Some number; acked = replicate (length c.acked) false }

-- the task, too, has acknowledged the pending number
abbrev pub acknowledged : Coordination → ℕ → Coordination
acknowledged c task = record c { acked = slice_set c.acked task true }

abbrev pub completed : Coordination → ℕ → Coordination
completed c number = record c { pending = None; last_complete = Some number }
