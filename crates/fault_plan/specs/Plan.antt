-- A plan of faults.
use Rattle.std.specs.Prelude.{ℕ, ◌+◌, ◌-◌, ◌^◌, ◌%◌, ◌==◌, ◌&&◌, min, nat_lt, nat_le, Bool, false, if◌then◌else◌, is_some, List, Option, Some, None, slice_get, slice_set, unwrap_or}
use Rattle.fault_plan.specs.declared.plan.Every.{Every}
use Rattle.fault_plan.specs.declared.plan.When.{When}
use Rattle.fault_plan.specs.declared.plan.When.TheVariants.{Before}

pub record Planned : Type 0 where
  -- whether and when the next call of a kind fails
  pub next : List (Option When)
  -- k and last: each k-th call fails, up to the last-th
  pub every : Option (ℕ × ℕ)
  -- how many calls were made, as far as 64 bits count
  pub calls : ℕ
  -- how many of them have failed
  pub faults : ℕ

abbrev pub every_of : Option Every → Option (ℕ × ℕ)
every_of None = None
every_of (Some e) = Some (e.k, e.last)

abbrev pub is_kth : ℕ → Option (ℕ × ℕ) → Bool
is_kth calls None = false
is_kth calls (Some e) = nat_lt 0 e.0 && (calls % e.0 == 0 && nat_le calls e.1)

-- the last call is one of each k-th
abbrev pub is_turn : Planned → Bool
is_turn p = is_kth p.calls p.every

abbrev pub planned_at : List (Option When) → ℕ → Option When
planned_at next call = unwrap_or (slice_get next call) None

abbrev pub planned_or : Bool → Option When → Option When
planned_or turn (Some w) = Some w
planned_or turn None = if turn then Some Before else None

abbrev pub with_call : Planned → Planned
with_call p = record p { calls = min (p.calls + 1) (2 ^ 64 - 1) }

-- whether and when a call fails that is made now
abbrev pub due_at : Planned → ℕ → Option When
due_at p call = if nat_lt p.faults (2 ^ 64 - 1) then planned_or (is_turn (with_call p)) (planned_at p.next call) else None

abbrev pub after_call : Planned → ℕ → Planned
after_call p call =
    record { next = slice_set p.next call None; every = p.every; calls = min (p.calls + 1) (2 ^ 64 - 1); faults = if is_some (due_at p call) then p.faults + 1 else p.faults }
