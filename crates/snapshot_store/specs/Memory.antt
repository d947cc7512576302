-- What a store in memory keeps, and what it stands for.
use Rattle.std.specs.Prelude.{◌≡◌, ◌<◌, ◌≤◌, ◌^◌, ◌||◌, ℕ, true, List, IsSome}
use Rattle.std.specs.List.{list_any}
use Rattle.std.specs.Ordering.{nat_cmp, eq_by_cmp}
use Rattle.std.specs.Coded.{Coded, coded×, coded_ℕ, coded_list}
use Rattle.std.specs.FinMap as fin
use Rattle.std.specs.FinSet as set
use Rattle.snapshot_store.specs.Store.{key_cmp, Stored}
use Rattle.snapshot_store.specs.Lists.{WasGiven}

abbrev pub Parts : Type 0
Parts = fin.FinMap key_cmp (List ℕ)

abbrev pub parts_code : Coded Parts
parts_code = fin.code (coded× coded_ℕ coded_ℕ) (coded_list coded_ℕ)

abbrev pub parts_of : List ((ℕ × ℕ) × List ℕ) → Parts
parts_of es = fin.from_entries es

-- the numbers that a store knows
pub record Noted : Type 0 where
  -- those that are complete, rising
  pub complete : List ℕ
  -- those that have had a part and were not complete then
  pub pending : List ℕ

abbrev pub complete_of : Noted → set.FinSet nat_cmp
complete_of numbers = set.from_list numbers.complete

-- the number is complete, or there is a place for it
abbrev pub IsNoted : Noted → ℕ → Type 0
IsNoted numbers n = (set.contains (complete_of numbers) n || list_any (eq_by_cmp nat_cmp n) numbers.pending) ≡ true

-- parts and complete numbers are of numbers that were given out, and each part is of a number that is noted
pub record IsKept (tasks next : ℕ) (parts : Parts) (numbers : Noted) : Type 0 where
  pub some_task : 1 ≤ tasks
  pub positive : 1 ≤ next
  pub within : next ≤ 2 ^ 63
  pub part : (n t : ℕ) → IsSome (fin.get parts (n, t)) → WasGiven next n × (t < tasks) × IsNoted numbers n
  pub complete : (n : ℕ) → set.contains (complete_of numbers) n ≡ true → WasGiven next n

abbrev pub memory_state : ℕ → ℕ → Parts → Noted → Stored
memory_state tasks next parts numbers = record { tasks = tasks; next = next; parts = parts; complete = complete_of numbers }
