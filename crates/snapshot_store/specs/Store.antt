-- A snapshot store: the next number, the parts of the numbers by task, and the numbers that are complete.
use Rattle.std.specs.Prelude.{◌≡◌, ◌⊎◌, ◌<◌, ◌≤◌, ◌+◌, ◌^◌, ℕ, suc, zero, Bool, true, false, ◌&&◌, ◌||◌, not, nat_lt, if◌then◌else◌, List, Option, Some, None, Result, Ok, Err, is_some, IsSome, refl}
use Rattle.std.specs.Ordering.{nat_cmp, ordering_then}
use Rattle.std.specs.declared.cmp.Ordering.{Ordering}
use Rattle.std.specs.Coded.{Coded, code_by, coded×, coded_ℕ, coded_list}
use Rattle.std.specs.FinMap as map
use Rattle.std.specs.FinSet as set
use Rattle.snapshot_store.specs.declared.store.StoreFault.{StoreFault}
use Rattle.snapshot_store.specs.declared.store.StoreFault.TheVariants.{Fault, NoSuchNumber, AlreadyPut, MissingPart, NumberFull, Memory}

-- by number, and then by task
abbrev pub key_cmp : ℕ × ℕ → ℕ × ℕ → Ordering
key_cmp a b = ordering_then (nat_cmp a.0 b.0) (nat_cmp a.1 b.1)

pub record Stored : Type 0 where
  -- how many tasks put a part
  pub tasks : ℕ
  -- the number that is given out next
  pub next : ℕ
  -- the part of a number and a task
  pub parts : map.FinMap key_cmp (List ℕ)
  -- the numbers that are complete
  pub complete : set.FinSet nat_cmp

-- it is stored as the tuple of its fields
abbrev pub stored_code : Coded Stored
stored_code =
    code_by (ℕ × (ℕ × (map.FinMap key_cmp (List ℕ) × set.FinSet nat_cmp))) (coded× coded_ℕ (coded× coded_ℕ (coded× (map.code (coded× coded_ℕ coded_ℕ) (coded_list coded_ℕ)) (set.code coded_ℕ))))
    (λ s. (s.tasks, (s.next, (s.parts, s.complete)))) (λ p. record { tasks = p.0; next = p.1.0; parts = p.1.1.0; complete = p.1.1.1 }) (λ _. refl)

abbrev pub part_of : Stored → ℕ → ℕ → Option (List ℕ)
part_of s n t = map.get s.parts (n, t)

abbrev pub is_complete : Stored → ℕ → Bool
is_complete s n = set.contains s.complete n

-- a store that has given out no number
abbrev pub blank : ℕ → Stored
blank tasks = record { tasks = tasks; next = 1; parts = map.empty; complete = set.empty }

abbrev pub is_reserved : Stored → ℕ → Bool
is_reserved s n = nat_lt 0 n && nat_lt n s.next

-- a test of every number below a bound
abbrev pub all_below : (ℕ → Bool) → ℕ → Bool
all_below p zero = true
all_below p (suc k) = p k && all_below p k

abbrev pub has_all_parts : Stored → ℕ → Bool
has_all_parts s n = all_below (λ t. is_some (part_of s n t)) s.tasks

-- Numbers are given out from 1 up to below 2^63, and parts and complete numbers are of those that were.
pub record IsNumbered (s : Stored) : Type 0 where
  pub positive : 1 ≤ s.next
  pub within : s.next ≤ 2 ^ 63
  pub parts : (n t : ℕ) → IsSome (part_of s n t) → (1 ≤ n) × (n < s.next) × (t < s.tasks)
  pub completes : (n : ℕ) → is_complete s n ≡ true → (1 ≤ n) × (n < s.next)

-- the calls, each by why it is refused and what it leaves at Ok

abbrev pub reserve_refusal : Stored → Option StoreFault
reserve_refusal s = if nat_lt s.next (2 ^ 63) then None else Some NumberFull

abbrev pub reserved : Stored → Stored
reserved s = record s { next = s.next + 1 }

abbrev pub put_refusal : Stored → ℕ → ℕ → Option StoreFault
put_refusal s n t = if is_reserved s n && (not (is_complete s n) && nat_lt t s.tasks) then (if is_some (part_of s n t) then Some AlreadyPut else None) else Some NoSuchNumber

abbrev pub with_part : Stored → ℕ → ℕ → List ℕ → Stored
with_part s n t bytes = record s { parts = map.insert s.parts (n, t) bytes }

abbrev pub complete_refusal : Stored → ℕ → Option StoreFault
complete_refusal s n = if is_reserved s n then (if is_complete s n || has_all_parts s n then None else Some MissingPart) else Some NoSuchNumber

abbrev pub completed : Stored → ℕ → Stored
completed s n = record s { complete = set.insert s.complete n }

abbrev pub get_refusal : Stored → ℕ → ℕ → Option StoreFault
get_refusal s n t = if is_complete s n then (if is_some (part_of s n t) then None else Some MissingPart) else Some NoSuchNumber

abbrev pub discarded_below : Stored → ℕ → Stored
discarded_below s n = record s { parts = map.retain_keys s.parts (λ k. not (nat_lt k.0 n)) }

-- the greatest number of a set
abbrev pub IsGreatest : set.FinSet nat_cmp → Option ℕ → Type 0
IsGreatest c None = (n : ℕ) → set.contains c n ≡ false
IsGreatest c (Some l) = (set.contains c l ≡ true) × ((n : ℕ) → set.contains c n ≡ true → n ≤ l)

-- the greatest complete number
abbrev pub IsLatest : Stored → Option ℕ → Type 0
IsLatest s latest = IsGreatest s.complete latest

-- How a call ends, of which `refusal` says why it is refused and `after` what it leaves at Ok.
-- A fault is counted, and leaves what was there or what Ok leaves. Every other refusal changes nothing.
abbrev pub Ends : {T : Type 0} → Stored × ℕ → Stored × ℕ → Option StoreFault → Stored → Result T StoreFault → Type 0
Ends old new refusal after (Ok v) = (refusal ≡ None) × (new.0 ≡ after) × (old.1 ≤ new.1)
Ends old new refusal after (Err Fault) = ((new.0 ≡ old.0) ⊎ ((refusal ≡ None) × (new.0 ≡ after))) × (old.1 < new.1)
Ends old new refusal after (Err Memory) = (refusal ≡ None) × (new.0 ≡ old.0) × (old.1 ≤ new.1)
Ends old new refusal after (Err NoSuchNumber) = (refusal ≡ Some NoSuchNumber) × (new.0 ≡ old.0) × (old.1 ≤ new.1)
Ends old new refusal after (Err AlreadyPut) = (refusal ≡ Some AlreadyPut) × (new.0 ≡ old.0) × (old.1 ≤ new.1)
Ends old new refusal after (Err MissingPart) = (refusal ≡ Some MissingPart) × (new.0 ≡ old.0) × (old.1 ≤ new.1)
Ends old new refusal after (Err NumberFull) = (refusal ≡ Some NumberFull) × (new.0 ≡ old.0) × (old.1 ≤ new.1)
