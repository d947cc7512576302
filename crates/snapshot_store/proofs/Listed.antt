-- A store in memory as lists, and the store that lists make.
use Rattle.std.proofs.Common.{◌≡◌, ◌<◌, ◌≤◌, ◌+◌, ◌^◌, ℕ, Bool, true, false, cond, List, [], ◌∷◌, get_or, None, Some, refl, sym, ap, subst, ◌∙◌, arith}
use Rattle.std.specs.Prelude.{filter, ◌&&◌, ◌||◌, IsSome, is_some}
use Rattle.std.specs.List.{All, AllByRecursion, Contains, list_any, range_with_len}
use Rattle.std.specs.List.Sorted.{IsStrictlySortedBy}
use Rattle.std.specs.Map.{keys_of, lookup}
use Rattle.std.specs.BTreeMap.{is_at}
use Rattle.std.specs.Ordering.{nat_cmp, is_eq, eq_by_cmp}
use Rattle.std.specs.Cmp.{nat_cmp_total}
use Rattle.std.specs.FinMap as fin
use Rattle.std.specs.FinSet as set
use Rattle.std.proofs.Math.Bool.{and-false}
use Rattle.std.proofs.lemmas.Cmp.{tied_itself}
use Rattle.std.proofs.lemmas.List.Elements.{recursion_from_All}
use Rattle.std.proofs.lemmas.List.FromFn.{get_or-range_with_len, length-range_with_len}
use Rattle.std.proofs.lemmas.List.Kept.{IsStrictlySortedBy-filter}
use Rattle.std.proofs.lemmas.Map.Keys.{any_passes_from_place, sorted_from_strictly_increasing}
use Rattle.std.proofs.lemmas.Map.Views.{Contains-from_any}
use Rattle.std.proofs.lemmas.Option.{slice_get-get_or}
use Rattle.snapshot_store.specs.Store.{key_cmp}
use Rattle.snapshot_store.specs.Lists.{MayBePut, WasGiven, complete_list}
use Rattle.snapshot_store.specs.Memory.{IsKept, IsNoted, Noted, Parts, complete_of, memory_state, parts_of}
use Rattle.snapshot_store.proofs.Held.{Entries, entries-from_entries, get-parts_of, is_equal, key_same}
use Rattle.snapshot_store.proofs.Noted.{any-filter}

units : {K : Type 0} → List K → List (K × Unit {0})
units [] = []
units (k ∷ ks) = (k, tt) ∷ units ks

keys-units : {K : Type 0} (ks : List K) → keys_of (units ks) ≡ ks
unfolding units
keys-units [] = refl
keys-units (k ∷ ks) = ap (λ (js : List _). k ∷ js) (keys-units ks)

find-units : (ks : List ℕ) (q : ℕ) → fin.find nat_cmp q (units ks) ≡ cond (list_any (eq_by_cmp nat_cmp q) ks) (Some tt) None
unfolding units
find-units [] q = refl
find-units (k ∷ ks) q =
    elim (eq_by_cmp nat_cmp q k) as (λ b. cond b (Some tt) (fin.find nat_cmp q (units ks)) ≡ cond (b || list_any (eq_by_cmp nat_cmp q) ks) (Some tt) None) [
      | true ↦ refl
      | false ↦ find-units ks q
    ]

-- two rising lists with the same numbers are one
same_rising : (xs ys : List ℕ) → IsStrictlySortedBy nat_cmp xs → IsStrictlySortedBy nat_cmp ys
    → ((q : ℕ) → list_any (eq_by_cmp nat_cmp q) xs ≡ list_any (eq_by_cmp nat_cmp q) ys) → xs ≡ ys
same_rising xs ys s t same = sym (keys-units xs) ∙ ap keys_of (sym (entries_units xs s) ∙ ap fin.entries one_map ∙ entries_units ys t) ∙ keys-units ys
  where
    entries_units : (ks : List ℕ) → IsStrictlySortedBy nat_cmp ks → fin.entries (fin.from_entries {R = nat_cmp} (units ks)) ≡ units ks
    entries_units ks s = entries-from_entries nat_cmp_total (units ks) (subst (IsStrictlySortedBy nat_cmp) (sym (keys-units ks)) s)

    one_map : fin.from_entries {R = nat_cmp} (units xs) ≡ fin.from_entries {R = nat_cmp} (units ys)
    one_map = fin.same_map nat_cmp_total set.nat_cmp-IsAntisymmetric (fin.from_entries (units xs)) (fin.from_entries (units ys)) (λ q.
        fin.get-from_entries nat_cmp_total (units xs) q ∙ find-units xs q ∙ ap (λ b. cond b (Some tt) None) (same q) ∙ sym (find-units ys q) ∙ sym (fin.get-from_entries nat_cmp_total (units ys) q))

rising_range : (n : ℕ) → IsStrictlySortedBy nat_cmp (range_with_len 0 n)
rising_range n = sorted_from_strictly_increasing (range_with_len 0 n) (λ k l.
    let within : k + 1 < n = subst (λ m. k + 1 < m) (length-range_with_len 0 n) l in
    let here = get_or-range_with_len 0 n k 0 (omega arith) in
    let next = get_or-range_with_len 0 n (k + 1) 0 within in
    omega (arith, here, next))

-- a rising list of what passes is what passes of all numbers below
pub passing : (p : ℕ → Bool) (n : ℕ) (ks : List ℕ) → IsStrictlySortedBy nat_cmp ks → ((q : ℕ) → p q ≡ list_any (eq_by_cmp nat_cmp q) ks) → ((q : ℕ) → p q ≡ true → q < n)
    → filter p (range_with_len 0 n) ≡ ks
passing p n ks rises same below = same_rising (filter p (range_with_len 0 n)) ks (IsStrictlySortedBy-filter nat_cmp p (range_with_len 0 n) (rising_range n)) rises (λ q. any-filter p q (range_with_len 0 n) ∙ one q (p q) refl ∙ same q)
  where
    one : (q : ℕ) (b : Bool) → p q ≡ b → (list_any (eq_by_cmp nat_cmp q) (range_with_len 0 n) && p q) ≡ p q
    one q true e =
        let lt : q < n = below q e in
        let there : get_or (range_with_len 0 n) q 0 ≡ q = let f = get_or-range_with_len 0 n q 0 lt in omega (arith, f) in
        ap (λ b. b && p q) (any_passes_from_place (eq_by_cmp nat_cmp q) (range_with_len 0 n) q q
        (slice_get-get_or (range_with_len 0 n) q 0 (subst (λ m. q < m) (sym (length-range_with_len 0 n)) lt) ∙ ap Some there) (ap is_eq (tied_itself nat_cmp_total q)))
    one q false e = ap (λ b. list_any (eq_by_cmp nat_cmp q) (range_with_len 0 n) && b) e ∙ and-false (list_any (eq_by_cmp nat_cmp q) (range_with_len 0 n)) ∙ sym e

-- what each key of a list has, a key has that is found there
pub keyed : {X : Type 0} (P : ℕ × ℕ → Type 0) (es : List ((ℕ × ℕ) × X)) (q : ℕ × ℕ) → AllByRecursion (λ (e : (ℕ × ℕ) × X). P e.0) es → IsSome (lookup (is_at (key_cmp q)) es) → P q
keyed P [] q all there = absurd (cc there)
keyed {X = X} P (e ∷ es) q all there = one (keyed P es q all.1) (is_eq (key_cmp q e.0)) refl there
  where
    one : (IsSome (lookup (is_at (key_cmp q)) es) → P q) → (b : Bool) → is_eq (key_cmp q e.0) ≡ b → IsSome (cond b (Some e.1) (lookup (is_at (key_cmp q)) es)) → P q
    one later true same has = subst P (sym (key_same q e.0 (is_equal (key_cmp q e.0) same))) all.0
    one later false same has = later has

-- a store in memory lists the numbers that it holds
pub lists : (tasks next : ℕ) (parts : Parts) (numbers : Noted) → IsKept tasks next parts numbers → IsStrictlySortedBy nat_cmp numbers.complete
    → complete_list (memory_state tasks next parts numbers) ≡ numbers.complete
lists tasks next parts numbers k s = passing (λ n. set.contains (complete_of numbers) n) next numbers.complete s (λ q. set.contains-from_list nat_cmp_total numbers.complete q) (λ q c. (k.complete q c).1)

given_all : (next : ℕ) (ks : List ℕ) → All (WasGiven next) ks → (n : ℕ) → set.contains (set.from_list {R = nat_cmp} ks) n ≡ true → WasGiven next n
given_all next ks given n there =
    let has : Contains ks n = Contains-from_any (λ x y e. set.nat_cmp-IsAntisymmetric x y (is_equal (nat_cmp x y) e)) n ks (sym (set.contains-from_list nat_cmp_total ks n) ∙ there) in
    subst (WasGiven next) has.2 (given has.0 n has.1)

-- a store that was made of a rising list of numbers lists these again
pub lists_again : (tasks next : ℕ) (parts : Parts) (numbers : Noted) (ks : List ℕ) → All (WasGiven next) ks → IsStrictlySortedBy nat_cmp ks → numbers.complete ≡ ks
    → complete_list (memory_state tasks next parts numbers) ≡ ks
lists_again tasks next parts numbers ks given s are = passing (λ n. set.contains (complete_of numbers) n) next ks s
    (λ q. ap (λ js. set.contains (set.from_list {R = nat_cmp} js) q) are ∙ set.contains-from_list nat_cmp_total ks q)
    (λ q there. (given_all next ks given q (ap (λ js. set.contains (set.from_list {R = nat_cmp} js) q) (sym are) ∙ there)).1)

-- what a store keeps that is made from lists
pub kept_lists : (tasks next : ℕ) (es : Entries) (numbers : Noted) (ks : List ℕ) → 1 ≤ tasks → (1 ≤ next) × (next ≤ 2 ^ 63) → All (WasGiven next) ks → All (MayBePut tasks next) es
    → numbers.complete ≡ ks → ((n t : ℕ) → IsSome (fin.get (parts_of es) (n, t)) → IsNoted numbers n) → IsKept tasks next (parts_of es) numbers
kept_lists tasks next es numbers ks some between given put are noted = record {
  some_task = some;
  positive = between.0;
  within = between.1;
  part = λ n t there. let may = keyed (λ q. WasGiven next q.0 × (q.1 < tasks)) es (n, t) may_be_put (sym (ap is_some (get-parts_of es (n, t))) ∙ there) in (may.0, may.1, noted n t there);
  complete = λ n there. given_all next ks given n (ap (λ js. set.contains (set.from_list {R = nat_cmp} js) n) (sym are) ∙ there);
}
  where
    may_be_put : AllByRecursion (λ (e : (ℕ × ℕ) × List ℕ). WasGiven next e.0.0 × (e.0.1 < tasks)) es
    may_be_put = recursion_from_All (λ (e : (ℕ × ℕ) × List ℕ). WasGiven next e.0.0 × (e.0.1 < tasks)) es put
