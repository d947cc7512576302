-- What the numbers of a store in memory know of a number, before and after a call.
use Rattle.std.proofs.Common.{◌≡◌, ◌≤◌, ◌<◌, ◌-◌, ℕ, Bool, true, false, cond, List, [], ◌∷◌, length, get_or, Some, Result, Ok, Err, IfOk, IfErr, refl, sym, ap, subst, ◌∙◌, arith, ⊎_elim}
use Rattle.std.specs.Prelude.{◌&&◌, ◌||◌, filter, slice_get}
use Rattle.std.specs.Result.{is_ok}
use Rattle.std.specs.List.{Contains, insert, list_any}
use Rattle.std.specs.List.Sorted.{IsStrictlySortedBy, IsBinarySearchResult, IsSearchInRange}
use Rattle.std.specs.Ordering.{nat_cmp, is_eq, eq_by_cmp}
use Rattle.std.specs.Cmp.{nat_cmp_total, eq_by_cmp_equiv}
use Rattle.std.specs.declared.cmp.Ordering.{Ordering}
use Rattle.std.specs.declared.cmp.Ordering.TheVariants.{Less, Equal, Greater}
use Rattle.std.specs.FinSet as set
use Rattle.std.proofs.Math.Bool.{and-false}
use Rattle.std.proofs.lemmas.Bool.{cases_lt}
use Rattle.std.proofs.lemmas.Cmp.{tied_itself}
use Rattle.std.proofs.lemmas.List.{get_or_default, map-id}
use Rattle.std.proofs.lemmas.List.Sorted.{IsPermutation-insert, list_any-IsPermutation}
use Rattle.std.proofs.lemmas.Map.Keys.{any_passes_from_place, below_from_sorted}
use Rattle.std.proofs.lemmas.Map.Views.{Contains-from_any}
use Rattle.std.proofs.lemmas.Option.{slice_get-get_or}
use Rattle.snapshot_store.specs.Store.{IsGreatest}
use Rattle.snapshot_store.specs.Placed.{Fits}
use Rattle.snapshot_store.specs.Memory.{IsNoted, Noted, complete_of}
use Rattle.snapshot_store.proofs.Placed.{answers_rise, fits, not_there}

is_equal : (r : Ordering) → is_eq r ≡ true → r ≡ Equal
is_equal Less e = absurd (cc e)
is_equal Equal e = refl
is_equal Greater e = absurd (cc e)

pub same_noted : (a b : Noted) → a.complete ≡ b.complete → a.pending ≡ b.pending → a ≡ b
same_noted a b complete pending = λ i. record { complete = complete i; pending = pending i }

-- a number that is not found fits where the search ends
pub fits_at : (ks : List ℕ) (n : ℕ) (r : Result ℕ ℕ) → IsStrictlySortedBy nat_cmp ks → IsSearchInRange r (length ks) → IsBinarySearchResult (λ m. nat_cmp m n) ks r
    → IfErr r (λ place. Fits nat_cmp (λ m. m) n ks place)
fits_at ks n (Ok place) s within found = tt
fits_at ks n (Err place) s within parted = fits nat_cmp_total (λ (m : ℕ). m) n ks place within (parted (answers_rise nat_cmp_total (λ (m : ℕ). m) n ks (subst (IsStrictlySortedBy nat_cmp) (sym (map-id ks)) s)))

missing : (ks : List ℕ) (n place : ℕ) → IsStrictlySortedBy nat_cmp ks → Fits nat_cmp (λ m. m) n ks place → set.contains (set.from_list {R = nat_cmp} ks) n ≡ false
missing ks n place s f = set.contains-from_list nat_cmp_total ks n ∙ not_there nat_cmp_total ks place n f s

pub found_there : (ks : List ℕ) (n place : ℕ) → slice_get ks place ≡ Some n → set.contains (set.from_list {R = nat_cmp} ks) n ≡ true
found_there ks n place is = set.contains-from_list nat_cmp_total ks n ∙ any_passes_from_place (eq_by_cmp nat_cmp n) ks place n is (ap is_eq (tied_itself nat_cmp_total n))

-- a search tells whether a number is there
pub tells : (ks : List ℕ) (n : ℕ) (r : Result ℕ ℕ) → IsStrictlySortedBy nat_cmp ks → IfOk r (λ place. slice_get ks place ≡ Some n) → IfErr r (λ place. Fits nat_cmp (λ m. m) n ks place)
    → is_ok r ≡ set.contains (set.from_list {R = nat_cmp} ks) n
tells ks n (Ok place) s found absent = sym (found_there ks n place found)
tells ks n (Err place) s found absent = sym (missing ks n place s absent)

-- a noted number that is not complete is pending
pub is_pending : (numbers : Noted) (n place : ℕ) → IsStrictlySortedBy nat_cmp numbers.complete → Fits nat_cmp (λ m. m) n numbers.complete place → IsNoted numbers n
    → list_any (eq_by_cmp nat_cmp n) numbers.pending ≡ true
is_pending numbers n place s f noted = sym (ap (λ b. b || list_any (eq_by_cmp nat_cmp n) numbers.pending) (missing numbers.complete n place s f)) ∙ noted

-- to insert what is there changes nothing
pub insert_there : (s : set.FinSet nat_cmp) (n : ℕ) → set.contains s n ≡ true → s ≡ set.insert s n
insert_there s n there = set.same_set nat_cmp_total set.nat_cmp-IsAntisymmetric s (set.insert s n) (λ q. one q (eq_by_cmp nat_cmp q n) refl ∙ sym (set.contains-insert nat_cmp_total s n q))
  where
    one : (q : ℕ) (b : Bool) → eq_by_cmp nat_cmp q n ≡ b → set.contains s q ≡ (eq_by_cmp nat_cmp q n || set.contains s q)
    one q true e = subst (λ m. set.contains s m ≡ true) (sym (set.nat_cmp-IsAntisymmetric q n (is_equal (nat_cmp q n) e))) there ∙ sym (ap (λ b. b || set.contains s q) e)
    one q false e = sym (ap (λ b. b || set.contains s q) e)

-- at whichever place an item is put, it is one more of the set
pub from_list_insert : (ks : List ℕ) (place n : ℕ) → set.from_list {R = nat_cmp} (insert ks place n) ≡ set.insert (set.from_list ks) n
from_list_insert ks place n = set.same_set nat_cmp_total set.nat_cmp-IsAntisymmetric (set.from_list (insert ks place n)) (set.insert (set.from_list ks) n) (λ q.
    set.contains-from_list nat_cmp_total (insert ks place n) q
    ∙ sym (list_any-IsPermutation (eq_by_cmp nat_cmp q) (n ∷ ks) (insert ks place n) (IsPermutation-insert ks place n))
    ∙ sym (set.contains-from_list nat_cmp_total (n ∷ ks) q))

or_more : (a b c : Bool) → (b ≡ true → c ≡ true) → (a || b) ≡ true → (a || c) ≡ true
or_more true b c more e = refl
or_more false b c more e = more e

-- a number that is noted with one more still is
pub keeps_noted : (old new : Noted) (n : ℕ) → new.complete ≡ old.complete
    → ((q : ℕ) → list_any (eq_by_cmp nat_cmp q) new.pending ≡ cond (is_eq (nat_cmp n q)) true (list_any (eq_by_cmp nat_cmp q) old.pending))
    → (m : ℕ) → IsNoted old m → IsNoted new m
keeps_noted old new n same more m noted =
    ap (λ ks. set.contains (set.from_list {R = nat_cmp} ks) m || list_any (eq_by_cmp nat_cmp m) new.pending) same
    ∙ or_more (set.contains (complete_of old) m) (list_any (eq_by_cmp nat_cmp m) old.pending) (list_any (eq_by_cmp nat_cmp m) new.pending) (λ e. more m ∙ one (is_eq (nat_cmp n m)) (list_any (eq_by_cmp nat_cmp m) old.pending) e) noted
  where
    one : (t b : Bool) → b ≡ true → cond t true b ≡ true
    one true b e = refl
    one false b e = e

-- and one that was noted is, after one of them has become complete
pub keeps_marked : (old new : Noted) (n : ℕ) → complete_of new ≡ set.insert (complete_of old) n
    → ((q : ℕ) → list_any (eq_by_cmp nat_cmp q) new.pending ≡ cond (is_eq (nat_cmp n q)) false (list_any (eq_by_cmp nat_cmp q) old.pending))
    → (m : ℕ) → IsNoted old m → IsNoted new m
keeps_marked old new n marked less m noted = ap (λ b. b || list_any (eq_by_cmp nat_cmp m) new.pending) within ∙ one (is_eq (nat_cmp n m)) (set.contains (complete_of old) m) (less m) noted
  where
    within : set.contains (complete_of new) m ≡ (is_eq (nat_cmp n m) || set.contains (complete_of old) m)
    within = ap (λ s. set.contains s m) marked ∙ set.contains-insert nat_cmp_total (complete_of old) n m ∙ ap (λ b. b || set.contains (complete_of old) m) ((eq_by_cmp_equiv nat_cmp_total).symm m n)

    one : (t a : Bool) → list_any (eq_by_cmp nat_cmp m) new.pending ≡ cond t false (list_any (eq_by_cmp nat_cmp m) old.pending)
        → (a || list_any (eq_by_cmp nat_cmp m) old.pending) ≡ true → ((t || a) || list_any (eq_by_cmp nat_cmp m) new.pending) ≡ true
    one true a is e = refl
    one false true is e = refl
    one false false is e = is ∙ e

module _ (ks : List ℕ) (s : IsStrictlySortedBy nat_cmp ks) (within : length ks - 1 < length ks) (last : ℕ) (is_last : get_or ks (length ks - 1) 0 ≡ last) where
  at_last : slice_get ks (length ks - 1) ≡ Some last
  at_last = slice_get-get_or ks (length ks - 1) 0 within ∙ ap Some is_last

  last_there : set.contains (set.from_list {R = nat_cmp} ks) last ≡ true
  last_there = found_there ks last (length ks - 1) at_last

  up_to : (n i : ℕ) → i < length ks → get_or ks i 0 ≡ n → n ≤ last
  up_to n i lt is = ⊎_elim (λ below. let up = below_from_sorted ks i (length ks - 1) 0 s below within in omega (arith, up, is, is_last))
      (λ le. let same : i ≡ length ks - 1 = omega arith in let e : n ≡ last = sym is ∙ ap (λ j. get_or ks j 0) same ∙ is_last in omega (arith, e)) (cases_lt i (length ks - 1))

  last_above : (n : ℕ) → set.contains (set.from_list {R = nat_cmp} ks) n ≡ true → n ≤ last
  last_above n c =
      let has : Contains ks n = Contains-from_any (λ x y e. set.nat_cmp-IsAntisymmetric x y (is_equal (nat_cmp x y) e)) n ks (sym (set.contains-from_list nat_cmp_total ks n) ∙ c) in
      up_to n has.0 has.1 (get_or_default ks has.0 0 n has.1 ∙ has.2)

-- the last of a rising list is its greatest
pub last_greatest : (ks : List ℕ) → IsStrictlySortedBy nat_cmp ks → IsGreatest (set.from_list ks) (slice_get ks (length ks - 1))
last_greatest [] s = λ n. set.contains-empty nat_cmp n
last_greatest (k ∷ js) s =
    let within : length (k ∷ js) - 1 < length (k ∷ js) = omega arith in
    let last = get_or (k ∷ js) (length (k ∷ js) - 1) 0 in
    subst (IsGreatest (set.from_list (k ∷ js))) (sym (at_last (k ∷ js) s within last refl)) (last_there (k ∷ js) s within last refl, last_above (k ∷ js) s within last refl)

-- a number that passes a test stays among those that do
pub any-filter : (p : ℕ → Bool) (q : ℕ) (zs : List ℕ) → list_any (eq_by_cmp nat_cmp q) (filter p zs) ≡ (list_any (eq_by_cmp nat_cmp q) zs && p q)
any-filter p q [] = refl
any-filter p q (z ∷ zs) = one (any-filter p q zs) (p z) refl (eq_by_cmp nat_cmp q z) refl
  where
    alike : eq_by_cmp nat_cmp q z ≡ true → p q ≡ p z
    alike e = ap p (set.nat_cmp-IsAntisymmetric q z (is_equal (nat_cmp q z) e))

    one : list_any (eq_by_cmp nat_cmp q) (filter p zs) ≡ (list_any (eq_by_cmp nat_cmp q) zs && p q) → (b : Bool) → p z ≡ b → (e : Bool) → eq_by_cmp nat_cmp q z ≡ e
        → list_any (eq_by_cmp nat_cmp q) (cond b (z ∷ filter p zs) (filter p zs)) ≡ ((e || list_any (eq_by_cmp nat_cmp q) zs) && p q)
    one rest true pz true e = ap (λ b. b || list_any (eq_by_cmp nat_cmp q) (filter p zs)) e ∙ sym (alike e ∙ pz)
    one rest true pz false e = ap (λ b. b || list_any (eq_by_cmp nat_cmp q) (filter p zs)) e ∙ rest
    one rest false pz true e = rest ∙ ap (λ b. list_any (eq_by_cmp nat_cmp q) zs && b) (alike e ∙ pz) ∙ and-false (list_any (eq_by_cmp nat_cmp q) zs) ∙ sym (alike e ∙ pz)
    one rest false pz false e = rest
