-- Slots and places after a state is swapped, and after a key is taken away or put.
use Rattle.std.proofs.Common.{◌≡◌, ◌≢◌, ℕ, zero, suc, ◌⊎◌, inl, inr, Bool, true, false, cond, List, [], ◌∷◌, ◌++◌, length, slice_get, Option, Some, None, Ordering, refl, sym, ap, subst, ◌∙◌}
use Rattle.std.specs.Prelude.{is_some, unwrap_or}
use Rattle.std.specs.BTreeMap.{insert_entry, is_at}
use Rattle.std.specs.Cmp.{IsTotalOrder, eq_by_cmp_equiv, Equal-is}
use Rattle.std.specs.List.{AllByRecursion}
use Rattle.std.specs.List.Sorted.{IsStrictlySortedBy}
use Rattle.std.specs.Map.{keys_of, lookup, remove_entry, set_value}
use Rattle.std.specs.Ordering.{match_ordering, is_eq}
use Rattle.std.specs.declared.cmp.Ordering.TheVariants.{Less, Equal, Greater}
use Rattle.std.proofs.lemmas.Bool.{false≢true}
use Rattle.std.proofs.lemmas.Map.{lookup-none}
use Rattle.std.proofs.lemmas.Map.Entries.{none_below_head}
use Rattle.state_table.specs.Slots.{state_in, entries_in, HasSlot, ArePlaces}
use Rattle.state_table.specs.declared.table.Slot.{Slot}
use Rattle.state_table.proofs.Places.{same_place, apart, tied, passes_at, entries-same, set-entries, remove-entries, insert-entries}

same_or_not : (a b : ℕ) → (a ≡ b) ⊎ (a ≢ b)
same_or_not zero zero = inl refl
same_or_not zero (suc b) = inr (λ same. absurd (cc same))
same_or_not (suc a) zero = inr (λ same. absurd (cc same))
same_or_not (suc a) (suc b) = by (same_or_not a b)
  where
    by : (a ≡ b) ⊎ (a ≢ b) → (suc a ≡ suc b) ⊎ (suc a ≢ suc b)
    by (inl same) = inl (ap suc same)
    by (inr other) = inr (λ same. other (cc same))

-- what is no value is none
pub none_is : {X : Type 0} (o : Option X) → ((x : X) → o ≢ Some x) → o ≡ None
none_is None other = refl
none_is (Some x) other = absurd (other x refl)

module _ {X : Type 0} where
  -- what stands at a place stands there still when one more is put last
  get_before : (xs : List X) (x y : X) (i : ℕ) → slice_get xs i ≡ Some y → slice_get (xs ++ x ∷ []) i ≡ Some y
  get_before [] x y i at = absurd (false≢true (ap is_some at))
  get_before (z ∷ xs) x y zero at = at
  get_before (z ∷ xs) x y (suc i) at = get_before xs x y i at

  get_last : (xs : List X) (x : X) → slice_get (xs ++ x ∷ []) (length xs) ≡ Some x
  get_last [] x = refl
  get_last (z ∷ xs) x = get_last xs x

  -- what stands at a place then was there, or is the last
  before_or_last : (xs : List X) (x y : X) (i : ℕ) → slice_get (xs ++ x ∷ []) i ≡ Some y → (slice_get xs i ≡ Some y) ⊎ ((i ≡ length xs) × (x ≡ y))
  before_or_last [] x y zero at = inr (refl, ap (λ (o : Option X). unwrap_or o x) at)
  before_or_last [] x y (suc i) at = absurd (false≢true (ap is_some at))
  before_or_last (z ∷ xs) x y zero at = inl at
  before_or_last (z ∷ xs) x y (suc i) at = by (before_or_last xs x y i at)
    where
      by : (slice_get xs i ≡ Some y) ⊎ ((i ≡ length xs) × (x ≡ y)) → (slice_get xs i ≡ Some y) ⊎ ((suc i ≡ suc (length xs)) × (x ≡ y))
      by (inl was) = inl was
      by (inr last) = inr (ap suc last.0, last.1)

-- where no key passes, none is taken away
pub none_removed : {K X : Type 0} (test : K → Bool) (es : List (K × X)) → lookup test es ≡ None → remove_entry test es ≡ es
none_removed test [] none = refl
none_removed test (e ∷ es) none = by (test e.0) none (none_removed test es)
  where
    by : (b : Bool) → cond b (Some e.1) (lookup test es) ≡ None → (lookup test es ≡ None → remove_entry test es ≡ es) → cond b es (e ∷ remove_entry test es) ≡ e ∷ es
    by true seen rest = absurd (false≢true (ap is_some (sym seen)))
    by false seen rest = ap (λ l. e ∷ l) (rest seen)

-- a state that is replaced is put
pub set_out : {K S : Type 0} {cmp : K → K → Ordering} (order : IsTotalOrder cmp) (es : List (K × S)) (k : K) (former state : S) → IsStrictlySortedBy cmp (keys_of es) → lookup (is_at (cmp k)) es ≡ Some former → set_value (is_at (cmp k)) es state ≡ insert_entry cmp es k state
unfolding IsStrictlySortedBy
set_out order [] k former state rises found = absurd (false≢true (ap is_some found))
set_out {cmp = cmp} order (e ∷ es) k former state rises found = by (cmp k e.0) refl found (set_out order es k former state rises.1)
  where
    by : (r : Ordering) → cmp k e.0 ≡ r → cond (is_eq r) (Some e.1) (lookup (is_at (cmp k)) es) ≡ Some former → (lookup (is_at (cmp k)) es ≡ Some former → set_value (is_at (cmp k)) es state ≡ insert_entry cmp es k state)
        → cond (is_eq r) ((e.0, state) ∷ es) (e ∷ set_value (is_at (cmp k)) es state) ≡ match_ordering r ((k, state) ∷ e ∷ es) ((e.0, state) ∷ es) (e ∷ insert_entry cmp es k state)
    by Less p seen rest =
        let none : lookup (is_at (cmp k)) es ≡ None = lookup-none (is_at (cmp k)) es (none_below_head order k e es rises p).1 in
        absurd (false≢true (ap is_some (sym none ∙ seen)))
    by Equal p seen rest = refl
    by Greater p seen rest = ap (λ l. e ∷ l) (rest seen)

-- what was there is put back
pub put_back : {K S : Type 0} {cmp : K → K → Ordering} (order : IsTotalOrder cmp) (es : List (K × S)) (k : K) (former state : S) → IsStrictlySortedBy cmp (keys_of es) → lookup (is_at (cmp k)) es ≡ Some former → insert_entry cmp (insert_entry cmp es k state) k former ≡ es
unfolding IsStrictlySortedBy
put_back order [] k former state rises found = absurd (false≢true (ap is_some found))
put_back {cmp = cmp} order (e ∷ es) k former state rises found = by (cmp k e.0) refl found (put_back order es k former state rises.1)
  where
    by : (r : Ordering) → cmp k e.0 ≡ r → cond (is_eq r) (Some e.1) (lookup (is_at (cmp k)) es) ≡ Some former → (lookup (is_at (cmp k)) es ≡ Some former → insert_entry cmp (insert_entry cmp es k state) k former ≡ es)
        → insert_entry cmp (match_ordering r ((k, state) ∷ e ∷ es) ((e.0, state) ∷ es) (e ∷ insert_entry cmp es k state)) k former ≡ e ∷ es
    by Less p seen rest =
        let none : lookup (is_at (cmp k)) es ≡ None = lookup-none (is_at (cmp k)) es (none_below_head order k e es rises p).1 in
        absurd (false≢true (ap is_some (sym none ∙ seen)))
    by Equal p seen rest =
        ap (λ (r : Ordering). match_ordering r ((k, former) ∷ (e.0, state) ∷ es) ((e.0, former) ∷ es) ((e.0, state) ∷ insert_entry cmp es k former)) p
        ∙ ap (λ v. (e.0, v) ∷ es) (sym (ap (λ (o : Option _). unwrap_or o e.1) seen))
    by Greater p seen rest =
        ap (λ (r : Ordering). match_ordering r ((k, former) ∷ e ∷ insert_entry cmp es k state) ((e.0, former) ∷ insert_entry cmp es k state) (e ∷ insert_entry cmp (insert_entry cmp es k state) k former)) p
        ∙ ap (λ l. e ∷ l) (rest seen)

module _ {K S : Type 0} where
  same_state : (slots after : List (Slot K S)) (i : ℕ) → slice_get after i ≡ slice_get slots i → state_in after i ≡ state_in slots i
  same_state slots after i same = ap (λ (o : Option (Slot K S)). elim o [ None ↦ None | Some slot ↦ slot.state ]) same

  module _ {cmp : K → K → Ordering} (order : IsTotalOrder cmp) (slots after : List (Slot K S)) (place : ℕ) (others : (i : ℕ) → i ≢ place → slice_get after i ≡ slice_get slots i) where
    other_states : (i : ℕ) → i ≢ place → state_in after i ≡ state_in slots i
    other_states i other = same_state slots after i (others i other)

    still_there : (e : K × ℕ) → HasSlot slots e → e.1 ≢ place → HasSlot after e
    still_there e here other = (here.0, others e.1 other ∙ here.1)

    -- ---- a state is swapped

    module _ (k : K) (old new : S) (at : slice_get slots place ≡ Some (record { key = k; state = Some old })) (now : slice_get after place ≡ Some (record { key = k; state = Some new })) where
      swapped_slot : (e : K × ℕ) → HasSlot slots e → HasSlot after e
      swapped_slot e here = by (same_or_not e.1 place)
        where
          by : (e.1 ≡ place) ⊎ (e.1 ≢ place) → HasSlot after e
          by (inl same) = (new, ap (slice_get after) same ∙ now ∙ ap (λ (key : K). Some (record { key = key; state = Some new })) (sym (same_place slots (k, place) e (old, at) here same)))
          by (inr other) = still_there e here other

      swapped_all : (places : List (K × ℕ)) → AllByRecursion (HasSlot slots) places → AllByRecursion (HasSlot after) places
      swapped_all [] all = tt
      swapped_all (e ∷ places) all = (swapped_slot e all.0, swapped_all places all.1)

      pub swapped : (places : List (K × ℕ)) → ArePlaces cmp slots places → ArePlaces cmp after places
      swapped places are = record {
        there = swapped_all places are.there;
        known = λ i key state there. known i key state there (same_or_not i place);
      }
        where
          known : (i : ℕ) (key : K) (state : S) → slice_get after i ≡ Some (record { key = key; state = Some state }) → (i ≡ place) ⊎ (i ≢ place) → lookup (is_at (cmp key)) places ≡ Some i
          known i key state there (inl same) =
              let keys : k ≡ key = ap (λ (o : Option (Slot K S)). elim o [ None ↦ k | Some slot ↦ slot.key ]) (sym now ∙ ap (slice_get after) (sym same) ∙ there) in
              are.known i key old (ap (slice_get slots) same ∙ at ∙ ap (λ (q : K). Some (record { key = q; state = Some old })) keys)
          known i key state there (inr other) = are.known i key state (sym (others i other) ∙ there)

      pub swapped_entries : (q : K) (places : List (K × ℕ)) → IsStrictlySortedBy cmp (keys_of places) → ArePlaces cmp slots places → lookup (is_at (cmp q)) places ≡ Some place → entries_in after places ≡ set_value (is_at (cmp q)) (entries_in slots places) new
      swapped_entries q places rises are found =
          set-entries order slots after q place other_states places new rises are.there found (ap (λ (o : Option (Slot K S)). elim o [ None ↦ None | Some slot ↦ slot.state ]) now)

    -- ---- a key is taken away

    module _ (q : K) (none : state_in after place ≡ None) where
      left_all : (e : K × ℕ) (places : List (K × ℕ)) → e.1 ≡ place → AllByRecursion (λ x. x.1 ≢ e.1) places → AllByRecursion (HasSlot slots) places → AllByRecursion (HasSlot after) places
      left_all e [] same apart all = tt
      left_all e (x ∷ places) same apart all = (still_there x all.0 (λ is. apart.0 (is ∙ sym same)), left_all e places same apart.1 all.1)

      removed_all : (places : List (K × ℕ)) → IsStrictlySortedBy cmp (keys_of places) → AllByRecursion (HasSlot slots) places → lookup (is_at (cmp q)) places ≡ Some place → AllByRecursion (HasSlot after) (remove_entry (is_at (cmp q)) places)
      unfolding IsStrictlySortedBy
      removed_all [] rises all found = tt
      removed_all (e ∷ places) rises all found = by (is_at (cmp q) e.0) refl found (removed_all places rises.1 all.1)
        where
          by : (b : Bool) → is_at (cmp q) e.0 ≡ b → cond b (Some e.1) (lookup (is_at (cmp q)) places) ≡ Some place → (lookup (is_at (cmp q)) places ≡ Some place → AllByRecursion (HasSlot after) (remove_entry (is_at (cmp q)) places)) → AllByRecursion (HasSlot after) (cond b places (e ∷ remove_entry (is_at (cmp q)) places))
          by true passes seen rest =
              left_all e places (ap (λ (o : Option ℕ). unwrap_or o e.1) seen) (apart order slots e places all.0 rises.0 all.1) all.1
          by false fails seen rest = (still_there e all.0 elsewhere, rest seen)
            where
              elsewhere : e.1 ≢ place
              elsewhere same =
                  let k = passes_at (is_at (cmp q)) slots places place all.1 seen in
                  absurd (false≢true (sym fails ∙ ap (is_at (cmp q)) (sym (same_place slots e (k.0, place) all.0 k.1 (sym same))) ∙ k.2))

      pub removed : (places : List (K × ℕ)) → IsStrictlySortedBy cmp (keys_of places) → ArePlaces cmp slots places → lookup (is_at (cmp q)) places ≡ Some place
          → ((key : K) → lookup (is_at (cmp key)) (remove_entry (is_at (cmp q)) places) ≡ cond (is_at (cmp q) key) None (lookup (is_at (cmp key)) places)) → ArePlaces cmp after (remove_entry (is_at (cmp q)) places)
      removed places rises are found left = record {
        there = removed_all places rises are.there found;
        known = known;
      }
        where
          known : (i : ℕ) (key : K) (state : S) → slice_get after i ≡ Some (record { key = key; state = Some state }) → lookup (is_at (cmp key)) (remove_entry (is_at (cmp q)) places) ≡ Some i
          known i key state there = left key ∙ by (is_at (cmp q) key) refl
            where
              other : i ≢ place
              other same = absurd (false≢true (ap is_some (sym none ∙ ap (state_in after) (sym same) ∙ ap (λ (o : Option (Slot K S)). elim o [ None ↦ None | Some slot ↦ slot.state ]) there)))

              was : lookup (is_at (cmp key)) places ≡ Some i
              was = are.known i key state (sym (others i other) ∙ there)

              by : (b : Bool) → is_at (cmp q) key ≡ b → cond b None (lookup (is_at (cmp key)) places) ≡ Some i
              by true ties =
                  let one : Some i ≡ Some place = sym was ∙ sym (tied order q key places ((Equal-is (cmp q key)).0 ties)) ∙ found in
                  absurd (other (ap (λ (o : Option ℕ). unwrap_or o i) one))
              by false apart = was

      pub removed_entries : (places : List (K × ℕ)) → IsStrictlySortedBy cmp (keys_of places) → ArePlaces cmp slots places → lookup (is_at (cmp q)) places ≡ Some place → entries_in after (remove_entry (is_at (cmp q)) places) ≡ remove_entry (is_at (cmp q)) (entries_in slots places)
      removed_entries places rises are found = remove-entries order slots after q place other_states places rises are.there found

  -- ---- a key is put

  module _ {cmp : K → K → Ordering} (order : IsTotalOrder cmp) (slots : List (Slot K S)) (q : K) (state : S) where
    abbrev pub new_slot : Slot K S
    new_slot = record { key = q; state = Some state }

    abbrev pub one_more : List (Slot K S)
    one_more = slots ++ new_slot ∷ []

    more_there : (places : List (K × ℕ)) → AllByRecursion (HasSlot slots) places → AllByRecursion (HasSlot one_more) places
    more_there [] all = tt
    more_there (e ∷ places) all = ((all.0.0, get_before slots new_slot (record { key = e.0; state = Some all.0.0 }) e.1 all.0.1), more_there places all.1)

    put_there : (P : K × ℕ → Type 0) (place : ℕ) (places : List (K × ℕ)) → lookup (is_at (cmp q)) places ≡ None → P (q, place) → AllByRecursion P places → AllByRecursion P (insert_entry cmp places q place)
    put_there P place [] none own all = (own, tt)
    put_there P place (e ∷ places) none own all = by (cmp q e.0) none (λ tail. put_there P place places tail own all.1)
      where
        by : (r : Ordering) → cond (is_eq r) (Some e.1) (lookup (is_at (cmp q)) places) ≡ None → (lookup (is_at (cmp q)) places ≡ None → AllByRecursion P (insert_entry cmp places q place)) → AllByRecursion P (match_ordering r ((q, place) ∷ e ∷ places) ((e.0, place) ∷ places) (e ∷ insert_entry cmp places q place))
        by Less seen rest = (own, all)
        by Equal seen rest = absurd (false≢true (ap is_some (sym seen)))
        by Greater seen rest = (all.0, rest seen)

    pub added : (places : List (K × ℕ)) → ArePlaces cmp slots places → lookup (is_at (cmp q)) places ≡ None
        → ((key : K) → lookup (is_at (cmp key)) (insert_entry cmp places q (length slots)) ≡ cond (is_at (cmp q) key) (Some (length slots)) (lookup (is_at (cmp key)) places)) → ArePlaces cmp one_more (insert_entry cmp places q (length slots))
    added places are none put = record {
      there = put_there (HasSlot one_more) (length slots) places none (state, get_last slots new_slot) (more_there places are.there);
      known = λ i key state there. put key ∙ known i key state (before_or_last slots new_slot (record { key = key; state = Some state }) i there) (is_at (cmp q) key) refl;
    }
      where
        known : (i : ℕ) (key : K) (other : S) → (slice_get slots i ≡ Some (record { key = key; state = Some other })) ⊎ ((i ≡ length slots) × (new_slot ≡ record { key = key; state = Some other })) → (b : Bool) → is_at (cmp q) key ≡ b → cond b (Some (length slots)) (lookup (is_at (cmp key)) places) ≡ Some i
        known i key other (inl was) true ties =
            let one : Some i ≡ None = sym (are.known i key other was) ∙ sym (tied order q key places ((Equal-is (cmp q key)).0 ties)) ∙ none in
            absurd (false≢true (ap is_some (sym one)))
        known i key other (inl was) false apart = are.known i key other was
        known i key other (inr last) true ties = ap Some (sym last.0)
        known i key other (inr last) false apart =
            let own : q ≡ key = ap (λ (slot : Slot K S). slot.key) last.1 in
            absurd (false≢true (sym apart ∙ ap (is_at (cmp q)) (sym own) ∙ (eq_by_cmp_equiv order).refl q))

    pub added_entries : (places : List (K × ℕ)) → ArePlaces cmp slots places → lookup (is_at (cmp q)) places ≡ None → entries_in one_more (insert_entry cmp places q (length slots)) ≡ insert_entry cmp (entries_in slots places) q state
    added_entries places are none =
        insert-entries order one_more q (length slots) state places (more_there places are.there) (ap (λ (o : Option (Slot K S)). elim o [ None ↦ None | Some slot ↦ slot.state ]) (get_last slots new_slot)) none
        ∙ ap (λ (l : List (K × S)). insert_entry cmp l q state) (entries-same slots one_more places (same places are.there))
      where
        same : (places : List (K × ℕ)) → AllByRecursion (HasSlot slots) places → AllByRecursion (λ e. state_in one_more e.1 ≡ state_in slots e.1) places
        same [] all = tt
        same (e ∷ places) all = (same_state slots one_more e.1 (get_before slots new_slot (record { key = e.0; state = Some all.0.0 }) e.1 all.0.1 ∙ sym all.0.1), same places all.1)

-- the same, of what comes of it
pub are_added : {K S : Type 0} {cmp : K → K → Ordering} (order : IsTotalOrder cmp) (slots after : List (Slot K S)) (places more : List (K × ℕ)) (own key : K) (state : S) (place : ℕ) → ArePlaces cmp slots places → lookup (is_at (cmp key)) places ≡ None → own ≡ key → place ≡ length slots → after ≡ slots ++ record { key = key; state = Some state } ∷ []
    → more ≡ insert_entry cmp places own place → ((q : K) → lookup (is_at (cmp q)) more ≡ cond (is_at (cmp own) q) (Some place) (lookup (is_at (cmp q)) places)) → ArePlaces cmp after more × (entries_in after more ≡ insert_entry cmp (entries_in slots places) key state)
are_added {cmp = cmp} order slots after places more own key state place are none same count slots_are places_are looked =
    let put : more ≡ insert_entry cmp places key (length slots) = places_are ∙ ap (λ k. insert_entry cmp places k place) same ∙ ap (insert_entry cmp places key) count in
    let found : (q : _) → lookup (is_at (cmp q)) (insert_entry cmp places key (length slots)) ≡ cond (is_at (cmp key) q) (Some (length slots)) (lookup (is_at (cmp q)) places) = λ q.
    ap (lookup (is_at (cmp q))) (sym put) ∙ looked q ∙ ap (λ k. cond (is_at (cmp k) q) (Some place) (lookup (is_at (cmp q)) places)) same ∙ ap (λ (n : ℕ). cond (is_at (cmp key) q) (Some n) (lookup (is_at (cmp q)) places)) count in (
      subst (λ l. ArePlaces cmp l more) (sym slots_are) (subst (ArePlaces cmp (slots ++ record { key = key; state = Some state } ∷ [])) (sym put) (added order slots key state places are none found)),
      ap (λ l. entries_in l more) slots_are ∙ ap (entries_in (slots ++ record { key = key; state = Some state } ∷ [])) put ∙ added_entries order slots key state places are none,
    )
