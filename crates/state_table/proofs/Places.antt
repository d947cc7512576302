-- What the entries of a table are while keys are looked up, and states are put and taken away.
use Rattle.std.proofs.Common.{◌≡◌, ◌≢◌, ℕ, zero, suc, Bool, true, false, cond, List, [], ◌∷◌, length, slice_get, Option, Some, None, Ordering, refl, sym, ap, subst, ◌∙◌}
use Rattle.std.specs.Prelude.{is_some, unwrap_or}
use Rattle.std.specs.BTreeMap.{insert_entry, is_at}
use Rattle.std.specs.Cmp.{IsTotalOrder, eq_by_cmp_equiv}
use Rattle.std.specs.List.{AllByRecursion}
use Rattle.std.specs.List.Sorted.{IsStrictlySortedBy}
use Rattle.std.specs.Map.{keys_of, lookup, remove_entry, set_value}
use Rattle.std.specs.Ordering.{match_ordering, is_eq}
use Rattle.std.specs.declared.cmp.Ordering.TheVariants.{Less, Equal, Greater}
use Rattle.std.proofs.lemmas.Bool.{false≢true}
use Rattle.state_table.specs.Slots.{state_in, entries_in, HasSlot}
use Rattle.state_table.specs.declared.table.Slot.{Slot}

module _ {K : Type 0} where
  -- what holds of each entry holds of the one at a place
  pub all_at : (P : K × ℕ → Type 0) (places : List (K × ℕ)) (i : ℕ) (e : K × ℕ) → AllByRecursion P places → slice_get places i ≡ Some e → P e
  all_at P [] i e all at = absurd (false≢true (ap is_some at))
  all_at P (x ∷ places) zero e all at = subst P (ap (λ (o : Option (K × ℕ)). unwrap_or o x) at) all.0
  all_at P (x ∷ places) (suc i) e all at = all_at P places i e all.1 at

  module _ {cmp : K → K → Ordering} (order : IsTotalOrder cmp) where
    less_apart : (x y : K) → cmp x y ≡ Less → y ≢ x
    less_apart x y less same = absurd (false≢true (ap is_eq (sym less) ∙ ap (λ (k : K). is_eq (cmp x k)) same ∙ (eq_by_cmp_equiv order).refl x))

    -- keys that tie are looked up alike
    pub tied : (q k : K) (places : List (K × ℕ)) → cmp q k ≡ Equal → lookup (is_at (cmp q)) places ≡ lookup (is_at (cmp k)) places
    tied q k [] tie = refl
    tied q k (e ∷ places) tie =
        ap (λ (r : Ordering). cond (is_eq r) (Some e.1) (lookup (is_at (cmp q)) places)) (order.congr q k e.0 tie) ∙ ap (cond (is_at (cmp k) e.0) (Some e.1)) (tied q k places tie)

module _ {K S : Type 0} where
  -- the state under a place that was looked up
  abbrev pub state_under : List (Slot K S) → Option ℕ → Option S
  state_under slots found = elim found [ None ↦ None | Some place ↦ state_in slots place ]

  -- a key's place has its state
  pub state_of_slot : (slots : List (Slot K S)) (e : K × ℕ) (here : HasSlot slots e) → state_in slots e.1 ≡ Some here.0
  state_of_slot slots e here = ap (λ (o : Option (Slot K S)). elim o [ None ↦ None | Some slot ↦ slot.state ]) here.1

  -- the first key, and the others
  pub entries-cons : (slots : List (Slot K S)) (e : K × ℕ) (places : List (K × ℕ)) (state : S) → state_in slots e.1 ≡ Some state → entries_in slots (e ∷ places) ≡ (e.0, state) ∷ entries_in slots places
  entries-cons slots e places state is = ap (λ (o : Option S). elim o [ None ↦ entries_in slots places | Some s ↦ (e.0, s) ∷ entries_in slots places ]) is

  -- a key is looked up by its place
  pub lookup-entries_in : (test : K → Bool) (slots : List (Slot K S)) (places : List (K × ℕ)) → AllByRecursion (HasSlot slots) places → lookup test (entries_in slots places) ≡ state_under slots (lookup test places)
  lookup-entries_in test slots [] all = refl
  lookup-entries_in test slots (e ∷ places) all =
      let state = all.0.0 in
      let is = state_of_slot slots e all.0 in
      ap (lookup test) (entries-cons slots e places state is) ∙ by state is (test e.0) (lookup-entries_in test slots places all.1)
    where
      by : (state : S) → state_in slots e.1 ≡ Some state → (b : Bool) → lookup test (entries_in slots places) ≡ state_under slots (lookup test places) → cond b (Some state) (lookup test (entries_in slots places)) ≡ state_under slots (cond b (Some e.1) (lookup test places))
      by state is true rest = sym is
      by state is false rest = rest

  pub keys-entries_in : (slots : List (Slot K S)) (places : List (K × ℕ)) → AllByRecursion (HasSlot slots) places → keys_of (entries_in slots places) ≡ keys_of places
  keys-entries_in slots [] all = refl
  keys-entries_in slots (e ∷ places) all =
      ap keys_of (entries-cons slots e places all.0.0 (state_of_slot slots e all.0)) ∙ ap (λ (ks : List K). e.0 ∷ ks) (keys-entries_in slots places all.1)

  pub length-entries_in : (slots : List (Slot K S)) (places : List (K × ℕ)) → AllByRecursion (HasSlot slots) places → length (entries_in slots places) ≡ length places
  length-entries_in slots [] all = refl
  length-entries_in slots (e ∷ places) all =
      ap length (entries-cons slots e places all.0.0 (state_of_slot slots e all.0)) ∙ ap suc (length-entries_in slots places all.1)

  -- where the places have the same states, so have the keys
  pub entries-same : (slots after : List (Slot K S)) (places : List (K × ℕ)) → AllByRecursion (λ e. state_in after e.1 ≡ state_in slots e.1) places → entries_in after places ≡ entries_in slots places
  entries-same slots after [] all = refl
  entries-same slots after (e ∷ places) all =
      ap (λ (o : Option S). elim o [ None ↦ entries_in after places | Some s ↦ (e.0, s) ∷ entries_in after places ]) all.0
      ∙ ap (λ (l : List (K × S)). elim (state_in slots e.1) [ None ↦ l | Some s ↦ (e.0, s) ∷ l ]) (entries-same slots after places all.1)

  -- keys of one place are one
  pub same_place : (slots : List (Slot K S)) (e x : K × ℕ) → HasSlot slots e → HasSlot slots x → x.1 ≡ e.1 → x.0 ≡ e.0
  same_place slots e x here there same = ap (λ (o : Option (Slot K S)). elim o [ None ↦ e.0 | Some slot ↦ slot.key ]) (sym there.1 ∙ ap (slice_get slots) same ∙ here.1)

  module _ (test : K → Bool) where
    -- the key that a place is found under passes
    pub passes_at : (slots : List (Slot K S)) (places : List (K × ℕ)) (place : ℕ) → AllByRecursion (HasSlot slots) places → lookup test places ≡ Some place → (k : K) × HasSlot slots (k, place) × (test k ≡ true)
    passes_at slots [] place all found = absurd (false≢true (ap is_some found))
    passes_at slots (e ∷ places) place all found = by (test e.0) refl found (passes_at slots places place all.1)
      where
        by : (b : Bool) → test e.0 ≡ b → cond b (Some e.1) (lookup test places) ≡ Some place → (lookup test places ≡ Some place → (k : K) × HasSlot slots (k, place) × (test k ≡ true)) → (k : K) × HasSlot slots (k, place) × (test k ≡ true)
        by true passes found rest = (e.0, subst (λ (p : ℕ). HasSlot slots (e.0, p)) (ap (λ (o : Option ℕ). unwrap_or o e.1) found) all.0, passes)
        by false fails found rest = rest found

  -- a key with no state has no place
  pub none_under : (test : K → Bool) (slots : List (Slot K S)) (places : List (K × ℕ)) → AllByRecursion (HasSlot slots) places → lookup test (entries_in slots places) ≡ None → lookup test places ≡ None
  none_under test slots places all none = by (lookup test places) refl (sym (lookup-entries_in test slots places all) ∙ none)
    where
      by : (o : Option ℕ) → lookup test places ≡ o → state_under slots o ≡ None → o ≡ None
      by None p seen = refl
      by (Some place) p seen =
          let k = passes_at test slots places place all p in
          absurd (false≢true (ap is_some (sym seen ∙ state_of_slot slots (k.0, place) k.1)))

  module _ {cmp : K → K → Ordering} (order : IsTotalOrder cmp) where
    -- no key above another has its place
    pub apart : (slots : List (Slot K S)) (e : K × ℕ) (places : List (K × ℕ)) → HasSlot slots e → AllByRecursion (λ y. cmp e.0 y ≡ Less) (keys_of places) → AllByRecursion (HasSlot slots) places → AllByRecursion (λ x. x.1 ≢ e.1) places
    apart slots e [] here above all = tt
    apart slots e (x ∷ places) here above all = ((λ same. less_apart order e.0 x.0 above.0 (same_place slots e x here all.0 same)), apart slots e places here above.1 all.1)

    module _ (slots after : List (Slot K S)) (q : K) (place : ℕ) (others : (i : ℕ) → i ≢ place → state_in after i ≡ state_in slots i) where
      -- other places keep their states
      kept : (e : K × ℕ) (places : List (K × ℕ)) → e.1 ≡ place → AllByRecursion (λ x. x.1 ≢ e.1) places → AllByRecursion (λ x. state_in after x.1 ≡ state_in slots x.1) places
      kept e [] same all = tt
      kept e (x ∷ places) same all = (others x.1 (λ is. all.0 (is ∙ sym same)), kept e places same all.1)

      -- the key of another place does not pass
      elsewhere : (e : K × ℕ) (places : List (K × ℕ)) → HasSlot slots e → AllByRecursion (HasSlot slots) places → is_at (cmp q) e.0 ≡ false → lookup (is_at (cmp q)) places ≡ Some place → e.1 ≢ place
      elsewhere e places here all fails found same =
          let k = passes_at (is_at (cmp q)) slots places place all found in
          absurd (false≢true (sym fails ∙ ap (is_at (cmp q)) (sym (same_place slots e (k.0, place) here k.1 (sym same))) ∙ k.2))

      -- a state is put at a key's place
      pub set-entries : (places : List (K × ℕ)) (state : S) → IsStrictlySortedBy cmp (keys_of places) → AllByRecursion (HasSlot slots) places → lookup (is_at (cmp q)) places ≡ Some place → state_in after place ≡ Some state → entries_in after places ≡ set_value (is_at (cmp q)) (entries_in slots places) state
      unfolding IsStrictlySortedBy
      set-entries [] state rises all found is = absurd (false≢true (ap is_some found))
      set-entries (e ∷ places) state rises all found is = by (is_at (cmp q) e.0) refl found (λ tail. set-entries places state rises.1 all.1 tail is)
        where
          was : state_in slots e.1 ≡ Some all.0.0
          was = state_of_slot slots e all.0

          right : (b : Bool) → is_at (cmp q) e.0 ≡ b → set_value (is_at (cmp q)) (entries_in slots (e ∷ places)) state ≡ cond b ((e.0, state) ∷ entries_in slots places) ((e.0, all.0.0) ∷ set_value (is_at (cmp q)) (entries_in slots places) state)
          right b p =
              ap (λ (l : List (K × S)). set_value (is_at (cmp q)) l state) (entries-cons slots e places all.0.0 was)
              ∙ ap (λ (b : Bool). cond b ((e.0, state) ∷ entries_in slots places) ((e.0, all.0.0) ∷ set_value (is_at (cmp q)) (entries_in slots places) state)) p

          by : (b : Bool) → is_at (cmp q) e.0 ≡ b → cond b (Some e.1) (lookup (is_at (cmp q)) places) ≡ Some place → (lookup (is_at (cmp q)) places ≡ Some place → entries_in after places ≡ set_value (is_at (cmp q)) (entries_in slots places) state)
              → entries_in after (e ∷ places) ≡ set_value (is_at (cmp q)) (entries_in slots (e ∷ places)) state
          by true passes seen rest =
              let here : e.1 ≡ place = ap (λ (o : Option ℕ). unwrap_or o e.1) seen in
              entries-cons after e places state (ap (state_in after) here ∙ is)
              ∙ ap (λ (l : List (K × S)). (e.0, state) ∷ l) (entries-same slots after places (kept e places here (apart slots e places all.0 rises.0 all.1)))
              ∙ sym (right true passes)
          by false fails seen rest =
              entries-cons after e places all.0.0 (others e.1 (elsewhere e places all.0 all.1 fails seen) ∙ was)
              ∙ ap (λ (l : List (K × S)). (e.0, all.0.0) ∷ l) (rest seen)
              ∙ sym (right false fails)

      -- a key is taken away, with its place
      pub remove-entries : (places : List (K × ℕ)) → IsStrictlySortedBy cmp (keys_of places) → AllByRecursion (HasSlot slots) places → lookup (is_at (cmp q)) places ≡ Some place → entries_in after (remove_entry (is_at (cmp q)) places) ≡ remove_entry (is_at (cmp q)) (entries_in slots places)
      unfolding IsStrictlySortedBy
      remove-entries [] rises all found = absurd (false≢true (ap is_some found))
      remove-entries (e ∷ places) rises all found = by (is_at (cmp q) e.0) refl found (remove-entries places rises.1 all.1)
        where
          was : state_in slots e.1 ≡ Some all.0.0
          was = state_of_slot slots e all.0

          right : (b : Bool) → is_at (cmp q) e.0 ≡ b → remove_entry (is_at (cmp q)) (entries_in slots (e ∷ places)) ≡ cond b (entries_in slots places) ((e.0, all.0.0) ∷ remove_entry (is_at (cmp q)) (entries_in slots places))
          right b p =
              ap (remove_entry (is_at (cmp q))) (entries-cons slots e places all.0.0 was)
              ∙ ap (λ (b : Bool). cond b (entries_in slots places) ((e.0, all.0.0) ∷ remove_entry (is_at (cmp q)) (entries_in slots places))) p

          by : (b : Bool) → is_at (cmp q) e.0 ≡ b → cond b (Some e.1) (lookup (is_at (cmp q)) places) ≡ Some place → (lookup (is_at (cmp q)) places ≡ Some place → entries_in after (remove_entry (is_at (cmp q)) places) ≡ remove_entry (is_at (cmp q)) (entries_in slots places))
              → entries_in after (cond b places (e ∷ remove_entry (is_at (cmp q)) places)) ≡ remove_entry (is_at (cmp q)) (entries_in slots (e ∷ places))
          by true passes seen rest =
              let here : e.1 ≡ place = ap (λ (o : Option ℕ). unwrap_or o e.1) seen in
              entries-same slots after places (kept e places here (apart slots e places all.0 rises.0 all.1)) ∙ sym (right true passes)
          by false fails seen rest =
              entries-cons after e (remove_entry (is_at (cmp q)) places) all.0.0 (others e.1 (elsewhere e places all.0 all.1 fails seen) ∙ was)
              ∙ ap (λ (l : List (K × S)). (e.0, all.0.0) ∷ l) (rest seen)
              ∙ sym (right false fails)

    -- a key is put, with a place
    pub insert-entries : (after : List (Slot K S)) (q : K) (place : ℕ) (state : S) (places : List (K × ℕ)) → AllByRecursion (HasSlot after) places → state_in after place ≡ Some state → lookup (is_at (cmp q)) places ≡ None → entries_in after (insert_entry cmp places q place) ≡ insert_entry cmp (entries_in after places) q state
    insert-entries after q place state [] all is none = entries-cons after (q, place) [] state is
    insert-entries after q place state (e ∷ places) all is none = by (cmp q e.0) refl none (insert-entries after q place state places all.1 is)
      where
        was : state_in after e.1 ≡ Some all.0.0
        was = state_of_slot after e all.0

        right : (r : Ordering) → cmp q e.0 ≡ r → insert_entry cmp (entries_in after (e ∷ places)) q state ≡ match_ordering r ((q, state) ∷ (e.0, all.0.0) ∷ entries_in after places) ((e.0, state) ∷ entries_in after places) ((e.0, all.0.0) ∷ insert_entry cmp (entries_in after places) q state)
        right r p =
            ap (λ (l : List (K × S)). insert_entry cmp l q state) (entries-cons after e places all.0.0 was)
            ∙ ap (λ (r : Ordering). match_ordering r ((q, state) ∷ (e.0, all.0.0) ∷ entries_in after places) ((e.0, state) ∷ entries_in after places) ((e.0, all.0.0) ∷ insert_entry cmp (entries_in after places) q state)) p

        by : (r : Ordering) → cmp q e.0 ≡ r → cond (is_eq r) (Some e.1) (lookup (is_at (cmp q)) places) ≡ None → (lookup (is_at (cmp q)) places ≡ None → entries_in after (insert_entry cmp places q place) ≡ insert_entry cmp (entries_in after places) q state)
            → entries_in after (match_ordering r ((q, place) ∷ e ∷ places) ((e.0, place) ∷ places) (e ∷ insert_entry cmp places q place)) ≡ insert_entry cmp (entries_in after (e ∷ places)) q state
        by Less p seen rest =
            entries-cons after (q, place) (e ∷ places) state is ∙ ap (λ (l : List (K × S)). (q, state) ∷ l) (entries-cons after e places all.0.0 was) ∙ sym (right Less p)
        by Equal p seen rest = absurd (false≢true (ap is_some (sym seen)))
        by Greater p seen rest =
            entries-cons after e (insert_entry cmp places q place) all.0.0 was ∙ ap (λ (l : List (K × S)). (e.0, all.0.0) ∷ l) (rest seen) ∙ sym (right Greater p)
