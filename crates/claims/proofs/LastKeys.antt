-- The keys of the last states are among those of the work, so that they are the same where they are as many.
use Rattle.std.proofs.Common.{◌≡◌, ◌≤◌, Bool, true, false, List, [], ◌∷◌, length, Option, Some, None, Ordering, refl, sym, ap, ap₂, subst, ◌∙◌, arith, if◌then◌else◌}
use Rattle.std.specs.Prelude.{is_some}
use Rattle.std.specs.BTreeMap.{is_at}
use Rattle.std.specs.Cmp.{IsTotalOrder, Equal-is}
use Rattle.std.specs.List.{All, zip}
use Rattle.std.specs.List.Sorted.{IsStrictlySortedBy}
use Rattle.std.specs.Map.{keys_of}
use Rattle.std.specs.Ordering.{is_eq, ordering_reverse}
use Rattle.std.specs.declared.cmp.Ordering.TheVariants.{Less, Equal, Greater}
use Rattle.std.proofs.lemmas.Bool.{false≢true}
use Rattle.std.proofs.lemmas.List.{length-map}
use Rattle.std.proofs.lemmas.List.Elements.{All-head, All-tail}
use Rattle.std.proofs.lemmas.Map.Entries.{lookup_tail}
use Rattle.std.proofs.lemmas.Map.Keys.{sorted_tail}
use Rattle.std.proofs.lemmas.Slice.Zip.{firsts-zip}
use Rattle.abs_codec.specs.Entries.{value_at}
use Rattle.dataflow_model.specs.Graph.{Meaning}
use Rattle.dataflow_model.specs.Machine.{kept_under, state_under}
use Rattle.job_state.specs.Batch.{turns_of, kept_by, AreLastStates}
use Rattle.operators.specs.Operator.{OrderIsExact}
use Rattle.claims.specs.Carried.{HasItsState, states_given}
use Rattle.claims.specs.Keys.{HavePlaces}
use Rattle.claims.specs.Left.{either}
use Rattle.claims.proofs.Copies.{at_head, past_head, below_head}
use Rattle.claims.proofs.Working.{put_over}

some_none : {X : Type 0} (o : Option X) → o ≡ None → is_some o ≡ true → ⊥
some_none o none some = false≢true (sym (ap (λ (p : Option _). is_some p) none) ∙ some)

head_there : {K A : Type 0} {cmp : K → K → Ordering} (order : IsTotalOrder cmp) (x : K × A) (xs : List (K × A)) → is_some (value_at cmp (x ∷ xs) x.0) ≡ true
head_there {A = A} order x xs = ap (λ (o : Option A). is_some o) (at_head order x xs)

module _ {K A B : Type 0} {cmp : K → K → Ordering} (order : IsTotalOrder cmp) (exact : OrderIsExact cmp) where
  -- each key of the former has a value among the latter
  abbrev Within : List (K × A) → List (K × B) → Type 0
  Within xs ys = (q : K) → is_some (value_at cmp xs q) ≡ true → is_some (value_at cmp ys q) ≡ true

  module _ (x : K × A) (y : K × B) (xs : List (K × A)) (ys : List (K × B)) (s : IsStrictlySortedBy cmp (keys_of (x ∷ xs))) (t : IsStrictlySortedBy cmp (keys_of (y ∷ ys))) (within : Within (x ∷ xs) (y ∷ ys)) where
    not_less : cmp x.0 y.0 ≡ Less → ⊥
    not_less less = some_none (value_at cmp (y ∷ ys) x.0) (below_head order x.0 y ys t less) (within x.0 (head_there order x xs))

    -- the first keys are one
    within_rest : x.0 ≡ y.0 → Within xs ys
    within_rest one q there = by (is_at (cmp q) x.0) refl
      where
        by : (b : Bool) → is_at (cmp q) x.0 ≡ b → is_some (value_at cmp ys q) ≡ true
        by true at = absurd (some_none (value_at cmp xs q) (past_head order q x xs s at) there)
        by false at =
            let found = within q (ap (λ (o : Option A). is_some o) (lookup_tail (is_at (cmp q)) x xs at) ∙ there) in
            sym (ap (λ (o : Option B). is_some o) (lookup_tail (is_at (cmp q)) y ys (ap (is_at (cmp q)) (sym one) ∙ at))) ∙ found

    -- the first key of the latter is none of the former
    within_tail : cmp x.0 y.0 ≡ Greater → Within (x ∷ xs) ys
    within_tail greater q there = by (is_at (cmp q) y.0) refl
      where
        by : (b : Bool) → is_at (cmp q) y.0 ≡ b → is_some (value_at cmp ys q) ≡ true
        by true at =
            let one : q ≡ y.0 = exact q y.0 ((Equal-is (cmp q y.0)).0 at) in
            let less : cmp q x.0 ≡ Less = ap (λ (k : K). cmp k x.0) one ∙ order.antisymm y.0 x.0 ∙ ap ordering_reverse greater in
            absurd (some_none (value_at cmp (x ∷ xs) q) (below_head order q x xs s less) there)
        by false at = sym (ap (λ (o : Option B). is_some o) (lookup_tail (is_at (cmp q)) y ys at)) ∙ within q there

  fewer : (xs : List (K × A)) (ys : List (K × B)) → IsStrictlySortedBy cmp (keys_of xs) → IsStrictlySortedBy cmp (keys_of ys) → Within xs ys → length xs ≤ length ys
  fewer [] ys s t within = omega arith
  fewer (x ∷ xs) [] s t within = absurd (false≢true (within x.0 (head_there order x xs)))
  fewer (x ∷ xs) (y ∷ ys) s t within =
      by (λ w. fewer xs ys (sorted_tail cmp x.0 (keys_of xs) s) (sorted_tail cmp y.0 (keys_of ys) t) w) (λ w. fewer (x ∷ xs) ys s (sorted_tail cmp y.0 (keys_of ys) t) w) (cmp x.0 y.0) refl
    where
      by : (Within xs ys → length xs ≤ length ys) → (Within (x ∷ xs) ys → length (x ∷ xs) ≤ length ys) → (r : Ordering) → cmp x.0 y.0 ≡ r → length (x ∷ xs) ≤ length (y ∷ ys)
      by rest tail Less is = absurd (not_less x y xs ys s t within is)
      by rest tail Equal is = omega (arith, rest (within_rest x y xs ys s t within (exact x.0 y.0 is)))
      by rest tail Greater is = omega (arith, tail (within_tail x y xs ys s t within is))

  -- rising keys that are among others, and as many, are those
  pub as_many : (xs : List (K × A)) (ys : List (K × B)) → IsStrictlySortedBy cmp (keys_of xs) → IsStrictlySortedBy cmp (keys_of ys) → Within xs ys → length ys ≤ length xs → keys_of xs ≡ keys_of ys
  as_many [] [] s t within many = refl
  as_many [] (y ∷ ys) s t within many = absurd (omega (arith, many))
  as_many (x ∷ xs) [] s t within many = absurd (false≢true (within x.0 (head_there order x xs)))
  as_many (x ∷ xs) (y ∷ ys) s t within many =
      by (λ w. as_many xs ys (sorted_tail cmp x.0 (keys_of xs) s) (sorted_tail cmp y.0 (keys_of ys) t) w (omega (arith, many))) (cmp x.0 y.0) refl
    where
      by : (Within xs ys → keys_of xs ≡ keys_of ys) → (r : Ordering) → cmp x.0 y.0 ≡ r → keys_of (x ∷ xs) ≡ keys_of (y ∷ ys)
      by rest Less is = absurd (not_less x y xs ys s t within is)
      by rest Equal is =
          let one = exact x.0 y.0 is in
          ap₂ (λ (k : K) (ks : List K). k ∷ ks) one (rest (within_rest x y xs ys s t within one))
      by rest Greater is = absurd (omega (arith, many, fewer (x ∷ xs) ys s (sorted_tail cmp y.0 (keys_of ys) t) (within_tail x y xs ys s t within is)))

module _ {K S : Type 0} {cmp : K → K → Ordering} (order : IsTotalOrder cmp) (exact : OrderIsExact cmp) where
  -- states that stand under keys, where these are among others, and as many
  pub under_same : (es : List (K × S)) (keys : List K) (states : List (Option S)) (all : List (K × Option S)) → zip keys states ≡ all → IsStrictlySortedBy cmp (keys_of all) → IsStrictlySortedBy cmp (keys_of es) → HavePlaces cmp es all
      → length states ≡ length keys → length es ≡ length keys → (length states ≡ length es) × (zip (keys_of es) states ≡ all)
  under_same es keys states all is rises rising places long many =
      let own : keys_of all ≡ keys = ap (λ (l : List (K × Option S)). keys_of l) (sym is) ∙ firsts-zip keys states long in
      let count : length all ≡ length keys = sym (length-map all (λ e. e.0)) ∙ ap length own in
      let same : keys_of es ≡ keys_of all = as_many order exact es all rising rises places (omega (arith, count, many)) in
      (omega (arith, long, many), ap (λ ks. zip ks states) (same ∙ own) ∙ is)

module _ {R K S O : Type 0} (meaning : Meaning R K S O) {cmp : K → K → Ordering} (order : IsTotalOrder cmp) (exact : OrderIsExact cmp) (law : (a b : K) → meaning.same_key a b ≡ is_eq (cmp a b)) (operator : O) (states : List (K × Option S)) where
  -- a key under which a state is left is a record's
  touched : (rows : List R) (f g : K → Option S) (q : K) → All (HasItsState meaning cmp operator states) rows → g q ≡ None → is_some (kept_by meaning.same_key (turns_of meaning operator rows f) g q) ≡ true → is_some (value_at cmp states q) ≡ true
  touched [] f g q keyed none left = absurd (some_none (g q) none left)
  touched (row ∷ rows) f g q keyed none left =
      by (λ still. touched rows (kept_under meaning.same_key (meaning.key operator row) state f) (kept_under meaning.same_key (meaning.key operator row) state g) q (All-tail (HasItsState meaning cmp operator states) row rows keyed) still left)
      (meaning.key operator row) refl
    where
      state : S
      state = (meaning.apply operator (state_under (meaning.key operator row) (meaning.fresh operator) f) row).state

      at_key : (kept_under meaning.same_key (meaning.key operator row) state g q ≡ None → is_some (value_at cmp states q) ≡ true) → (k : K) → meaning.key operator row ≡ Some k → (b : Bool) → meaning.same_key k q ≡ b → is_some (value_at cmp states q) ≡ true
      at_key on k is true same =
          let one : k ≡ q = exact k q ((Equal-is (cmp k q)).0 (sym (law k q) ∙ same)) in
          subst (λ (x : K). is_some (value_at cmp states x) ≡ true) one (All-head (HasItsState meaning cmp operator states) row rows keyed k is)
      at_key on k is false same =
          on (ap (λ (o : Option K). kept_under meaning.same_key o state g q) is ∙ ap (λ (b : Bool). if b then Some state else g q) same ∙ none)

      by : (kept_under meaning.same_key (meaning.key operator row) state g q ≡ None → is_some (value_at cmp states q) ≡ true) → (key : Option K) → meaning.key operator row ≡ key → is_some (value_at cmp states q) ≡ true
      by on None is = on (ap (λ (o : Option K). kept_under meaning.same_key o state g q) is ∙ none)
      by on (Some k) is = at_key on k is (meaning.same_key k q) refl

  -- each key of the last states has its place among those that are given
  pub last_have_places : (rows : List R) (es : List (K × S)) → All (HasItsState meaning cmp operator states) rows → AreLastStates meaning.same_key (turns_of meaning operator rows (states_given cmp states)) es → IsStrictlySortedBy cmp (keys_of es)
      → HavePlaces cmp es states
  last_have_places rows es keyed last rising q there =
      let none : K → Option S = λ k. None in
      let left : kept_by meaning.same_key (turns_of meaning operator rows (states_given cmp states)) none q ≡ either (value_at cmp es q) None = sym (last none q) ∙ put_over order meaning.same_key law es rising none q in
      touched rows (states_given cmp states) none q keyed refl (ap (λ (o : Option S). is_some o) left ∙ stays (value_at cmp es q) there)
    where
      stays : (o : Option S) → is_some o ≡ true → is_some (either o None) ≡ true
      stays None some = some
      stays (Some s) some = refl
