-- States that are copied under rising keys, in the order of the keys: they are the states under any keys that are the same ones.
use Rattle.std.proofs.Common.{Iter, ◌≡◌, ◌<◌, ℕ, zero, suc, Bool, true, false, cond, List, [], ◌∷◌, length, get_or, map, Option, Some, None, Ordering, refl, sym, ap, ap₂, subst, ◌∙◌, inl, inr, arith}
use Rattle.std.specs.Prelude.{◌⊎◌, ◌↔◌, is_some, slice_get, slice_index_or}
use Rattle.std.specs.BTreeMap.{is_at, insert_entry}
use Rattle.std.specs.Cmp.{IsTotalOrder, IsEquivalence, Equal-is, eq_by_cmp_equiv}
use Rattle.std.specs.Iterator.Adapters.{zip_first, zip_second}
use Rattle.std.specs.List.{All, Contains, IsAmong, zip}
use Rattle.std.specs.List.Sorted.{IsPermutation, IsStrictlySortedBy}
use Rattle.std.specs.Map.{keys_of}
use Rattle.std.specs.Ordering.{eq_by_cmp, ordering_reverse}
use Rattle.std.specs.Slice.Iter.{iter_rest}
use Rattle.std.specs.declared.cmp.Ordering.TheVariants.{Less, Equal, Greater}
use Rattle.std.specs.declared.iter.Zip.{Zip}
use Rattle.std.proofs.iter.Yields.{fronts}
use Rattle.std.proofs.lemmas.Bool.{false≢true}
use Rattle.std.proofs.lemmas.List.Sorted.{Contains-permutation, IsPermutation-sym}
use Rattle.std.proofs.lemmas.Iterator.{zips}
use Rattle.std.proofs.lemmas.Map.{lookup-none}
use Rattle.std.proofs.lemmas.Map.Entries.{lookup_head, lookup_tail, lookup_from_place, none_past_head, none_below_head}
use Rattle.std.proofs.lemmas.Map.Keys.{sorted_tail, IsDistinct-from_sorted}
use Rattle.std.proofs.lemmas.Slice.Zip.{Zip-more, either_empty_from_Zip, firsts-zip}
use denote.Ref.{Bor}
use Rattle.abs_codec.specs.Entries.{value_at}
use Rattle.keyed_state.proofs.Laid.{value_at-insert_entry}
use Rattle.operators.specs.Operator.{OrderIsExact}
use Rattle.claims.specs.Keys.{with_key, with_keys, states_under}
use Rattle.claims.proofs.Keys.{under-rises, there_under, own_under}

module _ {K X : Type 0} {cmp : K → K → Ordering} (order : IsTotalOrder cmp) where
  -- ---- rising lists with the same value at each key are one

  pub at_head : (e : K × X) (es : List (K × X)) → value_at cmp (e ∷ es) e.0 ≡ Some e.1
  at_head e es = lookup_head (is_at (cmp e.0)) e es ((eq_by_cmp_equiv order).refl e.0)

  pub past_head : (q : K) (e : K × X) (es : List (K × X)) → IsStrictlySortedBy cmp (keys_of (e ∷ es)) → is_at (cmp q) e.0 ≡ true → value_at cmp es q ≡ None
  past_head q e es rises at = lookup-none (is_at (cmp q)) es (none_past_head (eq_by_cmp_equiv order) q e es (IsDistinct-from_sorted cmp (keys_of (e ∷ es)) rises) at)

  pub below_head : (q : K) (e : K × X) (es : List (K × X)) → IsStrictlySortedBy cmp (keys_of (e ∷ es)) → cmp q e.0 ≡ Less → value_at cmp (e ∷ es) q ≡ None
  below_head q e es rises less = lookup-none (is_at (cmp q)) (e ∷ es) (none_below_head order q e es rises less)

  not_there : (x : X) (o : Option X) → o ≡ Some x → o ≡ None → ⊥
  not_there x o some none = false≢true (sym (ap (λ (p : Option X). is_some p) none) ∙ ap (λ (p : Option X). is_some p) some)

  module _ (exact : OrderIsExact cmp) where
    -- the first entries are one, and the others have the same value at each key
    module _ (e f : K × X) (es fs : List (K × X)) (s : IsStrictlySortedBy cmp (keys_of (e ∷ es))) (t : IsStrictlySortedBy cmp (keys_of (f ∷ fs))) (same : (q : K) → value_at cmp (e ∷ es) q ≡ value_at cmp (f ∷ fs) q) where
      one_key : e.0 ≡ f.0
      one_key = by (cmp e.0 f.0) refl
        where
          by : (r : Ordering) → cmp e.0 f.0 ≡ r → e.0 ≡ f.0
          by Less is = absurd (not_there e.1 (value_at cmp (e ∷ es) e.0) (at_head e es) (same e.0 ∙ below_head e.0 f fs t is))
          by Equal is = exact e.0 f.0 is
          by Greater is = absurd (not_there f.1 (value_at cmp (f ∷ fs) f.0) (at_head f fs) (sym (same f.0) ∙ below_head f.0 e es s (order.antisymm f.0 e.0 ∙ ap ordering_reverse is)))

      one_value : e.1 ≡ f.1
      one_value =
          let both : Some e.1 ≡ Some f.1 = sym (at_head e es) ∙ same e.0 ∙ ap (value_at cmp (f ∷ fs)) one_key ∙ at_head f fs in
          let one : e.1 ≡ f.1 = cc in
          one

      same_rest : (q : K) → value_at cmp es q ≡ value_at cmp fs q
      same_rest q = by (is_at (cmp q) e.0) refl
        where
          by : (b : Bool) → is_at (cmp q) e.0 ≡ b → value_at cmp es q ≡ value_at cmp fs q
          by true at = past_head q e es s at ∙ sym (past_head q f fs t (ap (is_at (cmp q)) (sym one_key) ∙ at))
          by false at = sym (lookup_tail (is_at (cmp q)) e es at) ∙ same q ∙ lookup_tail (is_at (cmp q)) f fs (ap (is_at (cmp q)) (sym one_key) ∙ at)

    one_list : (es fs : List (K × X)) → IsStrictlySortedBy cmp (keys_of es) → IsStrictlySortedBy cmp (keys_of fs) → ((q : K) → value_at cmp es q ≡ value_at cmp fs q) → es ≡ fs
    one_list [] [] s t same = refl
    one_list [] (f ∷ fs) s t same = absurd (not_there f.1 (value_at cmp (f ∷ fs) f.0) (at_head f fs) (sym (same f.0)))
    one_list (e ∷ es) [] s t same = absurd (not_there e.1 (value_at cmp (e ∷ es) e.0) (at_head e es) (same e.0))
    one_list (e ∷ es) (f ∷ fs) s t same =
        let rest = one_list es fs (sorted_tail cmp e.0 (keys_of es) s) (sorted_tail cmp f.0 (keys_of fs) t) (same_rest e f es fs s t same) in
        let first : e ≡ f = λ i. (one_key e f es fs s t same i, one_value e f es fs s t same i) in
        ap₂ (λ (x : K × X) (xs : List (K × X)). x ∷ xs) first rest

  -- each entry is found at its key
  entry_at : (es : List (K × X)) (i : ℕ) (d : K × X) → i < length es → slice_get es i ≡ Some (get_or es i d)
  entry_at [] i d less = absurd (omega (arith, less))
  entry_at (e ∷ es) zero d less = refl
  entry_at (e ∷ es) (suc n) d less = entry_at es n d (omega (arith, less))

  pub found_each : (es : List (K × X)) → IsStrictlySortedBy cmp (keys_of es) → All (λ e. value_at cmp es e.0 ≡ Some e.1) es
  found_each es rises i d less = lookup_from_place (eq_by_cmp_equiv order) es i (get_or es i d).0 (get_or es i d).1 (IsDistinct-from_sorted cmp (keys_of es) rises) (entry_at es i d less)

module _ {K S : Type 0} {cmp : K → K → Ordering} (order : IsTotalOrder cmp) (exact : OrderIsExact cmp) (entries : List (K × S)) where
  -- ---- a key that has a state under these keys is one of them

  is_key : (k q : K) → is_at (cmp q) k ≡ true → q ≡ k
  is_key k q at = exact q k ((Equal-is (cmp q k)).0 at)

  found_more : (states : List (K × Option S)) (key q : K) → is_some (value_at cmp (with_key cmp entries states key) q) ≡ true → (is_some (value_at cmp states q) ≡ true) ⊎ (q ≡ key)
  found_more states key q = by (is_some (value_at cmp states key))
    where
      state : Option S
      state = value_at cmp entries key

      here : (b : Bool) → is_at (cmp key) q ≡ b → is_some (cond b (Some state) (value_at cmp states q)) ≡ true → (is_some (value_at cmp states q) ≡ true) ⊎ (q ≡ key)
      here true at there = inr (sym (exact key q ((Equal-is (cmp key q)).0 at)))
      here false at there = inl there

      by : (b : Bool) → is_some (value_at cmp (cond b states (insert_entry cmp states key state)) q) ≡ true → (is_some (value_at cmp states q) ≡ true) ⊎ (q ≡ key)
      by true there = inl there
      by false there = here (is_at (cmp key) q) refl (sym (ap (λ (o : Option (Option S)). is_some o) (value_at-insert_entry order states key state q)) ∙ there)

  among_first : (keys : List K) (key q : K) → q ≡ key → IsAmong (key ∷ keys) q
  among_first keys key q is = (0, (omega arith, is))

  among_later : (keys : List K) (key q : K) → IsAmong keys q → IsAmong (key ∷ keys) q
  among_later keys key q (i, (less, is)) = (suc i, (omega (arith, less), is))

  found_after : (keys : List K) (states : List (K × Option S)) (q : K) → is_some (value_at cmp (with_keys cmp entries states keys) q) ≡ true → (is_some (value_at cmp states q) ≡ true) ⊎ IsAmong keys q
  found_after [] states q there = inl there
  found_after (key ∷ keys) states q there = elim (found_after keys (with_key cmp entries states key) q there) [
    | inl before ↦ elim (found_more states key q before) [
      | inl first ↦ inl first
      | inr is ↦ inr (among_first keys key q is)
    ]
    | inr among ↦ inr (among_later keys key q among)
  ]

  found_under : (keys : List K) (q : K) → is_some (value_at cmp (states_under cmp entries keys) q) ≡ true → IsAmong keys q
  found_under keys q there = elim (found_after keys [] q there) [
    | inl before ↦ absurd cc
    | inr among ↦ among
  ]

  -- ---- keys, each with its state

  abbrev pub with_states : List K → List (K × Option S)
  with_states keys = zip keys (map (value_at cmp entries) keys)

  keys_with : (keys : List K) → keys_of (with_states keys) ≡ keys
  keys_with [] = refl
  keys_with (key ∷ keys) = ap (λ (ks : List K). key ∷ ks) (keys_with keys)

  with_here : (keys : List K) (q : K) → IsAmong keys q → value_at cmp (with_states keys) q ≡ Some (value_at cmp entries q)
  with_here [] q (i, (less, is)) = absurd (omega (arith, less))
  with_here (key ∷ keys) q (i, (less, is)) = by (is_at (cmp q) key) refl i less is (λ among. with_here keys q among)
    where
      by : (b : Bool) → is_at (cmp q) key ≡ b → (i : ℕ) → i < length (key ∷ keys) → q ≡ slice_index_or (key ∷ keys) i q → (IsAmong keys q → value_at cmp (with_states keys) q ≡ Some (value_at cmp entries q)) → cond b (Some (value_at cmp entries key)) (value_at cmp (with_states keys) q) ≡ Some (value_at cmp entries q)
      by true at i less is rest = ap (λ (k : K). Some (value_at cmp entries k)) (sym (is_key key q at))
      by false at zero less is rest = absurd (false≢true (sym at ∙ ap (λ (k : K). is_at (cmp q) k) (sym is) ∙ (eq_by_cmp_equiv order).refl q))
      by false at (suc i) less is rest = rest (i, (omega (arith, less), is))

  with_found : (keys : List K) (q : K) (state : Option S) → value_at cmp (with_states keys) q ≡ Some state → IsAmong keys q
  with_found [] q state found = absurd cc
  with_found (key ∷ keys) q state found = by (is_at (cmp q) key) refl found (λ there. with_found keys q state there)
    where
      by : (b : Bool) → is_at (cmp q) key ≡ b → cond b (Some (value_at cmp entries key)) (value_at cmp (with_states keys) q) ≡ Some state → (value_at cmp (with_states keys) q ≡ Some state → IsAmong keys q) → IsAmong (key ∷ keys) q
      by true at there rest = among_first keys key q (is_key key q at)
      by false at there rest = among_later keys key q (rest there)

  under_here : (keys : List K) (q : K) → IsAmong keys q → value_at cmp (states_under cmp entries keys) q ≡ Some (value_at cmp entries q)
  under_here keys q among = by (value_at cmp (states_under cmp entries keys) q) refl (there_under order entries keys q among)
    where
      by : (o : Option (Option S)) → value_at cmp (states_under cmp entries keys) q ≡ o → is_some o ≡ true → value_at cmp (states_under cmp entries keys) q ≡ Some (value_at cmp entries q)
      by None is there = absurd cc
      by (Some state) is there = is ∙ ap (λ (s : Option S). Some s) (sym (own_under order exact entries keys q state is))

  -- ---- they are the states under any keys that are the same ones

  module _ (keys others : List K) (same : (q : K) → IsAmong keys q ↔ IsAmong others q) where
    both_at : (q : K) → value_at cmp (with_states keys) q ≡ value_at cmp (states_under cmp entries others) q
    both_at q = by (value_at cmp (with_states keys) q) (value_at cmp (states_under cmp entries others) q) refl refl
      where
        both : IsAmong keys q → value_at cmp (with_states keys) q ≡ value_at cmp (states_under cmp entries others) q
        both among = with_here keys q among ∙ sym (under_here others q ((same q).0 among))

        by : (a b : Option (Option S)) → value_at cmp (with_states keys) q ≡ a → value_at cmp (states_under cmp entries others) q ≡ b → value_at cmp (with_states keys) q ≡ value_at cmp (states_under cmp entries others) q
        by None None is it = is ∙ sym it
        by None (Some state) is it = both ((same q).1 (found_under others q (ap (λ (o : Option (Option S)). is_some o) it)))
        by (Some state) b is it = both (with_found keys q state is)

    pub copied_under : IsStrictlySortedBy cmp keys → with_states keys ≡ states_under cmp entries others
    copied_under rises =
        one_list order exact (with_states keys) (states_under cmp entries others) (subst (λ (ks : List K). IsStrictlySortedBy cmp ks) (sym (keys_with keys)) rises) (under-rises order entries others) both_at

  -- states that were copied under rising keys
  pub copied : (keys others : List K) (states : List (Option S)) → IsStrictlySortedBy cmp keys → ((q : K) → IsAmong keys q ↔ IsAmong others q) → states ≡ map (value_at cmp entries) keys → zip keys states ≡ states_under cmp entries others
  copied keys others states rises same is = ap (zip keys) is ∙ copied_under keys others same rises

  -- the states under the same keys in rising order
  pub under_same : (keys others : List K) → IsStrictlySortedBy cmp keys → ((q : K) → IsAmong keys q ↔ IsAmong others q) → states_under cmp entries keys ≡ states_under cmp entries others
  under_same keys others rises same = sym (copied_under keys keys (λ q. (λ among. among, λ among. among)) rises) ∙ copied_under keys others same rises

-- where pairs are none, nothing is on one side
pub none_beside : {K T : Type 0} (keys : List K) (states : List T) → zip keys states ≡ [] → 0 < length keys → length states ≡ 0
none_beside [] states none some = absurd (omega (arith, some))
none_beside (key ∷ keys) [] none some = refl
none_beside (key ∷ keys) (state ∷ states) none some = absurd cc

-- and then they are none
pub beside_none : {K T : Type 0} (keys : List K) (states : List T) → length states ≡ 0 → zip keys states ≡ []
beside_none [] states none = refl
beside_none (key ∷ keys) [] none = refl
beside_none (key ∷ keys) (state ∷ states) none = absurd (omega (arith, none))

-- as many states as keys
pub copies_rise : {K S : Type 0} (cmp : K → K → Ordering) (keys : List K) (states : List (Option S)) → length states ≡ length keys → IsStrictlySortedBy cmp keys → IsStrictlySortedBy cmp (keys_of (zip keys states))
copies_rise cmp keys states long rises = subst (λ ks. IsStrictlySortedBy cmp ks) (sym (firsts-zip keys states long)) rises

-- ---- keys that are put in order

-- keys are equal where they tie
pub equal_as_tied : {K : Type 0} {cmp : K → K → Ordering} → IsTotalOrder cmp → (eq : K → K → Bool) → ((x y : K) → eq x y ≡ eq_by_cmp cmp x y) → IsEquivalence eq
equal_as_tied order eq ties =
    let tied = eq_by_cmp_equiv order in
    record {
      refl = λ x. ties x x ∙ tied.refl x;
      symm = λ x y. ties x y ∙ tied.symm x y ∙ sym (ties y x);
      congr = λ x y z equal. ties x z ∙ tied.congr x y z (sym (ties x y) ∙ equal) ∙ sym (ties y z);
    }

-- what is contained is among them, and the other way round
pub among_contained : {K : Type 0} (xs : List K) (q : K) → Contains xs q → IsAmong xs q
among_contained xs q (i, less, is) = (i, (less, sym is))

pub contained_among : {K : Type 0} (xs : List K) (q : K) → IsAmong xs q → Contains xs q
contained_among xs q (i, (less, is)) = (i, less, sym is)

-- where there is one key at most, the keys rise
pub few_rise : {K : Type 0} (cmp : K → K → Ordering) (keys : List K) → length keys < 2 → IsStrictlySortedBy cmp keys
unfolding IsStrictlySortedBy
few_rise cmp [] few = tt
few_rise cmp (key ∷ []) few = (tt, tt)
few_rise cmp (key ∷ other ∷ keys) few = absurd (omega (arith, few))

-- the same keys in another order
pub among_moved : {K : Type 0} (xs ys : List K) → IsPermutation xs ys → (q : K) → IsAmong ys q ↔ IsAmong xs q
among_moved xs ys moved q = (
  λ among. among_contained xs q (Contains-permutation _ _ q (IsPermutation-sym _ _ moved) (contained_among ys q among)),
  λ among. among_contained ys q (Contains-permutation _ _ q moved (contained_among xs q among)),
)

-- ---- both are walked at once

module _ {K S : Type 0} where
  abbrev pub rest_of : Zip (Iter K) (Iter S) → List (K × S)
  rest_of it = zip (iter_rest (zip_first it)) (iter_rest (zip_second it))

  pub walk_more : (s t : Zip (Iter K) (Iter S)) (r : Option (Bor K × Bor S)) (p : Bor K × Bor S) → r ≡ Some p → zips fronts fronts s r t → rest_of s ≡ (p.0.now, p.1.now) ∷ rest_of t
  walk_more s t r p is steps = let (first, second) = Zip-more s t r p is steps in ap₂ zip first second

  zip_none : (keys : List K) (states : List S) → (keys ≡ []) ⊎ (states ≡ []) → zip keys states ≡ []
  zip_none [] states none = refl
  zip_none (key ∷ keys) [] none = refl
  zip_none (key ∷ keys) (state ∷ states) (inl none) = absurd cc
  zip_none (key ∷ keys) (state ∷ states) (inr none) = absurd cc

  pub walk_done : (s t : Zip (Iter K) (Iter S)) (r : Option (Bor K × Bor S)) → r ≡ None → zips fronts fronts s r t → rest_of s ≡ []
  walk_done s t r is steps = zip_none (iter_rest (zip_first s)) (iter_rest (zip_second s)) (either_empty_from_Zip s t r is steps)
