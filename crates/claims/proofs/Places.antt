-- The states that are left, by place: what a search finds, and what a state that is put at a place changes.
use Rattle.std.proofs.Common.{◌≡◌, ◌<◌, ◌+◌, ℕ, zero, suc, Bool, true, false, cond, List, [], ◌∷◌, ◌++◌, length, take, drop, get_or, set, Option, Some, None, Result, Ok, Err, IfSome, IfNone, Ordering, refl, sym, ap, subst, ◌∙◌, append_assoc, unwrap_or, is_some, inl, inr, arith}
use Rattle.std.specs.Prelude.{slice_get}
use Rattle.std.specs.BTreeMap.{is_at}
use Rattle.std.specs.Cmp.{IsTotalOrder, Equal-is, eq_by_cmp_equiv}
use Rattle.std.specs.List.{AllByRecursion}
use Rattle.std.specs.List.Sorted.{IsStrictlySortedBy, IsSortedBy, IsNonDecreasingBy, IsSearchInRange, IsBinarySearchResult}
use Rattle.std.specs.Map.{keys_of}
use Rattle.std.specs.Ordering.{is_eq, is_lt, ordering_reverse, ordering_index}
use Rattle.std.specs.Result.{result_ok}
use Rattle.std.specs.declared.cmp.Ordering.TheVariants.{Less, Greater}
use Rattle.std.proofs.lemmas.Bool.{cases_lt, false≢true}
use Rattle.std.proofs.lemmas.List.{map-append, get_or_default, take-append-le}
use Rattle.std.proofs.Math.Seq.{take-length}
use Rattle.std.proofs.lemmas.List.Sorted.{searchable_from_sorted}
use Rattle.abs_codec.specs.Entries.{value_at}
use Rattle.claims.specs.Carried.{states_given}
use Rattle.claims.specs.Left.{either, left_over, state_left}
use Rattle.claims.specs.Places.{entry_given, given_at, with_left, left_at, state_there, state_at, IsPlaceOf, HasPlace, LeavesAt}
use Rattle.claims.specs.declared.left.Place.{Place}

module _ {K S : Type 0} where
  -- ---- the places are made, and walked

  left_at-append : (ps qs : List (Place K S)) → left_at (ps ++ qs) ≡ left_at ps ++ left_at qs
  left_at-append [] qs = refl
  left_at-append (p ∷ ps) qs = by p.left (left_at-append ps qs)
    where
      by : (o : Option S) → left_at (ps ++ qs) ≡ left_at ps ++ left_at qs → with_left p.key.now o (left_at (ps ++ qs)) ≡ with_left p.key.now o (left_at ps) ++ left_at qs
      by None rest = rest
      by (Some s) rest = ap (λ (l : List (K × S)). (p.key.now, s) ∷ l) rest

  -- a place more
  pub given_more : (ps qs : List (Place K S)) (p : Place K S) (before after all : List (K × Option S)) → qs ≡ ps ++ p ∷ [] → before ≡ entry_given p ∷ after → given_at ps ++ before ≡ all → given_at qs ++ after ≡ all
  given_more ps qs p before after all more turn was =
      ap (λ (l : List (Place K S)). given_at l ++ after) more
      ∙ ap (λ (l : List (K × Option S)). l ++ after) (map-append entry_given ps (p ∷ []))
      ∙ append_assoc (given_at ps) (entry_given p ∷ []) after
      ∙ ap (λ (l : List (K × Option S)). given_at ps ++ l) (sym turn)
      ∙ was

  pub none_more : (ps qs : List (Place K S)) (p : Place K S) → qs ≡ ps ++ p ∷ [] → p.left ≡ None → left_at ps ≡ [] → left_at qs ≡ []
  none_more ps qs p more none was =
      ap (λ (l : List (Place K S)). left_at l) more
      ∙ left_at-append ps (p ∷ [])
      ∙ ap (λ (l : List (K × S)). l ++ with_left p.key.now p.left []) was
      ∙ ap (λ (o : Option S). with_left p.key.now o []) none

  -- an entry more
  pub entry_more : (entries more all : List (K × S)) (before after : List (Place K S)) (p : Place K S) (key : K) (state : S) → before ≡ p ∷ after → p.left ≡ Some state → key ≡ p.key.now → more ≡ entries ++ (key, state) ∷ [] → entries ++ left_at before ≡ all → more ++ left_at after ≡ all
  entry_more entries more all before after p key state turn left is put was =
      ap (λ (l : List (K × S)). l ++ left_at after) put
      ∙ append_assoc entries ((key, state) ∷ []) (left_at after)
      ∙ ap (λ (k : K). entries ++ (k, state) ∷ left_at after) is
      ∙ ap (λ (o : Option S). entries ++ with_left p.key.now o (left_at after)) (sym left)
      ∙ ap (λ (l : List (Place K S)). entries ++ left_at l) (sym turn)
      ∙ was

  -- no state is left there
  pub entry_none : (entries all : List (K × S)) (before after : List (Place K S)) (p : Place K S) → before ≡ p ∷ after → p.left ≡ None → entries ++ left_at before ≡ all → entries ++ left_at after ≡ all
  entry_none entries all before after p turn none was =
      ap (λ (o : Option S). entries ++ with_left p.key.now o (left_at after)) (sym none)
      ∙ ap (λ (l : List (Place K S)). entries ++ left_at l) (sym turn)
      ∙ was

  -- where a state is put, what is given stays
  kept_at : (ps : List (Place K S)) (at : ℕ) (p : Place K S) → at < length ps → ((d : Place K S) → entry_given p ≡ entry_given (get_or ps at d)) → given_at (set ps at p) ≡ given_at ps
  kept_at [] at p less same = absurd (omega (arith, less))
  kept_at (r ∷ ps) zero p less same = ap (λ (e : K × Option S). e ∷ given_at ps) (same r)
  kept_at (r ∷ ps) (suc n) p less same = ap (λ (l : List (K × Option S)). entry_given r ∷ l) (kept_at ps n p (omega (arith, less)) same)

  pub kept_here : (ps : List (Place K S)) (at : ℕ) (s : S) (e : Place K S) → at < length ps → given_at (set ps at (record { key = (get_or ps at e).key; given = (get_or ps at e).given; left = Some s })) ≡ given_at ps
  kept_here ps at s e less = kept_at ps at (record { key = (get_or ps at e).key; given = (get_or ps at e).given; left = Some s }) less (λ d. ap entry_given (get_or_default ps at e d less))

  -- what is written through a slice of places is in their vector
  pub written : (len : ℕ) (new old : List (Place K S)) → length new ≡ len → take len (new ++ drop (length new) old) ≡ new
  written len new old same = ap (λ (n : ℕ). take n (new ++ drop (length new) old)) (sym same) ∙ take-append-le (length new) new (drop (length new) old) (omega arith) ∙ take-length new

  -- ---- the keys rise

  module _ (cmp : K → K → Ordering) where
    above_left : (k : K) (ps : List (Place K S)) → AllByRecursion (λ q. cmp k q ≡ Less) (keys_of (given_at ps)) → AllByRecursion (λ q. cmp k q ≡ Less) (keys_of (left_at ps))
    above_left k [] above = tt
    above_left k (p ∷ ps) above = by p.left (above_left k ps above.1)
      where
        by : (o : Option S) → AllByRecursion (λ q. cmp k q ≡ Less) (keys_of (left_at ps)) → AllByRecursion (λ q. cmp k q ≡ Less) (keys_of (with_left p.key.now o (left_at ps)))
        by None rest = rest
        by (Some s) rest = (above.0, rest)

    -- so do those of the entries that are left
    pub left_rises : (ps : List (Place K S)) → IsStrictlySortedBy cmp (keys_of (given_at ps)) → IsStrictlySortedBy cmp (keys_of (left_at ps))
    unfolding IsStrictlySortedBy
    left_rises [] rises = tt
    left_rises (p ∷ ps) rises = by p.left (left_rises ps rises.1)
      where
        by : (o : Option S) → IsStrictlySortedBy cmp (keys_of (left_at ps)) → IsStrictlySortedBy cmp (keys_of (with_left p.key.now o (left_at ps)))
        by None rest = rest
        by (Some s) rest = (above_left p.key.now ps rises.0, rest)

    less_there : (k : K) (ps : List (Place K S)) (n : ℕ) (d : Place K S) → AllByRecursion (λ q. cmp k q ≡ Less) (keys_of (given_at ps)) → n < length ps → cmp k (get_or ps n d).key.now ≡ Less
    less_there k [] n d above less = absurd (omega (arith, less))
    less_there k (p ∷ ps) zero d above less = above.0
    less_there k (p ∷ ps) (suc n) d above less = less_there k ps n d above.1 (omega (arith, less))

    less_far : (ps : List (Place K S)) → IsStrictlySortedBy cmp (keys_of (given_at ps)) → (i j : ℕ) (d : Place K S) → i < j → j < length ps → cmp (get_or ps i d).key.now (get_or ps j d).key.now ≡ Less
    unfolding IsStrictlySortedBy
    less_far [] rises i j d before less = absurd (omega (arith, less))
    less_far (p ∷ ps) rises i zero d before less = absurd (omega (arith, before))
    less_far (p ∷ ps) rises zero (suc j) d before less = less_there p.key.now ps j d rises.0 (omega (arith, less))
    less_far (p ∷ ps) rises (suc i) (suc j) d before less = less_far ps rises.1 i j d (omega (arith, before)) (omega (arith, less))

module _ {K : Type 0} {cmp : K → K → Ordering} (order : IsTotalOrder cmp) where
  -- keys that are one
  same_at : (k x q : K) → is_at (cmp k) x ≡ true → is_at (cmp k) q ≡ is_at (cmp q) x
  same_at k x q under = ap is_eq (order.congr k x q ((Equal-is (cmp k x)).0 under)) ∙ (eq_by_cmp_equiv order).symm x q

  -- a key that is below another
  apart : (k x y : K) → is_at (cmp k) x ≡ true → cmp y x ≡ Less → is_at (cmp k) y ≡ false
  apart k x y under less = same_at k x y under ∙ ap is_eq less

  -- and one that is one with the lower
  apart_too : (k x y q : K) → is_at (cmp k) x ≡ true → cmp y x ≡ Less → is_at (cmp q) y ≡ true → is_at (cmp k) q ≡ false
  apart_too k x y q under less at = same_at k x q under ∙ ap is_eq (order.congr q y x ((Equal-is (cmp q y)).0 at) ∙ less)

module _ {K S : Type 0} {cmp : K → K → Ordering} (order : IsTotalOrder cmp) where
  -- ---- the place of a key

  none_above : (k x : K) (es : List (K × S)) → is_at (cmp k) x ≡ true → AllByRecursion (λ q. cmp x q ≡ Less) (keys_of es) → value_at cmp es k ≡ None
  none_above k x [] under above = refl
  none_above k x (e ∷ es) under above =
      ap (λ (r : Ordering). cond (is_eq r) (Some e.1) (value_at cmp es k)) (order.congr k x e.0 ((Equal-is (cmp k x)).0 under) ∙ above.0) ∙ none_above k x es under above.1

  -- the state that is left at another key
  passed : (p : Place K S) (entries : List (K × S)) (q : K) → is_at (cmp q) p.key.now ≡ false → value_at cmp (with_left p.key.now p.left entries) q ≡ value_at cmp entries q
  passed p entries q other = by p.left
    where
      by : (o : Option S) → value_at cmp (with_left p.key.now o entries) q ≡ value_at cmp entries q
      by None = refl
      by (Some s) = ap (λ (b : Bool). cond b (Some s) (value_at cmp entries q)) other

  -- what is given under a key that has a place, and what is left
  given_there : (ps : List (Place K S)) (at : ℕ) (k : K) (d : Place K S) → IsStrictlySortedBy cmp (keys_of (given_at ps)) → at < length ps → is_at (cmp k) (get_or ps at d).key.now ≡ true → value_at cmp (given_at ps) k ≡ Some (get_or ps at d).given.now
  unfolding IsStrictlySortedBy
  given_there [] at k d rises less under = absurd (omega (arith, less))
  given_there (p ∷ ps) zero k d rises less under = ap (λ (b : Bool). cond b (Some p.given.now) (value_at cmp (given_at ps) k)) under
  given_there (p ∷ ps) (suc n) k d rises less under =
      let below : n < length ps = omega (arith, less) in
      ap (λ (b : Bool). cond b (Some p.given.now) (value_at cmp (given_at ps) k)) (apart order k (get_or ps n d).key.now p.key.now under (less_there cmp p.key.now ps n d rises.0 below)) ∙ given_there ps n k d rises.1 below under

  left_there : (ps : List (Place K S)) (at : ℕ) (k : K) (d : Place K S) → IsStrictlySortedBy cmp (keys_of (given_at ps)) → at < length ps → is_at (cmp k) (get_or ps at d).key.now ≡ true → value_at cmp (left_at ps) k ≡ (get_or ps at d).left
  unfolding IsStrictlySortedBy
  left_there [] at k d rises less under = absurd (omega (arith, less))
  left_there (p ∷ ps) zero k d rises less under = by p.left
    where
      by : (o : Option S) → value_at cmp (with_left p.key.now o (left_at ps)) k ≡ o
      by None = none_above k p.key.now (left_at ps) under (above_left cmp p.key.now ps rises.0)
      by (Some s) = ap (λ (b : Bool). cond b (Some s) (value_at cmp (left_at ps) k)) under
  left_there (p ∷ ps) (suc n) k d rises less under =
      let below : n < length ps = omega (arith, less) in
      passed p (left_at ps) k (apart order k (get_or ps n d).key.now p.key.now under (less_there cmp p.key.now ps n d rises.0 below)) ∙ left_there ps n k d rises.1 below under

  got : (ps : List (Place K S)) (at : ℕ) (d : Place K S) → at < length ps → slice_get ps at ≡ Some (get_or ps at d)
  got [] at d less = absurd (omega (arith, less))
  got (p ∷ ps) zero d less = refl
  got (p ∷ ps) (suc n) d less = got ps n d (omega (arith, less))

  -- the state at a key's place is the state under the key
  state_here : (ps : List (Place K S)) (at : ℕ) (k : K) → IsStrictlySortedBy cmp (keys_of (given_at ps)) → IsPlaceOf cmp ps (Some k) at → state_at ps (Some at) ≡ left_over cmp (left_at ps) (states_given cmp (given_at ps)) k
  state_here [] at k rises is = absurd (omega (arith, is.in_range))
  state_here (d ∷ ps) at k rises is =
      let all = d ∷ ps in
      let under = is.under k refl d in
      ap state_there (got all at d is.in_range)
      ∙ ap (λ (o : Option S). either o (get_or all at d).given.now) (sym (left_there all at k d rises is.in_range under))
      ∙ ap (λ (o : Option (Option S)). either (value_at cmp (left_at all) k) (unwrap_or o None)) (sym (given_there all at k d rises is.in_range under))

  pub state_is : (ps : List (Place K S)) (key : Option K) (place : Option ℕ) → IsStrictlySortedBy cmp (keys_of (given_at ps)) → IfSome place (IsPlaceOf cmp ps key) → IfNone place (key ≡ None) → state_at ps place ≡ state_left cmp (given_at ps) (left_at ps) key
  state_is ps None None rises found none = refl
  state_is ps (Some k) None rises found none = absurd (false≢true (sym (ap is_some none)))
  state_is ps None (Some at) rises found none = absurd (false≢true found.keyed)
  state_is ps (Some k) (Some at) rises found none = state_here ps at k rises found

  -- a state that is put at a key's place is left under the key
  put_under : (ps : List (Place K S)) (at : ℕ) (k : K) (s : S) (p : Place K S) → IsStrictlySortedBy cmp (keys_of (given_at ps)) → at < length ps → is_at (cmp k) p.key.now ≡ true → p.left ≡ Some s → ((d : Place K S) → (get_or ps at d).key.now ≡ p.key.now) → (q : K)
      → value_at cmp (left_at (set ps at p)) q ≡ cond (is_at (cmp k) q) (Some s) (value_at cmp (left_at ps) q)
  unfolding IsStrictlySortedBy
  put_under [] at k s p rises less under left same q = absurd (omega (arith, less))
  put_under (r ∷ ps) zero k s p rises less under left same q =
      ap (λ (o : Option S). value_at cmp (with_left p.key.now o (left_at ps)) q) left ∙ by (is_at (cmp q) p.key.now) refl ∙ ap (λ (b : Bool). cond b (Some s) (value_at cmp (left_at (r ∷ ps)) q)) (sym (same_at order k p.key.now q under))
    where
      by : (b : Bool) → is_at (cmp q) p.key.now ≡ b → cond b (Some s) (value_at cmp (left_at ps) q) ≡ cond b (Some s) (value_at cmp (left_at (r ∷ ps)) q)
      by true is = refl
      by false is = sym (passed r (left_at ps) q (ap (λ (x : K). is_at (cmp q) x) (same r) ∙ is))
  put_under (r ∷ ps) (suc n) k s p rises less under left same q =
      by r.left (is_at (cmp q) r.key.now) refl (put_under ps n k s p rises.1 below under left same q)
    where
      below : n < length ps
      below = omega (arith, less)

      lower : cmp r.key.now p.key.now ≡ Less
      lower = ap (λ (x : K). cmp r.key.now x) (sym (same r)) ∙ less_there cmp r.key.now ps n r rises.0 below

      by : (o : Option S) (b : Bool) → is_at (cmp q) r.key.now ≡ b → value_at cmp (left_at (set ps n p)) q ≡ cond (is_at (cmp k) q) (Some s) (value_at cmp (left_at ps) q) → value_at cmp (with_left r.key.now o (left_at (set ps n p))) q ≡ cond (is_at (cmp k) q) (Some s) (value_at cmp (with_left r.key.now o (left_at ps)) q)
      by None b is rest = rest
      by (Some t) true is rest =
          ap (λ (b : Bool). cond b (Some t) (value_at cmp (left_at (set ps n p)) q)) is
          ∙ ap (λ (b : Bool). cond b (Some s) (Some t)) (sym (apart_too order k p.key.now r.key.now q under lower is))
          ∙ ap (λ (b : Bool). cond (is_at (cmp k) q) (Some s) (cond b (Some t) (value_at cmp (left_at ps) q))) (sym is)
      by (Some t) false is rest =
          ap (λ (b : Bool). cond b (Some t) (value_at cmp (left_at (set ps n p)) q)) is
          ∙ rest
          ∙ ap (λ (b : Bool). cond (is_at (cmp k) q) (Some s) (cond b (Some t) (value_at cmp (left_at ps) q))) (sym is)

  pub put_here : (ps : List (Place K S)) (at : ℕ) (s : S) (e : Place K S) → IsStrictlySortedBy cmp (keys_of (given_at ps)) → (k : K) → IsPlaceOf cmp ps (Some k) at
      → LeavesAt cmp k s (left_at ps) (left_at (set ps at (record { key = (get_or ps at e).key; given = (get_or ps at e).given; left = Some s })))
  put_here ps at s e rises k is q =
      put_under ps at k s (record { key = (get_or ps at e).key; given = (get_or ps at e).given; left = Some s }) rises is.in_range (is.under k refl e) refl
      (λ d. ap (λ (p : Place K S). p.key.now) (get_or_default ps at d e is.in_range)) q

  -- ---- a search by halves

  none_found : (k : K) (ps : List (Place K S)) → ((j : ℕ) (d : Place K S) → j < length ps → is_at (cmp k) (get_or ps j d).key.now ≡ false) → value_at cmp (given_at ps) k ≡ None
  none_found k [] none = refl
  none_found k (p ∷ ps) none =
      ap (λ (b : Bool). cond b (Some p.given.now) (value_at cmp (given_at ps) k)) (none zero p (omega arith)) ∙ none_found k ps (λ j d less. none (suc j) d (omega (arith, less)))

  sorted : (ps : List (Place K S)) → IsStrictlySortedBy cmp (keys_of (given_at ps)) → IsSortedBy (λ a b. is_lt (cmp a.key.now b.key.now)) ps
  sorted ps rises j d from less = ap is_lt (order.antisymm _ _ ∙ ap ordering_reverse (less_far cmp ps rises j (j + 1) d (omega arith) less))

  comparisons_rise : (ps : List (Place K S)) (k : K) → IsStrictlySortedBy cmp (keys_of (given_at ps)) → IsNonDecreasingBy (λ p. ordering_index (cmp p.key.now k)) ps
  comparisons_rise ps k rises = searchable_from_sorted order (λ (p : Place K S). p.key.now) ps k (sorted ps rises)

  pub searched : (ps : List (Place K S)) (key : Option K) (k : K) (r : Result ℕ ℕ) (place : Option ℕ) → key ≡ Some k → IsStrictlySortedBy cmp (keys_of (given_at ps)) → HasPlace cmp ps key → IsSearchInRange r (length ps) → IsBinarySearchResult (λ p. cmp p.key.now k) ps r → place ≡ result_ok r → IfSome place (IsPlaceOf cmp ps key) × IfNone place (key ≡ None)
  searched ps key k (Ok at) place is rises has in_range equal so =
      subst (λ (o : Option ℕ). IfSome o (IsPlaceOf cmp ps key) × IfNone o (key ≡ None)) (sym so) (here, tt)
    where
      one : (x : K) → key ≡ Some x → k ≡ x
      one x e = let two : Some k ≡ Some x = sym is ∙ e in cc

      here : IsPlaceOf cmp ps key at
      here = record {
        in_range = in_range;
        keyed = ap is_some is;
        under = λ x e d. ap (λ (y : K). is_at (cmp y) (get_or ps at d).key.now) (sym (one x e)) ∙ (eq_by_cmp_equiv order).symm k (get_or ps at d).key.now ∙ ap is_eq (equal d);
      }
  searched ps key k (Err at) place is rises has in_range parted so = absurd (false≢true (sym (ap is_some (none_found k ps none)) ∙ has k is))
    where
      other : (x : K) (r : Ordering) → is_eq r ≡ false → cmp x k ≡ r → is_at (cmp k) x ≡ false
      other x r apart e = (eq_by_cmp_equiv order).symm k x ∙ ap is_eq e ∙ apart

      none : (j : ℕ) (d : Place K S) → j < length ps → is_at (cmp k) (get_or ps j d).key.now ≡ false
      none j d less = elim (cases_lt j at) [
        | inl before ↦ other (get_or ps j d).key.now Less refl ((parted (comparisons_rise ps k rises)).0 j d (omega arith) before)
        | inr after ↦ other (get_or ps j d).key.now Greater refl ((parted (comparisons_rise ps k rises)).1 j d after less)
      ]
