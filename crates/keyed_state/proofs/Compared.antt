-- States that are compared with the expected ones, one key after another, as they are replaced.
use Rattle.std.proofs.Common.{◌≡◌, ◌↔◌, ◌+◌, Result, Ok, Err, ℕ, length, count_by, is_none, not, arith, Option, Some, List, [], ◌∷◌, Ordering, Less, cond, map, refl, sym, ap, ap₂, ◌∙◌}
use Rattle.std.proofs.lemmas.List.Sums.{sum_by-cons}
use Rattle.std.specs.BTreeMap.{insert_entry}
use Rattle.std.specs.Cmp.{IsTotalOrder}
use Rattle.std.specs.List.{AllByRecursion}
use Rattle.std.specs.List.Sorted.{IsStrictlySortedBy}
use Rattle.std.specs.Map.{keys_of}
use Rattle.std.specs.Ordering.{is_eq}
use Rattle.std.specs.Result.{IsErrAnd}
use Rattle.abs_codec.specs.Entries.{value_at}
use Rattle.keyed_state.specs.Comparing.{HaveStates}
use Rattle.keyed_state.specs.Overlay.{put_over}
use Rattle.keyed_state.specs.Putting.{has_key}
use Rattle.keyed_state.proofs.Laid.{value_at-insert_entry}

module _ {K S : Type 0} (cmp : K → K → Ordering) where
  -- the first key has its state, and the others are left
  pub one_compared : (es : List (K × S)) (key : K) (keys : List K) (first : Option S) (others : List (Option S)) (Whole : Type 0) → value_at cmp es key ≡ first
      → HaveStates cmp es (key ∷ keys) (first ∷ others) ↔ Whole → HaveStates cmp es keys others ↔ Whole
  one_compared es key keys first others Whole has whole =
      (λ same. whole.0 (ap₂ (λ (o : Option S) (os : List (Option S)). o ∷ os) has same), λ all. rest (whole.1 all))
    where
      rest : HaveStates cmp es (key ∷ keys) (first ∷ others) → HaveStates cmp es keys others
      rest same = cc

  -- the first key has another state
  pub one_differs : (es : List (K × S)) (key : K) (keys : List K) (first : Option S) (others : List (Option S)) (Whole : Type 0) → (value_at cmp es key ≡ first → ⊥)
      → HaveStates cmp es (key ∷ keys) (first ∷ others) ↔ Whole → Whole → ⊥
  one_differs es key keys first others Whole differs whole all = differs (head (whole.1 all))
    where
      head : HaveStates cmp es (key ∷ keys) (first ∷ others) → value_at cmp es key ≡ first
      head same = cc

  -- there are more keys than states
  pub more_keys : (es : List (K × S)) (key : K) (keys : List K) (Whole : Type 0) → HaveStates cmp es (key ∷ keys) [] ↔ Whole → Whole → ⊥
  more_keys es key keys Whole whole all = none (whole.1 all)
    where
      none : HaveStates cmp es (key ∷ keys) [] → ⊥
      none same = cc

module _ {K S : Type 0} {cmp : K → K → Ordering} (order : IsTotalOrder cmp) where
  -- a key's state is replaced: the states of those above it stay
  stay_above : (es : List (K × S)) (key : K) (state : S) (keys : List K) → AllByRecursion (λ q. cmp key q ≡ Less) keys → map (value_at cmp (insert_entry cmp es key state)) keys ≡ map (value_at cmp es) keys
  stay_above es key state [] above = refl
  stay_above es key state (q ∷ keys) above =
      ap₂ (λ (o : Option S) (os : List (Option S)). o ∷ os) (value_at-insert_entry order es key state q ∙ ap (λ (r : Ordering). cond (is_eq r) (Some state) (value_at cmp es q)) above.0) (stay_above es key state keys above.1)

  -- the first key has its state, which is replaced, and the others are left
  pub one_exchanged : (es after : List (K × S)) (e : K × S) (entries : List (K × S)) (first : Option S) (others : List (Option S)) (Whole : Type 0) → IsStrictlySortedBy cmp (keys_of (e ∷ entries)) → value_at cmp es e.0 ≡ first → after ≡ insert_entry cmp es e.0 e.1
      → HaveStates cmp es (keys_of (e ∷ entries)) (first ∷ others) ↔ Whole → HaveStates cmp after (keys_of entries) others ↔ Whole
  unfolding IsStrictlySortedBy
  one_exchanged es after e entries first others Whole rises has put whole =
      let stay = ap (λ (l : List (K × S)). map (value_at cmp l) (keys_of entries)) put ∙ stay_above es e.0 e.1 (keys_of entries) rises.0 in
      let rest = one_compared cmp es e.0 (keys_of entries) first others Whole has whole in
      (λ same. rest.0 (sym stay ∙ same), λ all. stay ∙ rest.1 all)

-- entries whose keys rise, without the first
pub others_rise : {K S : Type 0} (cmp : K → K → Ordering) (e : K × S) (entries : List (K × S)) → IsStrictlySortedBy cmp (keys_of (e ∷ entries)) → IsStrictlySortedBy cmp (keys_of entries)
unfolding IsStrictlySortedBy
others_rise cmp e entries rises = rises.1

-- where nothing is left to merge, a map is seen itself
pub seen_alone : {K S : Type 0} (cmp : K → K → Ordering) (base over seen : List (K × S)) (count : ℕ) → put_over cmp base over ≡ seen → length over ≡ count → count ≡ 0 → base ≡ seen
seen_alone cmp base [] seen count is counted none = is
seen_alone cmp base (e ∷ over) seen count is counted none = absurd (omega arith)

-- the fault that a call tells, which passes on the fault that it met
pub told_on : {T E : Type 0} (result : Result T E) (fault told : E) → IsErrAnd result (λ e. e ≡ fault) → result ≡ Err told → fault ≡ told
told_on (Ok x) fault told is same = absurd is
told_on (Err e) fault told is same =
    let met : e ≡ fault = is in
    cc

-- a key is new where none is expected
module _ {K S : Type 0} (cmp : K → K → Ordering) (es : List (K × S)) where
  new_keys : (entries : List (K × S)) → count_by is_none (map (value_at cmp es) (keys_of entries)) ≡ count_by (λ e. not (has_key cmp es e)) entries
  new_keys [] = refl
  new_keys (e ∷ entries) =
      sum_by-cons (λ (o : Option S). cond (is_none o) 1 0) (value_at cmp es e.0) (map (value_at cmp es) (keys_of entries)) ∙ ap (λ n. cond (is_none (value_at cmp es e.0)) 1 0 + n) (new_keys entries)
      ∙ sym (sum_by-cons (λ (f : K × S). cond (not (has_key cmp es f)) 1 0) e entries)

  pub none_expected : (entries : List (K × S)) (expected : List (Option S)) → HaveStates cmp es (keys_of entries) expected → count_by is_none expected ≡ count_by (λ e. not (has_key cmp es e)) entries
  none_expected entries expected same = ap (λ states. count_by is_none states) (sym same) ∙ new_keys entries
