-- Entries that are exchanged one after another, and what the last of them tells.
use Rattle.std.proofs.Common.{◌≡◌, ℕ, zero, suc, ◌+◌, List, [], ◌∷◌, ◌++◌, length, slice_get, slice_set, take, drop, Option, Some, None, Ordering, arith, refl, sym, ap, ◌∙◌}
use Rattle.std.specs.BTreeMap.{insert_entry}
use Rattle.std.specs.Cmp.{IsTotalOrder}
use Rattle.std.specs.List.Sorted.{IsStrictlySortedBy}
use Rattle.std.specs.Map.{keys_of}
use Rattle.std.proofs.Math.ListN.{set}
use Rattle.std.proofs.lemmas.List.{drop-set-lt, take_more_set}
use Rattle.std.proofs.lemmas.Option.{slice_get_within}
use Rattle.abs_codec.specs.Entries.{value_at}
use Rattle.keyed_state.specs.Putting.{note_of, notes_of, undone}
use Rattle.keyed_state.proofs.Several.{noted_undone}

-- what is left from a place on begins with what stands there
pub dropped : {X : Type 0} (xs : List X) (i : ℕ) (x : X) → slice_get xs i ≡ Some x → drop i xs ≡ x ∷ drop (i + 1) xs
dropped [] i x at = absurd (cc at)
dropped (y ∷ xs) zero x at = ap (λ z. z ∷ xs) (cc at)
dropped (y ∷ xs) (suc i) x at =
    let more : suc (i + 1) ≡ suc i + 1 = omega arith in
    dropped xs i x at ∙ ap (λ (n : ℕ). x ∷ drop n (y ∷ xs)) more

-- what stands at a place stands first in what is left from there on
pub at_first : {X : Type 0} (xs : List X) (i : ℕ) (x : X) (rest : List X) → drop i xs ≡ x ∷ rest → slice_get xs i ≡ Some x
at_first [] zero x rest at = absurd (cc at)
at_first [] (suc i) x rest at = absurd (cc at)
at_first (y ∷ xs) zero x rest at = ap (λ l. slice_get l 0) at
at_first (y ∷ xs) (suc i) x rest at = at_first xs i x rest at

length-taken : {X : Type 0} (xs : List X) (i : ℕ) (x : X) → slice_get xs i ≡ Some x → length (take i xs) ≡ i
length-taken [] i x at = absurd (cc at)
length-taken (y ∷ xs) zero x at = refl
length-taken (y ∷ xs) (suc i) x at = ap suc (length-taken xs i x at)

module _ {K S : Type 0} where
  pub notes_last : (es : List (K × S)) (e : K × S) (xs : List (Option S)) (x : Option S) → slice_get xs (length es) ≡ Some x → notes_of (es ++ e ∷ []) xs ≡ notes_of es xs ++ note_of e x ∷ []
  notes_last [] e [] x at = absurd (cc at)
  notes_last [] e (y ∷ ys) x at = ap (λ (o : Option S). note_of e o ∷ []) (cc at)
  notes_last (f ∷ es) e [] x at = absurd (cc at)
  notes_last (f ∷ es) e (y ∷ ys) x at = ap (λ (l : List (K × Option S)). note_of f y ∷ l) (notes_last es e ys x at)

  -- nothing is said of what was expected
  pub notes_beyond : (es : List (K × S)) (e : K × S) (xs : List (Option S)) → slice_get xs (length es) ≡ None → notes_of (es ++ e ∷ []) xs ≡ notes_of es xs
  notes_beyond [] e [] at = refl
  notes_beyond [] e (y ∷ ys) at = absurd (cc at)
  notes_beyond (f ∷ es) e [] at = refl
  notes_beyond (f ∷ es) e (y ∷ ys) at = ap (λ (l : List (K × Option S)). note_of f y ∷ l) (notes_beyond es e ys at)

module _ {K S : Type 0} {cmp : K → K → Ordering} (order : IsTotalOrder cmp) where
  -- one more that is exchanged is undone first
  pub exchanged_undone : (es after : List (K × S)) (entries : List (K × S)) (i : ℕ) (old new : K × S) (xs : List (Option S)) (x : Option S) (whole : List (K × S)) → IsStrictlySortedBy cmp (keys_of es) → slice_get entries i ≡ Some old → slice_get xs i ≡ Some x
      → value_at cmp es old.0 ≡ x → note_of new x ≡ (old.0, x) → after ≡ insert_entry cmp es old.0 old.1 → undone cmp (notes_of (take i entries) xs) es ≡ whole → undone cmp (notes_of (take (i + 1) (slice_set entries i new)) xs) after ≡ whole
  exchanged_undone es after entries i old new xs x whole rises at first has noted put back =
      let count = length-taken entries i old at in
      let more = ap (λ (l : List (K × S)). notes_of l xs) (take_more_set entries i new (slice_get_within entries i old at)) ∙ notes_last (take i entries) new xs x (ap (slice_get xs) count ∙ first) ∙ ap (λ (n : K × Option S). notes_of (take i entries) xs ++ n ∷ []) noted in
      noted_undone order (notes_of (take i entries) xs) (notes_of (take (i + 1) (slice_set entries i new)) xs) es after old.0 old.1 x rises has more put ∙ back

-- what is left behind one that is exchanged is what was there
pub rest_stays : {X : Type 0} (entries whole : List X) (i : ℕ) (old new : X) → slice_get entries i ≡ Some old → drop i entries ≡ drop i whole → drop (i + 1) (slice_set entries i new) ≡ drop (i + 1) whole
rest_stays entries whole i old new at same =
    let head = sym (dropped entries i old at) ∙ same in
    let there = at_first whole i old (drop (i + 1) entries) (sym head) in
    drop-set-lt (i + 1) entries i new (omega arith) ∙ tails (head ∙ dropped whole i old there)
  where
    tails : old ∷ drop (i + 1) entries ≡ old ∷ drop (i + 1) whole → drop (i + 1) entries ≡ drop (i + 1) whole
    tails same = cc
