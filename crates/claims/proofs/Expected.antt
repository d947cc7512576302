-- States that are expected as others are put are those of the work.
use Rattle.std.proofs.Common.{◌≡◌, ◌↔◌, List, [], ◌∷◌, length, Option, Some, None, IfSome, IfNone, Ordering, refl, sym, ap₂, subst, ◌∙◌, arith}
use Rattle.std.specs.Cmp.{IsTotalOrder}
use Rattle.std.specs.List.{All, zip}
use Rattle.std.specs.List.Sorted.{IsStrictlySortedBy}
use Rattle.std.specs.Map.{keys_of}
use Rattle.std.specs.Option.{option_copied}
use Rattle.std.proofs.lemmas.List.{length-map}
use Rattle.std.proofs.lemmas.List.Elements.{All-nil, All-cons, All-head, All-tail}
use denote.Ref.{Bor}
use Rattle.abs_codec.specs.Entries.{value_at}
use Rattle.job_state.specs.AtOnce.{HaveExpected}
use Rattle.keyed_state.specs.Comparing.{HaveStates}
use Rattle.operators.specs.Operator.{OrderIsExact}
use Rattle.claims.specs.Carried.{AreStatesOf}
use Rattle.claims.proofs.Copies.{copies_rise, found_each}
use Rattle.claims.proofs.Working.{Has, same_by_place, place_by_place}

-- what holds is to be shown where there is nothing
pub none_so : {X P : Type 0} (o : Option X) → P → IfNone o P
none_so None p = p
none_so (Some x) p = tt

module _ {K S : Type 0} (cmp : K → K → Ordering) (entries : List (K × S)) where
  all_have : (keys : List K) (states : List (Option S)) → HaveStates cmp entries keys states → All (Has cmp entries) (zip keys states)
  all_have [] states have = All-nil (Has cmp entries)
  all_have (k ∷ keys) [] have = All-nil (Has cmp entries)
  all_have (k ∷ keys) (s ∷ states) have =
      let first : value_at cmp entries k ≡ s = cc in
      let others : HaveStates cmp entries keys states = cc in
      All-cons (Has cmp entries) (k, s) (zip keys states) first (all_have keys states others)

  have_all : (keys : List K) (states : List (Option S)) → length states ≡ length keys → All (Has cmp entries) (zip keys states) → HaveStates cmp entries keys states
  have_all [] [] long all = refl
  have_all [] (s ∷ states) long all = absurd (omega (arith, long))
  have_all (k ∷ keys) [] long all = absurd (omega (arith, long))
  have_all (k ∷ keys) (s ∷ states) long all =
      ap₂ (λ (o : Option S) (os : List (Option S)). o ∷ os) (All-head (Has cmp entries) (k, s) (zip keys states) all) (have_all keys states (omega (arith, long)) (All-tail (Has cmp entries) (k, s) (zip keys states) all))

module _ {K S : Type 0} {cmp : K → K → Ordering} (order : IsTotalOrder cmp) (exact : OrderIsExact cmp) (entries : List (K × S)) where
  -- what is told of the states that are expected, or else was found, is so of those of the work
  pub told_where : (es : List (K × S)) (o : Option (Bor (List (Option S)))) (states : List (K × Option S)) → IsStrictlySortedBy cmp (keys_of es) → IfSome o (λ b. (length b.now ≡ length es) × (zip (keys_of es) b.now ≡ states)) → IfNone o (AreStatesOf cmp entries states)
      → HaveExpected cmp entries (keys_of es) (option_copied o) ↔ AreStatesOf cmp entries states
  told_where es None states rises some none = (λ u. none, λ same. tt)
  told_where es (Some b) states rises some none =
      let keys = keys_of es in
      let long : length b.now ≡ length keys = some.0 ∙ sym (length-map es (λ e. e.0)) in
      let all = zip keys b.now in
      let found = found_each order all (copies_rise cmp keys b.now long rises) in (
        λ have. subst (AreStatesOf cmp entries) some.1 (same_by_place exact entries all (all_have cmp entries keys b.now have)),
        λ same. have_all cmp entries keys b.now long (place_by_place exact entries all found (subst (AreStatesOf cmp entries) (sym some.1) same)),
      )
