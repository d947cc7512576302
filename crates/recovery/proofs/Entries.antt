-- The entries of a map, all of which are good.
use Rattle.std.proofs.Common.{◌≡◌, inl, inr, All, Some, cond, Bool, true, List, [], ◌∷◌, refl, sym, ap, ◌∙◌, subst}
use Rattle.std.specs.BTreeMap.{is_at}
use Rattle.std.specs.declared.cmp.Ordering.{Ordering}
use Rattle.std.specs.declared.cmp.Ordering.TheVariants.{Less, Equal, Greater}
use Rattle.std.proofs.lemmas.Bool.{cases_Bool, false≢true}
use Rattle.std.proofs.lemmas.List.Elements.{All-head, All-tail, All-weaker}
use Rattle.std.proofs.lemmas.Option.{none-some, same_Some}
use Rattle.abs_codec.specs.Entries.{value_at}
use Rattle.operators.specs.Operator.{OrderIsExact}

equal_at : {K : Type 0} (compare : K → Ordering) (k : K) → is_at compare k ≡ true → compare k ≡ Equal
equal_at compare k h = by (compare k) h
  where
    by : (o : Ordering) → Rattle.std.specs.Ordering.is_eq o ≡ true → o ≡ Equal
    by Less e = absurd (false≢true e)
    by Equal e = refl
    by Greater e = absurd (false≢true e)

module _ {K S : Type 0} (cmp : K → K → Ordering) (exact : OrderIsExact cmp) (P : K → S → Type 0) where
  -- what holds of all entries holds of the one that is found
  pub all_found : (es : List (K × S)) → All (λ (e : K × S). P e.0 e.1) es → (key : K) (state : S) → value_at cmp es key ≡ Some state → P key state
  all_found [] all key state h = absurd (none-some state h)
  all_found (e ∷ es) all key state h =
      elim (cases_Bool (is_at (cmp key) e.0)) [
        | inl here ↦
            let same : Some e.1 ≡ Some state = ap (λ (b : Bool). cond b (Some e.1) (value_at cmp es key)) (sym here) ∙ h in
            let value : e.1 ≡ state = same_Some e.1 state same in
            let k : key ≡ e.0 = exact key e.0 (equal_at (cmp key) e.0 here) in
            subst (λ (s : S). P key s) value (subst (λ (x : K). P x e.1) (sym k) (All-head (λ (e : K × S). P e.0 e.1) e es all))
        | inr off ↦ all_found es (All-tail (λ (e : K × S). P e.0 e.1) e es all) key state (ap (λ (b : Bool). cond b (Some e.1) (value_at cmp es key)) (sym off) ∙ h)
      ]

  -- and of all that are found, of all entries
  pub found_all : (es : List (K × S)) → All (λ (e : K × S). value_at cmp es e.0 ≡ Some e.1) es → ((key : K) (state : S) → value_at cmp es key ≡ Some state → P key state) → All (λ (e : K × S). P e.0 e.1) es
  found_all es found each = All-weaker (λ (e : K × S). value_at cmp es e.0 ≡ Some e.1) (λ (e : K × S). P e.0 e.1) (λ e h. each e.0 e.1 h) es found
