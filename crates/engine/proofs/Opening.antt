-- Devices that are new.
use Rattle.std.proofs.Common.{◌≡◌, inl, inr, ◌==◌, ◌-◌, cond, Option, None, Some, slice_get, count_by, ℕ, Bool, true, false, if◌then◌else◌, List, [], ◌∷◌, refl, sym, ap, ◌∙◌, arith}
use Rattle.std.specs.Prelude.{◌↔◌}
use Rattle.std.proofs.lemmas.Bool.Decides.{eqb_tells}
use Rattle.std.proofs.lemmas.List.Sums.{sum_by-cons}
use Rattle.commit_sink.specs.Ledger.{Ledger, Transaction, IsOrdered, blank, is_committed, has_committed, transaction_in}

-- no number is that of a transaction
none_at : (n : ℕ) → transaction_in [] n ≡ None
none_at n = by (n == 0)
  where
    by : (b : Bool) → ◌≡◌ {A = Option Transaction} (if b then None else slice_get [] (n - 1)) None
    by true = refl
    by false = refl

module _ (l : Ledger) (ordered : IsOrdered l) (none : l.transactions ≡ []) where
  not_committed : (n : ℕ) → is_committed l n ≡ false
  not_committed n =
      ap (λ (ts : List Transaction). (let b : Bool = elim (transaction_in ts n) [ None ↦ false | Some t ↦ has_committed t.progress ] in b)) none
      ∙ ap (λ (o : Option Transaction). (let b : Bool = elim o [ None ↦ false | Some t ↦ has_committed t.progress ] in b)) (none_at n)

  -- where there is no transaction, none is committed
  nothing : (committed : List ℕ) → l.committed ≡ committed → committed ≡ []
  nothing [] e = refl
  nothing (m ∷ ms) e =
      let same : (m == m) ≡ true = elim (eqb_tells m m) [ inl x ↦ x.0 | inr x ↦ absurd (x.1 refl) ] in
      let counted : count_by (λ x. x == m) (m ∷ ms) ≡ 0 = ap (count_by (λ x. x == m)) (sym e) ∙ ordered.once m ∙ ap (λ (b : Bool). if b then 1 else 0) (not_committed m) in
      absurd (omega (arith, counted, sum_by-cons (λ x. cond (x == m) 1 0) m ms, ap {B = ℕ} (λ (b : Bool). cond b 1 0) same))

  is_blank : l ≡ blank l.subtasks
  is_blank = λ i. record { subtasks = l.subtasks; transactions = none i; committed = nothing l.committed refl i }

-- transactions are new where there is none
pub blank_is : (l : Ledger) → IsOrdered l → (l.transactions ≡ []) ↔ (l ≡ blank l.subtasks)
blank_is l ordered = (is_blank l ordered, λ same. ap (λ (x : Ledger). x.transactions) same)
