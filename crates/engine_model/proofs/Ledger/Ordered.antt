-- A commit keeps the order of commit.
use Rattle.std.proofs.Common.{◌≡◌, ◌<◌, ◌+◌, ◌-◌, ◌^◌, ◌==◌, inl, inr, cond, if◌then◌else◌, Option, Some, None, slice_get, length, count_by, ℕ, Bool, true, false, [], refl, sym, ap, ap₂, ◌∙◌, subst, arith}
use Rattle.std.proofs.lemmas.Bool.Decides.{eqb_tells}
use Rattle.std.proofs.lemmas.List.Sums.{sum_by_push}
use Rattle.std.proofs.lemmas.Option.{same_Some, slice_get_within}
use Rattle.commit_sink.specs.Ledger.{Ledger, Transaction, IsOrdered, transaction_at, is_committed}
use Rattle.commit_sink.specs.declared.transactions.Progress.{Progress}
use Rattle.commit_sink.specs.declared.transactions.Progress.TheVariants.{Open, PreCommitted, Committed, Aborted}
use Rattle.engine_model.proofs.Lists.{get_set_same, get_set_other, set_length}
use Rattle.engine_model.proofs.Ledger.Places.{Writes, writes, at_place}
use Rattle.engine_model.proofs.Ledger.Calls.{committed_one, with_committed}

-- whether a number is committed is told by its transaction
committed_by : (l k : Ledger) (m n : ℕ) → transaction_at l m ≡ transaction_at k n → is_committed l m ≡ is_committed k n
committed_by l k m n same =
    ap (λ (o : Option Transaction). (let b : Bool = elim o [ None ↦ false | Some t ↦ elim t.progress [ Open ↦ false | PreCommitted c ↦ false | Committed ↦ true | Aborted ↦ false ] ] in b)) same

stage_committed : Progress → Bool
stage_committed Open = false
stage_committed (PreCommitted c) = false
stage_committed Committed = true
stage_committed Aborted = false

committed_at : (l : Ledger) (n : ℕ) (t : Transaction) → transaction_at l n ≡ Some t → is_committed l n ≡ stage_committed t.progress
unfolding stage_committed
committed_at l n t at =
    ap (λ (o : Option Transaction). (let b : Bool = elim o [ None ↦ false | Some t ↦ elim t.progress [ Open ↦ false | PreCommitted c ↦ false | Committed ↦ true | Aborted ↦ false ] ] in b)) at

module _ (old : Ledger) (n : ℕ) (u : Transaction) (at : transaction_at old n ≡ Some u) (checkpoint : ℕ) (is : u.progress ≡ PreCommitted checkpoint) (ordered : IsOrdered old) where
  abbrev now : Ledger
  now = with_committed old n u

  wrote : Writes old now n (committed_one u)
  wrote = writes old now n u (committed_one u) at refl

  counted : (m : ℕ) → count_by (λ k. k == m) now.committed ≡ count_by (λ k. k == m) old.committed + cond (n == m) 1 0
  counted m = sum_by_push (λ k. cond (k == m) 1 0) old.committed n

  before : is_committed old n ≡ false
  unfolding stage_committed
  before = committed_at old n u at ∙ ap stage_committed is

  here : is_committed now n ≡ true
  unfolding stage_committed
  here = committed_at now n (committed_one u) wrote.here

  -- one place is written
  each : (P : Transaction → Type 0) → P (committed_one u) → ((k : ℕ) (t : Transaction) → slice_get old.transactions k ≡ Some t → P t) → (k : ℕ) (t : Transaction) → slice_get now.transactions k ≡ Some t → P t
  each P new others k t there =
      let place = at_place old n u at in
      elim (eqb_tells k (n - 1)) [
        | inl same ↦
            let first : slice_get now.transactions k ≡ Some (committed_one u) = ap (slice_get now.transactions) same.1 ∙ get_set_same old.transactions (n - 1) (committed_one u) (subst (λ m. m < length old.transactions) less (slice_get_within old.transactions place.0 u place.2)) in
            subst P (same_Some (committed_one u) t (sym first ∙ there)) new
        | inr apart ↦ others k t (sym (get_set_other old.transactions (n - 1) k (committed_one u) apart.1) ∙ there)
      ]
    where
      less : (at_place old n u at).0 ≡ n - 1
      less = let e = (at_place old n u at).1 in omega (arith, e)

  pub ordered_committed : IsOrdered now
  ordered_committed = record {
    once = λ m.
        elim (eqb_tells n m) [
          | inl same ↦
              let none : count_by (λ k. k == m) old.committed ≡ 0 = ordered.once m ∙ ap (λ (b : Bool). if b then 1 else 0) (committed_by old old m n (ap (transaction_at old) (sym same.1)) ∙ before) in
              let yes : is_committed now m ≡ true = committed_by now now m n (ap (transaction_at now) (sym same.1)) ∙ here in
              counted m ∙ ap₂ (λ (c : ℕ) (b : Bool). c + cond b 1 0) none same.0 ∙ sym (ap (λ (b : Bool). if b then 1 else 0) yes)
          | inr apart ↦
              let as_was : is_committed now m ≡ is_committed old m = committed_by now old m m (wrote.elsewhere m (λ e. apart.1 (sym e))) in
              counted m ∙ ap₂ (λ (c : ℕ) (b : Bool). c + cond b 1 0) (ordered.once m) apart.0 ∙ nothing_more (if is_committed old m then 1 else 0) ∙ sym (ap (λ (b : Bool). if b then 1 else 0) as_was)
        ];
    subtask = each (λ t. t.subtask < old.subtasks) (ordered.subtask (at_place old n u at).0 u (at_place old n u at).2) ordered.subtask;
    emptied = each (λ t. t.progress ≡ Aborted → t.records ≡ []) (λ e. absurd cc) ordered.emptied;
    numbers = subst (λ m. m < 2 ^ 64) (sym (set_length old.transactions (n - 1) (committed_one u))) ordered.numbers;
  }
    where
      nothing_more : (c : ℕ) → c + 0 ≡ c
      nothing_more c = omega arith
