-- Transactions by their numbers, and the ledger seen as the model's book.
use Rattle.std.proofs.Common.{◌≡◌, ◌<◌, ◌-◌, ◌==◌, if◌then◌else◌, All, Option, Some, None, slice_get, slice_set, slice_index_or, length, map, count_by, ℕ, zero, suc, pred, Bool, true, false, List, [], ◌∷◌, ◌++◌, refl, sym, ap, ◌∙◌, subst, arith}
use Rattle.std.proofs.lemmas.Option.{none-some, same_Some, slice_get_within}
use Rattle.std.proofs.lemmas.Bool.{false≢true, ne_eqb}
use Rattle.checkpoint_model.specs.BookLaws.{OrderFits}
use Rattle.commit_sink.specs.Ledger.{Ledger, Transaction, IsOrdered, transaction_at, is_committed}
use Rattle.commit_sink.specs.declared.transactions.Progress.{Progress}
use Rattle.commit_sink.specs.declared.transactions.Progress.TheVariants.{Open, PreCommitted, Committed, Aborted}
use Rattle.engine_model.specs.View.{stage_of, entry_of, book_of}
use Rattle.engine_model.proofs.Lists.{get_set_same, get_set_other}
use Rattle.engine_model.proofs.Ledger.Lists.{count_has, get_in_map, get_put, get_put_other}

at_in : (ts : List Transaction) (m : ℕ) → (if suc m == 0 then None else slice_get ts (suc m - 1)) ≡ slice_get ts m
at_in ts m =
    let off : (suc m == 0) ≡ false = ne_eqb (suc m) 0 (λ e. omega (arith, e)) in
    let less : suc m - 1 ≡ m = omega arith in
    ap (λ b. if b then None else slice_get ts (suc m - 1)) off ∙ ap (slice_get ts) less

pub place_at : (l : Ledger) (m : ℕ) → transaction_at l (suc m) ≡ slice_get l.transactions m
place_at l m = at_in l.transactions m

-- a number with a transaction is not 0
pub at_place : (l : Ledger) (n : ℕ) (t : Transaction) → transaction_at l n ≡ Some t → (m : ℕ) × (n ≡ suc m) × (slice_get l.transactions m ≡ Some t)
at_place l zero t h = absurd (none-some t h)
at_place l (suc m) t h = (m, refl, sym (place_at l m) ∙ h)

pub at_within : (l : Ledger) (n : ℕ) (t : Transaction) → transaction_at l n ≡ Some t → n < suc (length l.transactions)
at_within l n t h =
    let at = at_place l n t h in
    omega (arith, at.1, slice_get_within l.transactions at.0 t at.2)

pub same_at : (l : Ledger) (n : ℕ) (t u : Transaction) → transaction_at l n ≡ Some t → transaction_at l n ≡ Some u → t ≡ u
same_at l n t u a b = same_Some t u (sym a ∙ b)

-- ---- what a call writes

-- under one number the transaction is this now, and under the others nothing changes
pub record Writes (old new : Ledger) (n : ℕ) (t : Transaction) : Type 0 where
  pub here : transaction_at new n ≡ Some t
  pub elsewhere : (k : ℕ) → (k ≡ n → ⊥) → transaction_at new k ≡ transaction_at old k

pub writes : (old new : Ledger) (n : ℕ) (t t' : Transaction) → transaction_at old n ≡ Some t → new.transactions ≡ slice_set old.transactions (n - 1) t' → Writes old new n t'
writes old new n t t' h e =
    let at = at_place old n t h in
    let less : n - 1 ≡ at.0 = omega (arith, at.1) in
    let now : new.transactions ≡ slice_set old.transactions at.0 t' = e ∙ ap (λ i. slice_set old.transactions i t') less in
    let within = slice_get_within old.transactions at.0 t at.2 in
    record {
      here = ap (transaction_at new) at.1 ∙ place_at new at.0 ∙ ap (λ ts. slice_get ts at.0) now ∙ get_set_same old.transactions at.0 t' within;
      elsewhere = λ k apart. other now k (λ q. apart (q ∙ sym at.1));
    }
  where
    other : {m : ℕ} → new.transactions ≡ slice_set old.transactions m t' → (k : ℕ) → (k ≡ suc m → ⊥) → transaction_at new k ≡ transaction_at old k
    other now zero apart = refl
    other {m} now (suc k) apart = place_at new k ∙ ap (λ ts. slice_get ts k) now ∙ get_set_other old.transactions m k t' (λ q. apart (ap suc q)) ∙ sym (place_at old k)

-- a transaction that is put last
pub puts : (old new : Ledger) (t : Transaction) → new.transactions ≡ old.transactions ++ t ∷ [] → Writes old new (suc (length old.transactions)) t
puts old new t e =
    record {
      here = place_at new (length old.transactions) ∙ ap (λ ts. slice_get ts (length old.transactions)) e ∙ get_put old.transactions t;
      elsewhere = other;
    }
  where
    other : (k : ℕ) → (k ≡ suc (length old.transactions) → ⊥) → transaction_at new k ≡ transaction_at old k
    other zero apart = refl
    other (suc k) apart = place_at new k ∙ ap (λ ts. slice_get ts k) e ∙ get_put_other old.transactions t k (λ q. apart (ap suc q)) ∙ sym (place_at old k)

-- ---- what a ledger's order says

committed_stage : (p : Progress) → (elim p [ Open ↦ false | PreCommitted c ↦ false | Committed ↦ true | Aborted ↦ false ]) ≡ true → p ≡ Committed
committed_stage Open h = absurd (false≢true h)
committed_stage (PreCommitted c) h = absurd (false≢true h)
committed_stage Committed h = refl
committed_stage Aborted h = absurd (false≢true h)

committed_in : (o : Option Transaction) → (elim o [ None ↦ false | Some t ↦ elim t.progress [ Open ↦ false | PreCommitted c ↦ false | Committed ↦ true | Aborted ↦ false ] ]) ≡ true → (t : Transaction) × (o ≡ Some t) × (t.progress ≡ Committed)
committed_in None h = absurd (false≢true h)
committed_in (Some t) h = (t, refl, committed_stage t.progress h)

-- each number in the order is a committed transaction's
pub ordered_at : (l : Ledger) → IsOrdered l → All (λ n. (t : Transaction) × (transaction_at l n ≡ Some t) × (t.progress ≡ Committed)) l.committed
ordered_at l ordered k d within =
    let n = slice_index_or l.committed k d in
    let more : 0 < count_by (λ m. m == n) l.committed = count_has l.committed k d within in
    committed_in (transaction_at l n) (yes_in (is_committed l n) (subst (λ c. 0 < c) (ordered.once n) more))
  where
    yes_in : (b : Bool) → 0 < (if b then 1 else 0) → b ≡ true
    yes_in true h = refl
    yes_in false h = absurd (omega (arith, h))

-- a transaction is an entry of the book
pub entry_at : (l : Ledger) (n : ℕ) (t : Transaction) → transaction_at l n ≡ Some t → slice_get (book_of l).entries (pred n) ≡ Some (entry_of t)
entry_at l n t h =
    let at = at_place l n t h in
    ap (λ m. slice_get (map entry_of l.transactions) (pred m)) at.1 ∙ get_in_map entry_of l.transactions at.0 t at.2

pub order_fits : (l : Ledger) → IsOrdered l → OrderFits (book_of l)
order_fits l ordered k d within =
    let at = ordered_at l ordered k d within in
    (entry_of at.0, entry_at l (slice_index_or l.committed k d) at.0 at.1, ap stage_of at.2)
