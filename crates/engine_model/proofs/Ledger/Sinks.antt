-- What a running sink subtask's calls are not refused for, and what a call leaves of it.
use Rattle.std.proofs.Common.{◌≡◌, ◌⊎◌, inl, inr, All, Option, Some, None, slice_get, drop, map, ℕ, List, [], ◌∷◌, ◌++◌, sym, ap, ◌∙◌, subst}
use Rattle.std.proofs.lemmas.Option.{none-some, same_Some}
use Rattle.std.proofs.lemmas.Bool.{cases_eq}
use Rattle.std.proofs.lemmas.List.Elements.{All-head, All-same, All-weaker}
use Rattle.checkpoint_model.specs.Durable as durable
use Rattle.checkpoint_model.specs.Durable.{AreLast, transactions_of}
use Rattle.commit_sink.specs.Ledger.{Ledger, Transaction, transaction_at, open_refusal, if_open, commit_refusal, if_pre_committed}
use Rattle.commit_sink.specs.Sink.{Sinking}
use Rattle.commit_sink.specs.declared.sink.Pending.{Pending}
use Rattle.commit_sink.specs.declared.transactions.TransactionFault.{TransactionFault}
use Rattle.commit_sink.specs.declared.transactions.TransactionFault.TheVariants.{NoSuchTransaction}
use Rattle.commit_sink.specs.declared.transactions.Progress.TheVariants.{Open, PreCommitted, Committed}
use Rattle.engine_model.specs.Keeps.{SinkIn}
use Rattle.engine_model.proofs.Ledger.Places.{Writes}
use Rattle.engine_model.proofs.Ledger.Shares.{share, open_not_pre, open_not_committed}

-- a pending transaction of a sink is pre-committed, or already committed
abbrev pub PendingIs : Ledger → ℕ → Pending → Type 0
PendingIs l subtask p = (t : Transaction) × (transaction_at l p.transaction ≡ Some t) × (t.subtask ≡ subtask) × ((t.progress ≡ PreCommitted p.checkpoint) ⊎ (t.progress ≡ Committed))

pub first_is : {A : Type 0} (xs : List A) (x : A) → slice_get xs 0 ≡ Some x → xs ≡ x ∷ drop 1 xs
first_is [] x h = absurd (none-some x h)
first_is (y ∷ xs) x h = ap (λ z. z ∷ xs) (same_Some y x h)

pub first_pending : (l : Ledger) (subtask : ℕ) (sink : Sinking) (p : Pending) → SinkIn l subtask sink → slice_get sink.pending 0 ≡ Some p → PendingIs l subtask p
first_pending l subtask sink p s h =
    All-head (PendingIs l subtask) p (drop 1 sink.pending) (All-same (PendingIs l subtask) (p ∷ drop 1 sink.pending) sink.pending (sym (first_is sink.pending p h)) s.pending_are)

-- ---- refusals

pub open_not_refused : (l : Ledger) (subtask : ℕ) (sink : Sinking) → SinkIn l subtask sink → open_refusal l sink.open_one ≡ None
open_not_refused l subtask sink s =
    ap (λ (o : Option Transaction). (let r : Option TransactionFault = elim o [ None ↦ Some NoSuchTransaction | Some t ↦ if_open t.progress ] in r)) s.opened_at ∙ ap if_open s.opened_is

pub commit_not_refused : (l : Ledger) (subtask : ℕ) (sink : Sinking) (p : Pending) → SinkIn l subtask sink → slice_get sink.pending 0 ≡ Some p → commit_refusal l p.transaction ≡ None
commit_not_refused l subtask sink p s h =
    let is = first_pending l subtask sink p s h in
    ap (λ (o : Option Transaction). (let r : Option TransactionFault = elim o [ None ↦ Some NoSuchTransaction | Some t ↦ if_pre_committed t.progress ] in r)) is.1
    ∙ elim is.3 [ inl e ↦ ap if_pre_committed e | inr e ↦ ap if_pre_committed e ]

-- ---- the sinks of other subtasks

module _ (old new : Ledger) (n subtask : ℕ) (t' : Transaction) (writes : Writes old new n t') (mine : (u : Transaction) → transaction_at old n ≡ Some u → u.subtask ≡ subtask) (mine' : t'.subtask ≡ subtask) where
  stays_at : (other k : ℕ) (u : Transaction) → (other ≡ subtask → ⊥) → transaction_at old k ≡ Some u → u.subtask ≡ other → transaction_at new k ≡ Some u
  stays_at other k u apart at of = writes.elsewhere k (λ same. apart (sym of ∙ mine u (ap (transaction_at old) (sym same) ∙ at))) ∙ at

  pub others_keep : (other : ℕ) (sink : Sinking) → (other ≡ subtask → ⊥) → share new other ≡ share old other → SinkIn old other sink → SinkIn new other sink
  others_keep other sink apart same s =
      record {
        opened = s.opened;
        opened_at = stays_at other sink.open_one s.opened apart s.opened_at s.opened_of;
        opened_of = s.opened_of;
        opened_is = s.opened_is;
        newest =
            λ number u above at of.
            elim (cases_eq number n) [
              | inl e ↦ apart (sym of ∙ ap (λ (v : Transaction). v.subtask) (same_Some u t' (sym at ∙ ap (transaction_at new) e ∙ writes.here)) ∙ mine')
              | inr e ↦ s.newest number u above (sym (writes.elsewhere number e) ∙ at) of
            ];
        only_one = subst (λ (x : durable.SinkTransactions (List ℕ)). (one : durable.Transaction (List ℕ)) × (x.open_ones ≡ one ∷ [])) (sym same) s.only_one;
        pending_are =
            All-weaker (PendingIs old other) (PendingIs new other)
            (λ p is. (is.0, stays_at other p.transaction is.0 apart is.1 is.2, is.2, is.3))
            sink.pending s.pending_are;
        last = subst (λ (x : durable.SinkTransactions (List ℕ)). AreLast (map (λ p. p.transaction) sink.pending) x.committed (x.committed ++ transactions_of x.pre_committed)) (sym same) s.last;
      }

-- ---- its own pending ones

-- no pending one is open
pub pending_not_open : (l : Ledger) (subtask n : ℕ) (t : Transaction) (p : Pending) → transaction_at l n ≡ Some t → t.progress ≡ Open → PendingIs l subtask p → p.transaction ≡ n → ⊥
pending_not_open l subtask n t p at is pending same =
    let one : t ≡ pending.0 = same_Some t pending.0 (sym at ∙ ap (transaction_at l) (sym same) ∙ pending.1) in
    let progress : Open ≡ (pending.0).progress = sym is ∙ ap (λ (v : Transaction). v.progress) one in
    elim pending.3 [ inl e ↦ open_not_pre p.checkpoint (progress ∙ e) | inr e ↦ open_not_committed (progress ∙ e) ]

pub pending_stay : (old new : Ledger) (subtask n : ℕ) (t t' : Transaction) (pending : List Pending) → transaction_at old n ≡ Some t → t.progress ≡ Open → Writes old new n t' → All (PendingIs old subtask) pending → All (PendingIs new subtask) pending
pending_stay old new subtask n t t' pending at is writes all =
    All-weaker (PendingIs old subtask) (PendingIs new subtask)
    (λ p q. (q.0, writes.elsewhere p.transaction (pending_not_open old subtask n t p at is q) ∙ q.1, q.2, q.3))
    pending all
