-- A commit on any ledger: it adds to the committed rows, and leaves the other subtasks' shares.
use Rattle.std.proofs.Common.{◌≡◌, ◌⊎◌, ◌+◌, ◌==◌, inl, inr, if◌then◌else◌, All, Option, Some, None, slice_get, length, map, flat_map, ℕ, suc, pred, Bool, false, List, [], ◌∷◌, ◌++◌, refl, sym, ap, ap₂, ◌∙◌, subst, append-nil, arith}
use Rattle.std.proofs.lemmas.Bool.{ne_eqb}
use Rattle.std.proofs.lemmas.Bool.Decides.{eqb_tells}
use Rattle.std.proofs.lemmas.List.{length-map, length-append, nil_from_length}
use Rattle.std.proofs.lemmas.List.Concat.{flat_map-append}
use Rattle.std.proofs.lemmas.List.Elements.{All-head, All-tail}
use Rattle.std.proofs.lemmas.Option.{none-some}
use Rattle.checkpoint_model.specs.Book as book
use Rattle.checkpoint_model.specs.Book.{Entry, numbered, pre_at, open_at, committed_at}
use Rattle.checkpoint_model.specs.Durable as durable
use Rattle.checkpoint_model.specs.Durable.{joined, numbers_of, transactions_of}
use Rattle.commit_sink.specs.Ledger.{Ledger, Transaction, IsOrdered, transaction_at, after_commit, commit_refusal, if_pre_committed}
use Rattle.commit_sink.specs.Sink.{Sinking}
use Rattle.commit_sink.specs.declared.transactions.Progress.{Progress}
use Rattle.commit_sink.specs.declared.transactions.Progress.TheVariants.{Open, PreCommitted, Committed, Aborted}
use Rattle.commit_sink.specs.declared.transactions.TransactionFault.{TransactionFault}
use Rattle.commit_sink.specs.declared.transactions.TransactionFault.TheVariants.{NoSuchTransaction, NotPreCommitted}
use Rattle.dataflow_model.specs.Graph.{Begins}
use Rattle.engine_model.specs.Keeps.{SinkIn}
use Rattle.engine_model.specs.View.{entry_of, book_of}
use Rattle.engine_model.proofs.Ledger.Lists.{numbered_split}
use Rattle.engine_model.proofs.Ledger.Places.{Writes, writes, ordered_at, entry_at, same_at}
use Rattle.engine_model.proofs.Ledger.Shares.{share, InBook, in_book, as_is, pre_found, pre_not_committed}
use Rattle.engine_model.proofs.Ledger.Calls.{committed_one, with_committed, commit_refused, commit_now, commit_stays}
use Rattle.engine_model.proofs.Ledger.Sinks.{others_keep}

-- ---- what may be committed

-- a transaction that may be committed is pre-committed, or is committed already
pub record MayCommit (l : Ledger) (n : ℕ) : Type 0 where
  pub was : Transaction
  pub at : transaction_at l n ≡ Some was
  pub is : (was.progress ≡ Committed) ⊎ ((checkpoint : ℕ) × (was.progress ≡ PreCommitted checkpoint))

by_progress : (p : Progress) → if_pre_committed p ≡ None → (p ≡ Committed) ⊎ ((checkpoint : ℕ) × (p ≡ PreCommitted checkpoint))
by_progress Open e = absurd (none-some NotPreCommitted (sym e))
by_progress (PreCommitted c) e = inr (c, refl)
by_progress Committed e = inl refl
by_progress Aborted e = absurd (none-some NotPreCommitted (sym e))

pub may_commit : (l : Ledger) (n : ℕ) → commit_refusal l n ≡ None → MayCommit l n
may_commit l n may = by (transaction_at l n) refl
  where
    by : (o : Option Transaction) → transaction_at l n ≡ o → MayCommit l n
    by None e =
        let refused : commit_refusal l n ≡ Some NoSuchTransaction = ap (λ (o : Option Transaction). (let r : Option TransactionFault = elim o [ None ↦ Some NoSuchTransaction | Some t ↦ if_pre_committed t.progress ] in r)) e in
        absurd (none-some NoSuchTransaction (sym may ∙ refused))
    by (Some t) e = record { was = t; at = e; is = by_progress t.progress (sym (commit_refused l n t e) ∙ may) }

-- ---- the committed ones

flat_map_same : {A X : Type 0} (f g : A → List X) (xs : List A) → All (λ x. f x ≡ g x) xs → flat_map f xs ≡ flat_map g xs
flat_map_same f g [] all = refl
flat_map_same f g (x ∷ xs) all = ap₂ (λ a b. a ++ b) (All-head (λ y. f y ≡ g y) x xs all) (flat_map_same f g xs (All-tail (λ y. f y ≡ g y) x xs all))

module _ (old : Ledger) (n : ℕ) (t : Transaction) (at : transaction_at old n ≡ Some t) (checkpoint : ℕ) (is : t.progress ≡ PreCommitted checkpoint) (ordered : IsOrdered old) where
  abbrev now : Ledger
  now = with_committed old n t

  wrote : Writes old now n (committed_one t)
  wrote = writes old now n t (committed_one t) at refl

  committed_by : ℕ → Ledger → ℕ → List (durable.Transaction (List ℕ))
  committed_by s l k = committed_at s k (slice_get (book_of l).entries (pred k))

  -- what was committed stays so
  same_committed : (s : ℕ) → All (λ k. committed_by s now k ≡ committed_by s old k) old.committed
  unfolding committed_by
  same_committed s k d within =
      let here = ordered_at old ordered k d within in
      let u = here.0 in
      let apart = λ (e : _ ≡ n). pre_not_committed checkpoint (sym is ∙ ap (λ (v : Transaction). v.progress) (same_at old n t u at (ap (transaction_at old) (sym e) ∙ here.1)) ∙ here.2) in
      ap (committed_at s _) (entry_at now _ u (wrote.elsewhere _ apart ∙ here.1)) ∙ sym (ap (committed_at s _) (entry_at old _ u here.1))

  -- and the one that is committed comes last
  pub commit_share : (s : ℕ) → (share now s).committed ≡ (share old s).committed ++ committed_at s n (Some (entry_of (committed_one t)))
  unfolding committed_by
  commit_share s =
      flat_map-append (committed_by s now) old.committed (n ∷ [])
      ∙ ap₂ (λ (a b : List (durable.Transaction (List ℕ))). a ++ b) (flat_map_same (committed_by s now) (committed_by s old) old.committed (same_committed s))
      (append-nil (committed_by s now n) ∙ ap (committed_at s n) (entry_at now n (committed_one t) wrote.here))

  module _ (other : ℕ) (apart : other ≡ t.subtask → ⊥) where
    off : (t.subtask == other) ≡ false
    off = ne_eqb t.subtask other (λ e. apart (sym e))

    abbrev b : InBook old n t
    b = in_book old n t at

    number : n ≡ 1 + length b.front
    number = let e = b.is_number in omega (arith, e)

    stays : {X : Type 0} (f : ℕ → Entry (List ℕ) → List X) → f n (entry_of (committed_one t)) ≡ [] → f n (entry_of t) ≡ [] → numbered f 1 (book_of now).entries ≡ numbered f 1 (book_of old).entries
    stays f new_none old_none =
        ap (numbered f 1) (b.set (committed_one t)) ∙ numbered_split f 1 n b.front (entry_of (committed_one t)) b.back number
        ∙ ap (λ xs. numbered f 1 b.front ++ (xs ++ numbered f (suc n) b.back)) (new_none ∙ sym old_none)
        ∙ sym (ap (numbered f 1) b.was ∙ numbered_split f 1 n b.front (entry_of t) b.back number)

    pub share_other : share now other ≡ share old other
    share_other =
        let committed : (share now other).committed ≡ (share old other).committed =
        commit_share other ∙ ap (λ (x : Bool). (share old other).committed ++ (if x then as_is n t ∷ [] else [])) off ∙ append-nil (share old other).committed in
        let pre : (share now other).pre_committed ≡ (share old other).pre_committed =
        stays (pre_at other) (ap (λ (x : Bool). if x then book.if_pre_committed book.IsCommitted (as_is n t) else []) off) (ap (λ (x : Bool). if x then book.if_pre_committed (entry_of t).stage (as_is n t) else []) off) in
        let opened : (share now other).open_ones ≡ (share old other).open_ones =
        stays (open_at other) (ap (λ (x : Bool). if x then book.if_open book.IsCommitted (as_is n t) else []) off) (ap (λ (x : Bool). if x then book.if_open (entry_of t).stage (as_is n t) else []) off) in
        λ i. record { committed = committed i; pre_committed = pre i; open_ones = opened i }

-- ---- a commit, on any ledger

-- a sink with nothing pending has nothing pre-committed
pub none_pre : (l : Ledger) (subtask : ℕ) (sink : Sinking) → SinkIn l subtask sink → sink.pending ≡ [] → (share l subtask).pre_committed ≡ []
none_pre l subtask sink s none =
    let committed = (share l subtask).committed in
    let pre = (share l subtask).pre_committed in
    let front = (s.last).0 in
    let more = ((s.last).2).0 in
    let names : numbers_of (committed ++ transactions_of pre) ≡ front ++ [] = (s.last).1 ∙ ap (λ (p : List _). front ++ map (λ q. q.transaction) p) none in
    let all = ap length (names ∙ append-nil front) in
    let all_long = length-map (committed ++ transactions_of pre) (λ (x : durable.Transaction (List ℕ)). x.number) in
    let both = length-append committed (transactions_of pre) in
    let pre_long = length-map pre (λ (p : durable.PreCommitted (List ℕ)). p.transaction) in
    let first = ap length ((s.last).2).1 in
    let first_long = length-map committed (λ (x : durable.Transaction (List ℕ)). x.number) in
    let parts = length-append front more in
    nil_from_length pre (omega (arith, all, all_long, both, pre_long, first, first_long, parts))

pub commit_begins : (old new : Ledger) (n s : ℕ) → IsOrdered old → commit_refusal old n ≡ None → new ≡ after_commit old n → Begins (joined (share old s).committed) (joined (share new s).committed)
commit_begins old new n s ordered may e =
    let m = may_commit old n may in
    elim m.is [
      | inl is ↦ ([], ap (λ (l : Ledger). joined (share l s).committed) (e ∙ commit_stays old n m.was m.at is) ∙ sym (append-nil (joined (share old s).committed)))
      | inr is ↦
          let more = committed_at s n (Some (entry_of (committed_one m.was))) in (
            joined more,
            ap (λ (l : Ledger). joined (share l s).committed) (e ∙ commit_now old n m.was m.at is.0 is.1)
                ∙ ap joined (commit_share old n m.was m.at is.0 is.1 ordered s) ∙ flat_map-append (λ (x : durable.Transaction (List ℕ)). x.records) (share old s).committed more,
          )
    ]

pub commit_keeps_settled : (old new : Ledger) (n other : ℕ) (sink : Sinking) → IsOrdered old → commit_refusal old n ≡ None → new ≡ after_commit old n → sink.pending ≡ [] → SinkIn old other sink → SinkIn new other sink
commit_keeps_settled old new n other sink ordered may e none s =
    let m = may_commit old n may in
    let t = m.was in
    elim m.is [
      | inl is ↦ subst (λ (l : Ledger). SinkIn l other sink) (sym (e ∙ commit_stays old n t m.at is)) s
      | inr is ↦
          subst (λ (l : Ledger). SinkIn l other sink) (sym (e ∙ commit_now old n t m.at is.0 is.1))
          (elim (eqb_tells other t.subtask) [
            | inl mine ↦
                let found = pre_found old other n is.0 t (in_book old n t m.at) (sym mine.1) is.1 in
                absurd (not_empty _ _ _ (sym found ∙ none_pre old other sink s none))
            | inr apart ↦
                others_keep old (with_committed old n t) n t.subtask (committed_one t) (writes old (with_committed old n t) n t (committed_one t) m.at refl)
                (λ u there. ap (λ (v : Transaction). v.subtask) (same_at old n u t there m.at)) refl other sink apart.1 (share_other old n t m.at is.0 is.1 ordered other apart.1) s
          ])
    ]
  where
    not_empty : {X : Type 0} (xs : List X) (x : X) (ys : List X) → xs ++ x ∷ ys ≡ [] → ⊥
    not_empty [] x ys h = absurd cc
    not_empty (y ∷ xs) x ys h = absurd cc
