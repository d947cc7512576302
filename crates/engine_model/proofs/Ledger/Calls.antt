-- The calls that settle a transaction, written out, and what each does to its subtask's share.
use Rattle.std.proofs.Common.{◌≡◌, Option, Some, None, filter, length, map, ℕ, suc, true, false, List, [], ◌∷◌, ◌++◌, refl, sym, ap, ◌∙◌, subst, arith}
use Rattle.std.proofs.lemmas.List.{map-append, length-map}
use Rattle.checkpoint_model.specs.Book as book
use Rattle.checkpoint_model.specs.Book.{Entry, IsOpen, numbered, pre_at}
use Rattle.checkpoint_model.specs.BookLaws.{OrderFits, OthersStay}
use Rattle.checkpoint_model.specs.Durable as durable
use Rattle.checkpoint_model.specs.Durable.{is_on, Commits, AbortsOpen, AbortsPreCommitted}
use Rattle.checkpoint_model.proofs.Book.{book_calls}
use Rattle.commit_sink.specs.Ledger.{Ledger, Transaction, IsOrdered, transaction_at, begun, after_commit, aborted, abort_refusal, if_not_committed, commit_refusal, if_pre_committed, with_transaction}
use Rattle.commit_sink.specs.declared.transactions.TransactionFault.{TransactionFault}
use Rattle.commit_sink.specs.declared.transactions.TransactionFault.TheVariants.{NoSuchTransaction}
use Rattle.commit_sink.specs.declared.transactions.Progress.{Progress}
use Rattle.commit_sink.specs.declared.transactions.Progress.TheVariants.{Open, PreCommitted, Committed, Aborted}
use Rattle.commit_sink.specs.Sink.{Sinking}
use Rattle.engine_model.specs.Keeps.{SinkIn}
use Rattle.engine_model.specs.View.{stage_of, entry_of, book_of}
use Rattle.engine_model.proofs.Ledger.Places.{Writes, puts, order_fits, at_within}
use Rattle.engine_model.proofs.Ledger.Shares.{share, in_book, changes}
use Rattle.engine_model.proofs.Ledger.Sinks.{others_keep}

abbrev pub committed_one : Transaction → Transaction
committed_one u = record { subtask = u.subtask; progress = Committed; records = u.records }

abbrev pub aborted_one : Transaction → Transaction
aborted_one u = record { subtask = u.subtask; progress = Aborted; records = [] }

abbrev pub with_committed : Ledger → ℕ → Transaction → Ledger
with_committed l n u = record (with_transaction l n (committed_one u)) { committed = l.committed ++ n ∷ [] }

module _ (old : Ledger) (n : ℕ) (u : Transaction) (at : transaction_at old n ≡ Some u) where
  pub commit_refused : commit_refusal old n ≡ if_pre_committed u.progress
  commit_refused = ap (λ (o : Option Transaction). (let r : Option TransactionFault = elim o [ None ↦ Some NoSuchTransaction | Some t ↦ if_pre_committed t.progress ] in r)) at

  pub abort_refused : abort_refusal old n ≡ if_not_committed u.progress
  abort_refused = ap (λ (o : Option Transaction). (let r : Option TransactionFault = elim o [ None ↦ Some NoSuchTransaction | Some t ↦ if_not_committed t.progress ] in r)) at

  abbrev after : Progress → Ledger
  after p = elim p [
    | Open ↦ old
    | PreCommitted checkpoint ↦ record (with_transaction old n (record u { progress = Committed })) { committed = old.committed ++ n ∷ [] }
    | Committed ↦ old
    | Aborted ↦ old
  ]

  commits_by : after_commit old n ≡ after u.progress
  commits_by =
      ap (λ (o : Option Transaction). (let l : Ledger = elim o [
        | None ↦ old
        | Some t ↦ elim t.progress [
          | Open ↦ old
          | PreCommitted checkpoint ↦ record (with_transaction old n (record t { progress = Committed })) { committed = old.committed ++ n ∷ [] }
          | Committed ↦ old
          | Aborted ↦ old
        ]
      ] in l)) at

  pub commit_stays : u.progress ≡ Committed → after_commit old n ≡ old
  commit_stays is = commits_by ∙ ap after is

  pub commit_now : (checkpoint : ℕ) → u.progress ≡ PreCommitted checkpoint → after_commit old n ≡ with_committed old n u
  commit_now checkpoint is = commits_by ∙ ap after is

  pub abort_now : aborted old n ≡ with_transaction old n (aborted_one u)
  abort_now = ap (λ (o : Option Transaction). (let l : Ledger = elim o [ None ↦ old | Some t ↦ with_transaction old n (record t { progress = Aborted; records = [] }) ] in l)) at

  module _ (subtask : ℕ) (ordered : IsOrdered old) (of : u.subtask ≡ subtask) where
    -- the oldest one of a complete checkpoint is committed
    pub commits_at : (checkpoint : ℕ) (line : List ℕ) → u.progress ≡ PreCommitted checkpoint → is_on line checkpoint ≡ true → filter (λ q. is_on line q.checkpoint) (numbered (pre_at subtask) 1 (in_book old n u at).front) ≡ []
        → Commits line (share old subtask) (share (with_committed old n u) subtask) × OthersStay subtask (book_of old) (book_of (with_committed old n u))
    commits_at checkpoint line is on none =
        let now : Ledger = with_committed old n u in
        let b = in_book old n u at in
        let none' = subst (λ k. filter (λ q. is_on line q.checkpoint) (numbered (pre_at k) 1 b.front) ≡ []) (sym of) none in
        let called = (book_calls (book_of old) (book_of now) (order_fits old ordered)).commit n checkpoint line (entry_of u) b.front b.back (ap stage_of is) on none' (changes old now n u (committed_one u) b refl) in
        subst (λ k. Commits line (share old k) (share now k) × OthersStay k (book_of old) (book_of now)) of (called.0, called.1)

    abbrev gone : Ledger
    gone = with_transaction old n (aborted_one u)

    pub aborts_open_at : u.progress ≡ Open → AbortsOpen (share old subtask) (share gone subtask) × OthersStay subtask (book_of old) (book_of gone)
    aborts_open_at is =
        let b = in_book old n u at in
        let called = (book_calls (book_of old) (book_of gone) (order_fits old ordered)).abort_open n (entry_of u) b.front b.back (ap stage_of is) (changes old gone n u (aborted_one u) b refl) in
        subst (λ k. AbortsOpen (share old k) (share gone k) × OthersStay k (book_of old) (book_of gone)) of (called.0, called.1)

    pub aborts_pre_at : (checkpoint : ℕ) (line : List ℕ) → u.progress ≡ PreCommitted checkpoint → is_on line checkpoint ≡ false → AbortsPreCommitted line (share old subtask) (share gone subtask) × OthersStay subtask (book_of old) (book_of gone)
    aborts_pre_at checkpoint line is off =
        let b = in_book old n u at in
        let called = (book_calls (book_of old) (book_of gone) (order_fits old ordered)).abort_pre_committed n checkpoint line (entry_of u) b.front b.back (ap stage_of is) off (changes old gone n u (aborted_one u) b refl) in
        subst (λ k. AbortsPreCommitted line (share old k) (share gone k) × OthersStay k (book_of old) (book_of gone)) of (called.0, called.1)

-- ---- a begin

abbrev pub fresh_one : ℕ → Transaction
fresh_one subtask = record { subtask = subtask; progress = Open; records = [] }

module _ (old : Ledger) (subtask : ℕ) where
  pub wrote_fresh : Writes old (begun old subtask) (suc (length old.transactions)) (fresh_one subtask)
  wrote_fresh = puts old (begun old subtask) (fresh_one subtask) refl

  pub begins_at : IsOrdered old → (share (begun old subtask) subtask ≡ durable.begun (suc (length old.transactions)) (share old subtask)) × OthersStay subtask (book_of old) (book_of (begun old subtask)) × OrderFits (book_of (begun old subtask))
  begins_at ordered =
      let now : Ledger = begun old subtask in
      let y : Entry (List ℕ) = record { sink = subtask; stage = IsOpen; records = [] } in
      let e : book_of now ≡ record { entries = map entry_of old.transactions ++ y ∷ []; order = old.committed } =
      ap (λ es. (let x : book.Book (List ℕ) = record { entries = es; order = old.committed } in x)) (map-append entry_of old.transactions (fresh_one subtask ∷ [])) in
      subst (λ n. (share now subtask ≡ durable.begun (suc n) (share old subtask)) × OthersStay subtask (book_of old) (book_of now) × OrderFits (book_of now)) (length-map old.transactions entry_of)
      ((book_calls (book_of old) (book_of now) (order_fits old ordered)).begin subtask e)

  pub begin_keeps_others : (other : ℕ) (sink : Sinking) → (other ≡ subtask → ⊥) → share (begun old subtask) other ≡ share old other → SinkIn old other sink → SinkIn (begun old subtask) other sink
  begin_keeps_others other sink apart same s =
      others_keep old (begun old subtask) (suc (length old.transactions)) subtask (fresh_one subtask) wrote_fresh
      (λ u at. let within = at_within old (suc (length old.transactions)) u at in absurd (omega (arith, within)))
      refl other sink apart same s
