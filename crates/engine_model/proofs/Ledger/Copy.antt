-- A sink copies: it begins a transaction, then pre-commits the one that was open.
use Rattle.std.proofs.Common.{◌≡◌, ◌⊎◌, ◌<◌, ◌+◌, ◌==◌, inl, inr, if◌then◌else◌, All, Option, Some, None, length, map, ℕ, suc, false, List, [], ◌∷◌, ◌++◌, refl, sym, ap, ap₂, ◌∙◌, subst, append_assoc, arith}
use Rattle.std.proofs.lemmas.Option.{same_Some}
use Rattle.std.proofs.lemmas.Bool.{cases_eq}
use Rattle.std.proofs.lemmas.List.{map-append}
use Rattle.std.proofs.lemmas.List.Elements.{All-push, All-contains, Contains-push, All-weaker}
use Rattle.std.proofs.lemmas.Bool.Decides.{eqb_tells}
use Rattle.checkpoint_model.specs.Book as book
use Rattle.checkpoint_model.specs.Book.{Entry, IsOpen, IsPreCommitted, numbered, pre_at}
use Rattle.checkpoint_model.specs.BookLaws.{OrderFits, OthersStay}
use Rattle.checkpoint_model.specs.Durable as durable
use Rattle.checkpoint_model.specs.Durable.{AreLast, transactions_of, numbers_of, is_on, PreCommits}
use Rattle.checkpoint_model.proofs.Book.{book_calls}
use Rattle.checkpoint_model.proofs.Plain.{if_apart}
use Rattle.checkpoint_model.proofs.Steps.{only_one}
use Rattle.commit_sink.specs.Ledger.{Ledger, Transaction, IsOrdered, transaction_at, begun, pre_committed, with_transaction}
use Rattle.commit_sink.specs.Sink.{Sinking, names_with_open, pre_committed_last}
use Rattle.commit_sink.specs.declared.sink.Pending.{Pending}
use Rattle.commit_sink.specs.declared.transactions.Progress.TheVariants.{PreCommitted}
use Rattle.engine_model.specs.Keeps.{SinkIn}
use Rattle.engine_model.specs.View.{stage_of, entry_of, book_of}
use Rattle.engine_model.proofs.Ledger.Lists.{numbered_none}
use Rattle.engine_model.proofs.Ledger.Places.{Writes, writes, at_within, same_at}
use Rattle.engine_model.proofs.Ledger.Shares.{share, as_is, Stands, in_book, changes, behind, open_found, pre_stand, open_not_pre}
use Rattle.engine_model.proofs.Ledger.Calls.{fresh_one, wrote_fresh, begins_at, begin_keeps_others}
use Rattle.engine_model.proofs.Ledger.Sinks.{PendingIs, others_keep, pending_stay}

-- what the two calls leave: `middle` after the first, `new` after both
pub record Copied (line : List ℕ) (checkpoint subtask : ℕ) (sink : Sinking) (old middle new : Ledger) : Type 0 where
  pub began : share middle subtask ≡ durable.begun (length old.transactions + 1) (share old subtask)
  pub others_began : (other : ℕ) → (other ≡ subtask → ⊥) → share middle other ≡ share old other
  pub call : PreCommits line checkpoint (share middle subtask) (share new subtask)
  pub is_first : call.front ≡ []
  pub others : (other : ℕ) → (other ≡ subtask → ⊥) → share new other ≡ share middle other
  pub names_last : AreLast (names_with_open sink) (share new subtask).committed ((share new subtask).committed ++ transactions_of (share new subtask).pre_committed)
  pub sink_in : SinkIn new subtask (record (pre_committed_last sink checkpoint) { open_one = length old.transactions + 1 })
  pub sinks_began : (other : ℕ) (sink' : Sinking) → (other ≡ subtask → ⊥) → SinkIn old other sink' → SinkIn middle other sink'
  pub other_sinks : (other : ℕ) (sink' : Sinking) → (other ≡ subtask → ⊥) → SinkIn middle other sink' → SinkIn new other sink'

-- of two the one that stands between
one_of_two : {A : Type 0} (x z : A) (front : List A) (y : A) (back : List A) → x ∷ z ∷ [] ≡ front ++ y ∷ back → ((front ≡ []) × (y ≡ x) × (back ≡ z ∷ [])) ⊎ (y ≡ z)
one_of_two x z [] y back e = let same : (x ≡ y) × (z ∷ [] ≡ back) = (cc, cc) in inl (refl, sym same.0, sym same.1)
one_of_two x z (w ∷ front) y back e = let rest : z ∷ [] ≡ front ++ y ∷ back = cc in inr ((only_one z front y back rest).1)

pub last_of_all : {A : Type 0} (P : A → Type 0) (xs : List A) (x : A) → All P (xs ++ x ∷ []) → P x
last_of_all P xs x all = All-contains P (xs ++ x ∷ []) x all (Contains-push xs x)

-- an open entry is not among the pre-committed ones
pre_none_open : (subtask m : ℕ) (e : Entry (List ℕ)) → e.stage ≡ IsOpen → pre_at subtask m e ≡ []
pre_none_open subtask m e is =
    ap (λ g. if e.sink == subtask then book.if_pre_committed g (record { number = m; records = e.records }) else []) is
    ∙ elim (eqb_tells e.sink subtask) [ inl h ↦ ap (λ b. if b then [] else []) h.0 | inr h ↦ ap (λ b. if b then [] else []) h.0 ]

-- one more is pre-committed
last_push : (names : List ℕ) (committed : List (durable.Transaction (List ℕ))) (pre : List (durable.PreCommitted (List ℕ))) (x : durable.PreCommitted (List ℕ)) → AreLast names committed (committed ++ transactions_of pre) → AreLast (names ++ (x.transaction).number ∷ []) committed (committed ++ transactions_of (pre ++ x ∷ []))
last_push names committed pre x a = (
  a.0,
  ap (λ l. numbers_of (committed ++ l)) (map-append (λ (p : durable.PreCommitted (List ℕ)). p.transaction) pre (x ∷ []))
      ∙ ap numbers_of (sym (append_assoc committed (transactions_of pre) (x.transaction ∷ [])))
      ∙ map-append (λ (t : durable.Transaction (List ℕ)). t.number) (committed ++ transactions_of pre) (x.transaction ∷ [])
      ∙ ap (λ l. l ++ (x.transaction).number ∷ []) a.1
      ∙ append_assoc a.0 names ((x.transaction).number ∷ []),
  a.2,
)

module _ (old : Ledger) (subtask : ℕ) (sink : Sinking) (checkpoint : ℕ) (line : List ℕ) (ordered : IsOrdered old) (s : SinkIn old subtask sink) (off : is_on line checkpoint ≡ false) where
  abbrev next : ℕ
  next = suc (length old.transactions)

  abbrev fresh : Transaction
  fresh = fresh_one subtask

  abbrev middle : Ledger
  middle = begun old subtask

  -- ---- the begin

  began_fresh : Writes old middle next fresh
  began_fresh = wrote_fresh old subtask

  begins : (share middle subtask ≡ durable.begun next (share old subtask)) × OthersStay subtask (book_of old) (book_of middle) × OrderFits (book_of middle)
  begins = begins_at old subtask ordered

  opened_below : sink.open_one < next
  opened_below = at_within old sink.open_one s.opened s.opened_at

  opened_middle : transaction_at middle sink.open_one ≡ Some s.opened
  opened_middle = began_fresh.elsewhere sink.open_one (λ e. let below = opened_below in omega (arith, e, below)) ∙ s.opened_at

  -- ---- the pre-commit

  abbrev closed : Transaction
  closed = record { subtask = (s.opened).subtask; progress = PreCommitted checkpoint; records = (s.opened).records }

  abbrev now : Ledger
  now = with_transaction middle sink.open_one closed

  is_now : pre_committed middle sink.open_one checkpoint ≡ now
  is_now = ap (λ (o : Option Transaction). (let l : Ledger = elim o [ None ↦ middle | Some t ↦ with_transaction middle sink.open_one (record t { progress = PreCommitted checkpoint }) ] in l)) opened_middle

  wrote : Writes middle now sink.open_one closed
  wrote = writes middle now sink.open_one s.opened closed opened_middle refl

  -- no transaction of the subtask behind it is pre-committed
  none_behind : numbered (pre_at (s.opened).subtask) (suc sink.open_one) (in_book middle sink.open_one s.opened opened_middle).back ≡ []
  none_behind =
      let b = in_book middle sink.open_one s.opened opened_middle in
      numbered_none (pre_at (s.opened).subtask) (suc sink.open_one) b.back
      (λ k m e q at.
      let u = behind middle sink.open_one s.opened b k m e q at in
      elim (cases_eq m next) [
        | inl same ↦ pre_none_open (s.opened).subtask m e (ap (λ (x : Entry (List ℕ)). x.stage) (sym u.2) ∙ ap (λ (v : Transaction). stage_of v.progress) (same_Some u.0 fresh (sym u.1 ∙ ap (transaction_at middle) same ∙ began_fresh.here)))
        | inr apart ↦
            let there : transaction_at old m ≡ Some u.0 = sym (began_fresh.elsewhere m apart) ∙ u.1 in
            let above : sink.open_one < m = omega (arith, q) in
            if_apart e.sink (s.opened).subtask _ _ (λ of. s.newest m u.0 above there (ap (λ (x : Entry (List ℕ)). x.sink) u.2 ∙ of ∙ s.opened_of))
      ])

  pre_commits : PreCommits line checkpoint (share middle subtask) (share now subtask) × OthersStay subtask (book_of middle) (book_of now)
  pre_commits =
      let b = in_book middle sink.open_one s.opened opened_middle in
      let change = changes middle now sink.open_one s.opened closed b refl in
      let began = begins in
      let called = (book_calls (book_of middle) (book_of now) began.2).pre_commit sink.open_one checkpoint line (entry_of s.opened) b.front b.back (ap stage_of s.opened_is) off none_behind change in
      subst (λ k. PreCommits line checkpoint (share middle k) (share now k) × OthersStay k (book_of middle) (book_of now)) s.opened_of (called.0, called.1)

  -- the one that was open
  one_is : (share old subtask).open_ones ≡ as_is sink.open_one s.opened ∷ []
  one_is =
      let b = in_book old sink.open_one s.opened s.opened_at in
      let one = s.only_one in
      let found = open_found old subtask sink.open_one s.opened b s.opened_of s.opened_is in
      one.1 ∙ ap (λ x. x ∷ []) (sym ((only_one one.0 _ (as_is sink.open_one s.opened) _ (sym one.1 ∙ found)).1))

  fresh_now : transaction_at now next ≡ Some fresh
  fresh_now = wrote.elsewhere next (λ e. let below = opened_below in omega (arith, e, below)) ∙ began_fresh.here

  split : (a : PreCommits line checkpoint (share middle subtask) (share now subtask)) → (a.front ≡ []) × (a.changed ≡ as_is sink.open_one s.opened) × (a.back ≡ as_is next fresh ∷ [])
  split a =
      let began = begins in
      let two : as_is sink.open_one s.opened ∷ as_is next fresh ∷ [] ≡ a.front ++ a.changed ∷ a.back =
      sym (ap (λ (x : durable.SinkTransactions (List ℕ)). x.open_ones) began.0 ∙ ap (λ l. l ++ as_is next fresh ∷ []) one_is) ∙ a.was in
      elim (one_of_two _ _ a.front a.changed a.back two) [
        | inl e ↦ e
        | inr e ↦
            let P : durable.PreCommitted (List ℕ) → Type 0 = λ p. Stands now subtask (PreCommitted p.checkpoint) p.transaction.number in
            let x : durable.PreCommitted (List ℕ) = record { transaction = a.changed; checkpoint = checkpoint } in
            let stands = last_of_all P (share middle subtask).pre_committed x (subst (λ (y : durable.SinkTransactions (List ℕ)). All P y.pre_committed) a.ends (pre_stand now subtask)) in
            let there : transaction_at now next ≡ Some stands.0 = ap (λ (y : durable.Transaction (List ℕ)). transaction_at now y.number) (sym e) ∙ stands.1 in
            absurd (open_not_pre checkpoint (ap (λ (v : Transaction). v.progress) (same_at now next fresh stands.0 fresh_now there) ∙ stands.3))
      ]

  -- ---- what is left

  share_now : (a : PreCommits line checkpoint (share middle subtask) (share now subtask)) → (share now subtask).committed ≡ (share old subtask).committed
  share_now a =
      let began = begins in
      ap (λ (y : durable.SinkTransactions (List ℕ)). y.committed) a.ends ∙ ap (λ (y : durable.SinkTransactions (List ℕ)). y.committed) began.0

  pre_now : (a : PreCommits line checkpoint (share middle subtask) (share now subtask)) → (share now subtask).pre_committed ≡ (share old subtask).pre_committed ++ record { transaction = a.changed; checkpoint = checkpoint } ∷ []
  pre_now a =
      let began = begins in
      ap (λ (y : durable.SinkTransactions (List ℕ)). y.pre_committed) a.ends ∙ ap (λ (y : durable.SinkTransactions (List ℕ)). y.pre_committed ++ record { transaction = a.changed; checkpoint = checkpoint } ∷ []) began.0

  names_now : (a : PreCommits line checkpoint (share middle subtask) (share now subtask)) → AreLast (names_with_open sink) (share now subtask).committed ((share now subtask).committed ++ transactions_of (share now subtask).pre_committed)
  names_now a =
      let names : List ℕ = map (λ (p : Pending). p.transaction) sink.pending in
      let x : durable.PreCommitted (List ℕ) = record { transaction = a.changed; checkpoint = checkpoint } in
      let number : (x.transaction).number ≡ sink.open_one = ap (λ (y : durable.Transaction (List ℕ)). y.number) (split a).1 in
      let more = last_push names (share old subtask).committed (share old subtask).pre_committed x s.last in
      let named = subst (λ n. AreLast (names ++ n ∷ []) (share old subtask).committed ((share old subtask).committed ++ transactions_of ((share old subtask).pre_committed ++ x ∷ []))) number more in
      let at_pre = subst (λ pre. AreLast (names ++ sink.open_one ∷ []) (share old subtask).committed ((share old subtask).committed ++ transactions_of pre)) (sym (pre_now a)) named in
      subst (λ committed. AreLast (names ++ sink.open_one ∷ []) committed (committed ++ transactions_of (share now subtask).pre_committed)) (sym (share_now a)) at_pre

  abbrev last_one : Pending
  last_one = record { transaction = sink.open_one; checkpoint = checkpoint }

  pending_now : All (PendingIs now subtask) (sink.pending ++ last_one ∷ [])
  pending_now =
      let kept : All (PendingIs middle subtask) sink.pending =
      All-weaker (PendingIs old subtask) (PendingIs middle subtask)
      (λ p q. let below = at_within old p.transaction q.0 q.1 in (q.0, began_fresh.elsewhere p.transaction (λ e. omega (arith, e, below)) ∙ q.1, q.2, q.3))
      sink.pending s.pending_are in
      All-push (PendingIs now subtask) sink.pending last_one
      (pending_stay middle now subtask sink.open_one s.opened closed sink.pending opened_middle s.opened_is wrote kept)
      (closed, wrote.here, s.opened_of, inl refl)

  none_above : (number : ℕ) (u : Transaction) → length old.transactions + 1 < number → transaction_at now number ≡ Some u → ⊥
  none_above number u above at =
      let below = opened_below in
      let there : transaction_at old number ≡ Some u =
      sym (began_fresh.elsewhere number (λ e. omega (arith, e, above))) ∙ sym (wrote.elsewhere number (λ e. omega (arith, e, above, below))) ∙ at in
      let within = at_within old number u there in
      omega (arith, within, above)

  sink_now : PreCommits line checkpoint (share middle subtask) (share now subtask) → SinkIn now subtask (record (pre_committed_last sink checkpoint) { open_one = length old.transactions + 1 })
  sink_now a =
      let plus : length old.transactions + 1 ≡ next = omega arith in
      let parts = split a in
      record {
        opened = fresh;
        opened_at = ap (transaction_at now) plus ∙ fresh_now;
        opened_of = refl;
        opened_is = refl;
        newest = λ number u above at of. none_above number u above at;
        only_one = (as_is next fresh, ap (λ (y : durable.SinkTransactions (List ℕ)). y.open_ones) a.ends ∙ ap₂ (λ l m. l ++ m) parts.0 parts.2);
        pending_are = pending_now;
        last =
            subst (λ names. AreLast names (share now subtask).committed ((share now subtask).committed ++ transactions_of (share now subtask).pre_committed))
            (sym (map-append (λ (p : Pending). p.transaction) sink.pending (last_one ∷ []))) (names_now a);
      }

  mine_closed : (u : Transaction) → transaction_at middle sink.open_one ≡ Some u → u.subtask ≡ subtask
  mine_closed u at = ap (λ (v : Transaction). v.subtask) (same_at middle sink.open_one u s.opened at opened_middle) ∙ s.opened_of

  in_now : Copied line checkpoint subtask sink old middle now
  in_now =
      let plus : next ≡ length old.transactions + 1 = omega arith in
      let began = begins in
      let called = pre_commits in
      record {
        began = began.0 ∙ ap (λ n. durable.begun n (share old subtask)) plus;
        others_began = began.1;
        call = called.0;
        is_first = (split called.0).0;
        others = called.1;
        names_last = names_now called.0;
        sink_in = sink_now called.0;
        sinks_began = λ other sink' apart s'. begin_keeps_others old subtask other sink' apart (began.1 other apart) s';
        other_sinks = λ other sink' apart s'. others_keep middle now sink.open_one subtask closed wrote mine_closed s.opened_of other sink' apart (called.1 other apart) s';
      }

pub copy_in : (old middle new : Ledger) (subtask : ℕ) (sink : Sinking) (checkpoint : ℕ) (line : List ℕ) → IsOrdered old → SinkIn old subtask sink → is_on line checkpoint ≡ false → middle ≡ begun old subtask → new ≡ pre_committed middle sink.open_one checkpoint → Copied line checkpoint subtask sink old middle new
copy_in old between new subtask sink checkpoint line ordered s off e f =
    let began : Ledger = begun old subtask in
    let is : new ≡ now old subtask sink checkpoint line ordered s off =
    f ∙ ap (λ l. pre_committed l sink.open_one checkpoint) e ∙ is_now old subtask sink checkpoint line ordered s off in
    subst (λ l. Copied line checkpoint subtask sink old l new) (sym e)
    (subst (λ l. Copied line checkpoint subtask sink old began l) (sym is) (in_now old subtask sink checkpoint line ordered s off))
