-- A sink commits the oldest transaction that it has pending.
use Rattle.std.proofs.Common.{◌≡◌, ◌⊎◌, ◌<◌, ◌+◌, inl, inr, All, Some, slice_get, drop, filter, length, map, ℕ, suc, true, List, [], ◌∷◌, ◌++◌, refl, sym, ap, ap₂, ◌∙◌, subst, append_assoc, append-nil, arith}
use Rattle.std.proofs.lemmas.Bool.{cases_eq}
use Rattle.std.proofs.lemmas.List.{map-append, length-append, append_cancel_left}
use Rattle.std.proofs.lemmas.List.Elements.{All-head, All-tail, All-weaker, All-drop}
use Rattle.dataflow_model.specs.Graph.{Begins}
use Rattle.checkpoint_model.specs.Book.{numbered, pre_at}
use Rattle.checkpoint_model.specs.BookLaws.{OthersStay}
use Rattle.checkpoint_model.specs.Durable as durable
use Rattle.checkpoint_model.specs.Durable.{AreLast, transactions_of, numbers_of, is_on, Commits}
use Rattle.checkpoint_model.proofs.Settled.{filter_yes}
use Rattle.commit_sink.specs.Ledger.{Ledger, Transaction, IsOrdered, transaction_at, after_commit}
use Rattle.commit_sink.specs.Sink.{Sinking}
use Rattle.commit_sink.specs.declared.sink.Pending.{Pending}
use Rattle.commit_sink.specs.declared.transactions.Progress.TheVariants.{PreCommitted, Committed}
use Rattle.engine_model.specs.Keeps.{SinkIn}
use Rattle.engine_model.specs.View.{book_of}
use Rattle.engine_model.proofs.Ledger.Places.{Writes, writes, same_at}
use Rattle.engine_model.proofs.Ledger.Shares.{share, as_is, as_pre, Stands, in_book, pre_found, pre_below, pre_stand, committed_stand, pre_not_committed}
use Rattle.engine_model.proofs.Ledger.Calls.{committed_one, with_committed, commit_now, commit_stays, commits_at}
use Rattle.engine_model.proofs.Ledger.Sinks.{PendingIs, first_is, first_pending, others_keep, pending_not_open}

pub record CommitsFirst (line : List ℕ) (subtask : ℕ) (sink : Sinking) (old new : Ledger) : Type 0 where
  pub call : (new ≡ old) ⊎ ((c : Commits line (share old subtask) (share new subtask)) × (c.front ≡ []))
  pub others : (other : ℕ) → (other ≡ subtask → ⊥) → share new other ≡ share old other
  -- once it is known to be committed, and if the call was answered as failed
  pub sink_in : SinkIn new subtask (record sink { pending = drop 1 sink.pending })
  pub sink_still : SinkIn new subtask sink
  pub other_sinks : (other : ℕ) (sink' : Sinking) → (other ≡ subtask → ⊥) → SinkIn old other sink' → SinkIn new other sink'

-- ---- lists

-- an element with this number
pub element_at : {A : Type 0} (f : A → ℕ) (Q : A → Type 0) (xs : List A) (front : List ℕ) (n : ℕ) (back : List ℕ) → map f xs ≡ front ++ n ∷ back → All Q xs → (x : A) × (f x ≡ n) × Q x
element_at f Q [] front n back e all = absurd (omega (arith, ap length e, length-append front (n ∷ back)))
element_at f Q (x ∷ xs) [] n back e all = let same : f x ≡ n = cc in (x, same, All-head Q x xs all)
element_at f Q (x ∷ xs) (m ∷ front) n back e all = let rest : map f xs ≡ front ++ n ∷ back = cc in element_at f Q xs front n back rest (All-tail Q x xs all)

-- The first of the last ones is committed already, or all that is committed stands before it.
first_of_last : (front names committed pre : List ℕ) (n : ℕ) → committed ++ pre ≡ front ++ n ∷ names → Begins front committed → ((committed ≡ front) × (pre ≡ n ∷ names)) ⊎ Begins (front ++ n ∷ []) committed
first_of_last front names committed pre n e ([], begins) =
    let is : committed ≡ front = begins ∙ append-nil front in
    inl (is, append_cancel_left front pre (n ∷ names) (ap (λ l. l ++ pre) (sym is) ∙ e))
first_of_last front names committed pre n e (m ∷ more, begins) =
    let all : m ∷ (more ++ pre) ≡ n ∷ names = append_cancel_left front (m ∷ (more ++ pre)) (n ∷ names) (sym (append_assoc front (m ∷ more) pre) ∙ ap (λ l. l ++ pre) (sym begins) ∙ e) in
    let same : m ≡ n = cc in
    inr (more, begins ∙ ap (λ k. front ++ k ∷ more) same ∙ sym (append_assoc front (n ∷ []) more))

pub numbers_pre : (pre : List (durable.PreCommitted (List ℕ))) → numbers_of (transactions_of pre) ≡ map (λ p. (p.transaction).number) pre
numbers_pre [] = refl
numbers_pre (p ∷ pre) = ap (λ l. (p.transaction).number ∷ l) (numbers_pre pre)

-- what stands before the first has lower numbers, so nothing does
none_before : (front : List (durable.PreCommitted (List ℕ))) (x : durable.PreCommitted (List ℕ)) (back : List (durable.PreCommitted (List ℕ))) (n : ℕ) (names : List ℕ) → All (λ p. (p.transaction).number < n) front → map (λ p. (p.transaction).number) (front ++ x ∷ back) ≡ n ∷ names → front ≡ []
none_before [] x back n names below e = refl
none_before (y ∷ front) x back n names below e =
    let less = All-head (λ (p : durable.PreCommitted (List ℕ)). (p.transaction).number < n) y front below in
    let same : (y.transaction).number ≡ n = cc in
    absurd (omega (arith, less, same))

-- the oldest of a complete checkpoint is the first, if that is of one
oldest_first : (line : List ℕ) (x : durable.PreCommitted (List ℕ)) (rest front : List (durable.PreCommitted (List ℕ))) (y : durable.PreCommitted (List ℕ)) (back : List (durable.PreCommitted (List ℕ))) → is_on line x.checkpoint ≡ true → x ∷ rest ≡ front ++ y ∷ back → filter (λ p. is_on line p.checkpoint) front ≡ [] → (front ≡ []) × (y ≡ x) × (back ≡ rest)
oldest_first line x rest [] y back on e none = let same : (x ≡ y) × (rest ≡ back) = (cc, cc) in (refl, sym same.0, sym same.1)
oldest_first line x rest (z ∷ front) y back on e none =
    let same : x ≡ z = cc in
    let there = sym (filter_yes (λ (p : durable.PreCommitted (List ℕ)). is_on line p.checkpoint) z front (ap (λ (p : durable.PreCommitted (List ℕ)). is_on line p.checkpoint) (sym same) ∙ on)) ∙ none in
    absurd (omega (arith, ap length there))

module _ (old : Ledger) (subtask : ℕ) (sink : Sinking) (p : Pending) (line : List ℕ) (ordered : IsOrdered old) (s : SinkIn old subtask sink) (first : slice_get sink.pending 0 ≡ Some p) where
  abbrev rest : List ℕ
  rest = map (λ (q : Pending). q.transaction) (drop 1 sink.pending)

  names_are : map (λ (q : Pending). q.transaction) sink.pending ≡ p.transaction ∷ rest
  names_are = ap (map (λ (q : Pending). q.transaction)) (first_is sink.pending p first)

  abbrev all : List (durable.Transaction (List ℕ))
  all = (share old subtask).committed ++ transactions_of (share old subtask).pre_committed

  lasts : AreLast (p.transaction ∷ rest) (share old subtask).committed all
  lasts = subst (λ names. AreLast names (share old subtask).committed all) names_are s.last

  -- it stands first of those that are not committed, or is among those that are
  cases : ((numbers_of (share old subtask).committed ≡ lasts.0) × (map (λ q. (q.transaction).number) (share old subtask).pre_committed ≡ p.transaction ∷ rest)) ⊎ Begins (lasts.0 ++ p.transaction ∷ []) (numbers_of (share old subtask).committed)
  cases =
      elim (first_of_last lasts.0 rest (numbers_of (share old subtask).committed) (numbers_of (transactions_of (share old subtask).pre_committed)) p.transaction
      (sym (map-append (λ (x : durable.Transaction (List ℕ)). x.number) (share old subtask).committed (transactions_of (share old subtask).pre_committed)) ∙ lasts.1) lasts.2) [
        | inl e ↦ inl (e.0, sym (numbers_pre (share old subtask).pre_committed) ∙ e.1)
        | inr e ↦ inr e
      ]

  -- ---- it is committed already
  module _ (u : Transaction) (at : transaction_at old p.transaction ≡ Some u) (of : u.subtask ≡ subtask) (is : u.progress ≡ Committed) where
    begins_more : Begins (lasts.0 ++ p.transaction ∷ []) (numbers_of (share old subtask).committed)
    begins_more =
        elim cases [
          | inl e ↦
              let P : durable.PreCommitted (List ℕ) → Type 0 = λ q. Stands old subtask (PreCommitted q.checkpoint) q.transaction.number in
              let x = element_at (λ (q : durable.PreCommitted (List ℕ)). (q.transaction).number) P (share old subtask).pre_committed [] p.transaction rest e.1 (pre_stand old subtask) in
              let same : u ≡ (x.2).0 = same_at old p.transaction u (x.2).0 at (ap (transaction_at old) (sym x.1) ∙ (x.2).1) in
              absurd (pre_not_committed (x.0).checkpoint (sym (x.2).3 ∙ ap (λ (v : Transaction). v.progress) (sym same) ∙ is))
          | inr e ↦ e
        ]

    dropped : SinkIn old subtask (record sink { pending = drop 1 sink.pending })
    dropped =
        record {
          opened = s.opened;
          opened_at = s.opened_at;
          opened_of = s.opened_of;
          opened_is = s.opened_is;
          newest = s.newest;
          only_one = s.only_one;
          pending_are = All-drop (PendingIs old subtask) 1 sink.pending s.pending_are;
          last = (lasts.0 ++ p.transaction ∷ [], lasts.1 ∙ sym (append_assoc lasts.0 (p.transaction ∷ []) rest), begins_more);
        }

    committed_already : CommitsFirst line subtask sink old old
    committed_already =
        record {
          call = inl refl;
          others = λ other apart. refl;
          sink_in = dropped;
          sink_still = s;
          other_sinks = λ other sink' apart s'. s';
        }

  -- ---- it is committed now
  module _ (u : Transaction) (at : transaction_at old p.transaction ≡ Some u) (of : u.subtask ≡ subtask) (is : u.progress ≡ PreCommitted p.checkpoint) (on : is_on line p.checkpoint ≡ true) where
    abbrev closed : Transaction
    closed = committed_one u

    abbrev now : Ledger
    now = with_committed old p.transaction u

    wrote : Writes old now p.transaction closed
    wrote = writes old now p.transaction u closed at refl

    first_ones : (numbers_of (share old subtask).committed ≡ lasts.0) × (map (λ q. (q.transaction).number) (share old subtask).pre_committed ≡ p.transaction ∷ rest)
    first_ones =
        elim cases [
          | inl e ↦ e
          | inr e ↦
              let P : durable.Transaction (List ℕ) → Type 0 = λ x. Stands old subtask Committed x.number in
              let x = element_at (λ (y : durable.Transaction (List ℕ)). y.number) P (share old subtask).committed lasts.0 p.transaction e.0
              (e.1 ∙ append_assoc lasts.0 (p.transaction ∷ []) e.0) (committed_stand old subtask ordered) in
              let same : u ≡ (x.2).0 = same_at old p.transaction u (x.2).0 at (ap (transaction_at old) (sym x.1) ∙ (x.2).1) in
              absurd (pre_not_committed p.checkpoint (sym is ∙ ap (λ (v : Transaction). v.progress) same ∙ (x.2).3))
        ]

    abbrev before : List (durable.PreCommitted (List ℕ))
    before = numbered (pre_at subtask) 1 (in_book old p.transaction u at).front

    abbrev after : List (durable.PreCommitted (List ℕ))
    after = numbered (pre_at subtask) (suc p.transaction) (in_book old p.transaction u at).back

    abbrev this : durable.PreCommitted (List ℕ)
    this = as_pre p.transaction u p.checkpoint

    pre_is : (share old subtask).pre_committed ≡ before ++ this ∷ after
    pre_is = pre_found old subtask p.transaction p.checkpoint u (in_book old p.transaction u at) of is

    nothing_before : before ≡ []
    nothing_before =
        let b = in_book old p.transaction u at in
        let number = b.is_number in
        let below : All (λ (q : durable.PreCommitted (List ℕ)). (q.transaction).number < p.transaction) before =
        All-weaker (λ (q : durable.PreCommitted (List ℕ)). (q.transaction).number < 1 + length b.front) (λ (q : durable.PreCommitted (List ℕ)). (q.transaction).number < p.transaction)
        (λ q less. omega (arith, less, number)) before (pre_below subtask 1 b.front) in
        none_before before this after p.transaction rest below (ap (map (λ (q : durable.PreCommitted (List ℕ)). (q.transaction).number)) (sym pre_is) ∙ first_ones.1)

    pre_first : (share old subtask).pre_committed ≡ this ∷ after
    pre_first = pre_is ∙ ap (λ l. l ++ this ∷ after) nothing_before

    commits : Commits line (share old subtask) (share now subtask) × OthersStay subtask (book_of old) (book_of now)
    commits = commits_at old p.transaction u at subtask ordered of p.checkpoint line is on (ap (filter (λ (q : durable.PreCommitted (List ℕ)). is_on line q.checkpoint)) nothing_before)

    split : (c : Commits line (share old subtask) (share now subtask)) → (c.front ≡ []) × (c.changed ≡ this) × (c.back ≡ after)
    split c = oldest_first line this after c.front c.changed c.back on (sym pre_first ∙ c.was) c.oldest

    committed_now : (c : Commits line (share old subtask) (share now subtask)) → (share now subtask).committed ≡ (share old subtask).committed ++ as_is p.transaction u ∷ []
    committed_now c =
        ap (λ (y : durable.SinkTransactions (List ℕ)). y.committed) c.ends ∙ ap (λ (q : durable.PreCommitted (List ℕ)). (share old subtask).committed ++ q.transaction ∷ []) (split c).1

    pre_now : (c : Commits line (share old subtask) (share now subtask)) → (share now subtask).pre_committed ≡ after
    pre_now c =
        ap (λ (y : durable.SinkTransactions (List ℕ)). y.pre_committed) c.ends ∙ ap₂ (λ l m. l ++ m) (split c).0 (split c).2

    all_now : (c : Commits line (share old subtask) (share now subtask)) → (share now subtask).committed ++ transactions_of (share now subtask).pre_committed ≡ all
    all_now c =
        ap₂ (λ (l : List (durable.Transaction (List ℕ))) (m : List (durable.PreCommitted (List ℕ))). l ++ transactions_of m) (committed_now c) (pre_now c)
        ∙ append_assoc (share old subtask).committed (as_is p.transaction u ∷ []) (transactions_of after)
        ∙ ap (λ l. (share old subtask).committed ++ transactions_of l) (sym pre_first)

    numbers_now : (c : Commits line (share old subtask) (share now subtask)) → numbers_of (share now subtask).committed ≡ lasts.0 ++ p.transaction ∷ []
    numbers_now c =
        ap numbers_of (committed_now c)
        ∙ map-append (λ (x : durable.Transaction (List ℕ)). x.number) (share old subtask).committed (as_is p.transaction u ∷ [])
        ∙ ap (λ l. l ++ p.transaction ∷ []) first_ones.0

    pending_now : (pending : List Pending) → All (PendingIs old subtask) pending → All (PendingIs now subtask) pending
    pending_now pending every =
        All-weaker (PendingIs old subtask) (PendingIs now subtask)
        (λ q i.
        elim (cases_eq q.transaction p.transaction) [
          | inl same ↦ (closed, ap (transaction_at now) same ∙ wrote.here, of, inr refl)
          | inr apart ↦ (i.0, wrote.elsewhere q.transaction apart ∙ i.1, i.2, i.3)
        ])
        pending every

    not_open : sink.open_one ≡ p.transaction → ⊥
    not_open e = pending_not_open old subtask sink.open_one s.opened p s.opened_at s.opened_is (u, at, of, inl is) (sym e)

    with_pending : (c : Commits line (share old subtask) (share now subtask)) (pending : List Pending) → All (PendingIs old subtask) pending → AreLast (map (λ (q : Pending). q.transaction) pending) (share now subtask).committed ((share now subtask).committed ++ transactions_of (share now subtask).pre_committed) → SinkIn now subtask (record { open_one = sink.open_one; pending = pending })
    with_pending c pending every last =
        record {
          opened = s.opened;
          opened_at = wrote.elsewhere sink.open_one not_open ∙ s.opened_at;
          opened_of = s.opened_of;
          opened_is = s.opened_is;
          newest =
              λ number v above there mine.
              elim (cases_eq number p.transaction) [
                | inl e ↦ s.newest number u above (ap (transaction_at old) e ∙ at) of
                | inr apart ↦ s.newest number v above (sym (wrote.elsewhere number apart) ∙ there) mine
              ];
          only_one = ((s.only_one).0, ap (λ (y : durable.SinkTransactions (List ℕ)). y.open_ones) c.ends ∙ (s.only_one).1);
          pending_are = pending_now pending every;
          last = last;
        }

    lasts_now : (c : Commits line (share old subtask) (share now subtask)) (front names : List ℕ) → numbers_of all ≡ front ++ names → Begins front (lasts.0 ++ p.transaction ∷ []) → AreLast names (share now subtask).committed ((share now subtask).committed ++ transactions_of (share now subtask).pre_committed)
    lasts_now c front names e begins = (front, ap numbers_of (all_now c) ∙ e, (begins.0, numbers_now c ∙ begins.1))

    committed_first : CommitsFirst line subtask sink old now
    committed_first =
        let called = commits in
        let c = called.0 in
        record {
          call = inr (c, (split c).0);
          others = called.1;
          sink_in =
              with_pending c (drop 1 sink.pending) (All-drop (PendingIs old subtask) 1 sink.pending s.pending_are)
              (lasts_now c (lasts.0 ++ p.transaction ∷ []) rest (lasts.1 ∙ sym (append_assoc lasts.0 (p.transaction ∷ []) rest)) ([], sym (append-nil (lasts.0 ++ p.transaction ∷ []))));
          sink_still =
              with_pending c sink.pending s.pending_are
              (subst (λ names. AreLast names (share now subtask).committed ((share now subtask).committed ++ transactions_of (share now subtask).pre_committed)) (sym names_are)
              (lasts_now c lasts.0 (p.transaction ∷ rest) lasts.1 (p.transaction ∷ [], refl)));
          other_sinks =
              λ other sink' apart s'.
              others_keep old now p.transaction subtask closed wrote (λ v there. ap (λ (w : Transaction). w.subtask) (same_at old p.transaction v u there at) ∙ of) of other sink' apart (called.1 other apart) s';
        }

pub commit_in : (old new : Ledger) (subtask : ℕ) (sink : Sinking) (p : Pending) (line : List ℕ) → IsOrdered old → SinkIn old subtask sink → slice_get sink.pending 0 ≡ Some p → is_on line p.checkpoint ≡ true → new ≡ after_commit old p.transaction → CommitsFirst line subtask sink old new
commit_in old new subtask sink p line ordered s first on e =
    let i = first_pending old subtask sink p s first in
    elim i.3 [
      | inl is ↦ subst (CommitsFirst line subtask sink old) (sym (e ∙ commit_now old p.transaction i.0 i.1 p.checkpoint is)) (committed_first old subtask sink p line ordered s first i.0 i.1 i.2 is on)
      | inr is ↦ subst (CommitsFirst line subtask sink old) (sym (e ∙ commit_stays old p.transaction i.0 i.1 is)) (committed_already old subtask sink p line ordered s first i.0 i.1 i.2 is)
    ]
