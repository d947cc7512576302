-- A sink's transactions as a restart settles them: those that are named are committed, the others are aborted, and one is begun.
use Rattle.std.proofs.Common.{◌≡◌, ◌⊎◌, ◌<◌, ◌+◌, inl, inr, All, Some, None, filter, length, map, ℕ, suc, Bool, true, List, [], ◌∷◌, ◌++◌, refl, sym, ap, ap₂, ◌∙◌, subst, append_assoc, append-nil, arith}
use Rattle.std.proofs.lemmas.List.Elements.{All-head, All-weaker, All-filter, filter-append, filter_passes}
use Rattle.checkpoint_model.specs.Book.{numbered, pre_at}
use Rattle.checkpoint_model.specs.Durable as durable
use Rattle.checkpoint_model.specs.Durable.{AreLast, transactions_of, numbers_of, is_on, Commits, AbortsOpen, AbortsPreCommitted}
use Rattle.checkpoint_model.proofs.Settled.{filter_yes}
use Rattle.commit_sink.specs.Ledger.{Ledger, Transaction, IsOrdered, transaction_at, after_commit, commit_refusal, if_pre_committed}
use Rattle.commit_sink.specs.Sink.{Sinking}
use Rattle.commit_sink.specs.declared.transactions.Progress.TheVariants.{PreCommitted, Committed}
use Rattle.engine_model.specs.Keeps.{SinkIn}
use Rattle.engine_model.proofs.Ledger.Places.{writes, same_at}
use Rattle.engine_model.proofs.Ledger.Shares.{share, as_pre, Stands, in_book, pre_found, pre_below, pre_stand, committed_stand}
use Rattle.engine_model.proofs.Ledger.Calls.{committed_one, with_committed, commit_refused, commit_now, commit_stays, commits_at}
use Rattle.engine_model.proofs.Ledger.Sinks.{others_keep}
use Rattle.engine_model.proofs.Ledger.Commit.{element_at, numbers_pre}

-- the pre-committed transactions of complete checkpoints
abbrev pub complete_ones : List ℕ → List (durable.PreCommitted (List ℕ)) → List (durable.PreCommitted (List ℕ))
complete_ones line pre = filter (λ q. is_on line q.checkpoint) pre

-- The names are some committed transactions, the last ones, and then all pre-committed ones of complete checkpoints. A restart begins there, by `NamesAreSettled`.
pub record NamedIn (line names : List ℕ) (l : Ledger) (subtask : ℕ) : Type 0 where
  pub before : List ℕ
  pub more : List ℕ
  pub committed_are : numbers_of (share l subtask).committed ≡ before ++ more
  pub names_are : names ≡ more ++ numbers_of (transactions_of (complete_ones line (share l subtask).pre_committed))

-- what the commit of the first name leaves
pub record CommitsNamed (line : List ℕ) (n : ℕ) (rest : List ℕ) (subtask : ℕ) (old new : Ledger) : Type 0 where
  pub call : (new ≡ old) ⊎ Commits line (share old subtask) (share new subtask)
  pub others : (other : ℕ) → (other ≡ subtask → ⊥) → share new other ≡ share old other
  pub named : NamedIn line rest new subtask
  pub other_sinks : (other : ℕ) (sink' : Sinking) → (other ≡ subtask → ⊥) → SinkIn old other sink' → SinkIn new other sink'

-- what a commit leaves of those that are on the line
complete_left : (line : List ℕ) (old new : durable.SinkTransactions (List ℕ)) (c : Commits line old new) → complete_ones line old.pre_committed ≡ c.changed ∷ complete_ones line new.pre_committed
complete_left line old new c =
    let on : durable.PreCommitted (List ℕ) → Bool = λ q. is_on line q.checkpoint in
    ap (filter on) c.was
    ∙ filter-append on c.front (c.changed ∷ c.back)
    ∙ ap₂ (λ l m. l ++ m) c.oldest (filter_yes on c.changed c.back c.complete)
    ∙ ap (λ l. c.changed ∷ l) (ap (λ l. l ++ filter on c.back) (sym c.oldest) ∙ sym (filter-append on c.front c.back) ∙ ap (λ (x : durable.SinkTransactions (List ℕ)). filter on x.pre_committed) (sym c.ends))

-- the first of two joined lists has no number that all of it stand below
none_first : (front : List (durable.PreCommitted (List ℕ))) (back : List (durable.PreCommitted (List ℕ))) (n : ℕ) (rest : List ℕ) → All (λ q. (q.transaction).number < n) front → map (λ q. (q.transaction).number) (front ++ back) ≡ n ∷ rest → front ≡ []
none_first [] back n rest below e = refl
none_first (y ∷ front) back n rest below e =
    let less = All-head (λ (q : durable.PreCommitted (List ℕ)). (q.transaction).number < n) y front below in
    let same : (y.transaction).number ≡ n = cc in
    absurd (omega (arith, less, same))

module _ (old : Ledger) (subtask : ℕ) (line : List ℕ) (n : ℕ) (rest : List ℕ) (ordered : IsOrdered old) where
  abbrev on : durable.PreCommitted (List ℕ) → Bool
  on q = is_on line q.checkpoint

  -- the first name is committed already, and the call does nothing
  pub record IsAlready : Type 0 where
    pub was : Transaction
    pub at : transaction_at old n ≡ Some was
    pub is : was.progress ≡ Committed
    pub left : NamedIn line rest old subtask

  -- or is the oldest of those on the line
  pub record IsOldest : Type 0 where
    pub was : Transaction
    pub at : transaction_at old n ≡ Some was
    pub of : was.subtask ≡ subtask
    pub checkpoint : ℕ
    pub is : was.progress ≡ PreCommitted checkpoint
    pub complete : is_on line checkpoint ≡ true
    pub numbers : map (λ q. (q.transaction).number) (complete_ones line (share old subtask).pre_committed) ≡ n ∷ rest

  which : NamedIn line (n ∷ rest) old subtask → IsAlready ⊎ IsOldest
  which named = by named.more named.committed_are named.names_are
    where
      by : (more : List ℕ) → numbers_of (share old subtask).committed ≡ named.before ++ more → n ∷ rest ≡ more ++ numbers_of (transactions_of (complete_ones line (share old subtask).pre_committed)) → IsAlready ⊎ IsOldest
      by (m ∷ more) e f =
          let same : m ≡ n = cc in
          let left : rest ≡ more ++ numbers_of (transactions_of (complete_ones line (share old subtask).pre_committed)) = cc in
          let P : durable.Transaction (List ℕ) → Type 0 = λ x. Stands old subtask Committed x.number in
          let x = element_at (λ (y : durable.Transaction (List ℕ)). y.number) P (share old subtask).committed named.before m more e (committed_stand old subtask ordered) in
          inl (record {
            was = (x.2).0;
            at = ap (transaction_at old) (sym (x.1 ∙ same)) ∙ (x.2).1;
            is = (x.2).3;
            left = record { before = named.before ++ m ∷ []; more = more; committed_are = e ∙ sym (append_assoc named.before (m ∷ []) more); names_are = left };
          })
      by [] e f =
          let pre = (share old subtask).pre_committed in
          let P : durable.PreCommitted (List ℕ) → Type 0 = λ q. Stands old subtask (PreCommitted q.checkpoint) q.transaction.number in
          let Q : durable.PreCommitted (List ℕ) → Type 0 = λ q. Stands old subtask (PreCommitted q.checkpoint) q.transaction.number × (is_on line q.checkpoint ≡ true) in
          let stand = All-filter on P pre (pre_stand old subtask) in
          let pass = filter_passes on pre in
          let both : All Q (complete_ones line pre) = λ k d within. (stand k d within, pass k d within) in
          let numbers : map (λ q. (q.transaction).number) (complete_ones line pre) ≡ n ∷ rest = sym (numbers_pre (complete_ones line pre)) ∙ sym f in
          let x = element_at (λ (q : durable.PreCommitted (List ℕ)). (q.transaction).number) Q (complete_ones line pre) [] n rest numbers both in
          inr (record {
            was = (x.2).0.0;
            at = ap (transaction_at old) (sym x.1) ∙ (x.2).0.1;
            of = (x.2).0.2;
            checkpoint = (x.0).checkpoint;
            is = (x.2).0.3;
            complete = (x.2).1;
            numbers = numbers;
          })

  oldest_commits : (o : IsOldest) → CommitsNamed line n rest subtask old (with_committed old n o.was)
  oldest_commits o =
      let b = in_book old n o.was o.at in
      let number = b.is_number in
      let before : List (durable.PreCommitted (List ℕ)) = numbered (pre_at subtask) 1 b.front in
      let behind : List (durable.PreCommitted (List ℕ)) = as_pre n o.was o.checkpoint ∷ numbered (pre_at subtask) (suc n) b.back in
      let Less : durable.PreCommitted (List ℕ) → Type 0 = λ q. (q.transaction).number < n in
      let below : All Less before =
      All-weaker (λ (q : durable.PreCommitted (List ℕ)). (q.transaction).number < 1 + length b.front) Less (λ q less. omega (arith, less, number)) before (pre_below subtask 1 b.front) in
      let parts : complete_ones line (share old subtask).pre_committed ≡ filter on before ++ filter on behind =
      ap (filter on) (pre_found old subtask n o.checkpoint o.was b o.of o.is) ∙ filter-append on before behind in
      let none : filter on before ≡ [] = none_first (filter on before) (filter on behind) n rest (All-filter on Less before below) (ap (map (λ (q : durable.PreCommitted (List ℕ)). (q.transaction).number)) (sym parts) ∙ o.numbers) in
      let called = commits_at old n o.was o.at subtask ordered o.of o.checkpoint line o.is o.complete none in
      let now : Ledger = with_committed old n o.was in
      let left = complete_left line (share old subtask) (share now subtask) called.0 in
      let numbers : ((called.0).changed.transaction).number ∷ map (λ (q : durable.PreCommitted (List ℕ)). (q.transaction).number) (complete_ones line (share now subtask).pre_committed) ≡ n ∷ rest =
      ap (map (λ (q : durable.PreCommitted (List ℕ)). (q.transaction).number)) (sym left) ∙ o.numbers in
      let rest_is : map (λ (q : durable.PreCommitted (List ℕ)). (q.transaction).number) (complete_ones line (share now subtask).pre_committed) ≡ rest = cc in
      let wrote = writes old now n o.was (committed_one o.was) o.at refl in
      record {
        call = inr called.0;
        others = called.1;
        named = record {
          before = numbers_of (share now subtask).committed;
          more = [];
          committed_are = sym (append-nil (numbers_of (share now subtask).committed));
          names_are = sym (numbers_pre (complete_ones line (share now subtask).pre_committed) ∙ rest_is);
        };
        other_sinks =
            λ other sink' apart s'.
            others_keep old now n subtask (committed_one o.was) wrote (λ v there. ap (λ (w : Transaction). w.subtask) (same_at old n v o.was there o.at) ∙ o.of) o.of other sink' apart (called.1 other apart) s';
      }

pub named_not_refused : (old : Ledger) (subtask : ℕ) (line : List ℕ) (n : ℕ) (rest : List ℕ) → IsOrdered old → NamedIn line (n ∷ rest) old subtask → commit_refusal old n ≡ None
named_not_refused old subtask line n rest ordered named =
    elim (which old subtask line n rest ordered named) [
      | inl a ↦ commit_refused old n a.was a.at ∙ ap if_pre_committed a.is
      | inr o ↦ commit_refused old n o.was o.at ∙ ap if_pre_committed o.is
    ]

pub commit_named : (old new : Ledger) (subtask : ℕ) (line : List ℕ) (n : ℕ) (rest : List ℕ) → IsOrdered old → NamedIn line (n ∷ rest) old subtask → new ≡ after_commit old n → CommitsNamed line n rest subtask old new
commit_named old new subtask line n rest ordered named e =
    elim (which old subtask line n rest ordered named) [
      | inl a ↦
          let stays : CommitsNamed line n rest subtask old old = record { call = inl refl; others = λ other apart. refl; named = a.left; other_sinks = λ other sink' apart s'. s' } in
          subst (CommitsNamed line n rest subtask old) (sym (e ∙ commit_stays old n a.was a.at a.is)) stays
      | inr o ↦ subst (CommitsNamed line n rest subtask old) (sym (e ∙ commit_now old n o.was o.at o.checkpoint o.is)) (oldest_commits old subtask line n rest ordered o)
    ]
