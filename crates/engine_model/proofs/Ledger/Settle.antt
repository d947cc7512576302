-- A restart aborts the transactions of a sink that are left open or pre-committed, and begins one.
use Rattle.std.proofs.Common.{◌≡◌, ◌⊎◌, ◌+◌, ◌-◌, ◌==◌, inl, inr, if◌then◌else◌, Option, Some, None, slice_get, slice_set, filter, length, map, ℕ, suc, Bool, false, List, [], ◌∷◌, ◌++◌, refl, sym, ap, ap₂, ◌∙◌, subst, append-nil, arith}
use Rattle.std.specs.List.{enumerate_from, filter_map, cons_option}
use Rattle.std.proofs.lemmas.Option.{none-some, same_Some}
use Rattle.std.proofs.lemmas.Bool.{cases_Bool}
use Rattle.std.proofs.lemmas.Bool.Decides.{eqb_tells}
use Rattle.std.proofs.lemmas.List.{length-map, length-append, nil_from_length}
use Rattle.std.proofs.lemmas.List.Elements.{All-nil, filter-append}
use Rattle.checkpoint_model.specs.Book as book
use Rattle.checkpoint_model.specs.Book.{numbered, open_at, pre_at}
use Rattle.checkpoint_model.specs.Durable as durable
use Rattle.checkpoint_model.specs.Durable.{AreLast, transactions_of, numbers_of, is_on, AbortsOpen, AbortsPreCommitted}
use Rattle.checkpoint_model.specs.EngineLaws.{IsSettled}
use Rattle.checkpoint_model.proofs.Settled.{filter_yes, filter_no}
use Rattle.commit_sink.specs.Ledger.{Ledger, Transaction, IsOrdered, transaction_at, begun, aborted, abort_refusal, if_not_committed, unsettled_of, unsettled_one, with_transaction}
use Rattle.commit_sink.specs.Sink.{Sinking}
use Rattle.commit_sink.specs.declared.transactions.Progress.{Progress}
use Rattle.commit_sink.specs.declared.transactions.Progress.TheVariants.{Open, PreCommitted, Committed, Aborted}
use Rattle.engine_model.specs.Keeps.{SinkIn}
use Rattle.engine_model.specs.View.{stage_of, entry_of}
use Rattle.engine_model.proofs.Ledger.Places.{writes, place_at, at_within, same_at}
use Rattle.engine_model.proofs.Ledger.Shares.{share, as_is, as_pre, in_book, pre_found}
use Rattle.engine_model.proofs.Ledger.Calls.{aborted_one, abort_refused, abort_now, aborts_open_at, aborts_pre_at, fresh_one, wrote_fresh, begins_at, begin_keeps_others}
use Rattle.engine_model.proofs.Ledger.Sinks.{PendingIs, others_keep}
use Rattle.engine_model.proofs.Ledger.Commit.{numbers_pre}
use Rattle.engine_model.proofs.Ledger.Restart.{complete_ones, NamedIn}

-- ---- once all names are committed

-- no pre-committed transaction is left of a complete checkpoint
pub all_named : (line : List ℕ) (l : Ledger) (subtask : ℕ) → NamedIn line [] l subtask → complete_ones line (share l subtask).pre_committed ≡ []
all_named line l subtask named =
    let ones = complete_ones line (share l subtask).pre_committed in
    let long = ap length named.names_are in
    let parts = length-append named.more (numbers_of (transactions_of ones)) in
    let numbers = ap length (numbers_pre ones) in
    let same = length-map ones (λ (q : durable.PreCommitted (List ℕ)). (q.transaction).number) in
    nil_from_length ones (omega (arith, long, parts, numbers, same))

-- where no checkpoint is complete, none is named
none_complete : (pre : List (durable.PreCommitted (List ℕ))) → complete_ones [] pre ≡ []
none_complete [] = refl
none_complete (q ∷ pre) = none_complete pre

pub named_none : (l : Ledger) (subtask : ℕ) → NamedIn [] [] l subtask
named_none l subtask =
    record {
      before = numbers_of (share l subtask).committed;
      more = [];
      committed_are = sym (append-nil (numbers_of (share l subtask).committed));
      names_are = ap (λ pre. numbers_of (transactions_of pre)) (sym (none_complete (share l subtask).pre_committed));
    }

-- the calls on another subtask's transactions leave the names as they are
pub named_same : (line names : List ℕ) (old new : Ledger) (subtask : ℕ) → share new subtask ≡ share old subtask → NamedIn line names old subtask → NamedIn line names new subtask
named_same line names old new subtask same named =
    record {
      before = named.before;
      more = named.more;
      committed_are = ap (λ (x : durable.SinkTransactions (List ℕ)). numbers_of x.committed) same ∙ named.committed_are;
      names_are = named.names_are ∙ ap (λ (x : durable.SinkTransactions (List ℕ)). named.more ++ numbers_of (transactions_of (complete_ones line x.pre_committed))) (sym same);
    }

-- ---- the list of those that are not settled

abbrev listed : ℕ → Progress → Option (ℕ × Option ℕ)
listed n p = elim p [ Open ↦ Some (n, None) | PreCommitted c ↦ Some (n, Some c) | Committed ↦ None | Aborted ↦ None ]

abbrev CanAbort : Progress → Type 0
CanAbort p = (p ≡ Open) ⊎ ((c : ℕ) × (p ≡ PreCommitted c))

listed_is : (n : ℕ) (p : Progress) (e : ℕ × Option ℕ) → listed n p ≡ Some e → (n ≡ e.0) × CanAbort p
listed_is n Open e h = let x : ℕ × Option ℕ = (n, None) in (ap (λ (y : ℕ × Option ℕ). y.0) (same_Some x e h), inl refl)
listed_is n (PreCommitted c) e h = let x : ℕ × Option ℕ = (n, Some c) in (ap (λ (y : ℕ × Option ℕ). y.0) (same_Some x e h), inr (c, refl))
listed_is n Committed e h = absurd (none-some e h)
listed_is n Aborted e h = absurd (none-some e h)

unsettled_is : (s m : ℕ) (t : Transaction) (e : ℕ × Option ℕ) → unsettled_one s (m, t) ≡ Some e → (m ≡ e.0) × (t.subtask ≡ s) × CanAbort t.progress
unsettled_is s m t e h =
    elim (eqb_tells t.subtask s) [
      | inl q ↦ let is = listed_is m t.progress e (ap (λ b. if b then listed m t.progress else None) (sym q.0) ∙ h) in (is.0, q.1, is.1)
      | inr q ↦ absurd (none-some e (ap (λ b. if b then listed m t.progress else None) (sym q.0) ∙ h))
    ]

none_aborted : (s m : ℕ) (t : Transaction) → t.progress ≡ Aborted → unsettled_one s (m, t) ≡ None
none_aborted s m t is =
    ap (λ p. if t.subtask == s then listed m p else None) is
    ∙ elim (eqb_tells t.subtask s) [ inl q ↦ ap (λ b. if b then None else None) q.0 | inr q ↦ ap (λ b. if b then None else None) q.0 ]

abbrev unsettled_from : ℕ → ℕ → List Transaction → List (ℕ × Option ℕ)
unsettled_from s m ts = filter_map (unsettled_one s) (enumerate_from m ts)

-- the first of them, and what is left once it is aborted
record FirstUnsettled (s m : ℕ) (ts : List Transaction) (e : ℕ × Option ℕ) (more : List (ℕ × Option ℕ)) : Type 0 where
  place : ℕ
  was : Transaction
  at : slice_get ts place ≡ Some was
  number : e.0 ≡ m + place
  of : was.subtask ≡ s
  is : CanAbort was.progress
  left : (t : Transaction) → t.progress ≡ Aborted → unsettled_from s m (slice_set ts place t) ≡ more

first_by : (s m : ℕ) (t : Transaction) (ts : List Transaction) (e : ℕ × Option ℕ) (more : List (ℕ × Option ℕ)) (o : Option (ℕ × Option ℕ)) → unsettled_one s (m, t) ≡ o → cons_option o (unsettled_from s (m + 1) ts) ≡ e ∷ more
    → (unsettled_from s (m + 1) ts ≡ e ∷ more → FirstUnsettled s (m + 1) ts e more) → FirstUnsettled s m (t ∷ ts) e more
first_by s m t ts e more None is h later =
    let r = later h in
    let number = r.number in
    record {
      place = suc r.place;
      was = r.was;
      at = r.at;
      number = omega (arith, number);
      of = r.of;
      is = r.is;
      left = λ t' a. ap (λ o. cons_option o (unsettled_from s (m + 1) (slice_set ts r.place t'))) is ∙ r.left t' a;
    }
first_by s m t ts e more (Some x) is h later =
    let same : x ≡ e = cc in
    let rest : unsettled_from s (m + 1) ts ≡ more = cc in
    let u = unsettled_is s m t x is in
    let number : m ≡ e.0 = u.0 ∙ ap (λ (y : ℕ × Option ℕ). y.0) same in
    record {
      place = 0;
      was = t;
      at = refl;
      number = omega (arith, number);
      of = u.1;
      is = u.2;
      left = λ t' a. ap (λ o. cons_option o (unsettled_from s (m + 1) ts)) (none_aborted s m t' a) ∙ rest;
    }

first_unsettled : (s m : ℕ) (ts : List Transaction) (e : ℕ × Option ℕ) (more : List (ℕ × Option ℕ)) → unsettled_from s m ts ≡ e ∷ more → FirstUnsettled s m ts e more
first_unsettled s m [] e more h = absurd (omega (arith, ap length h))
first_unsettled s m (t ∷ ts) e more h = first_by s m t ts e more (unsettled_one s (m, t)) refl h (λ h'. first_unsettled s (m + 1) ts e more h')

-- ---- an abort

-- those that the line has not are left out by the filter
none_on_at : {A : Type 0} (p : A → Bool) (front : List A) (x : A) (back : List A) → filter p (front ++ x ∷ back) ≡ [] → p x ≡ false
none_on_at p front x back e =
    elim (cases_Bool (p x)) [
      | inl on ↦
          let all = sym (filter-append p front (x ∷ back) ∙ ap (λ l. filter p front ++ l) (filter_yes p x back on)) ∙ e in
          absurd (omega (arith, ap length all, length-append (filter p front) (x ∷ filter p back)))
      | inr off ↦ off
    ]

complete_kept : (line : List ℕ) (old new : durable.SinkTransactions (List ℕ)) (a : AbortsPreCommitted line old new) → complete_ones line new.pre_committed ≡ complete_ones line old.pre_committed
complete_kept line old new a =
    let on : durable.PreCommitted (List ℕ) → Bool = λ q. is_on line q.checkpoint in
    ap (λ (x : durable.SinkTransactions (List ℕ)). filter on x.pre_committed) a.ends
    ∙ filter-append on a.front a.back
    ∙ ap (λ l. filter on a.front ++ l) (sym (filter_no on a.changed a.back a.not_complete))
    ∙ sym (filter-append on a.front (a.changed ∷ a.back))
    ∙ ap (filter on) (sym a.was)

-- what the abort of the first one that is not settled leaves
pub record AbortsFirst (line : List ℕ) (more : List (ℕ × Option ℕ)) (subtask : ℕ) (old new : Ledger) : Type 0 where
  pub call : AbortsOpen (share old subtask) (share new subtask) ⊎ AbortsPreCommitted line (share old subtask) (share new subtask)
  pub others : (other : ℕ) → (other ≡ subtask → ⊥) → share new other ≡ share old other
  pub unsettled : unsettled_of new subtask ≡ more
  pub complete : complete_ones line (share new subtask).pre_committed ≡ []
  pub other_sinks : (other : ℕ) (sink' : Sinking) → (other ≡ subtask → ⊥) → SinkIn old other sink' → SinkIn new other sink'

module _ (old : Ledger) (subtask : ℕ) (line : List ℕ) (e : ℕ × Option ℕ) (more : List (ℕ × Option ℕ)) (unsettled : unsettled_of old subtask ≡ e ∷ more) where
  abbrev n : ℕ
  n = e.0

  first : FirstUnsettled subtask 1 old.transactions e more
  first = first_unsettled subtask 1 old.transactions e more unsettled

  at_first : transaction_at old n ≡ Some first.was
  at_first = let number = first.number in let same : n ≡ suc first.place = omega (arith, number) in ap (transaction_at old) same ∙ place_at old first.place ∙ first.at

  pub abort_not_refused : abort_refusal old n ≡ None
  abort_not_refused = abort_refused old n first.was at_first ∙ elim first.is [ inl is ↦ ap if_not_committed is | inr is ↦ ap if_not_committed is.1 ]

  abbrev gone : Ledger
  gone = with_transaction old n (aborted_one first.was)

  left_gone : unsettled_of gone subtask ≡ more
  left_gone =
      let number = first.number in
      let less : n - 1 ≡ first.place = omega (arith, number) in
      ap (λ i. unsettled_from subtask 1 (slice_set old.transactions i (aborted_one first.was))) less ∙ first.left (aborted_one first.was) refl

  abbrev Called : Type 0
  Called = (AbortsOpen (share old subtask) (share gone subtask) ⊎ AbortsPreCommitted line (share old subtask) (share gone subtask))
      × ((other : ℕ) → (other ≡ subtask → ⊥) → share gone other ≡ share old other) × (complete_ones line (share gone subtask).pre_committed ≡ [])

  called : IsOrdered old → complete_ones line (share old subtask).pre_committed ≡ [] → Called
  called ordered none =
      elim first.is [
        | inl is ↦
            let a = aborts_open_at old n first.was at_first subtask ordered first.of is in
            (inl a.0, a.1, ap (λ (x : durable.SinkTransactions (List ℕ)). complete_ones line x.pre_committed) (a.0).ends ∙ none)
        | inr is ↦
            let b = in_book old n first.was at_first in
            let on : durable.PreCommitted (List ℕ) → Bool = λ q. is_on line q.checkpoint in
            let off : is_on line is.0 ≡ false =
            none_on_at on _ (as_pre n first.was is.0) _ (ap (filter on) (sym (pre_found old subtask n is.0 first.was b first.of is.1)) ∙ none) in
            let a = aborts_pre_at old n first.was at_first subtask ordered first.of is.0 line is.1 off in
            (inr a.0, a.1, complete_kept line (share old subtask) (share gone subtask) a.0 ∙ none)
      ]

  in_gone : IsOrdered old → complete_ones line (share old subtask).pre_committed ≡ [] → AbortsFirst line more subtask old gone
  in_gone ordered none =
      let c = called ordered none in
      let wrote = writes old gone n first.was (aborted_one first.was) at_first refl in
      record {
        call = c.0;
        others = c.1;
        unsettled = left_gone;
        complete = c.2;
        other_sinks =
            λ other sink' apart s'.
            others_keep old gone n subtask (aborted_one first.was) wrote (λ v there. ap (λ (w : Transaction). w.subtask) (same_at old n v first.was there at_first) ∙ first.of) first.of other sink' apart (c.1 other apart) s';
      }

pub abort_first : (old new : Ledger) (subtask : ℕ) (line : List ℕ) (e : ℕ × Option ℕ) (more : List (ℕ × Option ℕ)) → IsOrdered old → complete_ones line (share old subtask).pre_committed ≡ [] → unsettled_of old subtask ≡ e ∷ more → new ≡ aborted old e.0 → AbortsFirst line more subtask old new
abort_first old new subtask line e more ordered none unsettled is =
    subst (AbortsFirst line more subtask old) (sym (is ∙ abort_now old e.0 (first old subtask line e more unsettled).was (at_first old subtask line e more unsettled)))
    (in_gone old subtask line e more unsettled ordered none)

-- ---- none is left

listed_none : (n : ℕ) (p : Progress) (x : durable.Transaction (List ℕ)) → listed n p ≡ None → (book.if_open (stage_of p) x ≡ []) × (book.if_pre_committed (stage_of p) x ≡ [])
listed_none n Open x h = absurd (none-some _ (sym h))
listed_none n (PreCommitted c) x h = absurd (none-some _ (sym h))
listed_none n Committed x h = (refl, refl)
listed_none n Aborted x h = (refl, refl)

none_at : (s m : ℕ) (t : Transaction) → unsettled_one s (m, t) ≡ None → (open_at s m (entry_of t) ≡ []) × (pre_at s m (entry_of t) ≡ [])
none_at s m t h =
    elim (eqb_tells t.subtask s) [
      | inl q ↦
          let is = listed_none m t.progress (as_is m t) (ap (λ b. if b then listed m t.progress else None) (sym q.0) ∙ h) in
          (ap (λ b. if b then book.if_open (stage_of t.progress) (as_is m t) else []) q.0 ∙ is.0, ap (λ b. if b then book.if_pre_committed (stage_of t.progress) (as_is m t) else []) q.0 ∙ is.1)
      | inr q ↦ (ap (λ b. if b then book.if_open (stage_of t.progress) (as_is m t) else []) q.0, ap (λ b. if b then book.if_pre_committed (stage_of t.progress) (as_is m t) else []) q.0)
    ]

abbrev NoneIn : ℕ → ℕ → List Transaction → Type 0
NoneIn s m ts = (numbered (open_at s) m (map entry_of ts) ≡ []) × (numbered (pre_at s) m (map entry_of ts) ≡ [])

none_by : (s m : ℕ) (t : Transaction) (ts : List Transaction) (o : Option (ℕ × Option ℕ)) → unsettled_one s (m, t) ≡ o → cons_option o (unsettled_from s (m + 1) ts) ≡ [] → (unsettled_from s (m + 1) ts ≡ [] → NoneIn s (m + 1) ts) → NoneIn s m (t ∷ ts)
none_by s m t ts None is h later =
    let here = none_at s m t is in
    let plus : m + 1 ≡ suc m = omega arith in
    let rest = subst (λ k. NoneIn s k ts) plus (later h) in
    (ap₂ (λ l r. l ++ r) here.0 rest.0, ap₂ (λ l r. l ++ r) here.1 rest.1)
none_by s m t ts (Some x) is h later = absurd (omega (arith, ap length h))

none_unsettled : (s m : ℕ) (ts : List Transaction) → unsettled_from s m ts ≡ [] → NoneIn s m ts
none_unsettled s m [] h = (refl, refl)
none_unsettled s m (t ∷ ts) h = none_by s m t ts (unsettled_one s (m, t)) refl h (λ h'. none_unsettled s (m + 1) ts h')

pub all_settled : (l : Ledger) (subtask : ℕ) → unsettled_of l subtask ≡ [] → ((share l subtask).open_ones ≡ []) × ((share l subtask).pre_committed ≡ [])
all_settled l subtask h = none_unsettled subtask 1 l.transactions h

-- ---- one is begun

pub record BeginsSettled (subtask : ℕ) (old new : Ledger) : Type 0 where
  pub call : share new subtask ≡ durable.begun (length old.transactions + 1) (share old subtask)
  pub others : (other : ℕ) → (other ≡ subtask → ⊥) → share new other ≡ share old other
  pub settled : IsSettled (share new subtask)
  pub sink_in : SinkIn new subtask (record { open_one = length old.transactions + 1; pending = [] })
  pub other_sinks : (other : ℕ) (sink' : Sinking) → (other ≡ subtask → ⊥) → SinkIn old other sink' → SinkIn new other sink'

module _ (old : Ledger) (subtask : ℕ) (ordered : IsOrdered old) (unsettled : unsettled_of old subtask ≡ []) where
  abbrev now : Ledger
  now = begun old subtask

  abbrev next : ℕ
  next = suc (length old.transactions)

  is_settled : IsSettled (share now subtask)
  is_settled =
      let none = all_settled old subtask unsettled in
      let began = begins_at old subtask ordered in
      record {
        none_pre_committed = ap (λ (x : durable.SinkTransactions (List ℕ)). x.pre_committed) began.0 ∙ none.1;
        one = as_is next (fresh_one subtask);
        one_open = ap (λ (x : durable.SinkTransactions (List ℕ)). x.open_ones) began.0 ∙ ap (λ l. l ++ as_is next (fresh_one subtask) ∷ []) none.0;
        is_empty = refl;
      }

  in_now : SinkIn now subtask (record { open_one = length old.transactions + 1; pending = [] })
  in_now =
      let plus : length old.transactions + 1 ≡ next = omega arith in
      let wrote = wrote_fresh old subtask in
      let s = is_settled in
      let committed = (share now subtask).committed in
      record {
        opened = fresh_one subtask;
        opened_at = ap (transaction_at now) plus ∙ wrote.here;
        opened_of = refl;
        opened_is = refl;
        newest =
            λ number u above at of.
            let there : transaction_at old number ≡ Some u = sym (wrote.elsewhere number (λ e. omega (arith, e, above))) ∙ at in
            let within = at_within old number u there in
            omega (arith, within, above);
        only_one = (s.one, s.one_open);
        pending_are = All-nil (PendingIs now subtask);
        last = (
          numbers_of committed,
          ap (λ pre. numbers_of (committed ++ transactions_of pre)) s.none_pre_committed ∙ ap numbers_of (append-nil committed) ∙ sym (append-nil (numbers_of committed)),
          ([], sym (append-nil (numbers_of committed))),
        );
      }

  begins_now : BeginsSettled subtask old now
  begins_now =
      let plus : next ≡ length old.transactions + 1 = omega arith in
      let began = begins_at old subtask ordered in
      record {
        call = began.0 ∙ ap (λ n. durable.begun n (share old subtask)) plus;
        others = began.1;
        settled = is_settled;
        sink_in = in_now;
        other_sinks = λ other sink' apart s'. begin_keeps_others old subtask other sink' apart (began.1 other apart) s';
      }

pub begin_settled : (old new : Ledger) (subtask : ℕ) → IsOrdered old → unsettled_of old subtask ≡ [] → new ≡ begun old subtask → BeginsSettled subtask old new
begin_settled old new subtask ordered unsettled e = subst (BeginsSettled subtask old) (sym e) (begins_now old subtask ordered unsettled)

-- the first of those that are not settled is there
pub first_there : (l : Ledger) (subtask : ℕ) (e : ℕ × Option ℕ) (more : List (ℕ × Option ℕ)) → unsettled_of l subtask ≡ e ∷ more → (t : Transaction) × (transaction_at l e.0 ≡ Some t)
first_there l subtask e more unsettled = ((first l subtask [] e more unsettled).was, at_first l subtask [] e more unsettled)
