-- What a call on a transaction that is neither committed nor aborted may rely on, and what it leaves.
use Rattle.std.proofs.Common.{◌≡◌, ◌≢◌, ◌<◌, ◌≤◌, ◌+◌, ◌-◌, ◌^◌, ℕ, true, false, cond, List, [], ◌∷◌, ◌++◌, length, slice_get, slice_set, unwrap_or, Option, Some, None, refl, sym, ap, ◌∙◌, subst, ⊎_elim, arith}
use Rattle.std.specs.Prelude.{MatchOption}
use Rattle.std.proofs.lemmas.Bool.{cases_lt}
use Rattle.std.proofs.lemmas.List.{length-append, set-get_or}
use Rattle.std.proofs.lemmas.Option.{get_or_from_slice_get, slice_get_past, slice_get_within}
use Rattle.commit_sink.specs.declared.transactions.Progress.{Progress}
use Rattle.commit_sink.specs.declared.transactions.Progress.TheVariants.{Open, PreCommitted, Committed, Aborted}
use Rattle.commit_sink.specs.declared.share.Share.{Share}
use Rattle.commit_sink.specs.Ends.{rows_of}
use Rattle.commit_sink.specs.Ledger.{Ledger, Transaction, IsOrdered, abort_refusal, aborted, has_committed, if_not_committed, refusal, transaction_in, with_transaction}
use Rattle.commit_sink.specs.Roomy.{WithRoom}
use Rattle.commit_sink.specs.Shares.{Found, IsKept, empty_share, has_unsettled, is_unsettled, ledger_of, share_at, with_end, with_row, without, without_number}
use Rattle.commit_sink.proofs.Committed.{kept-committed}
use Rattle.commit_sink.proofs.Kept.{kept-replaced, of_itself, one, place-promised}
use Rattle.commit_sink.proofs.Replaced.{in_range}
use Rattle.commit_sink.proofs.Rows.{rows_of-committed}
use Rattle.commit_sink.proofs.Unsettled.{numbers-gone, numbers-same}

pub of_some : {A : Type 0} (o : Option A) (P : Type 0) (Q : A → Type 0) (x : A) → o ≡ Some x → MatchOption o P Q → Q x
of_some o P Q x is m = subst (λ y. MatchOption y P Q) is m

pub of_none : {A : Type 0} (o : Option A) (P : Type 0) (Q : A → Type 0) → o ≡ None → MatchOption o P Q → P
of_none o P Q is m = subst (λ y. MatchOption y P Q) is m

pub record Ready (ts : List Transaction) (c : WithRoom ℕ) (shares : List Share) (n place : ℕ) (p : Progress) : Type 0 where
  pub transaction : Transaction
  pub has_come : transaction.progress ≡ p
  pub is : transaction_in ts n ≡ Some transaction
  pub unsettled : is_unsettled transaction ≡ true
  pub at : slice_get ts place ≡ Some transaction
  pub within : place < length ts
  pub number : place ≡ n - 1
  pub there : transaction.subtask < length shares
  pub promised : 1 ≤ c.promised
  pub share_promised : 1 ≤ (share_at shares transaction.subtask).ends.promised
  pub pending : length transaction.records ≤ (share_at shares transaction.subtask).pending
  pub total : rows_of (share_at shares transaction.subtask).ends.items + (share_at shares transaction.subtask).pending < 2 ^ 64

past-shares : (shares : List Share) (s : ℕ) → length shares ≤ s → share_at shares s ≡ empty_share
past-shares shares s past = ap (λ o. unwrap_or o empty_share) (slice_get_past shares s past)

pub total-kept : (st : ℕ) (ts : List Transaction) (c : WithRoom ℕ) (shares : List Share) (s : ℕ) → IsKept st ts c shares → rows_of (share_at shares s).ends.items + (share_at shares s).pending < 2 ^ 64
total-kept st ts c shares s k =
    let rows = rows_of-committed (ledger_of st ts c.items) s (share_at shares s) (k.share s) in
    let total = (k.share s).total in
    omega (arith, rows, total)

pub place_is : (ts : List Transaction) (n place : ℕ) (p : Progress) → (f : Found ts n place p) → (slice_get ts place ≡ Some f.transaction) × (place ≡ n - 1)
place_is ts n place p f =
    let at = f.at in
    let number : place ≡ n - 1 = omega (arith, at) in
    (ap (slice_get ts) number ∙ (in_range ts n f.transaction f.is).1, number)

pub ready : (st : ℕ) (ts : List Transaction) (c : WithRoom ℕ) (shares : List Share) (n place : ℕ) (p : Progress) → IsKept st ts c shares → Found ts n place p → has_unsettled p ≡ true → Ready ts c shares n place p
ready st ts c shares n place p k f unsettled =
    let t : Transaction = f.transaction in
    let it : is_unsettled f.transaction ≡ true = ap has_unsettled f.has_come ∙ unsettled in
    let r = place-promised st ts c shares n f.transaction k f.is it in
    let at = place_is ts n place p f in
    record {
      transaction = f.transaction;
      has_come = f.has_come;
      is = f.is;
      unsettled = it;
      at = at.0;
      within = slice_get_within ts place f.transaction at.0;
      number = at.1;
      there = ⊎_elim (λ below. below)
          (λ past. let none : (share_at shares f.transaction.subtask).ends.promised ≡ 0 = ap (λ s. s.ends.promised) (past-shares shares f.transaction.subtask past) in
          let some = r.1 in absurd (omega (arith, none, some)))
          (cases_lt f.transaction.subtask (length shares));
      promised = r.0;
      share_promised = r.1;
      pending = r.2;
      total = total-kept st ts c shares f.transaction.subtask k;
    }

not_committed : (p : Progress) → has_unsettled p ≡ true → has_committed p ≡ false
not_committed Open u = refl
not_committed (PreCommitted n) u = refl
not_committed Committed u = absurd (cc u)
not_committed Aborted u = refl

abbrev pub aborted_one : Transaction → Transaction
aborted_one t = record t { progress = Aborted; records = [] }

pub kept-aborted : (st : ℕ) (ts ts' : List Transaction) (c c' : WithRoom ℕ) (shares shares' : List Share) (n place : ℕ) {p : Progress} (r : Ready ts c shares n place p) → IsKept st ts c shares
    → ts' ≡ slice_set ts place (aborted_one r.transaction) → c' ≡ record { items = c.items; promised = c.promised - 1 }
    → (s rows : ℕ) → s ≡ r.transaction.subtask → rows ≡ length r.transaction.records
    → share_at shares' s ≡ without (share_at shares s) n rows → ((q : ℕ) → q ≢ s → share_at shares' q ≡ share_at shares q) → IsKept st ts' c' shares'
kept-aborted st ts ts' c c' shares shares' n place r k ts_is c_is s rows s_is rows_is own others =
    let promised = r.promised in
    let share_promised = r.share_promised in
    let pending = r.pending in
    let total = (k.share r.transaction.subtask).total in
    let own' : share_at shares' r.transaction.subtask ≡ without (share_at shares r.transaction.subtask) n (length r.transaction.records) =
    subst (λ x. share_at shares' x ≡ without (share_at shares x) n (length r.transaction.records)) s_is (own ∙ ap (without (share_at shares s) n) rows_is) in
    rw (ts_is, c_is, r.number) (kept-replaced st ts c shares shares' n r.transaction (aborted_one r.transaction) (c.promised - 1) ((share_at shares r.transaction.subtask).ends.promised - 1)
    ((share_at shares r.transaction.subtask).pending - length r.transaction.records) (without_number (share_at shares r.transaction.subtask).unsettled n) k
    (record { is = r.is; old = not_committed r.transaction.progress r.unsettled; new = refl; subtask = refl; emptied = λ _. refl }) r.unsettled
    (omega (arith, promised)) (omega (arith, share_promised)) (omega (arith, pending)) (omega (arith, total))
    (numbers-gone r.transaction.subtask n ts r.transaction (aborted_one r.transaction) (share_at shares r.transaction.subtask).unsettled.keys r.is
    (of_itself r.transaction r.transaction.subtask r.transaction refl refl ∙ r.unsettled) (of_itself r.transaction r.transaction.subtask (aborted_one r.transaction) refl refl)
    (k.share r.transaction.subtask).unsettled) own' (λ q other. others q (λ e. other (e ∙ s_is))))

abbrev pub with_record : Transaction → List ℕ → Transaction
with_record t row = record t { records = t.records ++ row ∷ [] }

pub kept-appended : (st : ℕ) (ts ts' : List Transaction) (c : WithRoom ℕ) (shares shares' : List Share) (n place : ℕ) (r : Ready ts c shares n place Open) → IsKept st ts c shares
    → (row : List ℕ) → ts' ≡ slice_set ts place (with_record r.transaction row)
    → (s : ℕ) → s ≡ r.transaction.subtask → rows_of (share_at shares s).ends.items + (share_at shares s).pending ≢ 2 ^ 64 - 1
    → share_at shares' s ≡ with_row (share_at shares s) → ((q : ℕ) → q ≢ s → share_at shares' q ≡ share_at shares q) → IsKept st ts' c shares'
kept-appended st ts ts' c shares shares' n place r k row ts_is s s_is few own others =
    let t : Transaction = r.transaction in
    let own_share = share_at shares r.transaction.subtask in
    let total = (k.share r.transaction.subtask).total in
    let rows = rows_of-committed (ledger_of st ts c.items) r.transaction.subtask (share_at shares r.transaction.subtask) (k.share r.transaction.subtask) in
    let few' : rows_of (share_at shares r.transaction.subtask).ends.items + (share_at shares r.transaction.subtask).pending ≢ 2 ^ 64 - 1 = subst (λ x. rows_of (share_at shares x).ends.items + (share_at shares x).pending ≢ 2 ^ 64 - 1) s_is few in
    let more : length (r.transaction.records ++ row ∷ []) ≡ length r.transaction.records + 1 = length-append r.transaction.records (row ∷ []) in
    let new_rows : cond (is_unsettled (with_record r.transaction row)) (length (r.transaction.records ++ row ∷ [])) 0 ≡ length r.transaction.records + 1 = ap (λ b. cond b (length (r.transaction.records ++ row ∷ [])) 0) r.unsettled ∙ more in
    let new_one : one (is_unsettled (with_record r.transaction row)) ≡ 1 = ap one r.unsettled in
    rw (ts_is, r.number) (kept-replaced st ts c shares shares' n r.transaction (with_record r.transaction row) c.promised (share_at shares r.transaction.subtask).ends.promised
    ((share_at shares r.transaction.subtask).pending + 1) (share_at shares r.transaction.subtask).unsettled k
    (record { is = r.is; old = not_committed r.transaction.progress r.unsettled; new = not_committed r.transaction.progress r.unsettled; subtask = refl; emptied = λ e. absurd (cc (sym r.has_come ∙ e)) }) r.unsettled
    (omega (arith, new_one)) (omega (arith, new_one)) (omega (arith, new_rows)) (omega (arith, total, rows, few'))
    (numbers-same r.transaction.subtask n ts r.transaction (with_record r.transaction row) (share_at shares r.transaction.subtask).unsettled.keys r.is refl (k.share r.transaction.subtask).unsettled)
    (subst (λ x. share_at shares' x ≡ with_row (share_at shares x)) s_is own) (λ q other. others q (λ e. other (e ∙ s_is))))

abbrev pub closed_one : Transaction → ℕ → Transaction
closed_one t checkpoint = record t { progress = PreCommitted checkpoint }

pub kept-pre_committed : (st : ℕ) (ts ts' : List Transaction) (c : WithRoom ℕ) (shares : List Share) (n place checkpoint : ℕ) {p : Progress} (r : Ready ts c shares n place p) → IsKept st ts c shares
    → ts' ≡ slice_set ts place (closed_one r.transaction checkpoint) → IsKept st ts' c shares
kept-pre_committed st ts ts' c shares n place checkpoint r k ts_is =
    let total = (k.share r.transaction.subtask).total in
    rw (ts_is, r.number) (kept-replaced st ts c shares shares n r.transaction (closed_one r.transaction checkpoint) c.promised (share_at shares r.transaction.subtask).ends.promised
    (share_at shares r.transaction.subtask).pending (share_at shares r.transaction.subtask).unsettled k
    (record { is = r.is; old = not_committed r.transaction.progress r.unsettled; new = refl; subtask = refl; emptied = λ e. absurd (cc e) }) r.unsettled
    (omega arith) (omega arith) refl total
    (numbers-same r.transaction.subtask n ts r.transaction (closed_one r.transaction checkpoint) (share_at shares r.transaction.subtask).unsettled.keys r.is
    (of_itself r.transaction r.transaction.subtask (closed_one r.transaction checkpoint) refl refl ∙ sym (of_itself r.transaction r.transaction.subtask r.transaction refl refl ∙ r.unsettled))
    (k.share r.transaction.subtask).unsettled) refl (λ q other. refl))

abbrev pub done_one : Transaction → Transaction
done_one t = record t { progress = Committed }

pub kept-settled : (st : ℕ) (ts ts' : List Transaction) (c c' : WithRoom ℕ) (shares shares' : List Share) (n place checkpoint : ℕ) (r : Ready ts c shares n place (PreCommitted checkpoint)) → IsKept st ts c shares
    → ts' ≡ slice_set ts place (done_one r.transaction) → c' ≡ record { items = c.items ++ n ∷ []; promised = c.promised - 1 }
    → (s rows : ℕ) → s ≡ r.transaction.subtask → rows ≡ length r.transaction.records
    → share_at shares' s ≡ with_end (share_at shares s) n rows → ((q : ℕ) → q ≢ s → share_at shares' q ≡ share_at shares q) → IsKept st ts' c' shares'
kept-settled st ts ts' c c' shares shares' n place checkpoint r k ts_is c_is s rows s_is rows_is own others =
    let own' : share_at shares' r.transaction.subtask ≡ with_end (share_at shares r.transaction.subtask) n (length r.transaction.records) =
    subst (λ x. share_at shares' x ≡ with_end (share_at shares x) n (length r.transaction.records)) s_is (own ∙ ap (with_end (share_at shares s) n) rows_is) in
    rw (ts_is, c_is, r.number) (kept-committed st ts c shares shares' n r.transaction checkpoint k r.is r.has_come own' (λ q other. others q (λ e. other (e ∙ s_is))))

abbrev abort_if : Ledger → ℕ → Option Transaction → Ledger
abort_if l n o = elim o [ None ↦ l | Some t ↦ with_transaction l n (aborted_one t) ]

-- one that is aborted has no records
pub aborted-again : (l : Ledger) (n place : ℕ) → IsOrdered l → Found l.transactions n place Aborted → (abort_refusal l n ≡ None) × (l ≡ aborted l n) × (0 ≤ 0)
aborted-again l n place o f =
    let at : slice_get l.transactions (n - 1) ≡ Some f.transaction = (in_range l.transactions n f.transaction f.is).1 in
    let empty : f.transaction.records ≡ [] = o.emptied (n - 1) f.transaction at f.has_come in
    let same : aborted_one f.transaction ≡ f.transaction = sym (λ i. record { subtask = f.transaction.subtask; progress = f.has_come i; records = empty i }) in
    let written : slice_set l.transactions (n - 1) f.transaction ≡ l.transactions =
    ap (slice_set l.transactions (n - 1)) (sym (get_or_from_slice_get l.transactions (n - 1) f.transaction f.transaction at)) ∙ set-get_or l.transactions (n - 1) f.transaction in
    let changed : aborted l n ≡ record l { transactions = slice_set l.transactions (n - 1) (aborted_one f.transaction) } = ap (abort_if l n) f.is in (
      ap (refusal if_not_committed) f.is ∙ ap if_not_committed f.has_come,
      sym (changed ∙ ap (λ ts. record l { transactions = ts }) (ap (slice_set l.transactions (n - 1)) same ∙ written)),
      omega arith,
    )
