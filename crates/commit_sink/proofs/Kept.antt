-- Each call leaves what is kept.
use Rattle.std.proofs.Common.{◌≡◌, ◌≢◌, ◌<◌, ◌≤◌, ◌+◌, ◌-◌, ◌^◌, ◌&&◌, ℕ, Bool, true, false, cond, List, length, map, slice_get, slice_set, Some, refl, sym, ap, ◌∙◌, subst, ⊎_elim, arith}
use Rattle.std.proofs.lemmas.Bool.{eq-eqb}
use Rattle.std.proofs.lemmas.Bool.Decides.{eqb_tells}
use Rattle.std.specs.BTreeSet.{BTreeSet}
use Rattle.commit_sink.specs.declared.share.Share.{Share}
use Rattle.commit_sink.specs.Ledger.{Ledger, Transaction, IsOrdered, committed_rows, transaction_in, unsettled_of}
use Rattle.commit_sink.specs.Roomy.{WithRoom}
use Rattle.commit_sink.specs.Shares.{IsKept, IsShare, is_unsettled, is_unsettled_of, ledger_of, pending_rows, share_at}
use Rattle.commit_sink.proofs.Counted.{sum_by-changed, sum_by-one}
use Rattle.commit_sink.proofs.Replaced.{Replaces, in_range, keeps-replaced, ordered-replaced, share-kept}
use Rattle.commit_sink.proofs.Unsettled.{numbers-same}

abbrev pub one : Bool → ℕ
one b = cond b 1 0

pub of_itself : (t : Transaction) (s : ℕ) (u : Transaction) → s ≡ t.subtask → u.subtask ≡ t.subtask → is_unsettled_of s u ≡ is_unsettled u
of_itself t s u same_s same_u = ap (λ b. b && is_unsettled u) (eq-eqb u.subtask s (same_u ∙ sym same_s))

pub of_another : (t : Transaction) (s : ℕ) (u : Transaction) → s ≢ t.subtask → u.subtask ≡ t.subtask → is_unsettled_of s u ≡ false
of_another t s u other same_u = ⊎_elim
    (λ same. absurd (other (sym (sym same_u ∙ same.1))))
    (λ differs. ap (λ b. b && is_unsettled u) differs.0)
    (eqb_tells u.subtask s)

own_share : (l : Ledger) (share : Share) (n : ℕ) (t u : Transaction) (p q : ℕ) (w : BTreeSet ℕ) → IsOrdered l → IsShare l t.subtask share → Replaces l.transactions n t u → is_unsettled t ≡ true
    → cond (is_unsettled u) 1 0 + share.ends.promised ≤ p + 1
    → q + length t.records ≡ share.pending + cond (is_unsettled u) (length u.records) 0
    → length (committed_rows l t.subtask) + q < 2 ^ 64
    → w.keys ≡ map (λ e. e.0) (unsettled_of (ledger_of l.subtasks (slice_set l.transactions (n - 1) u) l.committed) t.subtask)
    → IsShare (ledger_of l.subtasks (slice_set l.transactions (n - 1) u) l.committed) t.subtask (record { ends = record { items = share.ends.items; promised = p }; pending = q; unsettled = w })
own_share l share n t u p q w o i r unsettled room pending total numbers =
    let at : slice_get l.transactions (n - 1) ≡ Some t = (in_range l.transactions n t r.is).1 in
    let was : is_unsettled_of t.subtask t ≡ true = of_itself t t.subtask t refl refl ∙ unsettled in
    let now : is_unsettled_of t.subtask u ≡ is_unsettled u = of_itself t t.subtask u refl r.subtask in
    let count = sum_by-changed (λ x. cond (is_unsettled_of t.subtask x) 1 0) l.transactions (n - 1) t u at in
    let count_was : one (is_unsettled_of t.subtask t) ≡ 1 = ap one was in
    let count_now : one (is_unsettled_of t.subtask u) ≡ one (is_unsettled u) = ap one now in
    let rows = sum_by-changed (pending_rows t.subtask) l.transactions (n - 1) t u at in
    let rows_was : pending_rows t.subtask t ≡ length t.records = ap (λ b. cond b (length t.records) 0) was in
    let rows_now : pending_rows t.subtask u ≡ cond (is_unsettled u) (length u.records) 0 = ap (λ b. cond b (length u.records) 0) now in
    let room_was = i.room in
    let pending_was = i.pending in
    share-kept l (slice_set l.transactions (n - 1) u) o (keeps-replaced l n t u r.is r.old) t.subtask share i p q w
    (omega (arith, count, count_was, count_now, room_was, room)) (omega (arith, rows, rows_was, rows_now, pending_was, pending)) total numbers

pub other_share : (l : Ledger) (share : Share) (n : ℕ) (t u : Transaction) (s : ℕ) → s ≢ t.subtask → IsOrdered l → IsShare l s share → Replaces l.transactions n t u
    → IsShare (ledger_of l.subtasks (slice_set l.transactions (n - 1) u) l.committed) s share
other_share l share n t u s other o i r =
    let at : slice_get l.transactions (n - 1) ≡ Some t = (in_range l.transactions n t r.is).1 in
    let was : is_unsettled_of s t ≡ false = of_another t s t other refl in
    let now : is_unsettled_of s u ≡ false = of_another t s u other r.subtask in
    let count = sum_by-changed (λ x. cond (is_unsettled_of s x) 1 0) l.transactions (n - 1) t u at in
    let count_was : one (is_unsettled_of s t) ≡ 0 = ap one was in
    let count_now : one (is_unsettled_of s u) ≡ 0 = ap one now in
    let rows = sum_by-changed (pending_rows s) l.transactions (n - 1) t u at in
    let rows_was : pending_rows s t ≡ 0 = ap (λ b. cond b (length t.records) 0) was in
    let rows_now : pending_rows s u ≡ 0 = ap (λ b. cond b (length u.records) 0) now in
    let room_was = i.room in
    let pending_was = i.pending in
    share-kept l (slice_set l.transactions (n - 1) u) o (keeps-replaced l n t u r.is r.old) s share i share.ends.promised share.pending share.unsettled
    (omega (arith, count, count_was, count_now, room_was)) (omega (arith, rows, rows_was, rows_now, pending_was)) i.total
    (numbers-same s n l.transactions t u share.unsettled.keys r.is (now ∙ sym was) i.unsettled)

-- One transaction is replaced, which is neither committed nor aborted.
pub kept-replaced : (st : ℕ) (ts : List Transaction) (c : WithRoom ℕ) (shares shares' : List Share) (n : ℕ) (t u : Transaction) (p0 p q : ℕ) (w : BTreeSet ℕ)
    → IsKept st ts c shares → Replaces ts n t u → is_unsettled t ≡ true
    → cond (is_unsettled u) 1 0 + c.promised ≤ p0 + 1
    → cond (is_unsettled u) 1 0 + (share_at shares t.subtask).ends.promised ≤ p + 1
    → q + length t.records ≡ (share_at shares t.subtask).pending + cond (is_unsettled u) (length u.records) 0
    → length (committed_rows (ledger_of st ts c.items) t.subtask) + q < 2 ^ 64
    → w.keys ≡ map (λ e. e.0) (unsettled_of (ledger_of st (slice_set ts (n - 1) u) c.items) t.subtask)
    → share_at shares' t.subtask ≡ record { ends = record { items = (share_at shares t.subtask).ends.items; promised = p }; pending = q; unsettled = w }
    → ((s : ℕ) → s ≢ t.subtask → share_at shares' s ≡ share_at shares s)
    → IsKept st (slice_set ts (n - 1) u) (record { items = c.items; promised = p0 }) shares'
kept-replaced st ts c shares shares' n t u p0 p q w k r unsettled room0 room pending total numbers here others = record {
  ordered = ordered-replaced (ledger_of st ts c.items) n t u r k.ordered;
  room =
      let changed = sum_by-changed (λ x. cond (is_unsettled x) 1 0) ts (n - 1) t u (in_range ts n t r.is).1 in
      let old : one (is_unsettled t) ≡ 1 = ap one unsettled in
      let kept = k.room in
      omega (arith, changed, old, kept, room0);
  share = λ s. ⊎_elim
      (λ same. subst (λ x. IsShare (ledger_of st (slice_set ts (n - 1) u) c.items) x (share_at shares' x)) (sym same.1)
      (subst (IsShare (ledger_of st (slice_set ts (n - 1) u) c.items) t.subtask) (sym here)
      (own_share (ledger_of st ts c.items) (share_at shares t.subtask) n t u p q w k.ordered (k.share t.subtask) r unsettled room pending total numbers)))
      (λ other. subst (IsShare (ledger_of st (slice_set ts (n - 1) u) c.items) s) (sym (others s other.1))
      (other_share (ledger_of st ts c.items) (share_at shares s) n t u s other.1 k.ordered (k.share s) r))
      (eqb_tells s t.subtask);
}

-- A transaction that is neither committed nor aborted has a place in the order of commit, and one in its subtask's share.
pub place-promised : (st : ℕ) (ts : List Transaction) (c : WithRoom ℕ) (shares : List Share) (n : ℕ) (t : Transaction) → IsKept st ts c shares → transaction_in ts n ≡ Some t → is_unsettled t ≡ true
    → (1 ≤ c.promised) × (1 ≤ (share_at shares t.subtask).ends.promised) × (length t.records ≤ (share_at shares t.subtask).pending)
place-promised st ts c shares n t k is unsettled =
    let at : slice_get ts (n - 1) ≡ Some t = (in_range ts n t is).1 in
    let own : is_unsettled_of t.subtask t ≡ true = of_itself t t.subtask t refl refl ∙ unsettled in
    let i = k.share t.subtask in
    let all = sum_by-one (λ x. cond (is_unsettled x) 1 0) ts (n - 1) t at in
    let all_one : one (is_unsettled t) ≡ 1 = ap one unsettled in
    let room = k.room in
    let of = sum_by-one (λ x. cond (is_unsettled_of t.subtask x) 1 0) ts (n - 1) t at in
    let of_one : one (is_unsettled_of t.subtask t) ≡ 1 = ap one own in
    let share_room = i.room in
    let rows = sum_by-one (pending_rows t.subtask) ts (n - 1) t at in
    let rows_one : pending_rows t.subtask t ≡ length t.records = ap (λ b. cond b (length t.records) 0) own in
    let share_rows = i.pending in
    (omega (arith, all, all_one, room), omega (arith, of, of_one, share_room), omega (arith, rows, rows_one, share_rows))
