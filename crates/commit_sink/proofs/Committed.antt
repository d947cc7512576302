-- A transaction is committed.
use Rattle.std.proofs.Common.{◌≡◌, ◌≢◌, ◌<◌, ◌≤◌, ◌+◌, ◌-◌, ◌^◌, ◌==◌, ℕ, true, false, cond, List, [], ◌∷◌, ◌++◌, length, filter, take, slice_get, slice_set, Some, refl, sym, ap, ◌∙◌, subst, ⊎_elim, append-nil, arith}
use Rattle.std.specs.List.{flat_map}
use Rattle.std.proofs.lemmas.Bool.{eq-eqb}
use Rattle.std.proofs.lemmas.Bool.Decides.{eqb_tells}
use Rattle.std.proofs.lemmas.List.Elements.{filter-append}
use Rattle.std.proofs.lemmas.List.{length-append, length-map, length-set, map-append, take-append-le}
use Rattle.std.proofs.lemmas.List.Concat.{flat_map-append}
use Rattle.std.proofs.lemmas.List.Sums.{sum_by-append}
use Rattle.std.proofs.Math.Seq.{take-length}
use Rattle.commit_sink.specs.declared.transactions.Progress.{Progress}
use Rattle.commit_sink.specs.declared.transactions.Progress.TheVariants.{Aborted, Committed, PreCommitted}
use Rattle.commit_sink.specs.declared.share.End.{End}
use Rattle.commit_sink.specs.declared.share.Share.{Share}
use Rattle.commit_sink.specs.Ends.{rows_of}
use Rattle.commit_sink.specs.Ledger.{Ledger, Transaction, IsOrdered, committed_rows, has_committed, is_committed, is_of, records_of, transaction_at, transaction_in}
use Rattle.commit_sink.specs.Roomy.{WithRoom}
use Rattle.commit_sink.specs.Shares.{IsKept, IsShare, has_unsettled, is_unsettled, is_unsettled_of, ledger_of, numbers_of, pending_rows, share_at, with_end}
use Rattle.commit_sink.proofs.Counted.{count_of, count_of-cons, sum_by-changed, sum_by-one}
use Rattle.commit_sink.proofs.Ends.{rows_of-more}
use Rattle.commit_sink.proofs.Kept.{of_another, of_itself, one}
use Rattle.commit_sink.proofs.Replaced.{committed_one, committed_rows-kept, filter-kept, in_range, is_committed-other, keeps-replaced, of_one, records_one, rows-kept, slice_get-replaced, transaction_in-set_same}
use Rattle.commit_sink.proofs.Unsettled.{numbers-gone, numbers-same}

abbrev pub done : Transaction → Transaction
done t = record t { progress = Committed }

abbrev pub with_commit : Ledger → ℕ → Transaction → Ledger
with_commit l n t = ledger_of l.subtasks (slice_set l.transactions (n - 1) (done t)) (l.committed ++ n ∷ [])

pub ordered-committed : (l : Ledger) (n : ℕ) (t : Transaction) → transaction_at l n ≡ Some t → has_committed t.progress ≡ false → IsOrdered l → IsOrdered (with_commit l n t)
ordered-committed l n t is before o = record {
  once = λ m. more m ∙ ⊎_elim
      (λ here.
      let none : count_of n l.committed ≡ 0 = o.once n ∙ ap one (ap committed_one is ∙ before) in
      let now : is_committed (with_commit l n t) n ≡ true = ap committed_one (transaction_in-set_same l.transactions n t (done t) is) in
      subst (λ k. count_of k l.committed + cond (n == k) 1 0 ≡ cond (is_committed (with_commit l n t) k) 1 0) here.1
      (ap (λ b. count_of n l.committed + cond b 1 0) (eq-eqb n n refl) ∙ ap (λ k. k + 1) none ∙ sym (ap one now)))
      (λ other.
      let same = is_committed-other l.transactions n m t (done t) is (λ e. other.1 (sym e)) in
      let was : count_of m l.committed ≡ one (is_committed l m) = o.once m in
      let off : one (n == m) ≡ 0 = ap one other.0 in
      let now : one (is_committed (with_commit l n t) m) ≡ one (is_committed l m) = ap one same in
      omega (arith, was, off, now))
      (eqb_tells n m);
  subtask = slice_get-replaced l.transactions n t (done t) is (λ x. x.subtask < l.subtasks) (o.subtask (n - 1) t (in_range l.transactions n t is).1) o.subtask;
  emptied = slice_get-replaced l.transactions n t (done t) is (λ x. x.progress ≡ Aborted → x.records ≡ []) (λ e. absurd (cc e)) o.emptied;
  numbers = subst (λ k. k < 2 ^ 64) (sym (length-set l.transactions (n - 1) (done t))) o.numbers;
}
  where
    more : (m : ℕ) → count_of m (l.committed ++ n ∷ []) ≡ count_of m l.committed + cond (n == m) 1 0
    more m =
        let parts = sum_by-append (λ x. cond (x == m) 1 0) l.committed (n ∷ []) in
        let last = count_of-cons m n [] in
        omega (arith, parts, last)

-- the committed transactions of a subtask
filter-committed : (l : Ledger) (n : ℕ) (t : Transaction) → transaction_at l n ≡ Some t → has_committed t.progress ≡ false → IsOrdered l → (s : ℕ)
    → filter (is_of (with_commit l n t) s) (l.committed ++ n ∷ []) ≡ filter (is_of l s) l.committed ++ cond (t.subtask == s) (n ∷ []) []
filter-committed l n t is before o s =
    filter-append (is_of (with_commit l n t) s) l.committed (n ∷ [])
    ∙ ap (λ xs. xs ++ filter (is_of (with_commit l n t) s) (n ∷ [])) (filter-kept l (slice_set l.transactions (n - 1) (done t)) o (keeps-replaced l n t (done t) is before) s)
    ∙ ap (λ b. filter (is_of l s) l.committed ++ cond b (n ∷ []) []) (ap (of_one s) (transaction_in-set_same l.transactions n t (done t) is))

-- the joined records of the same transactions
rows_of-committed_ones : (l : Ledger) (n : ℕ) (t : Transaction) → transaction_at l n ≡ Some t → has_committed t.progress ≡ false → IsOrdered l → (s : ℕ)
    → flat_map (records_of (with_commit l n t)) (filter (is_of l s) l.committed) ≡ committed_rows l s
rows_of-committed_ones l n t is before o s =
    ap (flat_map (records_of (with_commit l n t))) (sym (filter-kept l (slice_set l.transactions (n - 1) (done t)) o (keeps-replaced l n t (done t) is before) s))
    ∙ committed_rows-kept l (slice_set l.transactions (n - 1) (done t)) o (keeps-replaced l n t (done t) is before) s

records_of-new : (l : Ledger) (n : ℕ) (t : Transaction) → transaction_at l n ≡ Some t → flat_map (records_of (with_commit l n t)) (n ∷ []) ≡ t.records
records_of-new l n t is = append-nil (records_of (with_commit l n t) n) ∙ ap records_one (transaction_in-set_same l.transactions n t (done t) is)

committed_rows-own : (l : Ledger) (n : ℕ) (t : Transaction) → transaction_at l n ≡ Some t → has_committed t.progress ≡ false → IsOrdered l
    → committed_rows (with_commit l n t) t.subtask ≡ committed_rows l t.subtask ++ t.records
committed_rows-own l n t is before o =
    ap (flat_map (records_of (with_commit l n t))) (filter-committed l n t is before o t.subtask ∙ ap (λ b. filter (is_of l t.subtask) l.committed ++ cond b (n ∷ []) []) (eq-eqb t.subtask t.subtask refl))
    ∙ flat_map-append (records_of (with_commit l n t)) (filter (is_of l t.subtask) l.committed) (n ∷ [])
    ∙ ap (λ xs. xs ++ flat_map (records_of (with_commit l n t)) (n ∷ [])) (rows_of-committed_ones l n t is before o t.subtask)
    ∙ ap (λ xs. committed_rows l t.subtask ++ xs) (records_of-new l n t is)

filter-another : (l : Ledger) (n : ℕ) (t : Transaction) → transaction_at l n ≡ Some t → has_committed t.progress ≡ false → IsOrdered l → (s : ℕ) → (t.subtask == s) ≡ false
    → filter (is_of (with_commit l n t) s) (l.committed ++ n ∷ []) ≡ filter (is_of l s) l.committed
filter-another l n t is before o s other =
    filter-committed l n t is before o s ∙ ap (λ b. filter (is_of l s) l.committed ++ cond b (n ∷ []) []) other ∙ append-nil (filter (is_of l s) l.committed)

-- the number of records up to each end
rows-earlier : (l : Ledger) (n : ℕ) (t : Transaction) → transaction_at l n ≡ Some t → has_committed t.progress ≡ false → IsOrdered l → (s : ℕ) (share : Share) → IsShare l s share
    → (k : ℕ) → k ≤ length share.ends.items → rows_of (take k share.ends.items) ≡ length (flat_map (records_of (with_commit l n t)) (take k (numbers_of share.ends.items)))
rows-earlier l n t is before o s share i k within =
    i.rows k within ∙ sym (rows-kept l (slice_set l.transactions (n - 1) (done t)) o (keeps-replaced l n t (done t) is before) s share i k)

rows-last : (l : Ledger) (n : ℕ) (t : Transaction) → transaction_at l n ≡ Some t → has_committed t.progress ≡ false → IsOrdered l → (share : Share) → IsShare l t.subtask share
    → rows_of share.ends.items + length t.records ≡ length (flat_map (records_of (with_commit l n t)) (numbers_of share.ends.items ++ n ∷ []))
rows-last l n t is before o share i =
    let f : ℕ → List (List ℕ) = records_of (with_commit l n t) in
    let parts : length (flat_map f (numbers_of share.ends.items ++ n ∷ [])) ≡ length (flat_map f (numbers_of share.ends.items)) + length (flat_map f (n ∷ [])) =
    ap length (flat_map-append f (numbers_of share.ends.items) (n ∷ [])) ∙ length-append (flat_map f (numbers_of share.ends.items)) (flat_map f (n ∷ [])) in
    let old : rows_of share.ends.items ≡ length (flat_map f (numbers_of share.ends.items)) =
    ap rows_of (sym (take-length share.ends.items)) ∙ rows-earlier l n t is before o t.subtask share i (length share.ends.items) (omega arith)
    ∙ ap (λ k. length (flat_map f (take k (numbers_of share.ends.items)))) (sym (length-map share.ends.items (λ e. e.transaction)))
    ∙ ap (λ xs. length (flat_map f xs)) (take-length (numbers_of share.ends.items)) in
    let new : length (flat_map f (n ∷ [])) ≡ length t.records = ap length (records_of-new l n t is) in
    omega (arith, parts, old, new)

numbers_of-more : (items : List End) (e : End) → numbers_of (items ++ e ∷ []) ≡ numbers_of items ++ e.transaction ∷ []
numbers_of-more items e = map-append (λ e. e.transaction) items (e ∷ [])

length-more : {A : Type 0} (xs : List A) (x : A) → length (xs ++ x ∷ []) ≡ length xs + 1
length-more xs x = length-append xs (x ∷ [])

rows-own : (l : Ledger) (n : ℕ) (t : Transaction) → transaction_at l n ≡ Some t → has_committed t.progress ≡ false → IsOrdered l → (share : Share) → IsShare l t.subtask share
    → (e : End) → e.transaction ≡ n → e.rows ≡ rows_of share.ends.items + length t.records
    → (k : ℕ) → k ≤ length (share.ends.items ++ e ∷ [])
    → rows_of (take k (share.ends.items ++ e ∷ [])) ≡ length (flat_map (records_of (with_commit l n t)) (take k (numbers_of (share.ends.items ++ e ∷ []))))
rows-own l n t is before o share i e number rows k within = ⊎_elim
    (λ last.
    let whole : k ≡ length (share.ends.items ++ e ∷ []) = last.1 ∙ sym (length-more share.ends.items e) in
    let whole_numbers : k ≡ length (numbers_of (share.ends.items ++ e ∷ [])) = whole ∙ sym (length-map (share.ends.items ++ e ∷ []) (λ x. x.transaction)) in
    ap rows_of (ap (λ m. take m (share.ends.items ++ e ∷ [])) whole ∙ take-length (share.ends.items ++ e ∷ []))
    ∙ rows_of-more share.ends.items e ∙ rows ∙ rows-last l n t is before o share i
    ∙ ap (λ xs. length (flat_map (records_of (with_commit l n t)) xs))
    (ap (λ m. numbers_of share.ends.items ++ m ∷ []) (sym number) ∙ sym (numbers_of-more share.ends.items e)
    ∙ sym (ap (λ m. take m (numbers_of (share.ends.items ++ e ∷ []))) whole_numbers ∙ take-length (numbers_of (share.ends.items ++ e ∷ [])))))
    (λ earlier.
    let more = length-more share.ends.items e in
    let differs : k ≢ length share.ends.items + 1 = earlier.1 in
    let inside : k ≤ length share.ends.items = omega (arith, within, more, differs) in
    let same_length = length-map share.ends.items (λ x. x.transaction) in
    ap rows_of (take-append-le k share.ends.items (e ∷ []) inside)
    ∙ rows-earlier l n t is before o t.subtask share i k inside
    ∙ ap (λ xs. length (flat_map (records_of (with_commit l n t)) xs))
    (sym (ap (take k) (numbers_of-more share.ends.items e) ∙ take-append-le k (numbers_of share.ends.items) (e.transaction ∷ []) (omega (arith, inside, same_length)))))
    (eqb_tells k (length share.ends.items + 1))

own_committed : (l : Ledger) (n : ℕ) (t : Transaction) → transaction_at l n ≡ Some t → is_unsettled t ≡ true → has_committed t.progress ≡ false → IsOrdered l → (share : Share) → IsShare l t.subtask share
    → IsShare (with_commit l n t) t.subtask (with_end share n (length t.records))
own_committed l n t is unsettled before o share i =
    let at : slice_get l.transactions (n - 1) ≡ Some t = (in_range l.transactions n t is).1 in
    let was : is_unsettled_of t.subtask t ≡ true = of_itself t t.subtask t refl refl ∙ unsettled in
    let now : is_unsettled_of t.subtask (done t) ≡ false = of_itself t t.subtask (done t) refl refl in
    let count = sum_by-changed (λ x. cond (is_unsettled_of t.subtask x) 1 0) l.transactions (n - 1) t (done t) at in
    let count_was : one (is_unsettled_of t.subtask t) ≡ 1 = ap one was in
    let count_now : one (is_unsettled_of t.subtask (done t)) ≡ 0 = ap one now in
    let rows = sum_by-changed (pending_rows t.subtask) l.transactions (n - 1) t (done t) at in
    let rows_was : pending_rows t.subtask t ≡ length t.records = ap (λ b. cond b (length t.records) 0) was in
    let rows_now : pending_rows t.subtask (done t) ≡ 0 = ap (λ b. cond b (length t.records) 0) now in
    let room_was = i.room in
    let pending_was = i.pending in
    let pending_one = sum_by-one (pending_rows t.subtask) l.transactions (n - 1) t at in
    let total_was = i.total in
    let joined : length (committed_rows (with_commit l n t) t.subtask) ≡ length (committed_rows l t.subtask) + length t.records = ap length (committed_rows-own l n t is before o) ∙ length-append (committed_rows l t.subtask) t.records in
    record {
      numbers =
          numbers_of-more share.ends.items (record { transaction = n; rows = rows_of share.ends.items + length t.records })
          ∙ ap (λ xs. xs ++ n ∷ []) i.numbers
          ∙ sym (filter-committed l n t is before o t.subtask ∙ ap (λ b. filter (is_of l t.subtask) l.committed ++ cond b (n ∷ []) []) (eq-eqb t.subtask t.subtask refl));
      rows = rows-own l n t is before o share i (record { transaction = n; rows = rows_of share.ends.items + length t.records }) refl refl;
      room = omega (arith, count, count_was, count_now, room_was);
      pending = omega (arith, rows, rows_was, rows_now, pending_was);
      total = omega (arith, joined, total_was, pending_one, rows_was, pending_was);
      unsettled = numbers-gone t.subtask n l.transactions t (done t) share.unsettled.keys is was now i.unsettled;
    }

other_committed : (l : Ledger) (n : ℕ) (t : Transaction) (s : ℕ) → transaction_at l n ≡ Some t → has_committed t.progress ≡ false → IsOrdered l → s ≢ t.subtask → (share : Share) → IsShare l s share
    → IsShare (with_commit l n t) s share
other_committed l n t s is before o other share i =
    let at : slice_get l.transactions (n - 1) ≡ Some t = (in_range l.transactions n t is).1 in
    let was : is_unsettled_of s t ≡ false = of_another t s t other refl in
    let now : is_unsettled_of s (done t) ≡ false = of_another t s (done t) other refl in
    let count = sum_by-changed (λ x. cond (is_unsettled_of s x) 1 0) l.transactions (n - 1) t (done t) at in
    let count_was : one (is_unsettled_of s t) ≡ 0 = ap one was in
    let count_now : one (is_unsettled_of s (done t)) ≡ 0 = ap one now in
    let rows = sum_by-changed (pending_rows s) l.transactions (n - 1) t (done t) at in
    let rows_was : pending_rows s t ≡ 0 = ap (λ b. cond b (length t.records) 0) was in
    let rows_now : pending_rows s (done t) ≡ 0 = ap (λ b. cond b (length t.records) 0) now in
    let room_was = i.room in
    let pending_was = i.pending in
    let off : (t.subtask == s) ≡ false = ⊎_elim (λ same. absurd (other (sym same.1))) (λ differs. differs.0) (eqb_tells t.subtask s) in
    let joined : committed_rows (with_commit l n t) s ≡ committed_rows l s = ap (flat_map (records_of (with_commit l n t))) (filter-another l n t is before o s off) ∙ rows_of-committed_ones l n t is before o s in
    record {
      numbers = i.numbers ∙ sym (filter-another l n t is before o s off);
      rows = rows-earlier l n t is before o s share i;
      room = omega (arith, count, count_was, count_now, room_was);
      pending = omega (arith, rows, rows_was, rows_now, pending_was);
      total = subst (λ xs. length xs + share.pending < 2 ^ 64) (sym joined) i.total;
      unsettled = numbers-same s n l.transactions t (done t) share.unsettled.keys is (now ∙ sym was) i.unsettled;
    }

pre_committed_ones : (p : Progress) (c : ℕ) → p ≡ PreCommitted c → (has_unsettled p ≡ true) × (has_committed p ≡ false)
pre_committed_ones p c is = (ap has_unsettled is, ap has_committed is)

-- A transaction that is pre-committed is committed.
pub kept-committed : (st : ℕ) (ts : List Transaction) (c : WithRoom ℕ) (shares shares' : List Share) (n : ℕ) (t : Transaction) (checkpoint : ℕ)
    → IsKept st ts c shares → transaction_in ts n ≡ Some t → t.progress ≡ PreCommitted checkpoint
    → share_at shares' t.subtask ≡ with_end (share_at shares t.subtask) n (length t.records)
    → ((s : ℕ) → s ≢ t.subtask → share_at shares' s ≡ share_at shares s)
    → IsKept st (slice_set ts (n - 1) (record t { progress = Committed })) (record { items = c.items ++ n ∷ []; promised = c.promised - 1 }) shares'
kept-committed st ts c shares shares' n t checkpoint k is at here others =
    let r = pre_committed_ones t.progress checkpoint at in
    record {
      ordered = ordered-committed (ledger_of st ts c.items) n t is r.1 k.ordered;
      room =
          let changed = sum_by-changed (λ x. cond (is_unsettled x) 1 0) ts (n - 1) t (done t) (in_range ts n t is).1 in
          let old : one (is_unsettled t) ≡ 1 = ap one r.0 in
          let kept = k.room in
          omega (arith, changed, old, kept);
      share = λ s. ⊎_elim
          (λ same. subst (λ x. IsShare (with_commit (ledger_of st ts c.items) n t) x (share_at shares' x)) (sym same.1)
          (subst (IsShare (with_commit (ledger_of st ts c.items) n t) t.subtask) (sym here) (own_committed (ledger_of st ts c.items) n t is r.0 r.1 k.ordered (share_at shares t.subtask) (k.share t.subtask))))
          (λ other. subst (IsShare (with_commit (ledger_of st ts c.items) n t) s) (sym (others s other.1)) (other_committed (ledger_of st ts c.items) n t s is r.1 k.ordered other.1 (share_at shares s) (k.share s)))
          (eqb_tells s t.subtask);
    }
