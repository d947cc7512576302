-- A ledger in which one transaction, that is not committed, is replaced.
use Rattle.std.proofs.Common.{◌≡◌, ◌≢◌, ◌<◌, ◌≤◌, ◌+◌, ◌-◌, ◌^◌, ◌==◌, ℕ, Bool, true, false, cond, List, [], length, map, filter, count_by, sum_by, take, slice_get, slice_set, Option, Some, None, refl, sym, ap, ◌∙◌, subst, ⊎_elim, arith}
use Rattle.std.specs.BTreeSet.{BTreeSet}
use Rattle.std.specs.List.{flat_map}
use Rattle.std.proofs.lemmas.Bool.Decides.{eqb_tells}
use Rattle.std.proofs.lemmas.List.{length-set}
use Rattle.std.proofs.lemmas.List.Sums.{sum_by-take-le}
use Rattle.commit_sink.specs.declared.transactions.Progress.TheVariants.{Aborted}
use Rattle.commit_sink.specs.declared.share.Share.{Share}
use Rattle.commit_sink.specs.Ledger.{Ledger, Transaction, IsOrdered, committed_rows, has_committed, is_committed, is_of, records_of, transaction_at, transaction_in, unsettled_of}
use Rattle.commit_sink.specs.Shares.{IsShare, is_unsettled_of, ledger_of, numbers_of, pending_rows}
use Rattle.commit_sink.proofs.Counted.{count_of, counted-filter, filter-counted, flat_map-counted, slice_get-set_other, slice_get-set_same}

not_true : (b : Bool) → b ≡ false → b ≡ true → ⊥
not_true b off on = cc (off, on)

-- a transaction that is there has a number above 0
pub in_range : (ts : List Transaction) (n : ℕ) (t : Transaction) → transaction_in ts n ≡ Some t → (1 ≤ n) × (slice_get ts (n - 1) ≡ Some t)
in_range ts n t is = ⊎_elim
    (λ same. absurd (cc (ap (λ b. cond b None (slice_get ts (n - 1))) (sym same.0) ∙ is)))
    (λ other. let positive : n ≢ 0 = other.1 in (omega (arith, positive), ap (λ b. cond b None (slice_get ts (n - 1))) (sym other.0) ∙ is))
    (eqb_tells n 0)

pub at_place : (ts : List Transaction) (n : ℕ) (t : Transaction) → 1 ≤ n → slice_get ts (n - 1) ≡ Some t → transaction_in ts n ≡ Some t
at_place ts n t positive at = ⊎_elim
    (λ same. let zero_is : n ≡ 0 = same.1 in absurd (omega (arith, zero_is, positive)))
    (λ other. ap (λ b. cond b None (slice_get ts (n - 1))) other.0 ∙ at)
    (eqb_tells n 0)

pub transaction_in-other : (ts us : List Transaction) (m : ℕ) → ((1 ≤ m) → slice_get us (m - 1) ≡ slice_get ts (m - 1)) → transaction_in us m ≡ transaction_in ts m
transaction_in-other ts us m same = ⊎_elim
    (λ zero_is. ap (λ b. cond b None (slice_get us (m - 1))) zero_is.0 ∙ sym (ap (λ b. cond b None (slice_get ts (m - 1))) zero_is.0))
    (λ other. let positive : m ≢ 0 = other.1 in ap (cond (m == 0) None) (same (omega (arith, positive))))
    (eqb_tells m 0)

-- the other transactions stay
pub transaction_in-set_other : (ts : List Transaction) (n m : ℕ) (y : Transaction) → 1 ≤ n → m ≢ n → transaction_in (slice_set ts (n - 1) y) m ≡ transaction_in ts m
transaction_in-set_other ts n m y positive other = transaction_in-other ts (slice_set ts (n - 1) y) m (λ there. slice_get-set_other ts (n - 1) (m - 1) y (λ same. other (let s : m - 1 ≡ n - 1 = same in omega (arith, s, there, positive))))

pub transaction_in-set_same : (ts : List Transaction) (n : ℕ) (t y : Transaction) → transaction_in ts n ≡ Some t → transaction_in (slice_set ts (n - 1) y) n ≡ Some y
transaction_in-set_same ts n t y is = let r = in_range ts n t is in at_place (slice_set ts (n - 1) y) n y r.0 (slice_get-set_same ts (n - 1) t y r.1)

abbrev pub committed_one : Option Transaction → Bool
committed_one o = elim o [ None ↦ false | Some t ↦ has_committed t.progress ]

abbrev pub records_one : Option Transaction → List (List ℕ)
records_one o = elim o [ None ↦ [] | Some t ↦ t.records ]

abbrev pub of_one : ℕ → Option Transaction → Bool
of_one s o = elim o [ None ↦ false | Some t ↦ t.subtask == s ]

-- what is counted in the order of commit is committed
pub is_committed-counted : (l : Ledger) → IsOrdered l → (m : ℕ) → 1 ≤ count_of m l.committed → is_committed l m ≡ true
is_committed-counted l o m some = by_cases (is_committed l m) (o.once m)
  where
    by_cases : (b : Bool) → count_of m l.committed ≡ cond b 1 0 → b ≡ true
    by_cases true is = refl
    by_cases false is = absurd (omega (arith, is, some))

-- the transactions that are committed stay
abbrev pub KeepsCommitted : Ledger → List Transaction → Type 0
KeepsCommitted l us = (m : ℕ) → is_committed l m ≡ true → transaction_in us m ≡ transaction_at l m

-- so a subtask's committed transactions are the same ones
pub filter-kept : (l : Ledger) (us : List Transaction) → IsOrdered l → KeepsCommitted l us → (s : ℕ)
    → filter (is_of (ledger_of l.subtasks us l.committed) s) l.committed ≡ filter (is_of l s) l.committed
filter-kept l us o keeps s =
    filter-counted (is_of (ledger_of l.subtasks us l.committed) s) (is_of l s) l.committed (λ m some. ap (of_one s) (keeps m (is_committed-counted l o m some)))

-- with the same records
pub flat_map-kept : (l : Ledger) (us : List Transaction) → IsOrdered l → KeepsCommitted l us → (xs : List ℕ) → ((m : ℕ) → count_of m xs ≤ count_of m l.committed)
    → flat_map (records_of (ledger_of l.subtasks us l.committed)) xs ≡ flat_map (records_of l) xs
flat_map-kept l us o keeps xs within =
    flat_map-counted (records_of (ledger_of l.subtasks us l.committed)) (records_of l) xs (λ m some. ap records_one (keeps m (is_committed-counted l o m (let w = within m in omega (arith, w, some)))))

pub committed_rows-kept : (l : Ledger) (us : List Transaction) → IsOrdered l → KeepsCommitted l us → (s : ℕ) → committed_rows (ledger_of l.subtasks us l.committed) s ≡ committed_rows l s
committed_rows-kept l us o keeps s =
    ap (flat_map (records_of (ledger_of l.subtasks us l.committed))) (filter-kept l us o keeps s)
    ∙ flat_map-kept l us o keeps (filter (is_of l s) l.committed) (λ m. counted-filter m (is_of l s) l.committed)

-- the number of records up to each end stays
pub rows-kept : (l : Ledger) (us : List Transaction) → IsOrdered l → KeepsCommitted l us → (s : ℕ) (share : Share) → IsShare l s share
    → (k : ℕ) → length (flat_map (records_of (ledger_of l.subtasks us l.committed)) (take k (numbers_of share.ends.items))) ≡ length (flat_map (records_of l) (take k (numbers_of share.ends.items)))
rows-kept l us o keeps s share i k = ap length (flat_map-kept l us o keeps (take k (numbers_of share.ends.items)) (λ m.
    let some_of : count_of m (take k (numbers_of share.ends.items)) ≤ count_of m (numbers_of share.ends.items) = sum_by-take-le (λ x. cond (x == m) 1 0) (numbers_of share.ends.items) k in
    let numbers : count_of m (numbers_of share.ends.items) ≡ count_of m (filter (is_of l s) l.committed) = ap (count_of m) i.numbers in
    let of_all = counted-filter m (is_of l s) l.committed in
    omega (arith, some_of, numbers, of_all)))

pub share-kept : (l : Ledger) (us : List Transaction) → IsOrdered l → KeepsCommitted l us → (s : ℕ) (share : Share) → IsShare l s share → (p q : ℕ) (w : BTreeSet ℕ)
    → count_by (is_unsettled_of s) us ≤ p → q ≡ sum_by (pending_rows s) us → length (committed_rows l s) + q < 2 ^ 64
    → w.keys ≡ map (λ e. e.0) (unsettled_of (ledger_of l.subtasks us l.committed) s)
    → IsShare (ledger_of l.subtasks us l.committed) s (record { ends = record { items = share.ends.items; promised = p }; pending = q; unsettled = w })
share-kept l us o keeps s share i p q w room pending total unsettled = record {
  numbers = i.numbers ∙ sym (filter-kept l us o keeps s);
  rows = λ k within. i.rows k within ∙ sym (rows-kept l us o keeps s share i k);
  room = room;
  pending = pending;
  total = subst (λ rows. length rows + q < 2 ^ 64) (sym (committed_rows-kept l us o keeps s)) total;
  unsettled = unsettled;
}

-- How a transaction may be replaced: t by u, neither of them committed.
pub record Replaces (ts : List Transaction) (n : ℕ) (t u : Transaction) : Type 0 where
  pub is : transaction_in ts n ≡ Some t
  pub old : has_committed t.progress ≡ false
  pub new : has_committed u.progress ≡ false
  pub subtask : u.subtask ≡ t.subtask
  pub emptied : u.progress ≡ Aborted → u.records ≡ []

pub keeps-replaced : (l : Ledger) (n : ℕ) (t u : Transaction) → transaction_at l n ≡ Some t → has_committed t.progress ≡ false → KeepsCommitted l (slice_set l.transactions (n - 1) u)
keeps-replaced l n t u is not_committed m committed =
    transaction_in-set_other l.transactions n m u (in_range l.transactions n t is).0
    (λ same. not_true (has_committed t.progress) not_committed (sym (ap committed_one is) ∙ ap (is_committed l) (sym same) ∙ committed))

some_same : {A : Type 0} (x y : A) → Some x ≡ Some y → x ≡ y
some_same x y e = cc e

pub slice_get-replaced : (ts : List Transaction) (n : ℕ) (t u : Transaction) → transaction_in ts n ≡ Some t → (P : Transaction → Type 0) → P u → ((k : ℕ) (x : Transaction) → slice_get ts k ≡ Some x → P x)
    → (k : ℕ) (x : Transaction) → slice_get (slice_set ts (n - 1) u) k ≡ Some x → P x
slice_get-replaced ts n t u is P new olds k x at = ⊎_elim
    (λ here. subst P (some_same u x (sym (slice_get-set_same ts (n - 1) t u (in_range ts n t is).1) ∙ ap (slice_get (slice_set ts (n - 1) u)) (sym here.1) ∙ at)) new)
    (λ other. olds k x (sym (slice_get-set_other ts (n - 1) k u other.1) ∙ at))
    (eqb_tells k (n - 1))

pub is_committed-other : (ts : List Transaction) (n m : ℕ) (t u : Transaction) → transaction_in ts n ≡ Some t → m ≢ n → committed_one (transaction_in (slice_set ts (n - 1) u) m) ≡ committed_one (transaction_in ts m)
is_committed-other ts n m t u is other = ap committed_one (transaction_in-set_other ts n m u (in_range ts n t is).0 other)

pub ordered-replaced : (l : Ledger) (n : ℕ) (t u : Transaction) → Replaces l.transactions n t u → IsOrdered l → IsOrdered (ledger_of l.subtasks (slice_set l.transactions (n - 1) u) l.committed)
ordered-replaced l n t u r o = record {
  once = λ m. o.once m ∙ ap (λ b. cond b 1 0) (sym (same m));
  subtask = slice_get-replaced l.transactions n t u r.is (λ x. x.subtask < l.subtasks) (subst (λ y. y < l.subtasks) (sym r.subtask) (o.subtask (n - 1) t (in_range l.transactions n t r.is).1)) o.subtask;
  emptied = slice_get-replaced l.transactions n t u r.is (λ x. x.progress ≡ Aborted → x.records ≡ []) r.emptied o.emptied;
  numbers = subst (λ k. k < 2 ^ 64) (sym (length-set l.transactions (n - 1) u)) o.numbers;
}
  where
    same : (m : ℕ) → is_committed (ledger_of l.subtasks (slice_set l.transactions (n - 1) u) l.committed) m ≡ is_committed l m
    same m = ⊎_elim
        (λ here.
        let now : is_committed (ledger_of l.subtasks (slice_set l.transactions (n - 1) u) l.committed) n ≡ false = ap committed_one (transaction_in-set_same l.transactions n t u r.is) ∙ r.new in
        let before : is_committed l n ≡ false = ap committed_one r.is ∙ r.old in
        subst (λ k. is_committed (ledger_of l.subtasks (slice_set l.transactions (n - 1) u) l.committed) k ≡ is_committed l k) (sym here.1) (now ∙ sym before))
        (λ other. is_committed-other l.transactions n m t u r.is other.1)
        (eqb_tells m n)
