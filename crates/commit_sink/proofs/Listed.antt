-- Transactions that are made from lists.
use Rattle.std.proofs.Common.{◌≡◌, ◌≢◌, ◌<◌, ◌≤◌, ◌+◌, ◌-◌, ◌==◌, ℕ, zero, suc, Bool, true, false, cond, List, [], ◌∷◌, ◌++◌, length, map, take, get_or, Result, Ok, Err, slice_get, slice_set, Option, Some, None, refl, sym, ap, subst, ◌∙◌, arith, ⊎_elim}
use Rattle.std.specs.Prelude.{IfOk, OnOk}
use Rattle.abs_codec.specs.declared.fault.NoMemory.{NoMemory}
use Rattle.std.proofs.lemmas.Bool.{eq-eqb}
use Rattle.std.proofs.lemmas.Bool.Decides.{eqb_tells}
use Rattle.std.proofs.lemmas.List.{append-nil, length-append, length-map, length-set, same_lists}
use Rattle.std.proofs.lemmas.Option.{get_or_from_slice_get, slice_get-get_or}
use Rattle.std.proofs.Math.Seq.{take-suc, get_or-append_seam, set-append_seam}
use Rattle.commit_sink.specs.declared.transactions.Progress.{Progress}
use Rattle.commit_sink.specs.declared.transactions.Progress.TheVariants.{Open, PreCommitted, Committed, Aborted}
use Rattle.commit_sink.specs.declared.transactions.TransactionFault.{TransactionFault}
use Rattle.commit_sink.specs.Ledger.{Ends, Ledger, Transaction, IsOrdered, after_commit, changed, commits, has_committed, transaction_at, transaction_in, with_transaction}
use Rattle.commit_sink.specs.Lists.{AreSettled, to_commit}
use Rattle.commit_sink.specs.Shares.{ledger_of}
use Rattle.commit_sink.proofs.Counted.{count_of, count_of-cons, slice_get-set_other, slice_get-set_same}
use Rattle.commit_sink.proofs.Replaced.{at_place, committed_one, in_range, is_committed-counted}

-- what a call leaves that is Ok
pub when_ok : {T : Type 0} (old new : Ledger × ℕ) (refusal : Option TransactionFault) (after : Ledger) (r : Result T TransactionFault) (v : T) → r ≡ Ok v → Ends old new refusal after r → new.0 ≡ after
when_ok old new refusal after r v e ends = (subst (Ends old new refusal after) e ends).1

-- ---- the transaction that was begun last

changed_at : (l : Ledger) (n : ℕ) (t : Transaction) (f : Transaction → Transaction) → transaction_at l n ≡ Some t → changed l n f ≡ with_transaction l n (f t)
changed_at l n t f e = ap (λ (o : Option Transaction). elim o [ None ↦ l | Some x ↦ with_transaction l n (f x) ]) e

last_at : (base : List Transaction) (t : Transaction) (n : ℕ) → n ≡ length base + 1 → transaction_in (base ++ t ∷ []) n ≡ Some t
last_at base t n e =
    let place : n - 1 ≡ length base = omega arith in
    let within : length base < length (base ++ t ∷ []) = let long = length-append base (t ∷ []) in omega (arith, long) in
    at_place (base ++ t ∷ []) n t (omega arith) (ap (λ k. slice_get (base ++ t ∷ []) k) place ∙ slice_get-get_or (base ++ t ∷ []) (length base) t within ∙ ap Some (get_or-append_seam base t [] t))

pub changed_last : (st : ℕ) (base : List Transaction) (t : Transaction) (c : List ℕ) (n : ℕ) (f : Transaction → Transaction) → n ≡ length base + 1
    → changed (ledger_of st (base ++ t ∷ []) c) n f ≡ ledger_of st (base ++ f t ∷ []) c
changed_last st base t c n f e =
    let place : n - 1 ≡ length base = omega arith in
    changed_at (ledger_of st (base ++ t ∷ []) c) n t f (last_at base t n e)
    ∙ ap (λ ts. ledger_of st ts c) (ap (λ k. slice_set (base ++ t ∷ []) k (f t)) place ∙ set-append_seam base t [] (f t))

-- ---- to commit them in their order

count_of-push : (m n : ℕ) (xs : List ℕ) → count_of m (xs ++ n ∷ []) ≡ count_of m xs + cond (n == m) 1 0
count_of-push m n [] = let one = count_of-cons m n [] in omega (arith, one)
count_of-push m n (x ∷ xs) = let rest = count_of-push m n xs in let a = count_of-cons m x (xs ++ n ∷ []) in let b = count_of-cons m x xs in omega (arith, rest, a, b)

count_of-take : (m k : ℕ) (xs : List ℕ) → count_of m (take k xs) ≤ count_of m xs
count_of-take m zero xs = omega arith
count_of-take m (suc k) [] = omega arith
count_of-take m (suc k) (x ∷ xs) = let rest = count_of-take m k xs in let a = count_of-cons m x (take k xs) in let b = count_of-cons m x xs in omega (arith, rest, a, b)

next_take : (xs : List ℕ) (k d : ℕ) → k < length xs → take (k + 1) xs ≡ take k xs ++ get_or xs k d ∷ []
next_take xs k d lt = ap (λ n. take n xs) (let e : k + 1 ≡ suc k = omega arith in e) ∙ take-suc xs k d lt

one_here : (n : ℕ) → ◌≡◌ {A = ℕ} (cond (n == n) 1 0) 1
one_here n = ap (λ b. cond b 1 0) (eq-eqb n n refl)

count_next : (xs : List ℕ) (k : ℕ) → k < length xs → count_of (get_or xs k 0) (take (k + 1) xs) ≡ count_of (get_or xs k 0) (take k xs) + 1
count_next xs k lt = ap (count_of (get_or xs k 0)) (next_take xs k 0 lt) ∙ count_of-push (get_or xs k 0) (get_or xs k 0) (take k xs) ∙ ap (λ m. count_of (get_or xs k 0) (take k xs) + m) (one_here (get_or xs k 0))

-- what is committed stands there
standing : (ts : List Transaction) (n : ℕ) → committed_one (transaction_in ts n) ≡ true → (t : Transaction) × (transaction_in ts n ≡ Some t) × (has_committed t.progress ≡ true)
standing ts n e = one (transaction_in ts n) refl e
  where
    one : (o : Option Transaction) → transaction_in ts n ≡ o → committed_one o ≡ true → (t : Transaction) × (transaction_in ts n ≡ Some t) × (has_committed t.progress ≡ true)
    one None is e = absurd (cc e)
    one (Some t) is e = (t, is, e)

-- to commit what is there before the commit gives what was to be
commit_of : (st : ℕ) (ts : List Transaction) (c : List ℕ) (n s : ℕ) (p : Progress) (r : List (List ℕ)) → has_committed p ≡ true → transaction_in ts n ≡ Some (to_commit (record { subtask = s; progress = p; records = r }))
    → after_commit (ledger_of st ts c) n ≡ ledger_of st (slice_set ts (n - 1) (record { subtask = s; progress = p; records = r })) (c ++ n ∷ [])
commit_of st ts c n s Open r is e = absurd (cc is)
commit_of st ts c n s (PreCommitted m) r is e = absurd (cc is)
commit_of st ts c n s Committed r is e = ap (λ (o : Option Transaction). elim o [ None ↦ ledger_of st ts c | Some x ↦ commits (ledger_of st ts c) n x x.progress ]) e
commit_of st ts c n s Aborted r is e = absurd (cc is)

same_some : {A : Type 0} (x y : A) → Some x ≡ Some y → x ≡ y
same_some x y e = cc e

pub settle_next : (st : ℕ) (all : List Transaction) (numbers : List ℕ) (k : ℕ) (ts : List Transaction) (now : Ledger) → k < length numbers → IsOrdered (ledger_of st all numbers) → AreSettled all (take k numbers) ts
    → now ≡ after_commit (ledger_of st ts (take k numbers)) (get_or numbers k 0)
    → (now.subtasks ≡ st) × (now.committed ≡ take (k + 1) numbers) × AreSettled all (take (k + 1) numbers) now.transactions
settle_next st all numbers k ts now lt ordered so_far is = (ap (λ (l : Ledger). l.subtasks) whole, ap (λ (l : Ledger). l.committed) whole ∙ sym (next_take numbers k 0 lt), subst (AreSettled all (take (k + 1) numbers)) (sym (ap (λ (l : Ledger). l.transactions) whole)) after)
  where
    n : ℕ
    n = get_or numbers k 0

    counted : count_of (get_or numbers k 0) (take k numbers) + 1 ≤ count_of (get_or numbers k 0) numbers
    counted = let a = count_of-take (get_or numbers k 0) (k + 1) numbers in let b = count_next numbers k lt in omega (arith, a, b)

    there : committed_one (transaction_in all (get_or numbers k 0)) ≡ true
    there = is_committed-counted (ledger_of st all numbers) ordered (get_or numbers k 0) (omega (arith, counted))

    once : count_of (get_or numbers k 0) numbers ≡ 1
    once = ordered.once (get_or numbers k 0) ∙ ap (λ b. cond b 1 0) there

    found : (t : Transaction) × (transaction_in all (get_or numbers k 0) ≡ Some t) × (has_committed t.progress ≡ true)
    found = standing all (get_or numbers k 0) there

    place : (1 ≤ get_or numbers k 0) × (slice_get all (get_or numbers k 0 - 1) ≡ Some found.0)
    place = in_range all (get_or numbers k 0) found.0 found.1

    same_number : get_or numbers k 0 - 1 + 1 ≡ get_or numbers k 0
    same_number = let p = place.0 in omega (arith, p)

    not_yet : count_of (get_or numbers k 0 - 1 + 1) (take k numbers) ≡ 0
    not_yet = ap (λ m. count_of m (take k numbers)) same_number ∙ (omega (arith, counted, once))

    whole : now ≡ ledger_of st (slice_set ts (get_or numbers k 0 - 1) found.0) (take k numbers ++ get_or numbers k 0 ∷ [])
    whole = is ∙ commit_of st ts (take k numbers) (get_or numbers k 0) found.0.subtask found.0.progress found.0.records found.2
        (at_place ts (get_or numbers k 0) (to_commit found.0) place.0 (so_far.others (get_or numbers k 0 - 1) found.0 place.1 not_yet))

    counts : (m : ℕ) → count_of m (take (k + 1) numbers) ≡ count_of m (take k numbers) + cond (get_or numbers k 0 == m) 1 0
    counts m = ap (count_of m) (next_take numbers k 0 lt) ∙ count_of-push m (get_or numbers k 0) (take k numbers)

    elsewhere : (i : ℕ) → i ≢ get_or numbers k 0 - 1 → count_of (i + 1) (take (k + 1) numbers) ≡ count_of (i + 1) (take k numbers)
    elsewhere i other = ⊎_elim (λ same. absurd (other (let s : get_or numbers k 0 ≡ i + 1 = same.1 in omega (arith, s))))
        (λ no. counts (i + 1) ∙ ap (λ b. count_of (i + 1) (take k numbers) + cond b 1 0) no.0 ∙ (omega arith)) (eqb_tells (get_or numbers k 0) (i + 1))

    after : AreSettled all (take (k + 1) numbers) (slice_set ts (get_or numbers k 0 - 1) found.0)
    after = record {
      count = length-set ts (get_or numbers k 0 - 1) found.0 ∙ so_far.count;
      settled = λ i t at some. ⊎_elim
          (λ same. let s : i ≡ get_or numbers k 0 - 1 = same.1 in
          ap (λ j. slice_get (slice_set ts (get_or numbers k 0 - 1) found.0) j) s ∙ slice_get-set_same ts (get_or numbers k 0 - 1) (to_commit found.0) found.0 (so_far.others (get_or numbers k 0 - 1) found.0 place.1 not_yet)
          ∙ sym place.1 ∙ ap (slice_get all) (sym s) ∙ at)
          (λ no. slice_get-set_other ts (get_or numbers k 0 - 1) i found.0 no.1 ∙ so_far.settled i t at (let e = elsewhere i no.1 in omega (arith, e, some)))
          (eqb_tells i (get_or numbers k 0 - 1));
      others = λ i t at none. ⊎_elim
          (λ same. let s : i ≡ get_or numbers k 0 - 1 = same.1 in
          let c : count_of (get_or numbers k 0) (take (k + 1) numbers) ≡ 0 = ap (λ m. count_of m (take (k + 1) numbers)) (sym (ap (λ j. j + 1) s ∙ same_number)) ∙ none in
          let b = count_next numbers k lt in absurd (omega (arith, b, c)))
          (λ no. slice_get-set_other ts (get_or numbers k 0 - 1) i found.0 no.1 ∙ so_far.others i t at (sym (elsewhere i no.1) ∙ none))
          (eqb_tells i (get_or numbers k 0 - 1));
    }

-- what is not committed stands there already
unsettled_same : (s : ℕ) (p : Progress) (r : List (List ℕ)) → has_committed p ≡ false → to_commit (record { subtask = s; progress = p; records = r }) ≡ record { subtask = s; progress = p; records = r }
unsettled_same s Open r e = refl
unsettled_same s (PreCommitted m) r e = refl
unsettled_same s Committed r e = absurd (cc e)
unsettled_same s Aborted r e = refl

pub settled_all : (st : ℕ) (all : List Transaction) (numbers : List ℕ) (ts : List Transaction) → IsOrdered (ledger_of st all numbers) → AreSettled all numbers ts → ts ≡ all
settled_all st all numbers ts ordered so_far = same_lists ts all so_far.count (λ i d lt.
    let within : i < length all = subst (λ m. i < m) so_far.count lt in
    get_or_from_slice_get ts i (get_or all i d) d (at i (get_or all i d) (slice_get-get_or all i d within)))
  where
    by_count : (i : ℕ) (t : Transaction) → slice_get all i ≡ Some t → (n : ℕ) → count_of (i + 1) numbers ≡ n → slice_get ts i ≡ Some t
    by_count i t is (suc n) e = so_far.settled i t is (omega (arith, e))
    by_count i t is zero e = so_far.others i t is e ∙ ap Some (unsettled_same t.subtask t.progress t.records (off (has_committed t.progress) refl))
      where
        listed : committed_one (transaction_in all (i + 1)) ≡ has_committed t.progress
        listed = ap committed_one (at_place all (i + 1) t (omega arith) (ap (slice_get all) (let f : i + 1 - 1 ≡ i = omega arith in f) ∙ is))

        off : (b : Bool) → has_committed t.progress ≡ b → has_committed t.progress ≡ false
        off false h = h
        off true h = let c = ordered.once (i + 1) ∙ ap (λ b. cond b 1 0) (listed ∙ h) in absurd (omega (arith, c, e))

    at : (i : ℕ) (t : Transaction) → slice_get all i ≡ Some t → slice_get ts i ≡ Some t
    at i t is = by_count i t is (count_of (i + 1) numbers) refl

-- before any commit
pub settled_none : (all : List Transaction) → AreSettled all [] (map to_commit all)
settled_none all = record {
  count = length-map all to_commit;
  settled = λ i t is some. absurd (omega (arith, some));
  others = λ i t is none. mapped i all t is;
}
  where
    mapped : (i : ℕ) (xs : List Transaction) (t : Transaction) → slice_get xs i ≡ Some t → slice_get (map to_commit xs) i ≡ Some (to_commit t)
    mapped i [] t is = absurd (cc is)
    mapped zero (x ∷ xs) t is = ap (λ (o : Option Transaction). elim o [ None ↦ None | Some y ↦ Some (to_commit y) ]) is
    mapped (suc i) (x ∷ xs) t is = mapped i xs t is

pub none_left : {A : Type 0} (done rest all : List A) → length rest ≡ 0 → done ++ rest ≡ all → done ≡ all
none_left done [] all e is = sym (append-nil done) ∙ is
none_left done (x ∷ rest) all e is = absurd (omega arith)

pub middle_at : {A : Type 0} (done : List A) (x : A) (rest all : List A) → done ++ x ∷ rest ≡ all → slice_get all (length done) ≡ Some x
middle_at done x rest all is = subst (λ (xs : List _). slice_get xs (length done) ≡ Some x) is (slice_get-get_or (done ++ x ∷ rest) (length done) x (let long = length-append done (x ∷ rest) in omega (arith, long)) ∙ ap Some (get_or-append_seam done x rest x))

pub map-push : {A B : Type 0} (f : A → B) (xs : List A) (x : A) → map f xs ++ f x ∷ [] ≡ map f (xs ++ x ∷ [])
map-push f [] x = refl
map-push f (y ∷ xs) x = ap (λ (ys : List _). f y ∷ ys) (map-push f xs x)

pub on_ok : {T : Type 0} (P : Type 0) (r : Result T NoMemory) (answer : Result T TransactionFault) → IfOk r (λ v. answer ≡ Ok v) → ((v : T) → answer ≡ Ok v → P) → OnOk r P
on_ok P (Ok v) answer is gives = gives v is
on_ok P (Err x) answer is gives = tt

-- a transaction that is begun with its records, and then taken as far as it has come
pub restored : (st : ℕ) (base : List Transaction) (c : List ℕ) (n s : ℕ) (p : Progress) (r : List (List ℕ)) (e : Transaction) (mid now : Ledger) (f : Transaction → Transaction)
    → e ≡ record { subtask = s; progress = p; records = r } → n ≡ length base + 1 → mid ≡ ledger_of st (base ++ record { subtask = s; progress = Open; records = r } ∷ []) c → now ≡ changed mid n f
    → f (record { subtask = s; progress = Open; records = r }) ≡ to_commit (record { subtask = s; progress = p; records = r }) → now ≡ ledger_of st (base ++ to_commit e ∷ []) c
restored st base c n s p r e mid now f is number begun goes gives =
    goes ∙ ap (λ l. changed l n f) begun ∙ changed_last st base (record { subtask = s; progress = Open; records = r }) c n f number
    ∙ ap (λ t. ledger_of st (base ++ t ∷ []) c) (gives ∙ ap to_commit (sym is))
