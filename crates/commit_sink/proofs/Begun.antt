-- A transaction is begun.
use Rattle.std.proofs.Common.{◌≡◌, ◌≢◌, ◌<◌, ◌+◌, ◌-◌, ◌^◌, ◌&&◌, ℕ, zero, suc, true, false, cond, List, [], ◌∷◌, ◌++◌, length, sum_by, slice_get, Option, Some, None, refl, sym, ap, ◌∙◌, subst, ⊎_elim, lit<, arith}
use Rattle.std.proofs.lemmas.Bool.{eq-eqb}
use Rattle.std.proofs.lemmas.Bool.Decides.{eqb_tells}
use Rattle.std.proofs.lemmas.List.{length-append}
use Rattle.std.proofs.lemmas.List.Sums.{sum_by-append, sum_by-cons}
use Rattle.std.proofs.lemmas.Option.{slice_get_within}
use Rattle.commit_sink.specs.declared.transactions.Progress.TheVariants.{Aborted, Open}
use Rattle.commit_sink.specs.declared.share.Share.{Share}
use Rattle.commit_sink.specs.Ledger.{Ledger, Transaction, IsOrdered, transaction_at, transaction_in}
use Rattle.commit_sink.specs.Roomy.{WithRoom}
use Rattle.commit_sink.specs.Shares.{IsKept, IsShare, is_unsettled, is_unsettled_of, ledger_of, pending_rows, share_at, with_number, with_place}
use Rattle.commit_sink.proofs.Kept.{one}
use Rattle.commit_sink.proofs.Replaced.{KeepsCommitted, committed_one, at_place, in_range, share-kept, transaction_in-other}
use Rattle.commit_sink.proofs.Unsettled.{numbers-begun, numbers-begun_other}

abbrev pub opened : ℕ → Transaction
opened s = record { subtask = s; progress = Open; records = [] }

slice_get-earlier : {A : Type 0} (xs : List A) (x : A) (k : ℕ) → k < length xs → slice_get (xs ++ x ∷ []) k ≡ slice_get xs k
slice_get-earlier [] x k within = absurd (omega arith)
slice_get-earlier (y ∷ ys) x zero within = refl
slice_get-earlier (y ∷ ys) x (suc k) within = slice_get-earlier ys x k (omega arith)

slice_get-last : {A : Type 0} (xs : List A) (x : A) → slice_get (xs ++ x ∷ []) (length xs) ≡ Some x
slice_get-last [] x = refl
slice_get-last (y ∷ ys) x = slice_get-last ys x

some_same : {A : Type 0} (x y : A) → Some x ≡ Some y → x ≡ y
some_same x y e = cc e

slice_get-begun : {A : Type 0} (xs : List A) (x : A) (P : A → Type 0) → P x → ((k : ℕ) (y : A) → slice_get xs k ≡ Some y → P y) → (k : ℕ) (y : A) → slice_get (xs ++ x ∷ []) k ≡ Some y → P y
slice_get-begun xs x P new olds k y at = ⊎_elim
    (λ last. subst P (some_same x y (sym (slice_get-last xs x) ∙ ap (slice_get (xs ++ x ∷ [])) (sym last.1) ∙ at)) new)
    (λ other.
    let differs : k ≢ length xs = other.1 in
    let all = length-append xs (x ∷ []) in
    let within = slice_get_within (xs ++ x ∷ []) k y at in
    olds k y (sym (slice_get-earlier xs x k (omega (arith, differs, all, within))) ∙ at))
    (eqb_tells k (length xs))

-- what was begun before stays
transaction_in-begun : (ts : List Transaction) (s m : ℕ) (t : Transaction) → transaction_in ts m ≡ Some t → transaction_in (ts ++ opened s ∷ []) m ≡ transaction_in ts m
transaction_in-begun ts s m t is =
    let r = in_range ts m t is in
    transaction_in-other ts (ts ++ opened s ∷ []) m (λ there. slice_get-earlier ts (opened s) (m - 1) (slice_get_within ts (m - 1) t r.1))

keeps-one : (ts : List Transaction) (s m : ℕ) (o : Option Transaction) → transaction_in ts m ≡ o → committed_one o ≡ true → transaction_in (ts ++ opened s ∷ []) m ≡ transaction_in ts m
keeps-one ts s m None is committed = absurd (cc committed)
keeps-one ts s m (Some t) is committed = transaction_in-begun ts s m t is

keeps-begun : (l : Ledger) (s : ℕ) → KeepsCommitted l (l.transactions ++ opened s ∷ [])
keeps-begun l s m committed = keeps-one l.transactions s m (transaction_at l m) refl committed

-- no other transaction is committed
committed_new : (ts : List Transaction) (s m : ℕ) (o : Option Transaction) → transaction_in ts m ≡ o → (p : Option Transaction) → transaction_in (ts ++ opened s ∷ []) m ≡ p → committed_one p ≡ committed_one o
committed_new ts s m (Some t) is p now = ap committed_one (sym now ∙ transaction_in-begun ts s m t is ∙ is)
committed_new ts s m None is None now = refl
committed_new ts s m None is (Some t) now =
    let r = in_range (ts ++ opened s ∷ []) m t now in
    ⊎_elim
    (λ last. ap committed_one (sym r.1 ∙ ap (slice_get (ts ++ opened s ∷ [])) last.1 ∙ slice_get-last ts (opened s)))
    (λ other.
    let differs : m - 1 ≢ length ts = other.1 in
    let all = length-append ts (opened s ∷ []) in
    let within = slice_get_within (ts ++ opened s ∷ []) (m - 1) t r.1 in
    let old : slice_get ts (m - 1) ≡ Some t = sym (slice_get-earlier ts (opened s) (m - 1) (omega (arith, differs, all, within))) ∙ r.1 in
    absurd (cc (sym is ∙ at_place ts m t r.0 old)))
    (eqb_tells (m - 1) (length ts))

count-begun : (f : Transaction → ℕ) (ts : List Transaction) (s : ℕ) → sum_by f (ts ++ opened s ∷ []) ≡ sum_by f ts + f (opened s)
count-begun f ts s =
    let parts = sum_by-append f ts (opened s ∷ []) in
    let last = sum_by-cons f (opened s) [] in
    let none : sum_by f [] ≡ 0 = refl in
    omega (arith, parts, last, none)

pub ordered-begun : (l : Ledger) (s : ℕ) → s < l.subtasks → length l.transactions + 1 < 2 ^ 64 → IsOrdered l → IsOrdered (ledger_of l.subtasks (l.transactions ++ opened s ∷ []) l.committed)
ordered-begun l s within few o = record {
  once = λ m. o.once m ∙ ap (λ b. cond b 1 0) (sym (committed_new l.transactions s m (transaction_at l m) refl (transaction_in (l.transactions ++ opened s ∷ []) m) refl));
  subtask = slice_get-begun l.transactions (opened s) (λ x. x.subtask < l.subtasks) within o.subtask;
  emptied = slice_get-begun l.transactions (opened s) (λ x. x.progress ≡ Aborted → x.records ≡ []) (λ _. refl) o.emptied;
  numbers = subst (λ k. k < 2 ^ 64) (sym (length-append l.transactions (opened s ∷ []))) few;
}

own_begun : (l : Ledger) (s : ℕ) → IsOrdered l → (share : Share) → IsShare l s share → IsShare (ledger_of l.subtasks (l.transactions ++ opened s ∷ []) l.committed) s (with_place share (length l.transactions + 1))
own_begun l s o share i =
    let itself : is_unsettled_of s (opened s) ≡ true = ap (λ b. b && true) (eq-eqb s s refl) in
    let count = count-begun (λ x. cond (is_unsettled_of s x) 1 0) l.transactions s in
    let more : one (is_unsettled_of s (opened s)) ≡ 1 = ap one itself in
    let rows = count-begun (pending_rows s) l.transactions s in
    let none : pending_rows s (opened s) ≡ 0 = ap (λ b. cond b 0 0) itself in
    let room_was = i.room in
    let pending_was = i.pending in
    share-kept l (l.transactions ++ opened s ∷ []) o (keeps-begun l s) s share i (share.ends.promised + 1) share.pending (with_number share.unsettled (length l.transactions + 1))
    (omega (arith, count, more, room_was)) (omega (arith, rows, none, pending_was)) i.total
    (numbers-begun s l.transactions (opened s) share.unsettled.keys itself i.unsettled)

other_begun : (l : Ledger) (s r : ℕ) → r ≢ s → IsOrdered l → (share : Share) → IsShare l r share → IsShare (ledger_of l.subtasks (l.transactions ++ opened s ∷ []) l.committed) r share
other_begun l s r other o share i =
    let another : is_unsettled_of r (opened s) ≡ false = ⊎_elim (λ same. absurd (other (sym same.1))) (λ differs. ap (λ b. b && true) differs.0) (eqb_tells s r) in
    let count = count-begun (λ x. cond (is_unsettled_of r x) 1 0) l.transactions s in
    let more : one (is_unsettled_of r (opened s)) ≡ 0 = ap one another in
    let rows = count-begun (pending_rows r) l.transactions s in
    let none : pending_rows r (opened s) ≡ 0 = ap (λ b. cond b 0 0) another in
    let room_was = i.room in
    let pending_was = i.pending in
    share-kept l (l.transactions ++ opened s ∷ []) o (keeps-begun l s) r share i share.ends.promised share.pending share.unsettled
    (omega (arith, count, more, room_was)) (omega (arith, rows, none, pending_was)) i.total
    (numbers-begun_other r l.transactions (opened s) share.unsettled.keys another i.unsettled)

pub kept-begun : (st : ℕ) (ts : List Transaction) (c : WithRoom ℕ) (shares shares' : List Share) (s : ℕ)
    → IsKept st ts c shares → s < st → length ts + 1 < 2 ^ 64
    → share_at shares' s ≡ with_place (share_at shares s) (length ts + 1)
    → ((r : ℕ) → r ≢ s → share_at shares' r ≡ share_at shares r)
    → IsKept st (ts ++ opened s ∷ []) (record { items = c.items; promised = c.promised + 1 }) shares'
kept-begun st ts c shares shares' s k within few here others = record {
  ordered = ordered-begun (ledger_of st ts c.items) s within few k.ordered;
  room =
      let count = count-begun (λ x. cond (is_unsettled x) 1 0) ts s in
      let more : one (is_unsettled (opened s)) ≡ 1 = refl in
      let room_was = k.room in
      omega (arith, count, more, room_was);
  share = λ r. ⊎_elim
      (λ same. subst (λ x. IsShare (ledger_of st (ts ++ opened s ∷ []) c.items) x (share_at shares' x)) (sym same.1)
      (subst (IsShare (ledger_of st (ts ++ opened s ∷ []) c.items) s) (sym here) (own_begun (ledger_of st ts c.items) s k.ordered (share_at shares s) (k.share s))))
      (λ other. subst (IsShare (ledger_of st (ts ++ opened s ∷ []) c.items) r) (sym (others r other.1)) (other_begun (ledger_of st ts c.items) s r other.1 k.ordered (share_at shares r) (k.share r)))
      (eqb_tells r s);
}

-- nothing is kept where nothing was begun
pub kept-new : (st : ℕ) → IsKept st [] (record { items = []; promised = 0 }) []
kept-new st = record {
  ordered = record {
    once = λ m. ap (λ o. cond (committed_one o) 1 0) (sym (none m));
    subtask = λ k t at. absurd (cc at);
    emptied = λ k t at. absurd (cc at);
    numbers = lit< tt;
  };
  room = omega arith;
  share = λ s. record {
    numbers = refl;
    rows = λ k within. let zero_is : k ≡ 0 = omega (arith, within) in rw zero_is refl;
    room = omega arith;
    pending = refl;
    total = lit< tt;
    unsettled = refl;
  };
}
  where
    none : (m : ℕ) → transaction_in [] m ≡ None
    none m = ⊎_elim (λ same. ap (λ b. cond b None None) same.0) (λ other. ap (λ b. cond b None None) other.0) (eqb_tells m 0)
