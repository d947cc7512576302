-- What stands in a subtask's share of a ledger, and the ledger's calls as changes of the model's book.
use Rattle.std.proofs.Common.{◌≡◌, ◌<◌, ◌+◌, ◌-◌, ◌==◌, inl, inr, if◌then◌else◌, All, Some, slice_get, slice_set, length, map, flat_map, ℕ, suc, pred, List, [], ◌∷◌, ◌++◌, refl, sym, ap, ◌∙◌, subst, arith}
use Rattle.std.proofs.lemmas.Option.{slice_get_within}
use Rattle.std.proofs.lemmas.Bool.{eq-eqb}
use Rattle.std.proofs.lemmas.Bool.Decides.{eqb_tells}
use Rattle.std.proofs.lemmas.List.{map-append, length-map}
use Rattle.std.proofs.lemmas.List.Elements.{All-nil, All-cons, All-append, All-head, All-tail, All-weaker}
use Rattle.checkpoint_model.specs.Book as book
use Rattle.checkpoint_model.specs.Book.{Stage, IsOpen, IsPreCommitted, IsCommitted, IsAborted, Entry, numbered, open_at, pre_at, committed_at}
use Rattle.checkpoint_model.specs.Durable as durable
use Rattle.commit_sink.specs.Ledger.{Ledger, Transaction, IsOrdered, transaction_at}
use Rattle.commit_sink.specs.declared.transactions.Progress.{Progress}
use Rattle.commit_sink.specs.declared.transactions.Progress.TheVariants.{Open, PreCommitted, Committed, Aborted}
use Rattle.engine_model.specs.View.{stage_of, entry_of, book_of}
use Rattle.engine_model.proofs.Ledger.Lists.{place, get_behind, get_of_map, numbered_split, numbered_all}
use Rattle.engine_model.proofs.Ledger.Places.{place_at, at_place, ordered_at, entry_at}

abbrev pub share : Ledger → ℕ → durable.SinkTransactions (List ℕ)
share l subtask = book.share (book_of l) subtask

-- a transaction as the model has it
abbrev pub as_is : ℕ → Transaction → durable.Transaction (List ℕ)
as_is n t = record { number = n; records = t.records }

abbrev pub as_pre : ℕ → Transaction → ℕ → durable.PreCommitted (List ℕ)
as_pre n t checkpoint = record { transaction = as_is n t; checkpoint = checkpoint }

-- ---- stages

pub open_from : (p : Progress) → stage_of p ≡ IsOpen → p ≡ Open
open_from Open e = refl
open_from (PreCommitted c) e = cc
open_from Committed e = cc
open_from Aborted e = cc

pub pre_from : (p : Progress) (checkpoint : ℕ) → stage_of p ≡ IsPreCommitted checkpoint → p ≡ PreCommitted checkpoint
pre_from Open checkpoint e = cc
pre_from (PreCommitted c) checkpoint e = let same : c ≡ checkpoint = cc in ap PreCommitted same
pre_from Committed checkpoint e = cc
pre_from Aborted checkpoint e = cc

pub open_not_pre : (c : ℕ) → Open ≡ PreCommitted c → ⊥
open_not_pre c e = cc

pub open_not_committed : Open ≡ Committed → ⊥
open_not_committed e = cc

pub pre_not_committed : (c : ℕ) → PreCommitted c ≡ Committed → ⊥
pre_not_committed c e = cc

pub same_checkpoint : (c d : ℕ) → PreCommitted c ≡ PreCommitted d → c ≡ d
same_checkpoint c d e = cc

-- ---- what is in a share

-- the transaction under a number, of the subtask and at this stage
abbrev pub Stands : Ledger → ℕ → Progress → ℕ → Type 0
Stands l subtask progress n = (t : Transaction) × (transaction_at l n ≡ Some t) × (t.subtask ≡ subtask) × (t.progress ≡ progress)

module _ (P : durable.Transaction (List ℕ) → Type 0) where
  all_if_open : (stage : Stage) (x : durable.Transaction (List ℕ)) → (stage ≡ IsOpen → P x) → All P (book.if_open stage x)
  all_if_open IsOpen x h = All-cons P x [] (h refl) (All-nil P)
  all_if_open (IsPreCommitted n) x h = All-nil P
  all_if_open IsCommitted x h = All-nil P
  all_if_open IsAborted x h = All-nil P

  all_if_committed : (stage : Stage) (x : durable.Transaction (List ℕ)) → (stage ≡ IsCommitted → P x) → All P (book.if_committed stage x)
  all_if_committed IsOpen x h = All-nil P
  all_if_committed (IsPreCommitted n) x h = All-nil P
  all_if_committed IsCommitted x h = All-cons P x [] (h refl) (All-nil P)
  all_if_committed IsAborted x h = All-nil P

all_if_pre : (P : durable.PreCommitted (List ℕ) → Type 0) (stage : Stage) (x : durable.Transaction (List ℕ)) → ((c : ℕ) → stage ≡ IsPreCommitted c → P (record { transaction = x; checkpoint = c })) → All P (book.if_pre_committed stage x)
all_if_pre P IsOpen x h = All-nil P
all_if_pre P (IsPreCommitted n) x h = All-cons P (record { transaction = x; checkpoint = n }) [] (h n refl) (All-nil P)
all_if_pre P IsCommitted x h = All-nil P
all_if_pre P IsAborted x h = All-nil P

all_if : {X : Type 0} (P : X → Type 0) (m n : ℕ) (xs : List X) → (m ≡ n → All P xs) → All P (if m == n then xs else [])
all_if P m n xs h =
    elim (eqb_tells m n) [
      | inl e ↦ subst (λ b. All P (if b then xs else [])) (sym e.0) (h e.1)
      | inr e ↦ subst (λ b. All P (if b then xs else [])) (sym e.0) (All-nil P)
    ]

-- an entry of the book is a transaction
entry_is : (l : Ledger) (k m : ℕ) (e : Entry (List ℕ)) → m ≡ 1 + k → slice_get (map entry_of l.transactions) k ≡ Some e → (t : Transaction) × (transaction_at l m ≡ Some t) × (entry_of t ≡ e)
entry_is l k m e q at =
    let got = get_of_map entry_of l.transactions k e at in
    let same : m ≡ suc k = omega (arith, q) in
    (got.0, ap (transaction_at l) same ∙ place_at l k ∙ got.1, got.2)

pub open_stand : (l : Ledger) (subtask : ℕ) → All (λ x. Stands l subtask Open x.number) (share l subtask).open_ones
open_stand l subtask =
    let P : durable.Transaction (List ℕ) → Type 0 = λ x. Stands l subtask Open x.number in
    numbered_all P (open_at subtask) 1 (map entry_of l.transactions)
    (λ k m e q at.
    let is = entry_is l k m e q at in
    all_if P e.sink subtask (book.if_open e.stage (record { number = m; records = e.records }))
    (λ of. all_if_open P e.stage (record { number = m; records = e.records })
    (λ stage. (is.0, is.1, ap (λ (x : Entry (List ℕ)). x.sink) is.2 ∙ of, open_from (is.0).progress (ap (λ (x : Entry (List ℕ)). x.stage) is.2 ∙ stage)))))

pub pre_stand : (l : Ledger) (subtask : ℕ) → All (λ p. Stands l subtask (PreCommitted p.checkpoint) p.transaction.number) (share l subtask).pre_committed
pre_stand l subtask =
    let P : durable.PreCommitted (List ℕ) → Type 0 = λ p. Stands l subtask (PreCommitted p.checkpoint) p.transaction.number in
    numbered_all P (pre_at subtask) 1 (map entry_of l.transactions)
    (λ k m e q at.
    let is = entry_is l k m e q at in
    all_if P e.sink subtask (book.if_pre_committed e.stage (record { number = m; records = e.records }))
    (λ of. all_if_pre P e.stage (record { number = m; records = e.records })
    (λ c stage. (is.0, is.1, ap (λ (x : Entry (List ℕ)). x.sink) is.2 ∙ of, pre_from (is.0).progress c (ap (λ (x : Entry (List ℕ)). x.stage) is.2 ∙ stage)))))

-- of the committed ones
all_flat_map : {A X : Type 0} (P : X → Type 0) (f : A → List X) (xs : List A) → All (λ x. All P (f x)) xs → All P (flat_map f xs)
all_flat_map P f [] each = All-nil P
all_flat_map P f (x ∷ xs) each =
    All-append P (f x) (flat_map f xs) (All-head (λ x. All P (f x)) x xs each) (all_flat_map P f xs (All-tail (λ x. All P (f x)) x xs each))

-- a committed number gives what its transaction is
pub committed_there : (l : Ledger) (subtask n : ℕ) (t : Transaction) → transaction_at l n ≡ Some t → t.progress ≡ Committed → committed_at subtask n (slice_get (book_of l).entries (pred n)) ≡ (if t.subtask == subtask then as_is n t ∷ [] else [])
committed_there l subtask n t at is =
    ap (committed_at subtask n) (entry_at l n t at) ∙ ap (λ p. if t.subtask == subtask then book.if_committed (stage_of p) (as_is n t) else []) is

pub committed_stand : (l : Ledger) (subtask : ℕ) → IsOrdered l → All (λ x. Stands l subtask Committed x.number) (share l subtask).committed
committed_stand l subtask ordered =
    let P : durable.Transaction (List ℕ) → Type 0 = λ x. Stands l subtask Committed x.number in
    let f : ℕ → List (durable.Transaction (List ℕ)) = λ n. committed_at subtask n (slice_get (book_of l).entries (pred n)) in
    all_flat_map P f l.committed
    (All-weaker (λ n. (t : Transaction) × (transaction_at l n ≡ Some t) × (t.progress ≡ Committed)) (λ n. All P (f n))
    (λ n at.
    let t = at.0 in
    subst (λ xs. All P xs) (sym (committed_there l subtask n t at.1 at.2))
    (all_if P t.subtask subtask (as_is n t ∷ []) (λ of. All-cons P (as_is n t) [] (t, at.1, of, at.2) (All-nil P))))
    l.committed (ordered_at l ordered))

-- ---- where a transaction stands in the book

-- The entries before it and behind it. Those behind are the transactions of higher numbers.
pub record InBook (l : Ledger) (n : ℕ) (t : Transaction) : Type 0 where
  pub front : List (Entry (List ℕ))
  pub back : List (Entry (List ℕ))
  pub is_number : n ≡ suc (length front)
  pub was : (book_of l).entries ≡ front ++ entry_of t ∷ back
  pub set : (t' : Transaction) → map entry_of (slice_set l.transactions (n - 1) t') ≡ front ++ entry_of t' ∷ back

pub in_book : (l : Ledger) (n : ℕ) (t : Transaction) → transaction_at l n ≡ Some t → InBook l n t
in_book l n t h =
    let at = at_place l n t h in
    let p = place l.transactions at.0 t at.2 in
    let less : n - 1 ≡ at.0 = omega (arith, at.1) in
    record {
      front = map entry_of p.front;
      back = map entry_of p.back;
      is_number = at.1 ∙ ap suc (p.is_at ∙ sym (length-map p.front entry_of));
      was = ap (map entry_of) p.was ∙ map-append entry_of p.front (t ∷ p.back);
      set = λ t'. ap (λ i. map entry_of (slice_set l.transactions i t')) less ∙ ap (map entry_of) (p.set t') ∙ map-append entry_of p.front (t' ∷ p.back);
    }

pub behind : (l : Ledger) (n : ℕ) (t : Transaction) (b : InBook l n t) (k m : ℕ) (e : Entry (List ℕ)) → m ≡ suc n + k → slice_get b.back k ≡ Some e → (u : Transaction) × (transaction_at l m ≡ Some u) × (entry_of u ≡ e)
behind l n t b k m e q at =
    let there : slice_get (map entry_of l.transactions) (length b.front + suc k) ≡ Some e =
    ap (λ es. slice_get es (length b.front + suc k)) b.was ∙ get_behind b.front (entry_of t) b.back k (length b.front + suc k) refl ∙ at in
    entry_is l (length b.front + suc k) m e (omega (arith, q, b.is_number)) there

pub changes : (old new : Ledger) (n : ℕ) (t t' : Transaction) (b : InBook old n t) → new.transactions ≡ slice_set old.transactions (n - 1) t' → book.IsChange n (entry_of t) (entry_of t') b.front b.back new.committed (book_of old) (book_of new)
changes old new n t t' b e =
    record {
      is_number = b.is_number;
      was = b.was;
      ends = ap (λ es. let x : book.Book (List ℕ) = record { entries = es; order = new.committed } in x) (ap (map entry_of) e ∙ b.set t');
    }

if_same : {X : Type 0} (m n : ℕ) (x y : X) → m ≡ n → (if m == n then x else y) ≡ x
if_same m n x y e = ap (λ b. if b then x else y) (eq-eqb m n e)

-- an open transaction is in its subtask's share
pub open_found : (l : Ledger) (subtask n : ℕ) (t : Transaction) (b : InBook l n t) → t.subtask ≡ subtask → t.progress ≡ Open → (share l subtask).open_ones ≡ numbered (open_at subtask) 1 b.front ++ as_is n t ∷ numbered (open_at subtask) (suc n) b.back
open_found l subtask n t b of is =
    ap (numbered (open_at subtask) 1) b.was
    ∙ numbered_split (open_at subtask) 1 n b.front (entry_of t) b.back (omega (arith, b.is_number))
    ∙ ap (λ xs. numbered (open_at subtask) 1 b.front ++ (xs ++ numbered (open_at subtask) (suc n) b.back))
    (if_same t.subtask subtask (book.if_open (stage_of t.progress) (as_is n t)) [] of ∙ ap (λ p. book.if_open (stage_of p) (as_is n t)) is)

-- and so is a pre-committed one
pub pre_found : (l : Ledger) (subtask n checkpoint : ℕ) (t : Transaction) (b : InBook l n t) → t.subtask ≡ subtask → t.progress ≡ PreCommitted checkpoint → (share l subtask).pre_committed ≡ numbered (pre_at subtask) 1 b.front ++ as_pre n t checkpoint ∷ numbered (pre_at subtask) (suc n) b.back
pre_found l subtask n checkpoint t b of is =
    ap (numbered (pre_at subtask) 1) b.was
    ∙ numbered_split (pre_at subtask) 1 n b.front (entry_of t) b.back (omega (arith, b.is_number))
    ∙ ap (λ xs. numbered (pre_at subtask) 1 b.front ++ (xs ++ numbered (pre_at subtask) (suc n) b.back))
    (if_same t.subtask subtask (book.if_pre_committed (stage_of t.progress) (as_is n t)) [] of ∙ ap (λ p. book.if_pre_committed (stage_of p) (as_is n t)) is)

-- those of a list of entries have their numbers
pub pre_below : (subtask m : ℕ) (entries : List (Entry (List ℕ))) → All (λ p. p.transaction.number < m + length entries) (numbered (pre_at subtask) m entries)
pre_below subtask m entries =
    let P : durable.PreCommitted (List ℕ) → Type 0 = λ p. p.transaction.number < m + length entries in
    numbered_all P (pre_at subtask) m entries
    (λ k i e q at.
    let within = slice_get_within entries k e at in
    all_if P e.sink subtask (book.if_pre_committed e.stage (record { number = i; records = e.records }))
    (λ of. all_if_pre P e.stage (record { number = i; records = e.records }) (λ c stage. omega (arith, q, within))))

pub open_below : (subtask m : ℕ) (entries : List (Entry (List ℕ))) → All (λ x. x.number < m + length entries) (numbered (open_at subtask) m entries)
open_below subtask m entries =
    let P : durable.Transaction (List ℕ) → Type 0 = λ x. x.number < m + length entries in
    numbered_all P (open_at subtask) m entries
    (λ k i e q at.
    let within = slice_get_within entries k e at in
    all_if P e.sink subtask (book.if_open e.stage (record { number = i; records = e.records }))
    (λ of. all_if_open P e.stage (record { number = i; records = e.records }) (λ stage. omega (arith, q, within))))
