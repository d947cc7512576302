-- The rows that a subtask has committed.
use Rattle.std.proofs.Common.{◌≡◌, ◌==◌, inl, inr, if◌then◌else◌, cond, All, Option, Some, None, slice_get, filter, flat_map, length, ℕ, suc, pred, Bool, true, false, List, [], ◌∷◌, ◌++◌, refl, sym, ap, ap₂, ◌∙◌, append-nil}
use Rattle.std.proofs.lemmas.Bool.{cases_Bool}
use Rattle.std.proofs.lemmas.List.Elements.{All-head, All-tail}
use Rattle.std.proofs.lemmas.List.Concat.{flat_map-append}
use Rattle.checkpoint_model.specs.Book.{committed_at}
use Rattle.checkpoint_model.specs.Durable as durable
use Rattle.checkpoint_model.specs.Durable.{joined}
use Rattle.commit_sink.specs.Ledger.{Ledger, Transaction, IsOrdered, transaction_at, records_of, is_of, committed_rows}
use Rattle.commit_sink.specs.declared.transactions.Progress.TheVariants.{Committed}
use Rattle.engine_model.specs.LastCommitted.{committed_of}
use Rattle.engine_model.specs.View.{book_of}
use Rattle.engine_model.proofs.Ledger.Places.{ordered_at}
use Rattle.engine_model.proofs.Ledger.Shares.{share, as_is, committed_there}

module _ (l : Ledger) (subtask : ℕ) where
  abbrev IsCommitted : ℕ → Type 0
  IsCommitted n = (t : Transaction) × (transaction_at l n ≡ Some t) × (t.progress ≡ Committed)

  abbrev at_number : ℕ → List (durable.Transaction (List ℕ))
  at_number n = committed_at subtask n (slice_get (book_of l).entries (pred n))

  one_more : (n : ℕ) (order : List ℕ) → IsCommitted n → joined (flat_map at_number order) ≡ flat_map (records_of l) (filter (is_of l subtask) order) → joined (flat_map at_number (n ∷ order)) ≡ flat_map (records_of l) (filter (is_of l subtask) (n ∷ order))
  one_more n order c rest =
      let t : Transaction = c.0 in
      let mine : is_of l subtask n ≡ (t.subtask == subtask) = ap (λ (o : Option Transaction). (let b : Bool = elim o [ None ↦ false | Some u ↦ u.subtask == subtask ] in b)) c.1 in
      let rows : records_of l n ≡ t.records = ap (λ (o : Option Transaction). (let r : List (List ℕ) = elim o [ None ↦ [] | Some u ↦ u.records ] in r)) c.1 in
      let kept : List ℕ = filter (is_of l subtask) order in
      let left : (b : Bool) → (t.subtask == subtask) ≡ b → joined (flat_map at_number (n ∷ order)) ≡ joined (if b then as_is n t ∷ [] else []) ++ flat_map (records_of l) kept =
      λ b is.
      flat_map-append (λ (x : durable.Transaction (List ℕ)). x.records) (at_number n) (flat_map at_number order)
      ∙ ap₂ (λ x y. joined x ++ y) (committed_there l subtask n t c.1 c.2 ∙ ap (λ e. if e then as_is n t ∷ [] else []) is) rest in
      let right : (b : Bool) → (t.subtask == subtask) ≡ b → flat_map (records_of l) (filter (is_of l subtask) (n ∷ order)) ≡ flat_map (records_of l) (cond b (n ∷ kept) kept) =
      λ b is. ap (λ e. flat_map (records_of l) (cond e (n ∷ kept) kept)) (mine ∙ is) in
      elim (cases_Bool (t.subtask == subtask)) [
        | inl yes_of ↦ left true yes_of ∙ ap (λ r. r ++ flat_map (records_of l) kept) (append-nil t.records ∙ sym rows) ∙ sym (right true yes_of)
        | inr no_of ↦ left false no_of ∙ sym (right false no_of)
      ]

  rows_of : (order : List ℕ) → All IsCommitted order → joined (flat_map at_number order) ≡ flat_map (records_of l) (filter (is_of l subtask) order)
  rows_of [] every = refl
  rows_of (n ∷ order) every = one_more n order (All-head IsCommitted n order every) (rows_of order (All-tail IsCommitted n order every))

  count_more : (n : ℕ) (order : List ℕ) → IsCommitted n → length (flat_map at_number order) ≡ length (filter (is_of l subtask) order) → length (flat_map at_number (n ∷ order)) ≡ length (filter (is_of l subtask) (n ∷ order))
  count_more n order c rest =
      let t : Transaction = c.0 in
      let mine : is_of l subtask n ≡ (t.subtask == subtask) = ap (λ (o : Option Transaction). (let b : Bool = elim o [ None ↦ false | Some u ↦ u.subtask == subtask ] in b)) c.1 in
      let kept : List ℕ = filter (is_of l subtask) order in
      let others : List (durable.Transaction (List ℕ)) = flat_map at_number order in
      let left : (b : Bool) → (t.subtask == subtask) ≡ b → length (flat_map at_number (n ∷ order)) ≡ length ((if b then as_is n t ∷ [] else []) ++ others) =
      λ b is. ap (λ (xs : List (durable.Transaction (List ℕ))). length (xs ++ others)) (committed_there l subtask n t c.1 c.2 ∙ ap (λ e. if e then as_is n t ∷ [] else []) is) in
      let right : (b : Bool) → (t.subtask == subtask) ≡ b → length (filter (is_of l subtask) (n ∷ order)) ≡ length (cond b (n ∷ kept) kept) =
      λ b is. ap (λ e. length (cond e (n ∷ kept) kept)) (mine ∙ is) in
      elim (cases_Bool (t.subtask == subtask)) [
        | inl yes_of ↦ left true yes_of ∙ ap suc rest ∙ sym (right true yes_of)
        | inr no_of ↦ left false no_of ∙ rest ∙ sym (right false no_of)
      ]

  count_of : (order : List ℕ) → All IsCommitted order → length (flat_map at_number order) ≡ length (filter (is_of l subtask) order)
  count_of [] every = refl
  count_of (n ∷ order) every = count_more n order (All-head IsCommitted n order every) (count_of order (All-tail IsCommitted n order every))

pub rows_in : (l : Ledger) (subtask : ℕ) → IsOrdered l → joined (share l subtask).committed ≡ committed_rows l subtask
rows_in l subtask ordered = rows_of l subtask l.committed (ordered_at l ordered)

-- and how many transactions they are of
pub count_in : (l : Ledger) (subtask : ℕ) → IsOrdered l → length (share l subtask).committed ≡ length (committed_of l subtask)
count_in l subtask ordered = count_of l subtask l.committed (ordered_at l ordered)
