-- What a reader knows after a look.
use Rattle.std.proofs.Common.{◌≡◌, ◌≢◌, ℕ, ◌<◌, ◌≤◌, List, take, length, get_or, set, sym, ap, ◌∙◌, subst}
use Rattle.std.proofs.lemmas.List.{get_or-set_other, get_or-set_same}
use Rattle.std.proofs.Math.Seq.{take-length}
use Rattle.published_lists.specs.Beginnings.{IsBeginning, longer}
use Rattle.published_lists.specs.Rows.{rows_of, EachBegins, each_take}
use Rattle.published_lists.proofs.Beginnings.{begins_take, take_of_more, begins_length, begins_trans, begins_longer, longer_assoc, longer_first}
use Rattle.published_lists.proofs.EachRow.{rows_of-each_take, length-each_take}

module _ {A : Type 0} (ns : List ℕ) (before after told : List (List A)) (grows : EachBegins before after) (inside : (s : ℕ) → get_or ns s 0 ≤ length (rows_of before s)) where
  -- what was read stays what it was, though more is found
  pub same_read : (s : ℕ) → rows_of (each_take ns after) s ≡ rows_of (each_take ns before) s
  same_read s = rows_of-each_take ns after s ∙ (take_of_more (get_or ns s 0) (rows_of before s) (rows_of after s) (grows s) (inside s) ∙ sym (rows_of-each_take ns before s))

  pub same_view : (s : ℕ) → longer (rows_of (each_take ns after) s) (rows_of told s) ≡ longer (rows_of (each_take ns before) s) (rows_of told s)
  same_view s = ap (λ l. longer l (rows_of told s)) (same_read s)

  pub other_view : (subtask n s : ℕ) → s ≢ subtask → longer (rows_of (each_take (set ns subtask n) after) s) (rows_of told s) ≡ longer (rows_of (each_take ns before) s) (rows_of told s)
  other_view subtask n s ne =
      let same : rows_of (each_take (set ns subtask n) after) s ≡ rows_of (each_take ns after) s =
      rows_of-each_take (set ns subtask n) after s ∙ (ap (λ k. take k (rows_of after s)) (get_or-set_other ns subtask s n 0 ne) ∙ sym (rows_of-each_take ns after s)) in
      ap (λ l. longer l (rows_of told s)) same ∙ same_view s

  pub view_begins : EachBegins told after → (s : ℕ) → IsBeginning (longer (rows_of (each_take ns before) s) (rows_of told s)) (rows_of after s)
  view_begins t s =
      let read : IsBeginning (rows_of (each_take ns before) s) (rows_of after s) =
      subst (λ l. IsBeginning l (rows_of after s)) (sym (rows_of-each_take ns before s)) (begins_trans (take (get_or ns s 0) (rows_of before s)) (rows_of before s) (rows_of after s) (begins_take (get_or ns s 0) (rows_of before s)) (grows s)) in
      begins_longer (rows_of (each_take ns before) s) (rows_of told s) (rows_of after s) read (t s)

  -- what was read of a subtask is all that was found of it
  pub own_view : EachBegins told after → (subtask n : ℕ) → subtask < length (each_take ns before) → n ≡ length (rows_of after subtask)
      → longer (rows_of (each_take (set ns subtask n) after) subtask) (rows_of told subtask) ≡ rows_of after subtask
  own_view t subtask n lt is =
      let within : subtask < length ns = subst (λ k. subtask < k) (length-each_take ns before) lt in
      let noted : get_or (set ns subtask n) subtask 0 ≡ n = get_or-set_same ns subtask n 0 within in
      let read : rows_of (each_take (set ns subtask n) after) subtask ≡ rows_of after subtask =
      rows_of-each_take (set ns subtask n) after subtask ∙ (ap (λ k. take k (rows_of after subtask)) (noted ∙ is) ∙ take-length (rows_of after subtask)) in
      ap (λ l. longer l (rows_of told subtask)) read ∙ longer_first (rows_of after subtask) (rows_of told subtask) (begins_length (rows_of told subtask) (rows_of after subtask) (t subtask))

  -- what was told joins the view
  pub view_told : (later more : List (List A)) → ((s : ℕ) → rows_of later s ≡ longer (rows_of told s) (rows_of more s))
      → (s : ℕ) → longer (rows_of (each_take ns after) s) (rows_of later s) ≡ longer (longer (rows_of (each_take ns before) s) (rows_of told s)) (rows_of more s)
  view_told later more is s =
      let read = rows_of (each_take ns before) s in
      ap (λ l. longer l (rows_of later s)) (same_read s) ∙ (ap (longer read) (is s) ∙ sym (longer_assoc read (rows_of told s) (rows_of more s)))
