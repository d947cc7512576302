-- Lists by subtask.
use Rattle.std.proofs.Common.{◌≡◌, ℕ, zero, suc, ◌+◌, List, [], length, arith, ◌∷◌, ◌++◌, take, refl, sym, ap, ◌∙◌, get_or, set}
use Rattle.std.proofs.lemmas.List.{length-set, length-append}
use Rattle.published_lists.specs.Rows.{rows_of, with_row, EachBegins, each_take, Counts}
use Rattle.published_lists.proofs.Beginnings.{begins_none, begins_self, begins_more, begins_trans, take_of_none}

module _ {A : Type 0} where
  pub each_self : (xs : List (List A)) → EachBegins xs xs
  each_self xs s = begins_self (rows_of xs s)

  pub none_begin : (xs : List (List A)) → EachBegins [] xs
  none_begin xs s = begins_none (rows_of xs s)

  pub each_trans : (xs ys zs : List (List A)) → EachBegins xs ys → EachBegins ys zs → EachBegins xs zs
  each_trans xs ys zs h k s = begins_trans (rows_of xs s) (rows_of ys s) (rows_of zs s) (h s) (k s)

  pub rows_of-each_take : (ns : List ℕ) (xs : List (List A)) (s : ℕ) → rows_of (each_take ns xs) s ≡ take (get_or ns s 0) (rows_of xs s)
  rows_of-each_take [] xs s = refl
  rows_of-each_take (n ∷ ns) [] zero = sym (take_of_none n)
  rows_of-each_take (n ∷ ns) [] (suc s) = rows_of-each_take ns [] s
  rows_of-each_take (n ∷ ns) (x ∷ xs) zero = refl
  rows_of-each_take (n ∷ ns) (x ∷ xs) (suc s) = rows_of-each_take ns xs s

  pub length-each_take : (ns : List ℕ) (xs : List (List A)) → length (each_take ns xs) ≡ length ns
  length-each_take [] xs = refl
  length-each_take (n ∷ ns) [] = ap suc (length-each_take ns [])
  length-each_take (n ∷ ns) (x ∷ xs) = ap suc (length-each_take ns xs)

  pub with_row-begins : (xs : List (List A)) (s : ℕ) (row : A) → EachBegins xs (with_row xs s row)
  with_row-begins [] s row t = refl
  with_row-begins (x ∷ xs) zero row zero = begins_more x (row ∷ [])
  with_row-begins (x ∷ xs) zero row (suc t) = begins_self (rows_of xs t)
  with_row-begins (x ∷ xs) (suc s) row zero = begins_self x
  with_row-begins (x ∷ xs) (suc s) row (suc t) = with_row-begins xs s row t

  pub length-with_row : (xs : List (List A)) (s : ℕ) (row : A) → length (with_row xs s row) ≡ length xs
  length-with_row xs s row = length-set xs s (rows_of xs s ++ row ∷ [])

  count_after : (ns : List ℕ) (xs : List (List A)) (s n : ℕ) (row : A) → length ns ≡ length xs → ((t : ℕ) → get_or ns t 0 ≡ length (rows_of xs t)) → n ≡ length (rows_of xs s) + 1
      → (t : ℕ) → get_or (set ns s n) t 0 ≡ length (rows_of (with_row xs s row) t)
  count_after [] [] s n row long h is t = h t
  count_after [] (x ∷ xs) s n row long h is t = absurd (omega arith)
  count_after (m ∷ ns) [] s n row long h is t = absurd (omega arith)
  count_after (m ∷ ns) (x ∷ xs) zero n row long h is zero = is ∙ sym (length-append x (row ∷ []))
  count_after (m ∷ ns) (x ∷ xs) zero n row long h is (suc t) = h (suc t)
  count_after (m ∷ ns) (x ∷ xs) (suc s) n row long h is zero = h zero
  count_after (m ∷ ns) (x ∷ xs) (suc s) n row long h is (suc t) = count_after ns xs s n row (omega arith) (λ u. h (suc u)) is t

  pub counts-with_row : (ns : List ℕ) (xs : List (List A)) (s n : ℕ) (row : A) → Counts ns xs → n ≡ length (rows_of xs s) + 1 → Counts (set ns s n) (with_row xs s row)
  counts-with_row ns xs s n row h is = (length-set ns s n ∙ (h.0 ∙ sym (length-with_row xs s row)), count_after ns xs s n row h.0 h.1 is)
