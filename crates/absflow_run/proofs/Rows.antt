-- Rows put last in a partition.
use Rattle.std.proofs.Common.{◌≡◌, ◌∙◌, ◌<◌, ◌+◌, ◌-◌, ◌⊎◌, inl, inr, ℕ, zero, suc, List, [], ◌∷◌, ◌++◌, length, map, replicate, refl, sym, ap, arith}
use Rattle.std.proofs.lemmas.List.{append_assoc, append-nil, length-append, length-map, map-append, nil_from_length}
use Rattle.source_log.specs.Partitions.{appended, appended_all}

pub with_no_rows : {R : Type 0} (ps : List (List R)) (p : ℕ) → appended_all ps p [] ≡ ps
with_no_rows [] p = refl
with_no_rows (x ∷ xs) zero = ap (λ rows. rows ∷ xs) (append-nil x)
with_no_rows (x ∷ xs) (suc p) = ap (λ ys. x ∷ ys) (with_no_rows xs p)

pub with_row : {R : Type 0} (ps : List (List R)) (p : ℕ) (done : List R) (row : R) → appended (appended_all ps p done) p row ≡ appended_all ps p (done ++ row ∷ [])
with_row [] p done row = refl
with_row (x ∷ xs) zero done row = ap (λ rows. rows ∷ xs) (append_assoc x done (row ∷ []))
with_row (x ∷ xs) (suc p) done row = ap (λ ys. x ∷ ys) (with_row xs p done row)

-- an empty partition behind these takes its rows
pub next_rows : {R : Type 0} (ps : List (List R)) (k : ℕ) (rows : List R) → appended_all (ps ++ replicate (suc k) []) (length ps) rows ≡ (ps ++ rows ∷ []) ++ replicate k []
next_rows [] k rows = refl
next_rows (x ∷ xs) k rows = ap (λ ys. x ∷ ys) (next_rows xs k rows)

-- Going through the partitions: those done are in the log with their rows, and so many empty ones stand behind them.
module _ {E R : Type 0} (rows_of : E → List R) where
  abbrev pub AreDone : List (ℕ × E) → ℕ → List (List R) → Type 0
  AreDone done count lists = (k : ℕ) × (length done + k ≡ count) × (lists ≡ map (λ d. rows_of d.1) done ++ replicate k [])

  pub one_more : (done : List (ℕ × E)) (p : ℕ) (e : E) (count : ℕ) (lists new : List (List R)) → AreDone done count lists → p ≡ length done → p < count → new ≡ appended_all lists p (rows_of e)
      → AreDone (done ++ (p, e) ∷ []) count new
  one_more done p e count lists new before is more now =
      let k = before.0 in
      let some : k ≡ suc (k - 1) = omega (arith, before.1, is, more) in
      let longer : length (done ++ (p, e) ∷ []) ≡ length done + 1 = length-append done ((p, e) ∷ []) in
      let place : p ≡ length (map (λ d. rows_of d.1) done) = is ∙ sym (length-map done (λ d. rows_of d.1)) in
      let at : new ≡ appended_all (map (λ d. rows_of d.1) done ++ replicate (suc (k - 1)) []) (length (map (λ d. rows_of d.1) done)) (rows_of e) =
      now ∙ ap (λ n. appended_all lists n (rows_of e)) place ∙ ap (λ ls. appended_all ls (length (map (λ d. rows_of d.1) done)) (rows_of e)) (before.2 ∙ ap (λ j. map (λ d. rows_of d.1) done ++ replicate j []) some) in (
        k - 1,
        omega (arith, longer, before.1, is, more),
        at ∙ next_rows (map (λ d. rows_of d.1) done) (k - 1) (rows_of e) ∙ ap (λ ls. ls ++ replicate (k - 1) []) (sym (map-append (λ d. rows_of d.1) done ((p, e) ∷ []))),
      )

  map-second : (done : List (ℕ × E)) → map (λ d. rows_of d.1) done ≡ map rows_of (map (λ d. d.1) done)
  map-second [] = refl
  map-second (d ∷ ds) = ap (λ ls. rows_of d.1 ∷ ls) (map-second ds)

  -- nothing is left where as many were done as there are, or none is to come
  pub all_done : (done : List (ℕ × E)) (rest partitions : List E) (count : ℕ) (lists : List (List R)) → AreDone done count lists → map (λ d. d.1) done ++ rest ≡ partitions → length partitions ≡ count
      → (length done ≡ count) ⊎ (length rest ≡ 0) → lists ≡ map rows_of partitions
  all_done done rest partitions count lists before whole many ends =
      let both : length (map (λ d. d.1) done ++ rest) ≡ length (map (λ d. d.1) done) + length rest = length-append (map (λ d. d.1) done) rest in
      let firsts : length (map (λ d. d.1) done) ≡ length done = length-map done (λ d. d.1) in
      let all : length (map (λ d. d.1) done ++ rest) ≡ count = ap length whole ∙ many in
      let none : length rest ≡ 0 = elim ends [ inl full ↦ omega (arith, both, firsts, all, full) | inr empty ↦ empty ] in
      let k_none : before.0 ≡ 0 = omega (arith, both, firsts, all, none, before.1) in
      let seconds : map (λ d. d.1) done ≡ partitions = sym (append-nil (map (λ d. d.1) done)) ∙ ap (λ r. map (λ d. d.1) done ++ r) (sym (nil_from_length rest none)) ∙ whole in
      before.2 ∙ ap (λ j. map (λ d. rows_of d.1) done ++ replicate j []) k_none ∙ append-nil (map (λ d. rows_of d.1) done) ∙ map-second done ∙ ap (map rows_of) seconds
