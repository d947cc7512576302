-- Lines after lines, and parts after parts.
use Rattle.std.proofs.Common.{◌≡◌, ◌∙◌, ◌<◌, ◌≤◌, ◌+◌, ◌-◌, ◌*◌, ℕ, zero, suc, min, List, [], ◌∷◌, ◌++◌, Option, length, get_or, refl, sym, ap, subst, arith, append_assoc, append-nil}
use Rattle.std.specs.List.{All, flat_map}
use Rattle.std.specs.Io.KnownBytes.{Appends}
use Rattle.std.proofs.KnownBytes.{Appends-nil, Appends-trans}
use Rattle.std.proofs.lemmas.List.Elements.{All-head, All-tail}
use Rattle.text_parts.specs.Lines.{AreLines, WritesLines, lines_before}

-- lines, and those of the numbers behind them
pub joined : (P : ℕ → List ℕ → Type 0) (first n k m all : ℕ) (xs ys : List ℕ) → AreLines P first n xs → k ≡ first + n → AreLines P k m ys → all ≡ n + m → AreLines P first all (xs ++ ys)
joined P first zero k m all xs ys none at rest is =
    let here : k ≡ first = omega (arith, at) in
    let many : m ≡ all = omega (arith, is) in
    rw none (subst (λ j. AreLines P first j ys) many (subst (λ j. AreLines P j m ys) here rest))
joined P first (suc n) k m all xs ys (line, more, its, lines, same) at rest is =
    let many : suc (n + m) ≡ all = omega (arith, is) in
    subst (λ j. AreLines P first j (xs ++ ys)) many (line, more ++ ys, its, joined P (suc first) n k m (n + m) more ys lines (omega (arith, at)) rest refl, ap (λ b. b ++ ys) same ∙ append_assoc line more ys)

pub no_lines : (P : ℕ → List ℕ → Type 0) (first n : ℕ) → n ≡ 0 → AreLines P first n []
no_lines P first zero none = refl
no_lines P first (suc n) none = absurd (omega (arith, none))

-- one line more
pub one_more : (P : ℕ → List ℕ → Type 0) (first n k all : ℕ) (xs line : List ℕ) → AreLines P first n xs → k ≡ first + n → P k line → all ≡ n + 1 → AreLines P first all (xs ++ line)
one_more P first n k all xs line lines at its is = joined P first n k 1 all xs line lines at (line, [], its, refl, sym (append-nil line)) is

-- what a writer holds, and what was appended to it
pub none_written : (P : ℕ → List ℕ → Type 0) (first n : ℕ) (old : Option (List ℕ)) → n ≡ 0 → WritesLines P first n old old
none_written P first zero old none = ([], refl, Appends-nil old)
none_written P first (suc n) old none = absurd (omega (arith, none))

pub more_written : (P : ℕ → List ℕ → Type 0) (first n k m all : ℕ) (old mid new : Option (List ℕ)) → WritesLines P first n old mid → k ≡ first + n → WritesLines P k m mid new → all ≡ n + m → WritesLines P first all old new
more_written P first n k m all old mid new before at after is =
    (before.0 ++ after.0, joined P first n k m all before.0 after.0 before.1 at after.1 is, Appends-trans old mid new before.0 after.0 before.2 after.2)

-- the lines before a part, and those of the part, are those before the next
next_part : (count size k : ℕ) → lines_before count size (suc k) ≡ lines_before count size k + min size (count - lines_before count size k)
next_part count size k =
    let e : suc k * size ≡ k * size + size = omega arith in
    omega (arith, e)

-- What the parts of a round are from one of them on: each that is whole is its lines.
module _ {X : Type 0} (P : ℕ → List ℕ → Type 0) (first count size : ℕ) (text : X → List ℕ) (Whole : X → Type 0) where
  abbrev pub IsPart : ℕ → X → Type 0
  IsPart k x = Whole x → AreLines P (first + lines_before count size k) (min size (count - lines_before count size k)) (text x)

  abbrev pub AreParts : ℕ → List X → Type 0
  AreParts k xs = (j : ℕ) (d : X) → j < length xs → IsPart (k + j) (get_or xs j d)

  rest_of : (k : ℕ) (x : X) (xs : List X) → AreParts k (x ∷ xs) → AreParts (suc k) xs
  rest_of k x xs parts j d less =
      let same : k + suc j ≡ suc k + j = omega arith in
      subst (λ n. IsPart n (get_or xs j d)) same (parts (suc j) d (omega (arith, less)))

  first_of : (k : ℕ) (x : X) (xs : List X) → AreParts k (x ∷ xs) → IsPart k x
  first_of k x xs parts =
      let same : k + 0 ≡ k = omega arith in
      subst (λ n. IsPart n x) same (parts 0 x (omega arith))

  -- whole parts, one after the other, are the lines that they have together
  pub all_parts : (k : ℕ) (xs : List X) → AreParts k xs → All Whole xs → AreLines P (first + lines_before count size k) (lines_before count size (k + length xs) - lines_before count size k) (flat_map text xs)
  all_parts k [] parts whole =
      let none : 0 ≡ lines_before count size (k + 0) - lines_before count size k = let e : k + 0 ≡ k = omega arith in rw e (omega arith) in
      subst (λ n. AreLines P (first + lines_before count size k) n []) none refl
  all_parts k (x ∷ xs) parts whole =
      let one = first_of k x xs parts (All-head Whole x xs whole) in
      let rest = all_parts (suc k) xs (rest_of k x xs parts) (All-tail Whole x xs whole) in
      let step = next_part count size k in
      let same : suc k + length xs ≡ k + suc (length xs) = omega arith in
      let last : lines_before count size (suc k + length xs) ≡ lines_before count size (k + suc (length xs)) = ap (lines_before count size) same in
      let wide : (suc k + length xs) * size ≡ suc k * size + length xs * size = omega arith in
      joined P (first + lines_before count size k) (min size (count - lines_before count size k)) (first + lines_before count size (suc k)) _ _ (text x) (flat_map text xs)
      one (omega (arith, step)) rest (omega (arith, step, last, wide))

  -- the parts of a round are its lines
  pub whole_round : (n : ℕ) (xs : List X) → length xs ≡ n → count ≤ n * size → ((k : ℕ) (d : X) → k < n → IsPart k (get_or xs k d)) → All Whole xs → AreLines P first count (flat_map text xs)
  whole_round n xs len covered parts whole =
      let each : AreParts 0 xs = λ j d less. let same : j ≡ 0 + j = omega arith in subst (λ k. IsPart k (get_or xs j d)) same (parts j d (omega (arith, less, len))) in
      let front : first + lines_before count size 0 ≡ first = omega arith in
      let same : lines_before count size (0 + length xs) ≡ lines_before count size n = ap (lines_before count size) (omega (arith, len)) in
      let many : lines_before count size (0 + length xs) - lines_before count size 0 ≡ count = omega (arith, same, covered) in
      subst (λ m. AreLines P first m (flat_map text xs)) many (subst (λ f. AreLines P f (lines_before count size (0 + length xs) - lines_before count size 0) (flat_map text xs)) front (all_parts 0 xs each whole))
