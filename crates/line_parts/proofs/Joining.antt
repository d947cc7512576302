-- Lines after lines.
use Rattle.std.proofs.Common.{◌≡◌, ◌∙◌, ℕ, zero, suc, ◌+◌, ◌<◌, Bool, true, false, ◌≢◌, ◌⊎◌, inl, inr, is_none, Option, None, Some, List, [], ◌∷◌, ◌++◌, length, refl, sym, ap, subst, arith, append_assoc, append-nil}
use Rattle.std.proofs.lemmas.Bool.{false≢true}
use Rattle.std.proofs.lemmas.Option.{none-some}
use Rattle.std.specs.Io.{IsEmptyOrEndsWith}
use Rattle.std.specs.Io.BufRead.{take_through, drop_through}
use Rattle.line_parts.proofs.Through.{take_front, drop_front, still_ends}
use Rattle.line_parts.specs.Lines.{items_of, BeginsWithLines, ReadsLines}

module _ {X : Type 0} (HasItem : List ℕ → Option X → Type 0) where
  -- what stands behind a text whose last line has its end stands behind its lines
  pub behind : (n : ℕ) (xs ys rest : List ℕ) (items : List X) → IsEmptyOrEndsWith xs 10 → BeginsWithLines HasItem n xs items rest → BeginsWithLines HasItem n (xs ++ ys) items (rest ++ ys)
  behind zero xs ys rest items ends (none, same) = (none, ap (λ l. l ++ ys) same)
  behind (suc n) xs ys rest items ends (item, more, some, has, lines, all) = (
    item,
    more,
    longer xs some,
    subst (λ l. HasItem l item) (sym (take_front xs ys some ends)) has,
    subst (λ l. BeginsWithLines HasItem n l more (rest ++ ys)) (sym (drop_front xs ys some ends)) (behind n (drop_through 10 xs) ys rest more (still_ends xs ends) lines),
    all,
  )
    where
      longer : (l : List ℕ) → 0 < length l → 0 < length (l ++ ys)
      longer [] h = absurd (omega (arith, h))
      longer (x ∷ l) h = omega arith

  pub after : (n m all : ℕ) (text mid rest : List ℕ) (items more : List X) → all ≡ n + m → BeginsWithLines HasItem n text items mid → BeginsWithLines HasItem m mid more rest → BeginsWithLines HasItem all text (items ++ more) rest
  after zero m all text mid rest items more is (none, same) lines =
      let many : m ≡ all = omega (arith, is) in
      rw (none, same) (subst (λ k. BeginsWithLines HasItem k mid more rest) many lines)
  after (suc n) m all text mid rest items more is (item, its, some, has, front, same) lines =
      let many : suc (n + m) ≡ all = omega (arith, is) in
      subst (λ k. BeginsWithLines HasItem k text (items ++ more) rest) many
      (item, its ++ more, some, has, after n m (n + m) (drop_through 10 text) mid rest its more refl front lines, ap (λ l. l ++ more) same ∙ append_assoc (items_of item) its more)

  -- one line more
  pub one_more : (n : ℕ) (text rest : List ℕ) (items : List X) (item : Option X) → BeginsWithLines HasItem n text items rest → 0 < length rest → HasItem (take_through 10 rest) item
      → BeginsWithLines HasItem (n + 1) text (items ++ items_of item) (drop_through 10 rest)
  one_more n text rest items item lines some has =
      after n (suc zero) (n + 1) text rest (drop_through 10 rest) items (items_of item) (omega arith) lines (item, [], some, has, (refl, refl), sym (append-nil (items_of item)))

  -- ---- two parts of a text

  -- the first is not read whole
  pub first_alone : (n : ℕ) (xs ys : List ℕ) (items : List X) (b : Bool) → (0 < length ys → IsEmptyOrEndsWith xs 10) → ReadsLines HasItem xs n items b → ReadsLines HasItem (xs ++ ys) n items false
  first_alone n xs [] items b ends (rest, lines, all) = (rest, subst (λ l. BeginsWithLines HasItem n l items rest) (sym (append-nil xs)) lines, λ e. absurd (false≢true e))
  first_alone n xs (y ∷ ys) items b ends (rest, lines, all) = (rest ++ y ∷ ys, behind n xs (y ∷ ys) rest items (ends (omega arith)) lines, λ e. absurd (false≢true e))

  -- the first is read whole
  pub both_parts : (n m all : ℕ) (xs ys : List ℕ) (items more : List X) (b : Bool) → all ≡ n + m → (0 < length ys → IsEmptyOrEndsWith xs 10)
      → ReadsLines HasItem xs n items true → ReadsLines HasItem ys m more b → ReadsLines HasItem (xs ++ ys) all (items ++ more) b
  both_parts n m all xs ys items more b is ends (mid, front, none) (rest, lines, whole) = (rest, after n m all (xs ++ ys) ys rest items more is (joined ys ends) lines, whole)
    where
      whole_front : BeginsWithLines HasItem n xs items []
      whole_front = subst (BeginsWithLines HasItem n xs items) (none refl) front

      joined : (zs : List ℕ) → (0 < length zs → IsEmptyOrEndsWith xs 10) → BeginsWithLines HasItem n (xs ++ zs) items zs
      joined [] h = subst (λ l. BeginsWithLines HasItem n l items []) (sym (append-nil xs)) whole_front
      joined (z ∷ zs) h = behind n xs (z ∷ zs) [] items (h (omega arith)) whole_front

  -- what the two parts have together, where memory may be refused between them
  pub together : {F : Type 0} (text front back : List ℕ) (n m all : ℕ) (items more whole : List X) (why next end : Option F) (none_left : F)
      → text ≡ front ++ back → (0 < length back → IsEmptyOrEndsWith front 10) → ReadsLines HasItem front n items (is_none why) → ReadsLines HasItem back m more (is_none next)
      → (why ≢ None → (whole ≡ items) × (all ≡ n) × (end ≡ why))
      → (why ≡ None → ((whole ≡ items ++ more) × (all ≡ n + m) × (end ≡ next)) ⊎ ((whole ≡ items) × (all ≡ n) × (end ≡ Some none_left)))
      → ReadsLines HasItem text all whole (is_none end)
  together text front back n m all items more whole None next end none_left is ends first second faulty made = by (made refl)
    where
      by : ((whole ≡ items ++ more) × (all ≡ n + m) × (end ≡ next)) ⊎ ((whole ≡ items) × (all ≡ n) × (end ≡ Some none_left)) → ReadsLines HasItem text all whole (is_none end)
      by (inl (its, lines, same)) = rw (is, its, same) (both_parts n m all front back items more (is_none next) lines ends first second)
      by (inr (its, lines, same)) = rw (is, its, lines, same) (first_alone n front back items true ends first)
  together text front back n m all items more whole (Some f) next end none_left is ends first second faulty made =
      let (its, lines, same) = faulty (λ e. absurd (none-some f (sym e))) in
      rw (is, its, lines, same) (first_alone n front back items false ends first)
