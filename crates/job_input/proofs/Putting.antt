-- Rows put last in a partition, line by line.
use Rattle.std.proofs.Common.{◌≡◌, ◌∙◌, ℕ, zero, suc, ◌==◌, cond, Bool, true, false, Option, Some, None, IfSome, List, [], ◌∷◌, ◌++◌, length, slice_set, refl, sym, ap, arith}
use Rattle.std.proofs.lemmas.List.{append_assoc, append-nil, length-set}
use Rattle.operators.specs.declared.row.Row.{Row}
use Rattle.source_log.specs.Partitions.{records_at}
use Rattle.std.specs.Io.BufRead.{take_through, drop_through, DropsThrough}
use Rattle.job_input.specs.Lines.{is_blank, PutsLine, PutsRows, PutsText}

pub no_rows : (partitions : List (List Row)) (p : ℕ) → slice_set partitions p (records_at partitions p ++ []) ≡ partitions
no_rows [] p = refl
no_rows (x ∷ xs) zero = ap (λ rows. rows ∷ xs) (append-nil x)
no_rows (x ∷ xs) (suc p) = ap (λ ys. x ∷ ys) (no_rows xs p)

pub more_rows : (partitions : List (List Row)) (p : ℕ) (rows more : List Row)
    → slice_set (slice_set partitions p (records_at partitions p ++ rows)) p (records_at (slice_set partitions p (records_at partitions p ++ rows)) p ++ more)
    ≡ slice_set partitions p (records_at partitions p ++ (rows ++ more))
more_rows [] p rows more = refl
more_rows (x ∷ xs) zero rows more = ap (λ ys. ys ∷ xs) (append_assoc x rows more)
more_rows (x ∷ xs) (suc p) rows more = ap (λ ys. x ∷ ys) (more_rows xs p rows more)

pub puts_none : (p : ℕ) (partitions : List (List Row)) → PutsRows p partitions partitions
puts_none p partitions = ([], sym (no_rows partitions p))

pub puts_line : (p : ℕ) (line : List ℕ) (old new : List (List Row)) → PutsLine p line old new → PutsRows p old new
puts_line p line old new put = by (is_blank line) refl
  where
    by : (b : Bool) → is_blank line ≡ b → PutsRows p old new
    by true is = ([], put.0 is ∙ sym (no_rows old p))
    by false is =
        let one = put.1 is in
        (one.0 ∷ [], one.2)

pub puts_more : (p : ℕ) (old mid new : List (List Row)) → PutsRows p old mid → PutsRows p mid new → PutsRows p old new
puts_more p old mid new before after =
    (before.0 ++ after.0, after.1 ∙ ap (λ ps. slice_set ps p (records_at ps p ++ after.0)) before.1 ∙ more_rows old p before.0 after.0)

pub as_many : (p : ℕ) (old new : List (List Row)) → PutsRows p old new → length new ≡ length old
as_many p old new put = ap length put.1 ∙ length-set old p (records_at old p ++ put.0)

-- ---- the lines of a text

-- what the text behind puts, the whole text puts
abbrev pub StillPuts : ℕ → Option (List ℕ) → Option (List ℕ) → List (List Row) → List (List Row) → Type 0
StillPuts p None rest old mid = Unit {0}
StillPuts p (Some xs) None old mid = ⊥
StillPuts p (Some xs) (Some ys) old mid = (new : List (List Row)) → PutsText p ys mid new → PutsText p xs old new

pub still_at_first : (p : ℕ) (known : Option (List ℕ)) (old : List (List Row)) → StillPuts p known known old old
still_at_first p None old = tt
still_at_first p (Some xs) old = λ new text. text

pub still_behind : (p : ℕ) (known rest after : Option (List ℕ)) (old mid next : List (List Row)) → StillPuts p known rest old mid
    → IfSome rest (λ bytes. PutsLine p (take_through 10 bytes) mid next) → DropsThrough rest after 10 → StillPuts p known after old next
still_behind p None rest after old mid next still line drops = tt
still_behind p (Some xs) None after old mid next still line drops = absurd still
still_behind p (Some xs) (Some ys) after old mid next still line drops = by after drops
  where
    by : (o : Option (List ℕ)) → o ≡ Some (drop_through 10 ys) → StillPuts p (Some xs) o old next
    by o e = rw e (λ new text. still new (suc text.0, (next, line, text.1)))

pub all_put : (p : ℕ) (known rest : Option (List ℕ)) (old mid new : List (List Row)) → StillPuts p known rest old mid
    → IfSome rest (λ bytes. PutsLine p (take_through 10 bytes) mid new) → IfSome rest (λ bytes. bytes ≡ []) → IfSome known (λ bytes. PutsText p bytes old new)
all_put p None rest old mid new still line end = tt
all_put p (Some xs) None old mid new still line end = absurd still
all_put p (Some xs) (Some ys) old mid new still line end = still new (suc zero, (new, line, (ap (drop_through 10) end, refl)))

-- a line of nothing is the end of its text
pub at_end : (known : Option (List ℕ)) (line : List ℕ) → IfSome known (λ bytes. line ≡ take_through 10 bytes) → length line ≡ 0 → IfSome known (λ bytes. bytes ≡ [])
at_end None line h none = tt
at_end (Some []) line h none = refl
at_end (Some (x ∷ xs)) line h none = absurd (some_line (x == 10) (ap length h))
  where
    some_line : (b : Bool) → length line ≡ length (cond b (x ∷ []) (x ∷ take_through 10 xs)) → ⊥
    some_line true e = omega (arith, e, none)
    some_line false e = omega (arith, e, none)
