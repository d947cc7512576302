-- The rows of texts that stand one after the other.
use Rattle.std.proofs.Common.{◌≡◌, ◌∙◌, ◌<◌, ℕ, zero, suc, Option, None, Some, IfSome, OnSome, Result, Ok, Err, OnOk, List, [], ◌∷◌, ◌++◌, All, length, refl, sym, ap, subst, arith, append_assoc, append-nil, take, drop, take-append-drop, take_all, ◌≤◌, ◌+◌, ◌-◌, get_or, length-append}
use Rattle.std.proofs.lemmas.List.{drop_all, get_or-append-add}
use Rattle.std.proofs.lemmas.List.Elements.{All-nil, All-push, All-append}
use Rattle.std.specs.Io.{IsEmptyOrEndsWith}
use Rattle.std.specs.Io.BufRead.{take_through, drop_through}
use Rattle.std.specs.Io.KnownBytes.{IsAtEnd, Keeps, prepend_known}
use Rattle.abs_codec.specs.Spelling.{Fits}
use Rattle.line_parts.specs.Lines.{items_of, BeginsWithLines}
use Rattle.line_parts.proofs.Through.{take_front, drop_front, still_ends}
use Rattle.operators.specs.RowSpelling.{RowIsSpelled, row_spelling}
use Rattle.operators.specs.declared.row.Row.{Row}
use Rattle.job_input.specs.Lines.{is_blank, HasRow, PutsLine, PutsLines, PutsText, PutsFront}
use Rattle.job_input.proofs.Putting.{no_rows, more_rows}
use Rattle.source_log.specs.Partitions.{appended_all}

-- ---- the rows of a text that was read

line_put : (p : ℕ) (line : List ℕ) (row : Option Row) (old : List (List Row)) → HasRow line row → PutsLine p line old (appended_all old p (items_of row))
line_put p line row old has = (
  λ blank. ap (λ r. appended_all old p (items_of r)) (has.0 blank) ∙ no_rows old p,
  λ other. let (r, is, same) = has.1 other in (r, is, ap (λ s. appended_all old p (items_of s)) same),
)

pub lines_put : (p n : ℕ) (text : List ℕ) (rows : List Row) (old : List (List Row)) → BeginsWithLines HasRow n text rows [] → PutsLines n p text old (appended_all old p rows)
lines_put p zero text rows old (none, end) = (end, ap (appended_all old p) none ∙ no_rows old p)
lines_put p (suc n) text rows old (row, more, some, has, lines, all) =
    let mid = appended_all old p (items_of row) in
    let whole : appended_all mid p more ≡ appended_all old p rows = more_rows old p (items_of row) more ∙ ap (appended_all old p) (sym all) in
    (mid, line_put p (take_through 10 text) row old has, subst (PutsLines n p (drop_through 10 text) mid) whole (lines_put p n (drop_through 10 text) more mid lines))

pub all_fit : (n : ℕ) (text rest : List ℕ) (rows : List Row) → BeginsWithLines HasRow n text rows rest → All (Fits RowIsSpelled row_spelling) rows
all_fit zero text rest rows (none, end) = subst (All (Fits RowIsSpelled row_spelling)) (sym none) (All-nil (Fits RowIsSpelled row_spelling))
all_fit (suc n) text rest rows (row, more, some, has, lines, all) =
    subst (All (Fits RowIsSpelled row_spelling)) (sym all) (All-append (Fits RowIsSpelled row_spelling) (items_of row) more (one row has.2) (all_fit n (drop_through 10 text) rest more lines))
  where
    one : (r : Option Row) → IfSome r (Fits RowIsSpelled row_spelling) → All (Fits RowIsSpelled row_spelling) (items_of r)
    one None fits = All-nil (Fits RowIsSpelled row_spelling)
    one (Some r) fits = All-push (Fits RowIsSpelled row_spelling) [] r (All-nil (Fits RowIsSpelled row_spelling)) fits

-- ---- two texts

none_put : (p n : ℕ) (text : List ℕ) (old new : List (List Row)) → text ≡ [] → PutsLines n p text old new → new ≡ old
none_put p zero text old new none (end, same) = same
none_put p (suc n) text old new none (mid, line, lines) =
    none_put p n (drop_through 10 text) mid new (ap (drop_through 10) none) lines ∙ line.0 (ap (λ l. is_blank (take_through 10 l)) none)

behind : (p n : ℕ) (xs ys : List ℕ) (old mid new : List (List Row)) → IsEmptyOrEndsWith xs 10 → PutsLines n p xs old mid → PutsText p ys mid new → PutsText p (xs ++ ys) old new
behind p zero xs ys old mid new ends (none, same) text = rw (none, ← same) text
behind p (suc n) [] ys old mid new ends (next, line, lines) text =
    subst (λ o. PutsText p ys o new) (line.0 refl) (behind p n [] ys next mid new ends lines text)
behind p (suc n) (x ∷ xs) ys old mid new ends (next, line, lines) text =
    let all = x ∷ xs in
    let some : 0 < length all = omega arith in
    let more = behind p n (drop_through 10 all) ys next mid new (still_ends all ends) lines text in (
      suc more.0,
      (
        next,
        subst (λ l. PutsLine p l old next) (sym (take_front all ys some ends)) line,
        subst (λ l. PutsLines more.0 p l next new) (sym (drop_front all ys some ends)) more.1,
      ),
    )

-- the rows of a text and of one that begins with a line
pub joined : (p : ℕ) (xs ys : List ℕ) (old mid new : List (List Row)) → (0 < length ys → IsEmptyOrEndsWith xs 10) → PutsText p xs old mid → PutsText p ys mid new → PutsText p (xs ++ ys) old new
joined p xs [] old mid new ends first second =
    let same : new ≡ mid = none_put p second.0 [] mid new refl second.1 in
    subst (λ l. PutsText p l old new) (sym (append-nil xs)) (subst (PutsText p xs old) (sym same) first)
joined p xs (y ∷ ys) old mid new ends first second = behind p first.0 xs (y ∷ ys) old mid new (ends (omega arith)) first.1 second

-- ---- rounds

-- nothing is put yet
pub none_yet : (p : ℕ) (known : Option (List ℕ)) (text : List ℕ) (old : List (List Row)) → length text ≡ 0 → PutsFront p known (prepend_known text known) old old
none_yet p None text old none = tt
none_yet p (Some xs) [] old none = ([], refl, (zero, (refl, refl)), λ some none. absurd (omega (arith, none)))
none_yet p (Some xs) (y ∷ ys) old none = absurd (omega (arith, none))

ends_append : (xs ys : List ℕ) → 0 < length ys → IsEmptyOrEndsWith ys 10 → IsEmptyOrEndsWith (xs ++ ys) 10
ends_append xs ys some ends more =
    let index : length (xs ++ ys) - 1 ≡ length xs + (length ys - 1) = omega (arith, length-append xs ys, some) in
    ap (λ k. get_or (xs ++ ys) k 0) index ∙ get_or-append-add xs ys (length ys - 1) 0 ∙ ends some

-- a text at the front of what was read is put, and more is read
pub front_put : (p count : ℕ) (a b : Option (List ℕ)) (text rest next : List ℕ) (old new : List (List Row)) → rest ≡ drop count text → IsEmptyOrEndsWith (take count text) 10 → Keeps (prepend_known rest a) (prepend_known next b) → PutsText p (take count text) old new
    → PutsFront p (prepend_known text a) (prepend_known next b) old new
front_put p count None b text rest next old new behind ends same puts = tt
front_put p count (Some xs) None text rest next old new behind ends same puts = absurd same
front_put p count (Some xs) (Some ys) text rest next old new behind ends same puts =
    let front = take count text in (
      front,
      ap (λ l. l ++ xs) (sym (take-append-drop count text)) ∙ append_assoc front (drop count text) xs ∙ ap (λ l. front ++ l) (ap (λ l. l ++ xs) (sym behind) ∙ sym same),
      puts,
      λ some. ends,
    )

-- two texts, of which the second may be empty
both_end : (xs ys zs : List ℕ) → (0 < length (ys ++ zs) → IsEmptyOrEndsWith xs 10) → (0 < length zs → IsEmptyOrEndsWith ys 10) → 0 < length zs → IsEmptyOrEndsWith (xs ++ ys) 10
both_end xs [] zs first second some = subst (λ l. IsEmptyOrEndsWith l 10) (sym (append-nil xs)) (first some)
both_end xs (y ∷ ys) zs first second some = ends_append xs (y ∷ ys) (omega arith) (second some)

pub more_put : (p : ℕ) (a b c : Option (List ℕ)) (old mid new : List (List Row)) → PutsFront p a b old mid → PutsFront p b c mid new → PutsFront p a c old new
more_put p None b c old mid new first second = tt
more_put p (Some xs) None c old mid new first second = absurd first
more_put p (Some xs) (Some ys) None old mid new first second = absurd second
more_put p (Some xs) (Some ys) (Some zs) old mid new (front, is, text, ends) (next, same, more, begins) =
    let behind_front : 0 < length (next ++ zs) → IsEmptyOrEndsWith front 10 = subst (λ l. 0 < length l → IsEmptyOrEndsWith front 10) same ends in (
      front ++ next,
      is ∙ ap (λ l. front ++ l) same ∙ sym (append_assoc front next zs),
      joined p front next old mid new (λ some. behind_front (omega (arith, length-append next zs, some))) text more,
      both_end front next zs behind_front begins,
    )

-- all that was read is put, where no more can be
pub last_put : (p : ℕ) (a b : Option (List ℕ)) (text now rest : List ℕ) (old mid new : List (List Row)) → OnSome a (IsAtEnd b) → PutsFront p (prepend_known text a) (prepend_known now b) old mid → (count : ℕ) → count ≡ length now → PutsText p (take count now) mid new
    → rest ≡ drop count now → PutsFront p (prepend_known text a) (prepend_known rest b) old new
last_put p None b text now rest old mid new end front count whole puts left = tt
last_put p (Some xs) None text now rest old mid new end front count whole puts left = absurd front
last_put p (Some xs) (Some ys) text now rest old mid new end front count whole puts left =
    let within : length now ≤ count = omega (arith, whole) in
    let none : rest ≡ [] = left ∙ drop_all count now within in
    more_put p (Some (text ++ xs)) (Some (now ++ ys)) (Some (rest ++ ys)) old mid new front (
      now,
      ap (λ l. now ++ l) (sym (ap (λ l. l ++ ys) none)),
      subst (λ l. PutsText p l mid new) (take_all count now within) puts,
      λ some. absurd (omega (arith, some, ap length (ap (λ l. l ++ ys) none ∙ end))),
    )

-- all is put where nothing is left
pub all_put : (p : ℕ) (a b c : Option (List ℕ)) (old mid new : List (List Row)) → PutsFront p a b old mid → PutsFront p b c mid new → OnSome b (IsAtEnd c) → IfSome a (λ bytes. PutsText p bytes old new)
all_put p None b c old mid new first second end = tt
all_put p (Some xs) None c old mid new first second end = absurd first
all_put p (Some xs) (Some ys) None old mid new first second end = absurd second
all_put p (Some xs) (Some ys) (Some zs) old mid new first second end =
    let (text, is, puts, ends) = more_put p (Some xs) (Some ys) (Some zs) old mid new first second in
    subst (λ l. PutsText p l old new) (sym (is ∙ ap (λ l. text ++ l) end ∙ append-nil text)) puts

-- where what was still to be put at the end is put
pub then_put : {X E : Type 0} (p : ℕ) (r : Result X E) (known : Option (List ℕ)) (old mid new : List (List Row)) (first last : List Row) → first ≡ [] → new ≡ appended_all mid p last
    → OnOk r (IfSome known (λ bytes. PutsText p bytes (appended_all old p first) (appended_all mid p last))) → OnOk r (IfSome known (λ bytes. PutsText p bytes old new))
then_put p (Err e) known old mid new first last none put text = tt
then_put p (Ok x) known old mid new first last none put text =
    let before : appended_all old p first ≡ old = ap (appended_all old p) none ∙ no_rows old p in
    subst (λ ps. IfSome known (λ bytes. PutsText p bytes old ps)) (sym put) (subst (λ ps. IfSome known (λ bytes. PutsText p bytes ps (appended_all mid p last))) before text)
