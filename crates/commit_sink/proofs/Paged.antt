-- Lists in pages.
use Rattle.std.proofs.Common.{◌≡◌, ◌<◌, ◌≤◌, ◌+◌, ◌-◌, ◌*◌, ◌/◌, ℕ, zero, suc, List, [], ◌∷◌, ◌++◌, length, drop, get_or, Vec, refl, sym, ap, ◌∙◌, subst, append-nil, append_assoc, arith}
use Rattle.std.proofs.lemmas.List.{drop-append-le, drop-drop, drop_at, length-append, length-drop}
use Rattle.std.proofs.lemmas.List.Elements.{All-head, All-tail}
use Rattle.std.specs.declared.alloc.Global.{Global}
use Rattle.commit_sink.specs.declared.pages.TheConstants.{PAGE}
use Rattle.commit_sink.specs.Pages.{AreFull, joined}
use Rattle.commit_sink.specs.Runs.{IsRunFrom}
use Rattle.commit_sink.proofs.Runs.{run-behind, run-first}

module _ {T : Type 0} where
  head_full : (page : Vec T Global) (pages : List (Vec T Global)) → AreFull (page ∷ pages) → length page.items ≡ PAGE
  head_full page pages full = All-head (λ v. length v.items ≡ PAGE) page pages full

  tail_full : (page : Vec T Global) (pages : List (Vec T Global)) → AreFull (page ∷ pages) → AreFull pages
  tail_full page pages full = All-tail (λ v. length v.items ≡ PAGE) page pages full

  pub length-joined : (pages : List (Vec T Global)) → AreFull pages → length (joined pages) ≡ PAGE * length pages
  length-joined [] full = refl
  length-joined (page ∷ pages) full =
      let parts = length-append page.items (joined pages) in
      let one = head_full page pages full in
      let others = length-joined pages (tail_full page pages full) in
      omega (arith, parts, one, others)

  -- what stands from a place in a page on
  drop-joined : (pages : List (Vec T Global)) (rest : List T) (k at : ℕ) (d : Vec T Global) → AreFull pages → k < length pages → at ≤ PAGE
      → drop (PAGE * k + at) (joined pages ++ rest) ≡ drop at (get_or pages k d).items ++ (joined (drop (suc k) pages) ++ rest)
  drop-joined [] rest k at d full within inside = absurd (omega (arith, within))
  drop-joined (page ∷ pages) rest zero at d full within inside =
      let one = head_full page pages full in
      let place : PAGE * 0 + at ≡ at = omega arith in
      ap (λ n. drop n (page.items ++ joined pages ++ rest)) place
      ∙ ap (drop at) (append_assoc page.items (joined pages) rest)
      ∙ drop-append-le at page.items (joined pages ++ rest) (omega (arith, one, inside))
  drop-joined (page ∷ pages) rest (suc k) at d full within inside =
      let one = head_full page pages full in
      let place : PAGE * suc k + at ≡ length page.items + (PAGE * k + at) = omega (arith, one) in
      ap (λ n. drop n (page.items ++ joined pages ++ rest)) place
      ∙ sym (drop-drop (PAGE * k + at) (length page.items) (page.items ++ joined pages ++ rest))
      ∙ ap (drop (PAGE * k + at)) (ap (drop (length page.items)) (append_assoc page.items (joined pages) rest) ∙ drop_at page.items (joined pages ++ rest) (length page.items) refl)
      ∙ drop-joined pages rest k at d (tail_full page pages full) (omega (arith, within)) inside

  -- a run of a full page
  pub run-page : (pages : List (Vec T Global)) (rest : List T) (place k at : ℕ) (d : Vec T Global) → AreFull pages → k < length pages → place ≡ PAGE * k + at → at < PAGE
      → IsRunFrom (joined pages ++ rest) place (drop at (get_or pages k d).items)
  run-page pages rest place k at d full within is inside =
      let one : length (get_or pages k d).items ≡ PAGE = full k d within in
      let left = length-drop at (get_or pages k d).items in
      run-first (joined pages ++ rest) (drop at (get_or pages k d).items) (joined (drop (suc k) pages) ++ rest) place
      (ap (λ n. drop n (joined pages ++ rest)) is ∙ drop-joined pages rest k at d full within (omega (arith, inside)))
      (omega (arith, left, one, inside))

  -- and of the last one
  last-place : (pages : List (Vec T Global)) (last : List T) (place n : ℕ) → AreFull pages → n ≡ length pages → n ≤ place / PAGE → place < length (joined pages ++ last)
      → (length (joined pages) ≡ PAGE * n) × (PAGE * n ≤ place) × (place - PAGE * n < length last)
  last-place pages last place n full is past inside =
      let before = length-joined pages full in
      let all = length-append (joined pages) last in
      (omega (arith, before, is), omega (arith, past), omega (arith, before, all, is, past, inside))

  pub last-inside : (pages : List (Vec T Global)) (last : List T) (place n : ℕ) → AreFull pages → n ≡ length pages → n ≤ place / PAGE → place < length (joined pages ++ last)
      → place - PAGE * n ≤ length last
  last-inside pages last place n full is past inside = let there = (last-place pages last place n full is past inside).2 in omega (arith, there)

  pub run-last : (pages : List (Vec T Global)) (last : List T) (place n : ℕ) → AreFull pages → n ≡ length pages → n ≤ place / PAGE → place < length (joined pages ++ last)
      → IsRunFrom (joined pages ++ last) place (drop (place - PAGE * n) last)
  run-last pages last place n full is past inside =
      let p = last-place pages last place n full is past inside in
      let before = p.0 in
      let behind = p.1 in
      let there = p.2 in
      let left = length-drop (place - PAGE * n) last in
      run-behind (joined pages) last (drop (place - PAGE * n) last) place (omega (arith, before, behind)) inside
      (subst (λ m. IsRunFrom last (place - m) (drop (place - PAGE * n) last)) (sym before)
      (run-first last (drop (place - PAGE * n) last) [] (place - PAGE * n) (sym (append-nil (drop (place - PAGE * n) last))) (omega (arith, left, there))))

  -- where there is a full page, there is an item
  pub none-joined : (pages : List (Vec T Global)) (last : List T) → AreFull pages → joined pages ++ last ≡ [] → length pages ≡ 0
  none-joined pages last full none =
      let before = length-joined pages full in
      let all = length-append (joined pages) last in
      let zero_is : length (joined pages ++ last) ≡ 0 = ap length none in
      omega (arith, before, all, zero_is)
