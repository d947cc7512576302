use Rattle.std.specs.Cmp.{Equal-is}
use Rattle.std.proofs.Common.{◌≡◌, true, sym, ◌∙◌}
use Rattle.std.proofs.lemmas.List.Filters.{dedup_is}
use Rattle.std.proofs.lemmas.List.Kept.{Contains-dedup, Contains-from_dedup, IsStrictlySortedBy-dedup}
use Rattle.std.proofs.lemmas.List.Sorted.{Contains-permutation, IsPermutation-sym}
use Rattle.claims.proofs.Copies.{among_contained, contained_among, equal_as_tied}
use Rattle.claims.proofs.states.sort_once.Goals as goal

pub returns-clause-rising : goal.returns-clause-rising
returns-clause-rising g c =
    rw (dedup_is _ _ _ c.dedup.ensures.filtered) (IsStrictlySortedBy-dedup g.met.K.Ord.total g.met.K.Ord.matches_eq _ c.sort_unstable.ensures.sorted)

pub returns-clause-same : goal.returns-clause-same
returns-clause-same g c = λ exact q.
    let is = dedup_is _ _ _ c.dedup.ensures.filtered in
    let moved = c.sort_unstable.ensures.permutation in
    let equal = equal_as_tied g.met.K.Ord.total g.K.PartialEq.eq g.met.K.Ord.matches_eq in
    let one : (x y : g.row.K.Denot) → g.K.PartialEq.eq x y ≡ true → x ≡ y = λ x y e. exact x y ((Equal-is (g.K.Ord.cmp x y)).0 (sym (g.met.K.Ord.matches_eq x y) ∙ e)) in (
      λ among. among_contained _ q (Contains-permutation _ _ q (IsPermutation-sym _ _ moved) (Contains-from_dedup _ _ q (rw is at (contained_among _ q among)))),
      λ among. among_contained _ q (rw is (Contains-dedup equal one _ q (Contains-permutation _ _ q moved (contained_among _ q among)))),
    )
