use Rattle.std.proofs.Common.{sym, subst}
use Rattle.std.specs.List.Sorted.{IsPermutation}
use Rattle.std.specs.Map.{keys_of}
use Rattle.std.proofs.lemmas.List.Sorted.{IsPermutation-map}
use Rattle.claims.proofs.states.with_guesses.Goals as goal

-- the pairs are the same ones in another order, and so are their keys
pub returns-in-Ok-numbered : goal.returns-in-Ok-numbered
returns-in-Ok-numbered g c =
    let before = c.in-Ok-numbered.pairs.items in
    let after = c.sort_unstable.new.self.items in
    let moved : IsPermutation (keys_of before) (keys_of after) = IsPermutation-map (λ e. e.0) before after c.sort_unstable.ensures.permutation in
    record { moved = subst (λ ks. IsPermutation ks c.unnumbered.result.items) c.in-Ok-numbered.ensures.ok (subst (λ ks. IsPermutation (keys_of before) ks) (sym c.unnumbered.ensures) moved) }
