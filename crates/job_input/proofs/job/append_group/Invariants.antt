use Rattle.std.proofs.Common.{◌≡◌, ◌++◌, List, [], ◌∷◌, IsOkAnd}
use Rattle.std.specs.List.{AllZip}
use Rattle.operators.specs.declared.row.Row.{Row}
use Rattle.job_input.proofs.job.append_group.Given as goal

-- a partition for each that was taken
abbrev pub invariant-loop-input : goal.invariant-loop-input
invariant-loop-input l =
    (more : List (List Row)) × (l.log.rows ≡ l.fn.log.rows ++ more) × AllZip (λ r rows. IsOkAnd r (λ one. one.log.rows ≡ rows ∷ [])) l.yielded more
