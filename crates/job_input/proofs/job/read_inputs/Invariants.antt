use Rattle.std.proofs.Common.{◌≡◌, ◌++◌, List, length, map}
use Rattle.std.specs.List.{AllZip}
use Rattle.job_input.specs.declared.input.Input.{Input}
use Rattle.job_input.specs.Judged.{GivesRows}
use Rattle.job_input.proofs.job.read_inputs.Given as goal

-- each input so far has the rows of its file's lines, and the others are still to be read
abbrev pub invariant-loop-alloc : goal.invariant-loop-alloc
invariant-loop-alloc g l =
    (so_far : List (Input g.row.F.Denot)) × (l.fn.inputs.items ≡ so_far ++ map (λ pair. pair.1) l.group.items)
    × AllZip (GivesRows g.F.Read.remaining) so_far l.log.rows

abbrev pub decreases-loop-alloc : goal.decreases-loop-alloc
decreases-loop-alloc g l = length l.group.items
