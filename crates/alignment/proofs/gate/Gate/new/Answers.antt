use Rattle.std.proofs.Common.{arith, ◌≡◌, take, length}
use Rattle.std.proofs.lemmas.Grind.{common_steps}
use Rattle.std.specs.List.{count_by}
use Rattle.alignment.proofs.Counts.{count-fresh, counted_at_rest}
use Rattle.alignment.proofs.gate.Gate.new.Goals as goal

pub invariant_of-result : goal.invariant_of-result
invariant_of-result c =
    let marks = c.args.marks.now in
    let none : count_by (λ input. input.came) c.loop-is_marked.inputs.items ≡ 0 =
    rw c.loop-is_marked.invariant.items (count-fresh (take c.loop-is_marked.is_marked-index marks)) in
    counted_at_rest c.loop-is_marked.inputs.items c.loop-is_marked.marked (length marks) none c.loop-is_marked.invariant.counted (rw c.loop-is_marked.invariant.items (grind (arith, common_steps)))

pub returns-clause-kept : goal.returns-clause-kept
returns-clause-kept c = rw c.loop-is_marked.invariant.items (count-fresh (take c.loop-is_marked.is_marked-index c.args.marks.now))
