use Rattle.std.proofs.Common.{◌≡◌, map, take, length}
use Rattle.std.specs.Vec.{vec_capacity}
use Rattle.std.specs.List.{count_by}
use Rattle.alignment.specs.Inputs.{fresh}
use Rattle.alignment.proofs.gate.Gate.new.Given as goal

-- the inputs of the marks so far
abbrev pub invariant-loop-is_marked : goal.invariant-loop-is_marked
invariant-loop-is_marked l = record {
  items : l.inputs.items ≡ map fresh (take l.is_marked-index l.marks);
  room : vec_capacity l.inputs ≡ length l.marks;
  counted : l.marked ≡ count_by (λ input. input.is_marked) l.inputs.items;
}
