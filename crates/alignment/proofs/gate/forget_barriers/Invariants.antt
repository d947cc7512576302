use Rattle.std.proofs.Common.{◌≡◌, ◌++◌, take, drop}
use Rattle.alignment.specs.Inputs.{without_barriers}
use Rattle.alignment.proofs.gate.forget_barriers.Given as goal

-- the barriers so far are forgotten
abbrev pub invariant-loop-input : goal.invariant-loop-input
invariant-loop-input l = l.inputs ≡ without_barriers (take l.input-index l.fn.inputs) ++ drop l.input-index l.fn.inputs
