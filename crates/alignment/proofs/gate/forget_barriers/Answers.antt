use Rattle.std.proofs.Common.{◌<◌, ◌≡◌, false, length, slice_index_or, arith}
use Rattle.std.proofs.lemmas.List.{get_or_default}
use Rattle.std.proofs.lemmas.List.Edits.{map_over_more}
use Rattle.alignment.specs.declared.input.Input.{Input}
use Rattle.alignment.specs.Inputs.{fresh}
use Rattle.alignment.proofs.gate.forget_barriers.Goals as goal

pub loop-input-preserved : goal.loop-input-preserved
loop-input-preserved c =
    let inputs = c.loop-input.inputs in
    let i = c.loop-input.input-index in
    let input : Input = slice_index_or inputs i (fresh false) in
    let within : i < length c.args.inputs.now = c.loop-input-test.true in
    let long : length inputs ≡ length c.args.inputs.now = c.loop-input.auto.inputs in
    map_over_more (λ one. fresh one.is_marked) c.args.inputs.now inputs i input within c.loop-input.invariant
    (get_or_default inputs i (fresh false) input (omega (arith, within, long)))
