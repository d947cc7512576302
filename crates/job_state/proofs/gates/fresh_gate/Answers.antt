use Rattle.std.proofs.Common.{map, ap, ◌∙◌}
use Rattle.std.proofs.lemmas.Result.{IfOk-weaker}
use Rattle.alignment.specs.Inputs.{fresh}
use Rattle.alignment.specs.declared.input.Phase.TheVariants.{AtRest}
use Rattle.job_graph.specs.Expanded.{meets, is_marked, inputs_of}
use Rattle.job_state.proofs.Opening.{map_twice}
use Rattle.job_state.proofs.gates.fresh_gate.Goals as goal

pub returns : goal.returns
returns c =
    let graph = c.args.graph.now in
    IfOk-weaker c.new.result _ _ (λ gate h. h ∙ ap (λ marks. record { phase = AtRest; inputs = map fresh marks }) (c.deref.ensures.value ∙ c.in_ok-marks.ensures) ∙ ap (λ inputs. record { phase = AtRest; inputs = inputs }) (map_twice fresh (meets is_marked graph.channels) (inputs_of graph c.args.task))) c.new.ensures.at_rest
