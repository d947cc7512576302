use Rattle.std.proofs.Common.{◌++◌, ◌∷◌, [], map, sym, ap, ◌∙◌, arith}
use Rattle.std.specs.List.{range_with_len}
use Rattle.std.proofs.lemmas.List.FromFn.{map-range_with_len_more}
use Rattle.job_state.specs.Held.{fresh_gate}
use Rattle.job_state.proofs.gates.fresh_gates.Goals as goal

pub loop-task-preserved : goal.loop-task-preserved
loop-task-preserved c =
    let make = fresh_gate c.args.graph.now in
    c.in_ok-push.ensures.items ∙ ap (λ gates. gates ++ c.in_ok-fresh_gate.field-0 ∷ []) c.loop-task.invariant ∙ ap (λ gate. map make (range_with_len 0 c.loop-task.task) ++ gate ∷ []) c.in_ok-fresh_gate.ensures
    ∙ sym (map-range_with_len_more make 0 c.loop-task.task c.loop-task.task (omega arith))
