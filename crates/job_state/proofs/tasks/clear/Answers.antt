use Rattle.std.proofs.Common.{◌<◌, ◌+◌, None, length, take, ap, ◌∙◌, arith}
use Rattle.std.proofs.lemmas.List.{length-set, length-map}
use Rattle.job_state.specs.Inside.{copies_of}
use Rattle.job_state.proofs.Standings.{holdings_kept, copies_set, taken_next}
use Rattle.job_state.proofs.tasks.clear.Goals as goal

pub loop-task-preserved : goal.loop-task-preserved
loop-task-preserved g c =
    let tasks = c.loop-task.task-items in
    let n = c.loop-task.task-index in
    let within : n < length tasks = omega arith in
    let copies : n < length (copies_of tasks) = omega (arith, within, length-map tasks (λ t. t.copy)) in
    record {
      holdings = holdings_kept tasks n c.task-item.result within c.forget.new.self c.forget.ensures.holding ∙ c.loop-task.invariant.holdings;
      cleared = ap (take (n + 1)) (copies_set tasks n c.forget.new.self None c.forget.ensures.copy) ∙ taken_next (copies_of tasks) n None copies c.loop-task.invariant.cleared;
      same_length = length-set tasks n c.forget.new.self ∙ c.loop-task.invariant.same_length;
    }
