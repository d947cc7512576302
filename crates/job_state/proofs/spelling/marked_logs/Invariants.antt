use Rattle.std.proofs.Common.{◌≡◌, map, filter, take}
use Rattle.job_graph.specs.Expanded.{meets, is_marked}
use Rattle.job_state.specs.Inside.{logged_in}
use Rattle.task_part.specs.Spelling.{logs_now}
use Rattle.job_state.proofs.spelling.marked_logs.Given as goal

abbrev pub invariant-loop-number : goal.invariant-loop-number
invariant-loop-number g l = logs_now l.marked.items ≡ map (λ number. (number, logged_in l.logs number)) (filter (meets is_marked l.graph.channels) (take l.number-index l.number-items))
