-- A task works as what it is.
use Rattle.std.proofs.Common.{◌≡◌, Option, Some, Result, slice_get, ℕ, List, sym, subst}
use Rattle.commit_sink.specs.Ledger.{Ledger}
use Rattle.job_graph.specs.Expanded.{Expanded}
use Rattle.job_graph.specs.declared.role.Role.{Role}
use Rattle.job_graph.specs.declared.role.Role.TheVariants as role
use Rattle.job_state.specs.Held.{Held}
use Rattle.engine_model.specs.Calls.{EndsPutOut, input_at}
use Rattle.engine_model.specs.Language.{Language}
use Rattle.engine_model.specs.declared.fault.CoreFault.{CoreFault}
use Rattle.claims.specs.Tasks.{WorksAs, EndsWork}

-- what a sink puts out is a task's work
pub works_by_sink : {R K S O : Type 0} (lang : Language R K S O) (graph : Expanded) (operators : List O) (task input : ℕ) (h k : Held R K S) (old new : Ledger) (result : Result Unit CoreFault) (subtask channel : ℕ)
    → slice_get graph.tasks task ≡ Some (role.Sink subtask) → input_at graph task input ≡ Some channel → EndsPutOut task input h k channel old new lang.spelling result → EndsWork lang graph operators task input h k old new result
works_by_sink lang graph operators task input h k old new result subtask channel at leads ends =
    subst (λ (r : Option Role). WorksAs graph task input h k old new lang operators result r (input_at graph task input)) (sym at)
    (subst (λ (c : Option ℕ). WorksAs graph task input h k old new lang operators result (Some (role.Sink subtask)) c) (sym leads) ends)
