-- The whole output of a run that has ended.
use Rattle.std.specs.Prelude.{◌≡◌, ℕ, List, Some, map, slice_get}
use Rattle.commit_sink.specs.Ledger.{committed_rows}
use Rattle.dataflow_model.specs.Machine.{Configuration, Move, start, Reaches, IsAtRest}
use Rattle.job_graph.specs.declared.role.Role.TheVariants as role
use Rattle.engine_model.specs.Language.{Language}
use Rattle.engine_model.specs.State.{State}
use Rattle.engine_model.specs.View.{job_of}

-- A run of the plain machine has come to rest, and the rows that each sink has committed spell exactly its output.
pub record IsWhole {R K S O : Type 0} (lang : Language R K S O) (s : State O R K S) : Type 0 where
  pub moves : List Move
  pub last : Configuration R K S
  pub reached : Reaches (job_of lang s) moves start last
  pub rests : IsAtRest (job_of lang s) last
  pub whole : (task subtask : ℕ) → slice_get s.graph.tasks task ≡ Some (role.Sink subtask) → map lang.spelling (last.tasks task).output ≡ committed_rows s.ledger subtask
