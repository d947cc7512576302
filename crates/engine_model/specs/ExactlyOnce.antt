-- Exactly once, in the rows that anyone may read.
use Rattle.std.specs.Prelude.{◌≡◌, ◌≤◌, ℕ, suc, List, map, length, slice_get, Some}
use Rattle.checkpoint_model.specs.Durable.{HasParts, IsCutOf}
use Rattle.checkpoint_model.specs.DurableLaws.{NeverFall}
use Rattle.commit_sink.specs.Ledger.{committed_rows}
use Rattle.dataflow_model.specs.Machine.{Configuration, Move, IsRun, IsAt}
use Rattle.job_graph.specs.declared.role.Role.TheVariants as role
use Rattle.engine_model.specs.Language.{Language}
use Rattle.engine_model.specs.LastCommitted.{committed_of, complete_numbers}
use Rattle.engine_model.specs.State.{State}
use Rattle.engine_model.specs.View.{job_of, store_of}

-- One run of the plain machine, without barriers, checkpoints or failures, has a moment for each complete checkpoint, in order, and the rows that a
-- sink subtask has committed spell exactly its output at the moment of its own last committed checkpoint. That is the one that stands among the complete
-- ones where the subtask's last committed transaction stands among its committed ones. A subtask without a committed transaction has no committed row.
pub record IsExactlyOnce {R K S O : Type 0} (lang : Language R K S O) (s : State O R K S) : Type 0 where
  pub moves : List Move
  pub moments : List ℕ
  pub is_run : IsRun (job_of lang s) moves
  pub one_each : length moments ≡ length (complete_numbers s.stored)
  pub in_order : NeverFall 0 moments
  pub in_run : (j moment : ℕ) → slice_get moments j ≡ Some moment → moment ≤ length moves
  -- at a checkpoint's moment the run is at its cut, if all the parts are there
  pub cuts : (j n moment : ℕ) → slice_get (complete_numbers s.stored) j ≡ Some n → slice_get moments j ≡ Some moment → HasParts (job_of lang s) (store_of lang s.stored) n
      → (cut : Configuration R K S) × IsAt (job_of lang s) moves moment cut × IsCutOf (job_of lang s) (store_of lang s.stored) n cut
  pub exactly : (task subtask j : ℕ) → slice_get s.graph.tasks task ≡ Some (role.Sink subtask) → length (committed_of s.ledger subtask) ≡ suc j →
      (moment : ℕ) × (at : Configuration R K S) × (slice_get moments j ≡ Some moment) × IsAt (job_of lang s) moves moment at × (map lang.spelling (at.tasks task).output ≡ committed_rows s.ledger subtask)
