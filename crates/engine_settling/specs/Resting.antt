-- A running job in which nothing moves, and a complete checkpoint whose cut is at rest.
use Rattle.std.specs.Prelude.{◌≡◌, ◌≢◌, ◌≤◌, ℕ, List, [], Some, MatchOption, length, slice_get}
use Rattle.channels.specs.declared.item.Item.TheVariants.{Record}
use Rattle.checkpoint_model.specs.Durable.{HasParts, IsCutOf}
use Rattle.dataflow_model.specs.Machine.{Configuration, IsAtRest}
use Rattle.job_graph.specs.Expanded.{Expanded}
use Rattle.job_graph.specs.declared.role.Role.TheVariants as role
use Rattle.job_state.specs.Held.{Held, copy_at, logged_at}
use Rattle.job_state.specs.Sending.{items_at}
use Rattle.job_state.specs.declared.holding.Holding.TheVariants as holds
use Rattle.source_log.specs.Partitions.{records_at}
use Rattle.task_part.specs.declared.part.Part.TheVariants as part
use Rattle.engine_model.specs.Language.{Language}
use Rattle.engine_model.specs.State.{State}
use Rattle.engine_model.specs.View.{job_of, store_of}

-- No record stands in a channel or in a log, and each source has read its partition to the end, and had when it copied, if it has.
pub record IsStill {R K S : Type 0} (graph : Expanded) (partitions : List (List R)) (h : Held R K S) : Type 0 where
  pub queues : (number place : ℕ) (row : R) → slice_get (items_at h.channels number) place ≢ Some (Record row)
  pub logs : (number : ℕ) → logged_at h number ≡ []
  pub read : (task partition offset : ℕ) → slice_get graph.tasks task ≡ Some (role.Source partition) → slice_get h.tasks task ≡ Some (holds.Source offset) → length (records_at partitions partition) ≤ offset
  pub copied : (task partition offset : ℕ) → slice_get graph.tasks task ≡ Some (role.Source partition) → copy_at h task ≡ Some (part.Source offset) → length (records_at partitions partition) ≤ offset

module _ {R K S O : Type 0} where
  -- the job runs, and is still
  abbrev pub IsStillIn : State O R K S → Type 0
  IsStillIn s = MatchOption s.held ⊥ (λ h. IsStill s.graph s.partitions h)

  -- The store has all parts of the checkpoint, and at the cut that they say the plain machine is at rest.
  pub record CutRests (lang : Language R K S O) (s : State O R K S) (n : ℕ) : Type 0 where
    pub parts : HasParts (job_of lang s) (store_of lang s.stored) n
    pub cut : Configuration R K S
    pub is_cut : IsCutOf (job_of lang s) (store_of lang s.stored) n cut
    pub rests : IsAtRest (job_of lang s) cut
