-- A source that reads its next record makes one plain step.
use Rattle.std.proofs.Common.{◌≡◌, Some, Result, Ok, Err, slice_get, ℕ, refl, sym, ap, ◌∙◌}
use Rattle.std.specs.Option.{option_map}
use Rattle.std.proofs.lemmas.Option.{same_Some}
use Rattle.checkpoint_model.specs.Durable.{IsSink}
use Rattle.checkpoint_model.specs.EngineLaws.{EngineMoves, with_attempt}
use Rattle.dataflow_model.specs.Graph.{Task, SourceTask, SinkTask}
use Rattle.dataflow_model.specs.Machine.{Read}
use Rattle.job_graph.specs.PlainGraph.{task_of}
use Rattle.job_graph.specs.declared.role.Role.TheVariants as role
use Rattle.job_graph.proofs.PlainTasks.{tasks-graph_of}
use Rattle.job_state.specs.Held.{Held}
use Rattle.engine_model.specs.Calls.{EndsRead, ReadsNext, left_by}
use Rattle.engine_model.specs.Language.{Language}
use Rattle.engine_model.specs.State.{State}
use Rattle.engine_model.specs.View.{attempt_of, run_of, job_of, devices_of}
use Rattle.engine_model.specs.declared.fault.CoreFault.{CoreFault}
use Rattle.engine_model.specs.declared.fault.CoreFault.TheVariants.{NoSuchTask, NotReady, Memory, Device}
use Rattle.engine_model.proofs.Moves.{reads_move}
use Rattle.engine_plain.specs.Plain.{StepsIfOk}
use Rattle.engine_plain.proofs.Stands.{steps_by, stays_refused}

source_is_none : {O : Type 0} (p : ℕ) → ◌≡◌ {A = Task O} (SourceTask p) SinkTask → ⊥
source_is_none p e = cc

module _ {R K S O : Type 0} (lang : Language R K S O) (s : State O R K S) (h k : Held R K S) (n task : ℕ) where
  read_moves : (ends : ReadsNext s.graph task h k lang s.partitions) →
      EngineMoves (job_of lang s) lang.spelling (Read task) (devices_of lang s) (devices_of lang (record s { held = Some k; faults = n })) (run_of lang.cmp s.graph h) (with_attempt (attempt_of lang.cmp k) (run_of lang.cmp s.graph h))
  unfolding reads_move
  read_moves ends = record {
    attempt = attempt_of lang.cmp k;
    moves = reads_move lang s h k task ends.partition ends.offset ends.row ends.is_source ends.at ends.next ends.reads;
    at_sink = λ e. absurd (source_is_none ends.partition e);
    elsewhere = λ not_sink. refl;
    ends = refl;
  }

  -- a source is no sink
  no_sink : (partition : ℕ) → slice_get s.graph.tasks task ≡ Some (role.Source partition) → IsSink (job_of lang s) task → ⊥
  no_sink partition is sink =
      source_is_none partition (same_Some (SourceTask partition) SinkTask (sym (tasks-graph_of s.graph s.operators task ∙ ap (option_map (task_of s.operators)) is) ∙ sink))

  module _ (was : s.held ≡ Some h) where
    pub plain_read : (result : Result Unit CoreFault) → EndsRead s.graph task h k lang s.partitions result → StepsIfOk result lang (Read task) s (record s { held = left_by result (Some k); faults = n })
    plain_read (Ok u) ends =
        steps_by lang s h was k s.stored s.ledger n (Read task) (with_attempt (attempt_of lang.cmp k) (run_of lang.cmp s.graph h)) (read_moves ends)
        (λ sink. absurd (no_sink ends.partition ends.is_source sink)) refl
    plain_read (Err NoSuchTask) ends = stays_refused lang s h was k s.stored s.ledger n ends.1 refl
    plain_read (Err NotReady) ends = stays_refused lang s h was k s.stored s.ledger n ends.5 refl
    plain_read (Err Memory) ends = stays_refused lang s h was k s.stored s.ledger n ends.1 refl
    plain_read (Err Device) ends = λ at stands. tt
    plain_read (Err other) ends = absurd ends
