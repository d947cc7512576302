-- What readers are shown of what is committed.
use Rattle.std.specs.Prelude.{◌≡◌, ℕ, List, Option, Some, MatchOption, length, count_by, slice_get}
use Rattle.commit_sink.specs.Ledger.{committed_rows}
use Rattle.engine_model.specs.State.{State}
use Rattle.dataflow_model.specs.Graph.{Begins}
use Rattle.job_graph.specs.Expanded.{is_sink}
use Rattle.job_graph.specs.declared.role.Role.TheVariants as role
use Rattle.published_lists.specs.Rows.{rows_of}
use Rattle.output_readers.specs.Seeing.{Output}

module _ {R K S O : Type 0} (lists : List (List (List ℕ))) (engine : State O R K S) where
  -- The list of each sink subtask begins what it has committed.
  abbrev pub Begin : Type 0
  Begin = (task subtask : ℕ) → slice_get engine.graph.tasks task ≡ Some (role.Sink subtask) → Begins (rows_of lists subtask) (committed_rows engine.ledger subtask)

  -- So is there one for each.
  pub record BeginCommitted : Type 0 where
    pub subtasks : length lists ≡ count_by is_sink engine.graph.tasks
    pub begins : Begin

  -- It is all that it has committed.
  abbrev pub AreCommitted : Type 0
  AreCommitted = (task subtask : ℕ) → slice_get engine.graph.tasks task ≡ Some (role.Sink subtask) → rows_of lists subtask ≡ committed_rows engine.ledger subtask

-- A station without readers shows nothing; else what was handed in begins what is committed.
abbrev pub Shows : {R K S O : Type 0} → Option Output → State O R K S → Type 0
Shows output engine = MatchOption output (Unit {0}) (λ o. BeginCommitted o.appended engine)
