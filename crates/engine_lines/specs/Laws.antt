-- What an engine that runs a line has committed.
use Rattle.std.specs.Prelude.{◌≡◌, ℕ, ℤ, List, [], ◌∷◌, map}
use Rattle.commit_sink.specs.Ledger.{committed_rows}
use Rattle.dataflow_model.specs.Graph.{Begins}
use Rattle.job_graph.specs.Expanded.{Expanded}
use Rattle.job_graph.specs.Expansion.{Expands}
use Rattle.job_spec.specs.Job.{Job}
use Rattle.engine_lines.specs.Line.{on_first_port, applied}
use Rattle.operators.specs.RowMeaning.{◌⊞◌, row_meaning}
use Rattle.operators.specs.declared.row.Row.{Row}
use Rattle.operators.specs.declared.row_state.RowState.{RowState}
use Rattle.operators.specs.declared.row_op.RowOp.{RowOp}
use Rattle.operators.specs.declared.row_op.RowOp.TheVariants.{Add}
use Rattle.engine_model.specs.ByTests.{Tests, rules_by}
use Rattle.engine_model.specs.Goes.{Goes}
use Rattle.engine_model.specs.Keeps.{Keeps}
use Rattle.engine_model.specs.Language.{Language}
use Rattle.engine_model.specs.State.{State}
use Rattle.engine_lines.specs.Lines.{IsLine, IsLineJob, RunsLine, CommitsABeginning}

module _ {R K S O : Type 0} where
  -- for every operator
  abbrev pub LinesCommitWhatOperatorsMake : Language R K S O → Type 0
  LinesCommitWhatOperatorsMake lang =
      (tests : Tests R K S O) (s : State O R K S) (operator : O) → RunsLine (rules_by lang tests) operator s →
      CommitsABeginning lang s (λ rows. applied lang.meaning operator rows)

  -- for one that, whatever its state, sends one row for each
  abbrev pub LinesCommitEachRow : Language R K S O → Type 0
  LinesCommitEachRow lang =
      (tests : Tests R K S O) (s : State O R K S) (operator : O) (f : R → R) → RunsLine (rules_by lang tests) operator s →
      ((state : S) (r : R) → on_first_port (lang.meaning.apply operator state r).sent ≡ f r ∷ []) → CommitsABeginning lang s (λ rows. map f rows)

  -- no steps of an engine that runs a line withdraw a committed row, also where its devices were used before
  abbrev pub LinesWithdrawNoRow : Language R K S O → Type 0
  LinesWithdrawNoRow lang =
      (tests : Tests R K S O) (s new : State O R K S) → Keeps (rules_by lang tests) s → Keeps (rules_by lang tests) new →
      IsLine s.graph → new.graph ≡ s.graph → Goes lang s new → Begins (committed_rows s.ledger 0) (committed_rows new.ledger 0)

-- the row with the number added to its value, saturating
abbrev pub added : ℤ → Row → Row
added n row = record row { v = row.v ⊞ n }

-- for the row operator that adds a number
abbrev pub AddingLinesCommitSums : Type 0
AddingLinesCommitSums =
    (lang : Language Row (List ℕ) RowState RowOp) (tests : Tests Row (List ℕ) RowState RowOp) (s : State RowOp Row (List ℕ) RowState) (n : ℤ) →
    lang.meaning ≡ row_meaning → RunsLine (rules_by lang tests) (Add n) s → CommitsABeginning lang s (λ rows. map (added n) rows)

-- such a job's graph is a line
abbrev pub LineJobsExpandToLines : Type 0
LineJobsExpandToLines = (job : Job) (graph : Expanded) → IsLineJob job → Expands job graph → IsLine graph
