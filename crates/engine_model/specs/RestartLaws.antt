-- What an engine is after a restart, and what it goes on from.
use Rattle.std.specs.Prelude.{◌≡◌, ℕ, List, length, map, slice_get, Option, Some, None, Result, Ok, Err}
use Rattle.std.specs.Ordering.{is_eq}
use Rattle.checkpoint_model.specs.Headline.{IsRestored}
use Rattle.checkpoint_model.specs.Pruned.{pruned_run, pruned_start}
use Rattle.commit_sink.specs.Ledger.{Ledger, committed_rows}
use Rattle.dataflow_model.specs.Machine.{Configuration, Move, Reaches, start}
use Rattle.job_graph.specs.declared.role.Role.TheVariants as role
use Rattle.job_state.specs.Held.{Held}
use Rattle.operators.specs.Operator.{OrderIsExact, KeysFit, FreshIsGood, StatesStayGood, SentFits}
use Rattle.snapshot_store.specs.Store.{IsLatest}
use Rattle.engine_model.specs.AllRules.{AllRules}
use Rattle.engine_model.specs.declared.fault.CoreFault.{CoreFault}
use Rattle.engine_model.specs.Language.{Language}
use Rattle.engine_model.specs.LastCommitted.{committed_of, complete_numbers}
use Rattle.engine_model.specs.State.{State}
use Rattle.engine_model.specs.View.{run_of, job_of, devices_of}

module _ {R K S : Type 0} where
  -- what a job that was down holds after a restart
  abbrev pub held_by : Result (Option ℕ × Held R K S) CoreFault → Option (Held R K S)
  held_by (Ok x) = Some x.1
  held_by (Err f) = None

module _ {R K S O : Type 0} where
  -- the engine after a restart
  abbrev pub restarted : State O R K S → Ledger → ℕ → Result (Option ℕ × Held R K S) CoreFault → State O R K S
  restarted s ledger faults result = record s { held = held_by result; ledger = ledger; faults = faults }

module _ {R K S O : Type 0} where
  -- A job that restarted goes on from the configuration that the parts of the last complete checkpoint say, or from the start where there is
  -- none; its back-edges hold the logs, no checkpoint is pending, and each sink has committed once for each complete checkpoint. A plain run comes
  -- to that configuration, in which the rows that a sink has committed are its output.
  pub record GoesOnFromCut (lang : Language R K S O) (s : State O R K S) (last : Option ℕ) (k : Held R K S) : Type 0 where
    pub moves : List Move
    pub base : Configuration R K S
    pub reached : Reaches (job_of lang s) moves start base
    pub restored : IsRestored (job_of lang s) lang.spelling (devices_of lang s) base
    pub outputs : (task subtask : ℕ) → slice_get s.graph.tasks task ≡ Some (role.Sink subtask) → map lang.spelling (base.tasks task).output ≡ committed_rows s.ledger subtask
    pub holds : pruned_run (run_of lang.cmp s.graph k) ≡ pruned_start base
    pub latest : IsLatest s.stored last
    pub committed : (task subtask : ℕ) → slice_get s.graph.tasks task ≡ Some (role.Sink subtask) → length (committed_of s.ledger subtask) ≡ length (complete_numbers s.stored)

-- what operators promise of records, keys and states that fit
pub record OperatorsAreLawful {R K S O : Type 0} (rules : AllRules R K S O) : Type 0 where
  pub same_key : (a b : K) → rules.lang.meaning.same_key a b ≡ is_eq (rules.lang.cmp a b)
  pub exact : OrderIsExact rules.lang.cmp
  pub keys : KeysFit rules.lang.meaning rules.RecordFits rules.KeyFits
  pub fresh : FreshIsGood rules.lang.meaning rules.StateFits rules.Suits
  pub states : StatesStayGood rules.lang.meaning rules.RecordFits rules.StateFits rules.Suits
  pub sent : SentFits rules.lang.meaning rules.RecordFits rules.StateFits rules.Suits
