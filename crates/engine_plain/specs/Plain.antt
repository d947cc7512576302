-- What an engine's data stand for in the plain machine, and what a call does to it.
use Rattle.std.specs.Prelude.{ℕ, Result, Ok, Err, MatchOption, replicate}
use Rattle.checkpoint_model.specs.Pruned.{pruned_run}
use Rattle.checkpoint_model.specs.PrunedLaws.{IsBare}
use Rattle.dataflow_model.specs.Machine.{Configuration, Move, Step, Reaches}
use Rattle.engine_model.specs.declared.fault.CoreFault.{CoreFault}
use Rattle.engine_model.specs.Language.{Language}
use Rattle.engine_model.specs.State.{State}
use Rattle.engine_model.specs.View.{job_of, devices_of, run_of}

module _ {R K S O : Type 0} where
  -- The job runs, and its data stand for this configuration of the plain machine: barriers are left out, and a sink's output is what stands in
  -- its transactions.
  abbrev pub StandsFor : Language R K S O → State O R K S → Configuration R K S → Type 0
  StandsFor lang s at = MatchOption s.held ⊥ (λ h. IsBare (job_of lang s) lang.spelling (devices_of lang s) (pruned_run (run_of lang.cmp s.graph h)) at)

  -- one plain step, this move, leads from what the old data stand for to what the new data stand for
  abbrev pub StepsBy : Language R K S O → Move → State O R K S → State O R K S → Type 0
  StepsBy lang move old new = (at : Configuration R K S) → StandsFor lang old at → (after : Configuration R K S) × Step (job_of lang old) move at after × StandsFor lang new after

  -- so many plain steps, each of them this move, lead from what the old data stand for to what the new data stand for
  abbrev pub StepsOften : ℕ → Language R K S O → Move → State O R K S → State O R K S → Type 0
  StepsOften count lang move old new = (at : Configuration R K S) → StandsFor lang old at → (after : Configuration R K S) × Reaches (job_of lang old) (replicate count move) at after × StandsFor lang new after

  -- the new data stand for what the old data stand for, if the job still runs
  abbrev pub Stays : Language R K S O → State O R K S → State O R K S → Type 0
  Stays lang old new = (at : Configuration R K S) → StandsFor lang old at → MatchOption new.held (Unit {0}) (λ h. StandsFor lang new at)

  -- a call that is accepted is one plain step, this move, and a call that is refused is none
  abbrev pub StepsIfOk : {T : Type 0} → Result T CoreFault → Language R K S O → Move → State O R K S → State O R K S → Type 0
  StepsIfOk (Ok v) lang move old new = StepsBy lang move old new
  StepsIfOk (Err fault) lang move old new = Stays lang old new

  -- a call that is accepted is so many plain steps, each of them this move, and a call that is refused is none
  abbrev pub StepsOftenIfOk : {T : Type 0} → Result T CoreFault → ℕ → Language R K S O → Move → State O R K S → State O R K S → Type 0
  StepsOftenIfOk (Ok v) count lang move old new = StepsOften count lang move old new
  StepsOftenIfOk (Err fault) count lang move old new = Stays lang old new
