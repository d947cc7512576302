-- How an engine offers work, and takes what was made of it.
use Rattle.std.specs.Prelude.{◌≡◌, ℕ, List, None, Result, Err, MatchOption, Vec, replicate}
use Rattle.std.specs.declared.alloc.Global.{Global}
use Rattle.claims.specs.Due.{EndsOfferBehind, EndsAccept}
use Rattle.claims.specs.declared.parts.Given.{Given}
use Rattle.claims.specs.declared.parts.Made.{Made}
use Rattle.claims.specs.Rows.{EndsRows}
use Rattle.dataflow_model.specs.Machine.{Configuration, Move, Reaches}
use Rattle.engine_model.specs.Language.{Language}
use Rattle.engine_model.specs.State.{State}
use Rattle.engine_model.specs.declared.fault.CoreFault.{CoreFault}
use Rattle.engine_model.specs.declared.fault.CoreFault.TheVariants.{NotRunning}
use Rattle.engine_model.specs.View.{job_of}
use Rattle.engine_plain.specs.Plain.{StandsFor}
use Rattle.engine.specs.Running.{OnTransactions}

module _ {O R K S : Type 0} where
  -- while the job runs, the work on the records behind the first of a sink's input is offered, on so many at most
  abbrev pub OffersBehind : State O R K S → (task input most : ℕ) → Result (Vec (Given O K S R) Global) CoreFault → Type 0
  OffersBehind engine task input most result =
      MatchOption engine.held (result ≡ Err NotRunning) (λ h. EndsOfferBehind engine.graph task input most h result)

  -- while the job runs, what was made of work is taken, as the task's work would end
  abbrev pub Accepts : Language R K S O → (old new : State O R K S) → (task input : ℕ) → Made O K S R → Result Unit CoreFault → Type 0
  Accepts lang old new task input made result =
      OnTransactions old new (λ h k. EndsAccept lang old.graph old.operators task input h k old.ledger new.ledger made) result

  -- while the job runs, what was made of the work on a sink's records is taken in turn: so many records are taken
  abbrev pub AcceptsRows : Language R K S O → (old new : State O R K S) → (task input : ℕ) → List (Made O K S R) → (count : ℕ) → Result Unit CoreFault → Type 0
  AcceptsRows lang old new task input mades count result =
      OnTransactions old new (λ h k r. EndsRows lang old.graph old.operators task input mades h k old.ledger new.ledger count r) result × (old.held ≡ None → count ≡ 0)

  -- so many plain steps, each of them this move, lead on from what the old data stand for, to what the new data stand for if the job still runs
  abbrev pub StepsSoMany : ℕ → Language R K S O → Move → State O R K S → State O R K S → Type 0
  StepsSoMany count lang move old new = (at : Configuration R K S) → StandsFor lang old at → (after : Configuration R K S) × Reaches (job_of lang old) (replicate count move) at after × MatchOption new.held (Unit {0}) (λ h. StandsFor lang new after)
