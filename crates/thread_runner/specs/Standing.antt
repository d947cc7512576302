-- What a station keeps.
use Rattle.std.specs.Prelude.{◌≡◌, ℕ, Option, Result}
use Rattle.engine_model.specs.AllRules.{AllRules}
use Rattle.engine_model.specs.Language.{Language}
use Rattle.engine_model.specs.declared.fault.CoreFault.{CoreFault}
use Rattle.engine_plain.specs.Plain.{Stays}
use Rattle.dataflow_core.specs.CoreState.{CoreState}
use Rattle.dataflow_core.specs.Steps.{IsStep}
use Rattle.engine.specs.Running.{IsCounted}
use Rattle.output_readers.specs.Seeing.{Output}

-- the core, the total of the records of the finishes that were accepted, and what readers are shown, if it has any
pub record Standing (O R K S : Type 0) : Type 0 where
  pub core : CoreState O R K S
  pub total : ℕ
  pub output : Option Output

module _ {O R K S : Type 0} (old new : Standing O R K S) where
  -- a call of the core that leaves the claims, the total, and what readers are shown
  abbrev pub LeavesClaims : Type 0
  LeavesClaims = new ≡ record old { core = record old.core { engine = new.core.engine } }

  -- the core's engine makes a step
  abbrev pub MakesStep : AllRules R K S O → Type 0
  MakesStep rules = IsStep rules old.core.engine new.core.engine

  -- its records stay where they are
  abbrev pub StaysPut : Language R K S O → Type 0
  StaysPut lang = Stays lang old.core.engine new.core.engine

  -- a device's failure is counted exactly where it is told
  abbrev pub CountsFaults : {T : Type 0} → Result T CoreFault → Type 0
  CountsFaults result = IsCounted old.core.engine.faults new.core.engine.faults result
