-- Which steps may be made.
use Rattle.std.specs.Prelude.{◌<◌}
use Rattle.engine_steps.specs.declared.step.Step.{Step}
use Rattle.engine_steps.specs.declared.step.Step.TheVariants.{Append, ClaimSome}

-- what is appended fits, and a claim asks for a record at least
abbrev pub StepFits : {R : Type 0} → (R → Type 0) → Step R → Type 0
StepFits RecordFits (Append partition row) = RecordFits row
StepFits RecordFits (ClaimSome task input most) = 0 < most
StepFits RecordFits other = Unit {0}
