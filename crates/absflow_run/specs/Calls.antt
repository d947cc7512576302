-- What a step of a script asks for.
use Rattle.std.specs.Prelude.{◌≡◌, ◌⊎◌, Bool, true, false, ℕ, ◌-◌, ◌^◌, List}
use Rattle.abs_codec.specs.Spelling.{Fits, IsTextWithin, bytes_spelling}
use Rattle.claims.specs.Carried.{given_of}
use Rattle.claims.specs.declared.parts.Made.{Made}
use Rattle.engine_model.specs.AllRules.{all_rules}
use Rattle.engine_model.specs.Language.{Language}
use Rattle.engine_model.specs.declared.fault.CoreFault.{CoreFault}
use Rattle.dataflow_core.specs.Claims.{Refuses, Claims, EndsFinish}
use Rattle.dataflow_core.specs.CoreState.{CoreState}
use Rattle.dataflow_core.specs.Desks.{ClaimedJob, DeskJobs}
use Rattle.dataflow_core.specs.Replies.{accepted_as}
use Rattle.dataflow_core.specs.Runs.{Tells, EndsStep}
use Rattle.dataflow_core.specs.declared.replies.Reply.{Reply}
use Rattle.dataflow_core.specs.declared.replies.Reply.TheVariants.{Accepted, Refused}
use Rattle.engine.specs.Rows.{row_language}
use Rattle.engine_steps.specs.declared.step.Step.{Step}
use Rattle.engine_steps.specs.declared.step.Step.TheVariants.{PersistSome}
use Rattle.operators.specs.RowMeaning.{RowSuits}
use Rattle.operators.specs.RowSpelling.{RowIsSpelled, row_spelling, StateIsSpelled, state_spelling}
use Rattle.operators.specs.declared.row.Row.{Row}
use Rattle.operators.specs.declared.row_op.RowOp.{RowOp}
use Rattle.operators.specs.declared.row_state.RowState.{RowState}
use Rattle.script_file.specs.declared.step.ScriptStep.{ScriptStep}
use Rattle.script_file.specs.declared.step.ScriptStep.TheVariants.{Call, Work, Fault}
use Rattle.task_part.specs.Spelling.{part_spelling}

-- some of the work on a part
abbrev pub is_for_some : Step Row → Bool
is_for_some (PersistSome task most) = true
is_for_some other = false

-- so that its end is told
abbrev pub asks_for_some : ScriptStep → Bool
asks_for_some (Call call) = is_for_some call
asks_for_some other = false

-- The record at the head of the input is claimed, what was made of it is handed in at once, and the reply tells how that ended; or the claim is refused.
abbrev pub Works : {R K S O : Type 0} → Language R K S O → (task input : ℕ) → CoreState O R K S → CoreState O R K S → Reply → Type 0
Works {R} {K} {S} {O} lang task input old new reply =
    ((middle : CoreState O R K S) × (job : ClaimedJob O K S R) × (made : Made O K S R)
    × Claims old task input 1 lang middle job.attempt job.serial job.work × (given_of made ≡ job.work)
    × Tells accepted_as reply (EndsFinish middle lang new job.attempt job.serial made))
    ⊎ ((fault : CoreFault) × (reply ≡ Refused fault) × Refuses old task input fault × (new ≡ old))

-- what a core of row operators holds, and its desk
abbrev pub Rows : Type 0
Rows = CoreState RowOp Row (List ℕ) RowState

abbrev pub RowJobs : Type 0
RowJobs = DeskJobs RowOp (List ℕ) RowState Row

-- the core's call may lead from the core and the desk to these, with this reply
abbrev pub EndsCall : Step Row → Rows → RowJobs → Rows → RowJobs → Reply → Type 0
EndsCall =
    EndsStep (all_rules row_language (Fits RowIsSpelled row_spelling) (Fits (IsTextWithin (2 ^ 32 - 1)) bytes_spelling) (Fits StateIsSpelled state_spelling) RowSuits)
    (part_spelling row_spelling bytes_spelling state_spelling)

-- The call that the step names is made, or the task's work is; a fault is accepted, and the core stays as it is.
abbrev pub MakesStep : ScriptStep → Rows → RowJobs → Rows → RowJobs → Reply → Type 0
MakesStep (Call call) old desk new left reply = EndsCall call old desk new left reply
MakesStep (Work task input) old desk new left reply = Works row_language task input old new reply × (left ≡ desk)
MakesStep (Fault device when) old desk new left reply = (new ≡ old) × (left ≡ desk) × (reply ≡ Accepted)
