-- Lists of calls, one call longer.
use Rattle.std.proofs.Common.{◌≡◌, ℕ, Option, Some, MatchOption, List, [], ◌∷◌, ◌++◌, refl, sym, subst}
use Rattle.task_part.specs.declared.part.Part.{Part}
use Rattle.engine_model.specs.AllRules.{AllRules}
use Rattle.engine_model.specs.Language.{Language}
use Rattle.dataflow_core.specs.CoreState.{CoreState}
use Rattle.dataflow_core.specs.Desks.{ClaimedJob, DeskJobs, job_at}
use Rattle.dataflow_core.specs.Runs.{EndsJob, EndsNoJob, EndsFinishing, EndsStep, IsRun}
use Rattle.dataflow_core.specs.declared.replies.Reply.{Reply}
use Rattle.engine_steps.specs.declared.step.Step.{Step}

-- a job that is at the desk is finished
pub finishes_job : {R K S O : Type 0} (old : CoreState O R K S) (desk : DeskJobs O K S R) (new : CoreState O R K S) (left : DeskJobs O K S R) (reply : Reply) (lang : Language R K S O) (number : ℕ) (job : ClaimedJob O K S R)
    → job_at desk number ≡ Some job → EndsJob old desk new left reply lang number job → EndsFinishing old desk new left reply lang number
finishes_job {R} {K} {S} {O} old desk new left reply lang number job at ends =
    subst (λ (o : Option (ClaimedJob O K S R)). MatchOption o (EndsNoJob old desk new left reply) (EndsJob old desk new left reply lang number)) (sym at) ends

module _ {R K S O : Type 0} (rules : AllRules R K S O) (spelling : Part R K S → List ℕ) where
  abbrev Run : CoreState O R K S → DeskJobs O K S R → List (Step R) → List Reply → CoreState O R K S → DeskJobs O K S R → Type 0
  Run = IsRun rules spelling

  abbrev Ends : Step R → CoreState O R K S → DeskJobs O K S R → CoreState O R K S → DeskJobs O K S R → Reply → Type 0
  Ends = EndsStep rules spelling

  pub run_more : (steps : List (Step R)) (replies : List Reply) (old middle new : CoreState O R K S) (desk between left : DeskJobs O K S R) (step : Step R) (reply : Reply)
      → Run old desk steps replies middle between → Ends step middle between new left reply → Run old desk (steps ++ step ∷ []) (replies ++ reply ∷ []) new left
  run_more [] [] old middle new desk between left step reply run ends =
      (new, left, subst (λ (d : DeskJobs O K S R). Ends step old d new left reply) run.1 (subst (λ (s : CoreState O R K S). Ends step s between new left reply) run.0 ends), (refl, refl))
  run_more (x ∷ steps) (y ∷ replies) old middle new desk between left step reply run ends =
      (run.0, run.1, run.2, run_more steps replies run.0 middle new run.1 between left step reply run.3 ends)
  run_more [] (y ∷ replies) old middle new desk between left step reply run ends = absurd run
  run_more (x ∷ steps) [] old middle new desk between left step reply run ends = absurd run
