-- Calls of a core over a desk, one and many.
use Rattle.std.specs.Prelude.{◌≡◌, ◌⊎◌, ◌++◌, ℕ, List, [], ◌∷◌, Some, None, Result, MatchOption, length, slice_set}
use Rattle.claims.specs.Carried.{given_of}
use Rattle.claims.specs.declared.parts.Made.{Made}
use Rattle.engine_model.specs.AllRules.{AllRules}
use Rattle.engine_model.specs.Language.{Language}
use Rattle.engine_model.specs.declared.fault.CoreFault.{CoreFault}
use Rattle.engine.specs.Running.{IsCounted}
use Rattle.source_log.specs.declared.partitions.SourceFault.TheVariants.{Memory}
use Rattle.task_part.specs.declared.part.Part.{Part}
use Rattle.dataflow_core.specs.Calls.{Fails, Restarts, Reads, Injects, Triggers, Persists, PersistsSome, Completes, Commits, Appends}
use Rattle.dataflow_core.specs.Claims.{Refuses, Claims, TakesBarrierUnclaimed, EndsFinish}
use Rattle.dataflow_core.specs.CoreState.{CoreState, claims_after}
use Rattle.dataflow_core.specs.Desks.{ClaimedJob, DeskJobs, job_at}
use Rattle.dataflow_core.specs.Replies.{accepted_as, numbered_as, restarted_as, persisted_as, copied_as, drained_as, appended_as}
use Rattle.dataflow_core.specs.Unclaimed.{Settles, Drains}
use Rattle.dataflow_core.specs.declared.replies.Reply.{Reply}
use Rattle.dataflow_core.specs.declared.replies.Reply.TheVariants.{NoJob, Number, Refused, Source}
use Rattle.engine_steps.specs.declared.step.Step.{Step}
use Rattle.engine_steps.specs.declared.step.Step.TheVariants.{Read, Claim, ClaimSome, Finish, Barrier, Trigger, Inject, Persist, PersistSome, Complete, Commit, Settle, Drain, Fail, Restart, Append}

-- a reply tells an outcome of which this holds
abbrev pub Tells : {T E : Type 0} → (Result T E → Reply) → Reply → (Result T E → Type 0) → Type 0
Tells {T} {E} told reply Ends = (outcome : Result T E) × (reply ≡ told outcome) × Ends outcome

module _ {R K S O : Type 0} (old : CoreState O R K S) (desk : DeskJobs O K S R) (new : CoreState O R K S) (left : DeskJobs O K S R) (reply : Reply) where
  -- the reply tells how a call on the engine ended, a failure is counted exactly where it is told, and the desk stays
  abbrev pub TellsCall : {T : Type 0} → (Result T CoreFault → Reply) → (Result T CoreFault → Type 0) → Type 0
  TellsCall told Ends = Tells told reply (λ r. Ends r × IsCounted old.engine.faults new.engine.faults r) × (left ≡ desk)

  -- so, of one that leaves the claims
  abbrev pub TellsApart : {T : Type 0} → (Result T CoreFault → Reply) → (Result T CoreFault → Type 0) → Type 0
  TellsApart told Ends = TellsCall told Ends × (new ≡ record old { engine = new.engine })

  -- the job is put last at the desk, under the number that is told, or the claim is refused
  abbrev pub EndsClaim : Language R K S O → (task input most : ℕ) → Type 0
  EndsClaim lang task input most =
      ((job : ClaimedJob O K S R) × (reply ≡ Number (length desk)) × Claims old task input most lang new job.attempt job.serial job.work × (left ≡ desk ++ Some job ∷ []))
      ⊎ ((fault : CoreFault) × (reply ≡ Refused fault) × Refuses old task input fault × (new ≡ old) × (left ≡ desk))

  -- what was made of the job's work is handed in, and the job leaves the desk
  abbrev pub EndsJob : Language R K S O → ℕ → ClaimedJob O K S R → Type 0
  EndsJob lang number job =
      (made : Made O K S R) × (given_of made ≡ job.work)
      × Tells accepted_as reply (λ r. EndsFinish old lang new job.attempt job.serial made r × IsCounted old.engine.faults new.engine.faults r)
      × (left ≡ slice_set desk number None)

  abbrev pub EndsNoJob : Type 0
  EndsNoJob = (reply ≡ NoJob) × (new ≡ old) × (left ≡ desk)

  abbrev pub EndsFinishing : Language R K S O → ℕ → Type 0
  EndsFinishing lang number = MatchOption (job_at desk number) EndsNoJob (EndsJob lang number)

  -- the record is put last in the partition, or there was no memory for its copy
  abbrev pub EndsAppend : ℕ → R → Type 0
  EndsAppend partition row =
      (((reply ≡ Source Memory) × (new ≡ old)) ⊎ (Tells appended_as reply (Appends old.engine new.engine partition row) × (new ≡ record old { engine = new.engine })))
      × (left ≡ desk)

module _ {R K S O : Type 0} (rules : AllRules R K S O) (spelling : Part R K S → List ℕ) where
  -- the step may lead from the core and the desk to these, with this reply
  abbrev pub EndsStep : Step R → CoreState O R K S → DeskJobs O K S R → CoreState O R K S → DeskJobs O K S R → Reply → Type 0
  EndsStep (Read task) old desk new left reply = TellsApart old desk new left reply accepted_as (Reads old.engine new.engine rules.lang task)
  EndsStep (Claim task input) old desk new left reply = EndsClaim old desk new left reply rules.lang task input 1
  EndsStep (ClaimSome task input most) old desk new left reply = EndsClaim old desk new left reply rules.lang task input most
  EndsStep (Finish number) old desk new left reply = EndsFinishing old desk new left reply rules.lang number
  EndsStep (Barrier task input) old desk new left reply = TellsApart old desk new left reply copied_as (TakesBarrierUnclaimed old task input new)
  EndsStep Trigger old desk new left reply = TellsApart old desk new left reply numbered_as (Triggers old.engine new.engine)
  EndsStep (Inject task) old desk new left reply = TellsApart old desk new left reply accepted_as (Injects old.engine new.engine task)
  EndsStep (Persist task) old desk new left reply = TellsApart old desk new left reply accepted_as (Persists old.engine new.engine spelling task)
  EndsStep (PersistSome task most) old desk new left reply = TellsApart old desk new left reply persisted_as (PersistsSome old.engine new.engine spelling task)
  EndsStep Complete old desk new left reply = TellsApart old desk new left reply numbered_as (Completes old.engine new.engine)
  EndsStep (Commit sink) old desk new left reply = TellsApart old desk new left reply accepted_as (Commits old.engine new.engine sink)
  EndsStep Settle old desk new left reply = TellsApart old desk new left reply accepted_as (Settles old new rules)
  EndsStep (Drain turns) old desk new left reply = TellsApart old desk new left reply drained_as (Drains old new rules turns)
  EndsStep Fail old desk new left reply = TellsApart old desk new left reply accepted_as (Fails old.engine new.engine)
  EndsStep Restart old desk new left reply =
      TellsCall old desk new left reply restarted_as (λ r. Restarts old.engine new.engine rules r × (new ≡ record old { engine = new.engine; claims = claims_after r old.claims }))
  EndsStep (Append partition row) old desk new left reply = EndsAppend old desk new left reply partition row

  -- the steps lead from the core and the desk to these, with these replies
  abbrev pub IsRun : CoreState O R K S → DeskJobs O K S R → List (Step R) → List Reply → CoreState O R K S → DeskJobs O K S R → Type 0
  IsRun old desk [] [] new left = (new ≡ old) × (left ≡ desk)
  IsRun old desk (step ∷ steps) (reply ∷ replies) new left =
      (middle : CoreState O R K S) × (between : DeskJobs O K S R) × EndsStep step old desk middle between reply × IsRun middle between steps replies new left
  IsRun old desk [] (reply ∷ replies) new left = ⊥
  IsRun old desk (step ∷ steps) [] new left = ⊥
