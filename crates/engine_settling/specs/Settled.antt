-- How settling and draining end.
use Rattle.std.specs.Prelude.{◌≡◌, ◌≤◌, ◌<◌, ◌+◌, ◌^◌, ℕ, true, List, Some, None, Result, Ok, Err, length, slice_get}
use Rattle.dataflow_model.specs.Machine.{Move}
use Rattle.job_graph.specs.declared.role.Role.TheVariants as role
use Rattle.snapshot_store.specs.Store.{is_complete}
use Rattle.engine_model.specs.AllRules.{AllRules}
use Rattle.engine_model.specs.LastCommitted.{committed_of, complete_numbers, last_committed}
use Rattle.engine_model.specs.Sound.{IsSound}
use Rattle.engine_model.specs.State.{State}
use Rattle.engine_model.specs.declared.fault.CoreFault.{CoreFault}
use Rattle.engine_model.specs.declared.fault.CoreFault.TheVariants.{NoCheckpoint, Memory, Device, CommitFault, NumbersSpent}
use Rattle.engine.specs.Readers.{pending_in}
use Rattle.engine_rounds.specs.Turns.{Made}
use Rattle.engine_rounds.specs.Works.{CanMove}
use Rattle.engine_rounds.specs.declared.ending.Drained.{Drained}
use Rattle.engine_rounds.specs.declared.ending.Drained.TheVariants.{AtRest, TurnsSpent}
use Rattle.engine_settling.specs.Bringing.{WentDown}
use Rattle.engine_settling.specs.Resting.{IsStillIn, CutRests}
use Rattle.engine_settling.specs.Whole.{IsWhole}

module _ {R K S O : Type 0} (s : State O R K S) where
  -- the checkpoint is complete, and the last one that is; none is pending
  pub record IsCompleted (n : ℕ) : Type 0 where
    pub complete : is_complete s.stored n ≡ true
    pub last : (other : ℕ) → is_complete s.stored other ≡ true → other ≤ n
    pub none_pending : pending_in s.held ≡ None

  -- each sink has committed it last, and has committed once for each complete checkpoint
  abbrev pub IsCommitted : ℕ → Type 0
  IsCommitted n =
      (task subtask : ℕ) → slice_get s.graph.tasks task ≡ Some (role.Sink subtask)
      → (last_committed s.stored s.ledger subtask ≡ Some n) × (length (committed_of s.ledger subtask) ≡ length (complete_numbers s.stored))

  -- each sink among the first so many tasks has committed once for each complete checkpoint
  abbrev pub HaveCommittedBefore : ℕ → Type 0
  HaveCommittedBefore tasks = (task subtask : ℕ) → task < tasks → slice_get s.graph.tasks task ≡ Some (role.Sink subtask) → length (committed_of s.ledger subtask) ≡ length (complete_numbers s.stored)

  abbrev pub HaveCommitted : Type 0
  HaveCommitted = HaveCommittedBefore (length s.graph.tasks)

module _ {R K S O : Type 0} (rules : AllRules R K S O) (old new : State O R K S) where
  -- plain steps were made, and the job still runs
  abbrev pub MadeSome : Type 0
  MadeSome = (moves : List Move) × Made rules old new moves

  -- The pending checkpoint is completed, or a device fails.
  abbrev pub EndsCompletion : Result Unit CoreFault → Type 0
  EndsCompletion (Ok u) = (n : ℕ) × (pending_in old.held ≡ Some n) × MadeSome × IsCompleted new n × (IsStillIn old → CutRests rules.lang new n)
  EndsCompletion (Err Device) = WentDown rules old new
  EndsCompletion (Err other) = ⊥

  -- Commits leave the store and the pending checkpoint.
  pub record Commits : Type 0 where
    pub made : MadeSome
    pub stored : new.stored ≡ old.stored
    pub pending : pending_in new.held ≡ pending_in old.held

  -- Every sink of a sound engine has committed once for each complete checkpoint, or a commit failed.
  abbrev pub EndsCommits : Result Unit CoreFault → Type 0
  EndsCommits (Ok u) = Commits × (IsSound rules old → HaveCommitted new)
  EndsCommits (Err CommitFault) = Commits
  EndsCommits (Err other) = ⊥

  -- So for one task: a sink commits, and any other commits nothing.
  abbrev pub EndsCommitAt : (task : ℕ) → Result Unit CoreFault → Type 0
  EndsCommitAt task (Ok u) = Commits × (IsSound rules old → HaveCommittedBefore old task → HaveCommittedBefore new (task + 1))
  EndsCommitAt task (Err CommitFault) = Commits
  EndsCommitAt task (Err other) = ⊥

  -- The pending checkpoint is complete, and every sink of a sound engine has committed it last. It is refused where none is pending, and else only for want
  -- of memory or where a device failed: where a commit failed, it is complete all the same. The steps that were made are kept.
  abbrev pub EndsSettle : Result Unit CoreFault → Type 0
  EndsSettle (Ok u) = (n : ℕ) × (pending_in old.held ≡ Some n) × MadeSome × IsCompleted new n × (IsSound rules old → IsCommitted new n)
  EndsSettle (Err NoCheckpoint) = (pending_in old.held ≡ None) × (new ≡ old)
  EndsSettle (Err Memory) = MadeSome
  EndsSettle (Err CommitFault) = (n : ℕ) × (pending_in old.held ≡ Some n) × MadeSome × IsCompleted new n
  EndsSettle (Err Device) = WentDown rules old new
  EndsSettle (Err other) = ⊥

  -- and where nothing moved before, the checkpoint's cut is at rest
  abbrev pub RestsIfStill : Result Unit CoreFault → Type 0
  RestsIfStill (Ok u) = IsStillIn old → (n : ℕ) → pending_in old.held ≡ Some n → CutRests rules.lang new n
  RestsIfStill (Err fault) = Unit {0}

  -- What was pending is complete, and none is pending any more.
  abbrev pub EndsStart : Result Unit CoreFault → Type 0
  EndsStart (Ok u) = MadeSome × (pending_in new.held ≡ None)
  EndsStart (Err Memory) = MadeSome
  EndsStart (Err CommitFault) = MadeSome × (pending_in new.held ≡ None)
  EndsStart (Err Device) = WentDown rules old new
  EndsStart (Err other) = ⊥

  -- A checkpoint is complete whose cut is at rest, and every sink of a sound engine has committed it last.
  abbrev pub EndsAtRest : Result Unit CoreFault → Type 0
  EndsAtRest (Ok u) = MadeSome × ((n : ℕ) × IsCompleted new n × CutRests rules.lang new n × (IsSound rules old → IsCommitted new n))
  EndsAtRest (Err Memory) = MadeSome
  EndsAtRest (Err CommitFault) = MadeSome × (pending_in new.held ≡ None)
  EndsAtRest (Err NumbersSpent) = MadeSome × (2 ^ 63 ≤ new.stored.next)
  EndsAtRest (Err Device) = WentDown rules old new
  EndsAtRest (Err other) = ⊥

  -- At rest: a checkpoint is complete whose cut is at rest, every sink of a sound engine has committed it last, and what they have committed is the whole output
  -- of a run that has ended. Turns spent: after what was pending was settled, as many steps were made as there are turns, and a further one is possible.
  -- Refused for want of memory, where a device failed, and where no number is left.
  abbrev pub EndsDrain : (turns : ℕ) → Result Drained CoreFault → Type 0
  EndsDrain turns (Ok AtRest) = MadeSome × ((n : ℕ) × IsCompleted new n × CutRests rules.lang new n × (IsSound rules old → IsCommitted new n × IsWhole rules.lang new))
  EndsDrain turns (Ok TurnsSpent) =
      MadeSome × ((before : State O R K S) × (moves : List Move) × (length moves ≡ turns) × ((first : List Move) × Made rules old before first) × (pending_in before.held ≡ None) × Made rules before new moves) × CanMove rules.lang new
  EndsDrain turns (Err Memory) = MadeSome
  EndsDrain turns (Err CommitFault) = MadeSome × (pending_in new.held ≡ None)
  EndsDrain turns (Err NumbersSpent) = MadeSome × (2 ^ 63 ≤ new.stored.next)
  EndsDrain turns (Err Device) = WentDown rules old new
  EndsDrain turns (Err other) = ⊥
