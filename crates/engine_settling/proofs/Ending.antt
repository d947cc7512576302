-- A checkpoint is completed, the sinks commit, and a job is at rest.
use Rattle.std.proofs.Common.{◌≡◌, ◌≢◌, Option, Some, None, Result, Ok, Err, MatchOption, ℕ, List, [], slice_get, length, refl, sym, ap, subst, ◌∙◌, arith}
use Rattle.std.proofs.lemmas.Option.{MatchOption-at_some}
use Rattle.coordinator.specs.Coordinator.{Coordination}
use Rattle.job_graph.specs.Expanded.{Expanded}
use Rattle.job_graph.specs.declared.role.Role.TheVariants as role
use Rattle.job_state.specs.Held.{Held}
use Rattle.snapshot_store.specs.Store.{Stored}
use Rattle.engine_model.specs.AllRules.{AllRules}
use Rattle.engine_model.specs.Calls.{EndsComplete, left_by}
use Rattle.engine_model.specs.Commits.{EndsCommit}
use Rattle.engine_model.specs.CompleteCut.{HasTheCut}
use Rattle.engine_model.specs.Keeps.{Keeps}
use Rattle.engine_model.specs.Language.{Language}
use Rattle.engine_model.specs.LastCommitted.{committed_of, complete_numbers}
use Rattle.engine_model.specs.Sound.{IsSound}
use Rattle.engine_model.specs.State.{State}
use Rattle.engine_model.specs.declared.fault.CoreFault.{CoreFault}
use Rattle.engine_model.specs.declared.fault.CoreFault.TheVariants.{NoSuchTask, NoCheckpoint, NotAllAcked, Device, CommitFault}
use Rattle.engine_plain.specs.Plain.{Stays}
use Rattle.engine.specs.Readers.{pending_in}
use Rattle.engine.specs.Running.{OnStore, OnTransactions}
use Rattle.engine_rounds.specs.Works.{Works}
use Rattle.engine_rounds.proofs.Many.{ran}
use Rattle.engine_rounds.proofs.Turning.{Calls}
use Rattle.engine_settling.specs.Advancing.{HaveEnded, HaveAcked}
use Rattle.engine_settling.specs.Bringing.{Holds}
use Rattle.engine_settling.specs.Resting.{IsStill, CutRests}
use Rattle.engine_settling.specs.Settled.{EndsCompletion, Commits, EndsCommits}
use Rattle.engine_settling.proofs.Bringing.{holds_at, is_held, shape_at, runs_at, works_stays}
use Rattle.engine_settling.proofs.Committed.{completed_runs, commits_apart, commits_reach_sound}
use Rattle.engine_settling.proofs.Leading.{ready}
use Rattle.engine_settling.proofs.Steps.{commit_coordination}
use Rattle.engine_settling.proofs.Still.{cut_at_rest}

module _ {R K S O : Type 0} (lang : Language R K S O) where
  -- a cut that rests does so whatever else changes
  pub cut_rests_in : (old new : State O R K S) (n : ℕ) → new.graph ≡ old.graph → new.operators ≡ old.operators → new.partitions ≡ old.partitions → new.stored ≡ old.stored → CutRests lang old n → CutRests lang new n
  cut_rests_in old new n g o p s rests =
      record {
        parts = (of g o p s rests).parts;
        cut = (of g o p s rests).cut;
        is_cut = (of g o p s rests).is_cut;
        rests = (of g o p s rests).rests;
      }
    where
      of : new.graph ≡ old.graph → new.operators ≡ old.operators → new.partitions ≡ old.partitions → new.stored ≡ old.stored → CutRests lang old n → CutRests lang (record old { graph = new.graph; operators = new.operators; partitions = new.partitions; stored = new.stored }) n
      of g o p s rests =
          subst (λ (x : Expanded). CutRests lang (record old { graph = x; operators = new.operators; partitions = new.partitions; stored = new.stored }) n) (sym g)
          (subst (λ (x : List O). CutRests lang (record old { operators = x; partitions = new.partitions; stored = new.stored }) n) (sym o)
          (subst (λ (x : List (List R)). CutRests lang (record old { partitions = x; stored = new.stored }) n) (sym p)
          (subst (λ (x : Stored). CutRests lang (record old { stored = x }) n) (sym s) rests)))

module _ {R K S O : Type 0} (rules : AllRules R K S O) (old new : State O R K S) (keeps : Keeps rules old) (calls : Calls rules old new) (stays : Stays rules.lang old new) where
  -- ---- the checkpoint is completed

  module _ (acked : Holds old (λ g h. HaveEnded g h × HaveAcked g h)) where
    abbrev Ready : Expanded → Held R K S → Type 0
    Ready g h = HaveEnded g h × HaveAcked g h

    running : old.held ≢ None
    running none = absurd (subst (λ (o : Option (Held R K S)). MatchOption o ⊥ (λ h. Ready old.graph h)) none acked)

    ready_at : (h : Held R K S) → old.held ≡ Some h → Ready old.graph h
    ready_at h was = holds_at old Ready h was acked

    abbrev Completing : Held R K S → Held R K S → Result ℕ CoreFault → Type 0
    Completing h k r = EndsComplete h k old.stored new.stored r

    abbrev left : Result ℕ CoreFault → Held R K S → State O R K S
    left r k = record old { held = left_by r (Some k); stored = new.stored; faults = new.faults }

    completes : (r : Result ℕ CoreFault) → OnStore old new Completing r → Works rules [] old new
    completes r e = works_stays rules old new Completing r (left r) e (λ k. refl) calls stays

    pub complete_done : (n : ℕ) → OnStore old new Completing (Ok n) → MatchOption old.held ⊥ (λ h. HasTheCut rules.lang old h new.stored n) → EndsCompletion rules old new (Ok tt)
    complete_done n e cut =
        let a = ran old new Completing (Ok n) (left (Ok n)) e running in
        let is : new.held ≡ Some a.k = ap (λ (s : State O R K S). s.held) a.is in
        let shape = shape_at rules old a.h a.was keeps in
        let runs = runs_at rules old a.h a.was keeps in
        let done = completed_runs rules.lang old a.h a.k new.stored n runs keeps.numbered a.ended in (
          n,
          ap pending_in a.was ∙ a.ended.0,
          ([], (completes (Ok n) e, is_held new a.k is)),
          record { complete = done.0; last = done.1; none_pending = ap pending_in is ∙ done.2 },
          λ still. cut_rests_in rules.lang (record old { stored = new.stored }) new n (ap (λ (s : State O R K S). s.graph) a.is) (ap (λ (s : State O R K S). s.operators) a.is) (ap (λ (s : State O R K S). s.partitions) a.is) refl
              (cut_at_rest rules old a.h shape (MatchOption-at_some ⊥ (λ h. IsStill old.graph old.partitions h) a.h a.was still) new.stored n (MatchOption-at_some ⊥ (λ h. HasTheCut rules.lang old h new.stored n) a.h a.was cut)),
        )

    pub complete_fails : (f : CoreFault) → OnStore old new Completing (Err f) → EndsCompletion rules old new (Err f)
    complete_fails NoCheckpoint e =
        let a = ran old new Completing (Err NoCheckpoint) (left (Err NoCheckpoint)) e running in
        absurd ((ready_at a.h a.was).0.pending a.ended.0)
    complete_fails NotAllAcked e =
        let a = ran old new Completing (Err NotAllAcked) (left (Err NotAllAcked)) e running in
        let r = ready_at a.h a.was in
        let shape = shape_at rules old a.h a.was keeps in
        absurd (a.ended.1 (ready a.h.coordination r.0.pending (λ task within. r.1 task (omega (arith, within, shape.acked)))))
    complete_fails Device e =
        let a = ran old new Completing (Err Device) (left (Err Device)) e running in
        ([], completes (Err Device) e, ap (λ (s : State O R K S). s.held) a.is)
    complete_fails other e = absurd (ran old new Completing (Err other) (left (Err other)) e running).ended

  -- ---- a sink commits

  module _ (sink : ℕ) (running : old.held ≢ None) where
    abbrev Committing : Held R K S → Held R K S → Result Unit CoreFault → Type 0
    Committing h k r = EndsCommit old.graph sink h k old.ledger new.ledger r

    abbrev gone : Result Unit CoreFault → Held R K S → State O R K S
    gone r k = record old { held = left_by r (Some k); ledger = new.ledger; faults = new.faults }

    commits : (r : Result Unit CoreFault) → OnTransactions old new Committing r → Works rules [] old new
    commits r e = works_stays rules old new Committing r (gone r) e (λ k. refl) calls stays

    same_known : (h k : Held R K S) → old.held ≡ Some h → (r : Result Unit CoreFault) → EndsCommit old.graph sink h k old.ledger new.ledger r → k.coordination ≡ h.coordination
    same_known h k was r e = commit_coordination rules old.graph old.operators old.partitions h k keeps.expanded (shape_at rules old h was keeps) sink old.ledger new.ledger r e

    committed_as : (r : Result Unit CoreFault) (h k : Held R K S) → OnTransactions old new Committing r → old.held ≡ Some h → new.held ≡ Some k → new.stored ≡ old.stored → k.coordination ≡ h.coordination → Commits rules old new
    committed_as r h k e was is stored same =
        record { made = ([], (commits r e, is_held new k is)); stored = stored; pending = ap pending_in is ∙ ap (λ (c : Coordination). c.pending) same ∙ sym (ap pending_in was) }

    pub commit_done : (u : Unit) → OnTransactions old new Committing (Ok u) → Commits rules old new
    commit_done u e =
        let a = ran old new Committing (Ok u) (gone (Ok u)) e running in
        committed_as (Ok u) a.h a.k e a.was (ap (λ (s : State O R K S). s.held) a.is) (ap (λ (s : State O R K S). s.stored) a.is) (same_known a.h a.k a.was (Ok u) a.ended)

    pub commit_fails : (task : ℕ) → slice_get old.graph.tasks task ≡ Some (role.Sink sink) → (f : CoreFault) → OnTransactions old new Committing (Err f) → EndsCommits rules old new (Err f)
    commit_fails task is_sink CommitFault e =
        let a = ran old new Committing (Err CommitFault) (gone (Err CommitFault)) e running in
        committed_as (Err CommitFault) a.h a.k e a.was (ap (λ (s : State O R K S). s.held) a.is) (ap (λ (s : State O R K S). s.stored) a.is) (same_known a.h a.k a.was (Err CommitFault) a.ended)
    commit_fails task is_sink NoSuchTask e = absurd ((ran old new Committing (Err NoSuchTask) (gone (Err NoSuchTask)) e running).ended.0 task is_sink)
    commit_fails task is_sink other e = absurd (ran old new Committing (Err other) (gone (Err other)) e running).ended

    -- it has committed once for each complete checkpoint, and what others have committed stays
    pub commit_reaches : (u : Unit) → OnTransactions old new Committing (Ok u) → IsSound rules old → length (committed_of new.ledger sink) ≡ length (complete_numbers new.stored)
    commit_reaches u e sound =
        let a = ran old new Committing (Ok u) (gone (Ok u)) e running in
        commits_reach_sound rules old keeps a.h a.was sound sink a.k new.ledger u a.ended ∙ ap (λ (s : State O R K S). length (complete_numbers s.stored)) (sym a.is)

    pub commit_leaves : (u : Unit) → OnTransactions old new Committing (Ok u) → (other : ℕ) → other ≢ sink → committed_of new.ledger other ≡ committed_of old.ledger other
    commit_leaves u e other apart =
        let a = ran old new Committing (Ok u) (gone (Ok u)) e running in
        commits_apart rules old keeps a.h a.was sink a.k new.ledger u a.ended other apart
