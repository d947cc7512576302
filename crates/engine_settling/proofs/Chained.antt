-- The parts of settling and draining, one after another.
use Rattle.std.proofs.Common.{◌≡◌, ◌≢◌, ◌⊎◌, ◌<◌, ◌≤◌, ◌+◌, ◌^◌, inl, inr, Option, Some, None, Result, Ok, Err, ℕ, List, [], ◌++◌, slice_get, length, refl, sym, ap, subst, ◌∙◌, arith}
use Rattle.std.proofs.Math.Nat.{eq-or-lt_of_le}
use Rattle.std.proofs.lemmas.Bool.Decides.{eqb_tells}
use Rattle.std.proofs.lemmas.Option.{none-some, same_Some, MatchOption-at_some, slice_get_within}
use Rattle.claims.specs.Due.{WorksFrom}
use Rattle.dataflow_model.specs.Machine.{Move}
use Rattle.job_graph.specs.Expanded.{Expanded}
use Rattle.job_graph.specs.declared.role.Role.{Role}
use Rattle.job_graph.specs.declared.role.Role.TheVariants as role
use Rattle.job_state.specs.Held.{Held}
use Rattle.job_state.specs.declared.holding.Holding.TheVariants as holds
use Rattle.snapshot_store.specs.Store.{Stored, IsNumbered, is_complete}
use Rattle.source_log.specs.Partitions.{records_at}
use Rattle.engine_model.specs.AllRules.{AllRules}
use Rattle.engine_model.specs.Calls.{EndsTrigger, IsBlocked, NoRecord, left_by, tidied}
use Rattle.engine_model.specs.Commits.{EndsCommit}
use Rattle.engine_model.specs.Keeps.{Keeps}
use Rattle.engine_model.specs.LastCommitted.{committed_of, complete_numbers}
use Rattle.engine_model.specs.Sound.{IsSound}
use Rattle.engine_model.specs.State.{State}
use Rattle.engine_model.specs.declared.fault.CoreFault.{CoreFault}
use Rattle.engine_model.specs.declared.fault.CoreFault.TheVariants.{NotRunning, NoCheckpoint, CheckpointPending, Memory, Device, CommitFault, NumbersSpent}
use Rattle.engine_plain.specs.Plain.{Stays}
use Rattle.engine.specs.Readers.{pending_in}
use Rattle.engine.specs.Running.{OnStore, OnTransactions}
use Rattle.engine.proofs.Raising.{sound_exact}
use Rattle.engine_rounds.specs.Idle.{IsIdle, AreIdle}
use Rattle.engine_rounds.specs.Turns.{EndsRounds}
use Rattle.engine_rounds.specs.Works.{Works}
use Rattle.engine_rounds.specs.declared.ending.Drained.{Drained}
use Rattle.engine_rounds.specs.declared.ending.Drained.TheVariants.{AtRest, TurnsSpent}
use Rattle.engine_rounds.proofs.Many.{ran, works_none, works_both}
use Rattle.engine_rounds.proofs.Turning.{Calls}
use Rattle.engine_settling.specs.Bringing.{Brings, WentDown, EndsPart}
use Rattle.engine_settling.specs.Resting.{IsStill, IsStillIn, CutRests}
use Rattle.engine_settling.specs.Settled.{IsCompleted, HaveCommittedBefore, HaveCommitted, MadeSome, EndsCompletion, Commits, EndsCommitAt, EndsCommits, EndsSettle, RestsIfStill, EndsStart, EndsAtRest, EndsDrain}
use Rattle.engine_settling.proofs.Bringing.{holds_one, is_held, shape_at, works_stays}
use Rattle.engine_settling.proofs.Committed.{committed_last}
use Rattle.engine_settling.proofs.Ending.{cut_rests_in, commit_done, commit_fails, commit_reaches, commit_leaves}
use Rattle.engine_settling.proofs.Gating.{receiver_of}
use Rattle.engine_settling.proofs.Still.{idle_queues, still_started}
use Rattle.engine_settling.proofs.Whole.{is_whole}

same_sink : {a b : ℕ} → ◌≡◌ {A = Role} (role.Sink a) (role.Sink b) → a ≡ b
same_sink e = cc

module _ {R K S O : Type 0} (rules : AllRules R K S O) where
  abbrev Some_made : State O R K S → State O R K S → Type 0
  Some_made old new = MadeSome rules old new

  -- ---- what is made

  pub made_none : (s : State O R K S) → s.held ≢ None → Some_made s s
  made_none s running = ([], (works_none rules s s refl, running))

  pub made_both : (old middle new : State O R K S) → Some_made old middle → Some_made middle new → Some_made old new
  made_both old middle new one two = (one.0 ++ two.0, (works_both rules one.0 two.0 old new middle one.1.0 two.1.0, two.1.1))

  pub made_down : (old middle new : State O R K S) → Some_made old middle → WentDown rules middle new → WentDown rules old new
  made_down old middle new one two = (one.0 ++ two.0, works_both rules one.0 two.0 old new middle one.1.0 two.1, two.2)

  pub made_of : (old new : State O R K S) → Brings rules old new → Some_made old new
  made_of old new b = (b.moves, (b.works, is_held new b.after b.is))

  pub brings_pending : (old new : State O R K S) → Brings rules old new → pending_in new.held ≡ pending_in old.held
  brings_pending old new b = ap pending_in b.is ∙ b.advances.pending ∙ sym (ap pending_in b.was)

  brings_still : (old new : State O R K S) → Brings rules old new → IsStillIn old → IsStillIn new
  brings_still old new b still =
      let was = MatchOption-at_some ⊥ (λ h. IsStill old.graph old.partitions h) b.before b.was still in
      let graphs = ap (λ (s : State O R K S). s.graph) b.works.same in
      let parts = ap (λ (s : State O R K S). s.partitions) b.works.same in
      holds_one new (λ g h. IsStill g new.partitions h) b.after b.is
      (subst (λ (g : Expanded). IsStill g new.partitions b.after) (sym graphs) (subst (λ (p : List (List R)). IsStill old.graph p b.after) (sym parts) (b.still was)))

  -- ---- commits

  pub commits_none : (s : State O R K S) → s.held ≢ None → Commits rules s s
  commits_none s running = record { made = made_none s running; stored = refl; pending = refl }

  pub commits_both : (old middle new : State O R K S) → Commits rules old middle → Commits rules middle new → Commits rules old new
  commits_both old middle new one two = record { made = made_both old middle new one.made two.made; stored = two.stored ∙ one.stored; pending = two.pending ∙ one.pending }

  pub commits_early : (old middle new : State O R K S) (task : ℕ) (f : CoreFault) → Commits rules old middle → EndsCommitAt rules middle new task (Err f) → EndsCommits rules old new (Err f)
  commits_early old middle new task CommitFault one two = commits_both old middle new one two
  commits_early old middle new task other one two = absurd two

  -- one more sink has committed
  pub committed_more : (middle new : State O R K S) (task sink : ℕ) → Commits rules middle new → slice_get middle.graph.tasks task ≡ Some (role.Sink sink) → HaveCommittedBefore middle task
      → length (committed_of new.ledger sink) ≡ length (complete_numbers new.stored) → ((other : ℕ) → other ≢ sink → committed_of new.ledger other ≡ committed_of middle.ledger other) → HaveCommittedBefore new (task + 1)
  committed_more middle new task sink commits is before reached apart t other below at =
      elim (eqb_tells other sink) [
        | inl same ↦ subst (λ (x : ℕ). length (committed_of new.ledger x) ≡ length (complete_numbers new.stored)) (sym same.1) reached
        | inr differs ↦
            let at_middle : slice_get middle.graph.tasks t ≡ Some (role.Sink other) = sym (ap (λ (s : State O R K S). slice_get s.graph.tasks t) commits.made.1.0.same) ∙ at in
            let earlier : t < task = elim (eq-or-lt_of_le (omega (arith, below))) [
              | inl here ↦ absurd (differs.1 (same_sink (same_Some (role.Sink other) (role.Sink sink) (sym at_middle ∙ ap (slice_get middle.graph.tasks) here ∙ is))))
              | inr less ↦ less
            ] in
            ap (λ (l : List ℕ). length l) (apart other differs.1) ∙ before t other earlier at_middle ∙ ap (λ (x : Stored). length (complete_numbers x)) (sym commits.stored)
      ]

  -- a task that is no sink commits nothing
  pub committed_same : (s : State O R K S) (task : ℕ) → ((subtask : ℕ) → slice_get s.graph.tasks task ≢ Some (role.Sink subtask)) → HaveCommittedBefore s task → HaveCommittedBefore s (task + 1)
  committed_same s task none before t other below at =
      elim (eq-or-lt_of_le (omega (arith, below))) [
        | inl same ↦ absurd (none other (sym (ap (slice_get s.graph.tasks) same) ∙ at))
        | inr less ↦ before t other less at
      ]

  -- so for one task after another
  pub commit_next : (old middle new : State O R K S) (task : ℕ) → (IsSound rules old → HaveCommittedBefore middle task) → Commits rules old middle → EndsCommitAt rules middle new task (Ok tt)
      → IsSound rules old → HaveCommittedBefore new (task + 1)
  commit_next old middle new task before commits one sound = one.1 (commits.made.1.0.sound sound) (before sound)

  pub committed_none : (s : State O R K S) → HaveCommittedBefore s 0
  committed_none s t subtask below at = absurd (omega (arith, below))

  pub committed_all : (s : State O R K S) (n : ℕ) → length s.graph.tasks ≤ n → HaveCommittedBefore s n → HaveCommitted s
  committed_all s n all before t subtask below at = before t subtask (omega (arith, all, below)) at

  -- what is complete stays so
  completed_on : (old new : State O R K S) (n : ℕ) → Commits rules old new → IsCompleted old n → IsCompleted new n
  completed_on old new n c completed = record {
    complete = ap (λ (x : Stored). is_complete x n) c.stored ∙ completed.complete;
    last = λ other e. completed.last other (sym (ap (λ (x : Stored). is_complete x other) c.stored) ∙ e);
    none_pending = c.pending ∙ completed.none_pending;
  }

  -- ---- settling

  pub settle_done : (old middle between new : State O R K S) → Brings rules old middle → EndsCompletion rules middle between (Ok tt) → Keeps rules between
      → EndsCommits rules between new (Ok tt) → EndsSettle rules old new (Ok tt) × RestsIfStill rules old new (Ok tt)
  settle_done old middle between new brings completes keeps commits =
      let n = completes.0 in
      let made = made_both old middle between (made_of old middle brings) completes.2 in
      let c = commits.0 in
      let was : pending_in old.held ≡ Some n = sym (brings_pending old middle brings) ∙ completes.1 in
      let numbered : IsNumbered new.stored = subst IsNumbered (sym c.stored) keeps.numbered in
      let completed : IsCompleted new n = completed_on between new n c completes.3 in (
        (
          n,
          was,
          made_both old between new made c.made,
          completed,
          λ sound task subtask at.
              let each = commits.1 (made.1.0.sound sound) task subtask (slice_get_within new.graph.tasks task (role.Sink subtask) at) at in
              (committed_last new.stored new.ledger subtask n numbered completed.complete completed.last each, each),
        ),
        λ still m is.
            let same : n ≡ m = same_Some n m (sym was ∙ is) in
            let after = c.made.1.0.same in
            subst (λ (x : ℕ). CutRests rules.lang new x) same
            (cut_rests_in rules.lang between new n (ap (λ (s : State O R K S). s.graph) after) (ap (λ (s : State O R K S). s.operators) after) (ap (λ (s : State O R K S). s.partitions) after) c.stored (completes.4 (brings_still old middle brings still))),
      )

  pub settle_early : (old new : State O R K S) (P : Expanded → Held R K S → Type 0) (f : CoreFault) → EndsPart rules old new {T = Unit {0}} P (Err f) → EndsSettle rules old new (Err f)
  settle_early old new P Memory e = made_of old new e
  settle_early old new P Device e = e
  settle_early old new P other e = absurd e

  pub settle_uncompleted : (old middle new : State O R K S) (f : CoreFault) → Brings rules old middle → EndsCompletion rules middle new (Err f) → EndsSettle rules old new (Err f)
  settle_uncompleted old middle new Device b e = made_down old middle new (made_of old middle b) e
  settle_uncompleted old middle new other b e = absurd e

  pub settle_uncommitted : (old middle between new : State O R K S) (f : CoreFault) → Brings rules old middle → EndsCompletion rules middle between (Ok tt) → EndsCommits rules between new (Err f) → EndsSettle rules old new (Err f)
  settle_uncommitted old middle between new CommitFault b c e =
      (c.0, sym (brings_pending old middle b) ∙ c.1, made_both old between new (made_both old middle between (made_of old middle b) c.2) e.made, completed_on between new c.0 e c.3)
  settle_uncommitted old middle between new other b c e = absurd e

  module _ (old middle between new : State O R K S) (brings : Brings rules old middle) (completes : EndsCompletion rules middle between (Ok tt)) (keeps : Keeps rules between) where
    pub settle_by : (r : Result Unit CoreFault) → EndsCommits rules between new r → EndsSettle rules old new r
    settle_by (Ok u) e = (settle_done old middle between new brings completes keeps e).0
    settle_by (Err f) e = settle_uncommitted old middle between new f brings completes e

    pub rests_by : (r : Result Unit CoreFault) → EndsCommits rules between new r → RestsIfStill rules old new r
    rests_by (Ok u) e = (settle_done old middle between new brings completes keeps e).1
    rests_by (Err f) e = tt

  -- ---- draining

  pub start_commits : (old new : State O R K S) (r : Result Unit CoreFault) → pending_in old.held ≡ None → EndsCommits rules old new r → EndsStart rules old new r
  start_commits old new (Ok u) none e = (e.0.made, e.0.pending ∙ none)
  start_commits old new (Err CommitFault) none e = (e.made, e.pending ∙ none)
  start_commits old new (Err other) none e = absurd e

  pub start_settles : (old new : State O R K S) (r : Result Unit CoreFault) → pending_in old.held ≢ None → EndsSettle rules old new r → EndsStart rules old new r
  start_settles old new (Ok u) some e = (e.2, e.3.none_pending)
  start_settles old new (Err NoCheckpoint) some e = absurd (some e.0)
  start_settles old new (Err Memory) some e = e
  start_settles old new (Err CommitFault) some e = (e.2, e.3.none_pending)
  start_settles old new (Err Device) some e = e
  start_settles old new (Err other) some e = absurd e

  -- after a checkpoint has begun in a job that is still
  pub rest_settles : (old middle new : State O R K S) (n : ℕ) (r : Result Unit CoreFault) → Some_made old middle → IsStillIn middle → pending_in middle.held ≡ Some n → EndsSettle rules middle new r → RestsIfStill rules middle new r
      → EndsAtRest rules old new r
  rest_settles old middle new n (Ok u) made still is e rests =
      (made_both old middle new made e.2, (e.0, e.3, rests still e.0 e.1, λ sound. e.4 (made.1.0.sound sound)))
  rest_settles old middle new n (Err NoCheckpoint) made still is e rests = absurd (none-some n (sym e.0 ∙ is))
  rest_settles old middle new n (Err Memory) made still is e rests = made_both old middle new made e
  rest_settles old middle new n (Err CommitFault) made still is e rests = (made_both old middle new made e.2, e.3.none_pending)
  rest_settles old middle new n (Err Device) made still is e rests = made_down old middle new made e
  rest_settles old middle new n (Err other) made still is e rests = absurd e

  pub drain_start : (old new : State O R K S) (turns : ℕ) (f : CoreFault) → EndsStart rules old new (Err f) → EndsDrain rules old new turns (Err f)
  drain_start old new turns Memory e = e
  drain_start old new turns CommitFault e = e
  drain_start old new turns Device e = e
  drain_start old new turns other e = absurd e

  pub drain_spent : (old middle new : State O R K S) (turns : ℕ) → Some_made old middle → pending_in middle.held ≡ None → EndsRounds rules middle new turns (Ok TurnsSpent) → EndsDrain rules old new turns (Ok TurnsSpent)
  drain_spent old middle new turns made none e =
      (made_both old middle new made (e.0, e.2), (middle, e.0, e.1, made, none, e.2), e.3)

  pub drain_rounds : (old middle new : State O R K S) (turns : ℕ) (f : CoreFault) → Some_made old middle → EndsRounds rules middle new turns (Err f) → EndsDrain rules old new turns (Err f)
  drain_rounds old middle new turns NotRunning made e = absurd (made.1.1 e.3.0)
  drain_rounds old middle new turns Memory made e = made_both old middle new made (e.0, (e.2, e.3))
  drain_rounds old middle new turns Device made e = made_down old middle new made (e.0, e.2, e.3)
  drain_rounds old middle new turns other made e = absurd e.3

  pub drain_rests : (old middle between new : State O R K S) → Keeps rules new → (turns : ℕ) → Some_made old middle → EndsRounds rules middle between turns (Ok AtRest)
      → EndsAtRest rules between new (Ok tt) → EndsDrain rules old new turns (Ok AtRest)
  drain_rests old middle between new keeps turns made rounds e =
      let before = made_both old middle between made (rounds.0, rounds.2) in
      let all = made_both old between new before e.0 in (
        all,
        (
          e.1.0,
          e.1.1,
          e.1.2,
          λ sound.
              let committed = e.1.3 (before.1.0.sound sound) in
              (committed, is_whole rules.lang new e.1.0 keeps.numbered (sound_exact rules new keeps (all.1.0.sound sound)) e.1.1 e.1.2 committed),
        ),
      )

  pub drain_ends : (old middle between new : State O R K S) (turns : ℕ) (f : CoreFault) → Some_made old middle → EndsRounds rules middle between turns (Ok AtRest) → EndsAtRest rules between new (Err f) → EndsDrain rules old new turns (Err f)
  drain_ends old middle between new turns f made rounds e = of f e
    where
      before : Some_made old between
      before = made_both old middle between made (rounds.0, rounds.2)

      of : (f : CoreFault) → EndsAtRest rules between new (Err f) → EndsDrain rules old new turns (Err f)
      of Memory e = made_both old between new before e
      of CommitFault e = (made_both old between new before e.0, e.1)
      of NumbersSpent e = (made_both old between new before e.0, e.1)
      of Device e = made_down old between new before e
      of other e = absurd e

  -- ---- what is made, however they end

  pub settle_works : (old new : State O R K S) (r : Result Unit CoreFault) → EndsSettle rules old new r → (moves : List Move) × Works rules moves old new
  settle_works old new (Ok u) e = (e.2.0, e.2.1.0)
  settle_works old new (Err NoCheckpoint) e = ([], works_none rules old new e.1)
  settle_works old new (Err Memory) e = (e.0, e.1.0)
  settle_works old new (Err CommitFault) e = (e.2.0, e.2.1.0)
  settle_works old new (Err Device) e = (e.0, e.1)
  settle_works old new (Err other) e = absurd e

  pub drain_works : (old new : State O R K S) (turns : ℕ) (r : Result Drained CoreFault) → EndsDrain rules old new turns r → (moves : List Move) × Works rules moves old new
  drain_works old new turns (Ok AtRest) e = (e.0.0, e.0.1.0)
  drain_works old new turns (Ok TurnsSpent) e = (e.0.0, e.0.1.0)
  drain_works old new turns (Err Memory) e = (e.0, e.1.0)
  drain_works old new turns (Err CommitFault) e = (e.0.0, e.0.1.0)
  drain_works old new turns (Err NumbersSpent) e = (e.0.0, e.0.1.0)
  drain_works old new turns (Err Device) e = (e.0, e.1)
  drain_works old new turns (Err other) e = absurd e

  -- ---- a task that is no sink commits nothing

  pub commits_nothing : (s : State O R K S) (task : ℕ) → s.held ≢ None → (o : Option Role) → slice_get s.graph.tasks task ≡ o → ((subtask : ℕ) → o ≢ Some (role.Sink subtask)) → EndsCommitAt rules s s task (Ok tt)
  commits_nothing s task running o is none = (commits_none s running, λ sound before. committed_same s task (λ subtask at. none subtask (sym is ∙ at)) before)

-- ---- a sink commits

module _ {R K S O : Type 0} (rules : AllRules R K S O) (old new : State O R K S) (keeps : Keeps rules old) (calls : Calls rules old new) (stays : Stays rules.lang old new) (running : old.held ≢ None) (task sink : ℕ) (is : slice_get old.graph.tasks task ≡ Some (role.Sink sink)) where
  pub commit_at : (r : Result Unit CoreFault) → OnTransactions old new (λ h k. EndsCommit old.graph sink h k old.ledger new.ledger) r → EndsCommitAt rules old new task r
  commit_at (Ok u) e =
      let commits = commit_done rules old new keeps calls stays sink running u e in (
        commits,
        λ sound before.
            committed_more rules old new task sink commits is before
            (commit_reaches rules old new keeps calls stays sink running u e sound)
            (commit_leaves rules old new keeps calls stays sink running u e),
      )
  commit_at (Err CommitFault) e = commit_fails rules old new keeps calls stays sink running task is CommitFault e
  commit_at (Err other) e = absurd (commit_fails rules old new keeps calls stays sink running task is other e)

-- the next number stays where parts are discarded
next_tidied : (last : Option ℕ) (stored : Stored) → (tidied last stored).next ≡ stored.next
next_tidied None stored = refl
next_tidied (Some n) stored = refl

-- ---- a checkpoint begins at rest

module _ {R K S O : Type 0} (rules : AllRules R K S O) (old new : State O R K S) (keeps : Keeps rules old) (calls : Calls rules old new) (stays : Stays rules.lang old new) (running : old.held ≢ None) (none : pending_in old.held ≡ None) where
  abbrev Triggering : Held R K S → Held R K S → Result ℕ CoreFault → Type 0
  Triggering h k r = EndsTrigger h k old.stored new.stored r

  abbrev left : Result ℕ CoreFault → Held R K S → State O R K S
  left r k = record old { held = left_by r (Some k); stored = new.stored; faults = new.faults }

  triggers : (r : Result ℕ CoreFault) → OnStore old new Triggering r → Works rules [] old new
  triggers r e = works_stays rules old new Triggering r (left r) e (λ k. refl) calls stays

  quiet : (h : Held R K S) → old.held ≡ Some h → h.coordination.pending ≡ None
  quiet h was = sym (ap pending_in was) ∙ none

  pub trigger_made : (n : ℕ) → OnStore old new Triggering (Ok n) → MadeSome rules old new
  trigger_made n e =
      let a = ran old new Triggering (Ok n) (left (Ok n)) e running in
      ([], (triggers (Ok n) e, is_held new a.k (ap (λ (s : State O R K S). s.held) a.is)))

  pub trigger_is : (n : ℕ) → OnStore old new Triggering (Ok n) → pending_in new.held ≡ Some n
  trigger_is n e =
      let a = ran old new Triggering (Ok n) (left (Ok n)) e running in
      ap (λ (s : State O R K S). pending_in s.held) a.is ∙ ap (λ (h : Held R K S). h.coordination.pending) a.ended.3 ∙ ap Some (sym a.ended.1)

  -- of an idle job
  module _ (idle : AreIdle old) where
    idle_at : (h : Held R K S) → old.held ≡ Some h → (task : ℕ) → task < length old.graph.tasks → IsIdle old.graph old.partitions h task
    idle_at h was task within = MatchOption-at_some ⊥ (λ x. IsIdle old.graph old.partitions x task) h was (idle task within)

    inputs_idle : (h : Held R K S) → old.held ≡ Some h → (task input channel : ℕ) → WorksFrom old.graph task input channel → IsBlocked task input h ⊎ NoRecord h channel
    inputs_idle h was task input channel works =
        let receiver = receiver_of old.graph task works.0 in
        (idle_at h was task (slice_get_within old.graph.tasks task receiver.role receiver.is)).inputs input channel works

    sources_idle : (h : Held R K S) → old.held ≡ Some h → (task partition offset : ℕ) → slice_get old.graph.tasks task ≡ Some (role.Source partition) → slice_get h.tasks task ≡ Some (holds.Source offset) → length (records_at old.partitions partition) ≤ offset
    sources_idle h was task partition offset is at = (idle_at h was task (slice_get_within old.graph.tasks task (role.Source partition) is)).source partition offset is at

    pub trigger_still : (n : ℕ) → OnStore old new Triggering (Ok n) → IsStillIn new
    trigger_still n e =
        let a = ran old new Triggering (Ok n) (left (Ok n)) e running in
        let shape = shape_at rules old a.h a.was keeps in
        let still = still_started old.graph old.partitions a.h (idle_queues rules old a.h keeps.expanded shape (quiet a.h a.was) (inputs_idle a.h a.was)) (sources_idle a.h a.was) old.stored.next in
        let same = triggers (Ok n) e in
        holds_one new (λ g h. IsStill g new.partitions h) a.k (ap (λ (s : State O R K S). s.held) a.is)
        (subst (λ (g : Expanded). IsStill g new.partitions a.k) (sym (ap (λ (s : State O R K S). s.graph) a.is))
        (subst (λ (p : List (List R)). IsStill old.graph p a.k) (sym (ap (λ (s : State O R K S). s.partitions) a.is))
        (subst (λ (h : Held R K S). IsStill old.graph old.partitions h) (sym a.ended.3) still)))

  pub trigger_fails : (f : CoreFault) → OnStore old new Triggering (Err f) → EndsAtRest rules old new (Err f)
  trigger_fails CheckpointPending e =
      let a = ran old new Triggering (Err CheckpointPending) (left (Err CheckpointPending)) e running in
      absurd (a.ended.0 (quiet a.h a.was))
  trigger_fails NumbersSpent e =
      let a = ran old new Triggering (Err NumbersSpent) (left (Err NumbersSpent)) e running in
      let same : new.stored.next ≡ old.stored.next = ap (λ (s : Stored). s.next) a.ended.3 ∙ next_tidied a.h.coordination.last_complete old.stored in (
        ([], (triggers (Err NumbersSpent) e, is_held new a.k (ap (λ (s : State O R K S). s.held) a.is))),
        subst (λ (n : ℕ). 2 ^ 63 ≤ n) (sym same) a.ended.1,
      )
  trigger_fails Device e =
      let a = ran old new Triggering (Err Device) (left (Err Device)) e running in
      ([], triggers (Err Device) e, ap (λ (s : State O R K S). s.held) a.is)
  trigger_fails other e = absurd (ran old new Triggering (Err other) (left (Err other)) e running).ended
