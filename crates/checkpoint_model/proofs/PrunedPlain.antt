-- What the steps of a running engine do to the plain configuration that it stands for.
use Rattle.std.proofs.Common.{◌≡◌, ℕ, ◌+◌, ◌==◌, Bool, true, false, if◌then◌else◌, inl, inr, List, [], ◌∷◌, ◌++◌, map, slice_get, Some, refl, sym, ap, ap₂, ◌∙◌, subst}
use Rattle.std.proofs.lemmas.Bool.{cases_eq, eq-eqb}
use Rattle.std.proofs.lemmas.Option.{same_Some}
use Rattle.std.proofs.lemmas.List.{map-append}
use Rattle.dataflow_model.specs.Graph.{Meaning, Task, SourceTask, OperatorTask, SinkTask, Job}
use Rattle.dataflow_model.specs.Machine.{TaskState, Configuration, Effect, Move, Read, Work, mover, left, Takes, Step, after, handled, received, state_under, kept_under}
use Rattle.dataflow_model.proofs.Places.{unique}
use Rattle.checkpoint_model.specs.Attempt.{Attempt, bare, records, moved, TakesFirst}
use Rattle.checkpoint_model.specs.Durable.{SinkTransactions, Devices, IsSink, Appends, ChangesSink}
use Rattle.checkpoint_model.specs.Engine.{Running}
use Rattle.checkpoint_model.specs.EngineLaws.{with_attempt, EngineMoves, EngineCopies}
use Rattle.checkpoint_model.specs.Pruned.{pruned_run}
use Rattle.checkpoint_model.specs.PrunedLaws.{HasOneOpen, all_records, IsBare, PlainMoves, LeavesBare, OtherStepsLeaveBare}
use Rattle.checkpoint_model.proofs.Items.{first_record}
use Rattle.checkpoint_model.proofs.Plain.{if_apart, moved_is_step}
use Rattle.checkpoint_model.proofs.Barriers.{others_leave}
use Rattle.checkpoint_model.proofs.Steps.{sink_or_not}
use Rattle.checkpoint_model.proofs.PrunedSinks.{appended, begun_records, pre_committed_records, committed_records}

if_agree : {A C : Type 0} (f : A → C) (b : Bool) (x y x' y' : A) → f x ≡ f x' → f y ≡ f y' → f (if b then x else y) ≡ f (if b then x' else y')
if_agree f true x y x' y' e e' = e
if_agree f false x y x' y' e e' = e'

-- what a task's handling of a record does, seen without its output
module _ {R K S O : Type 0} (meaning : Meaning R K S O) where
  pub same_sent : (kind : Task O) (a b : TaskState R K S) (r : R) → a.states ≡ b.states → (handled meaning kind a r).sent ≡ (handled meaning kind b r).sent
  same_sent (SourceTask p) a b r e = refl
  same_sent (OperatorTask o) a b r e = ap (λ s. (meaning.apply o (state_under (meaning.key o r) (meaning.fresh o) s) r).sent) e
  same_sent SinkTask a b r e = refl

  same_offset : (kind : Task O) (a b : TaskState R K S) (r : R) → a.offset ≡ b.offset → (handled meaning kind a r).held.offset ≡ (handled meaning kind b r).held.offset
  same_offset (SourceTask p) a b r e = ap (λ n. n + 1) e
  same_offset (OperatorTask o) a b r e = e
  same_offset SinkTask a b r e = e

  same_states : (kind : Task O) (a b : TaskState R K S) (r : R) → a.states ≡ b.states → (handled meaning kind a r).held.states ≡ (handled meaning kind b r).held.states
  same_states (SourceTask p) a b r e = e
  same_states (OperatorTask o) a b r e =
      let key = meaning.key o r in
      ap (λ s. kept_under meaning.same_key key (meaning.apply o (state_under key (meaning.fresh o) s) r).state s) e
  same_states SinkTask a b r e = e

  output_stays : (kind : Task O) (a : TaskState R K S) (r : R) → (kind ≡ SinkTask → ⊥) → (handled meaning kind a r).held.output ≡ a.output
  output_stays (SourceTask p) a r h = refl
  output_stays (OperatorTask o) a r h = refl
  output_stays SinkTask a r h = absurd (h refl)

  output_grows : (kind : Task O) (a : TaskState R K S) (r : R) → kind ≡ SinkTask → (handled meaning kind a r).held.output ≡ a.output ++ r ∷ []
  output_grows kind a r e = ap (λ k. (handled meaning k a r).held.output) e

module _ {R K S O : Type 0} where
  same_takes : (job : Job R K S O) (move : Move) (kind : Task O) (r : R) (a b : Configuration R K S) → ((task : ℕ) → (a.tasks task).offset ≡ (b.tasks task).offset) → ((channel : ℕ) → a.channels channel ≡ b.channels channel) → Takes job move kind r b → Takes job move kind r a
  same_takes job (Read task) kind r a b offsets channels t = (t.0, t.1, ap (λ n. slice_get (job.partitions t.0) n) (offsets task) ∙ t.2)
  same_takes job (Work task input) kind r a b offsets channels t = (t.0, t.1, t.2, t.3, ap (λ l. slice_get l 0) (channels input) ∙ t.4)

  -- the record that stands first in a channel does so with the barriers left out
  first_takes : (job : Job R K S O) (move : Move) (kind : Task O) (r : R) (now : Attempt R K S) → TakesFirst job move kind r now → Takes job move kind r (bare now)
  first_takes job (Read task) kind r now t = t
  first_takes job (Work task input) kind r now t = (t.0, t.1, t.2, t.3, ap (λ i. slice_get (records i) 0) (first_record (now.channels input) r t.4))

-- a move
module _ {R K S O B : Type 0} (job : Job R K S O) (spell : R → B) (move : Move) (old new : Devices R K S B) (run next : Running R K S) (at : Configuration R K S) (m : EngineMoves job spell move old new run next) (open_one : IsSink job (mover move) → HasOneOpen (old.sinks (mover move))) (b : IsBare job spell old run at) where
  abbrev kind : Task O
  kind = m.moves.kind

  abbrev taken : R
  taken = m.moves.taken

  abbrev task_now : TaskState R K S
  task_now = run.attempt.tasks (mover move)

  abbrev effect : Effect R K S
  effect = handled job.meaning kind (at.tasks (mover move)) taken

  abbrev to : Configuration R K S
  to = after job move effect at

  abbrev there : Attempt R K S
  there = moved job move taken (handled job.meaning kind task_now taken) run.attempt

  takes_now : Takes job move kind taken (bare run.attempt)
  takes_now = first_takes job move kind taken run.attempt m.moves.takes

  abbrev plain_there : Configuration R K S
  plain_there = after job move (handled job.meaning kind task_now taken) (bare run.attempt)

  is_plain : bare there ≡ plain_there
  is_plain =
      let direct : Step job move (bare run.attempt) plain_there = record { kind = kind; taken = taken; is_task = m.moves.is_task; takes = takes_now; ends = refl } in
      unique job move (bare run.attempt) (bare there) plain_there (moved_is_step job move kind taken run.attempt m.moves.is_task m.moves.takes) direct

  step : Step job move at to
  step = record { kind = kind; taken = taken; is_task = m.moves.is_task; takes = same_takes job move kind taken at (bare run.attempt) b.offsets b.channels takes_now; ends = refl }

  at_mover : (task : ℕ) → task ≡ mover move → to.tasks task ≡ effect.held
  at_mover task e = ap (λ c. if c then effect.held else at.tasks task) (eq-eqb task (mover move) e)

  at_other : (task : ℕ) → (task ≡ mover move → ⊥) → to.tasks task ≡ at.tasks task
  at_other task apart = if_apart task (mover move) effect.held (at.tasks task) apart

  kind_at : (task : ℕ) → task ≡ mover move → slice_get job.graph.tasks task ≡ Some kind
  kind_at task e = ap (λ i. slice_get job.graph.tasks i) e ∙ m.moves.is_task

  output_of : TaskState R K S → List R
  output_of held = held.output

  put_out : (task : ℕ) → IsSink job task → map spell (to.tasks task).output ≡ all_records (new.sinks task)
  put_out task sink =
      elim (sink_or_not kind) [
        | inl here ↦
            let c = m.at_sink here in
            elim (cases_eq task (mover move)) [
              | inl e ↦
                  let one : HasOneOpen (old.sinks task) = subst (λ i. HasOneOpen (old.sinks i)) (sym e) (open_one (subst (λ i. IsSink job i) e sink)) in
                  let appends : Appends (spell taken) (old.sinks task) (new.sinks task) = subst (λ i. Appends (spell taken) (old.sinks i) (new.sinks i)) (sym e) c.sink in
                  let out : (to.tasks task).output ≡ (at.tasks task).output ++ taken ∷ [] =
                  ap (λ (h : TaskState R K S). h.output) (at_mover task e)
                  ∙ output_grows job.meaning kind (at.tasks (mover move)) taken here
                  ∙ ap (λ i. (at.tasks i).output ++ taken ∷ []) (sym e) in
                  ap (map spell) out
                  ∙ map-append spell (at.tasks task).output (taken ∷ [])
                  ∙ ap (λ l. l ++ spell taken ∷ []) (b.outputs task sink)
                  ∙ sym (appended (spell taken) (old.sinks task) (new.sinks task) one appends)
              | inr apart ↦ ap (λ (h : TaskState R K S). map spell h.output) (at_other task apart) ∙ b.outputs task sink ∙ ap all_records (sym (c.others task apart))
            ]
        | inr elsewhere ↦
            let apart : task ≡ mover move → ⊥ = λ e. elsewhere (same_Some kind SinkTask (sym (kind_at task e) ∙ sink)) in
            ap (λ (h : TaskState R K S). map spell h.output) (at_other task apart) ∙ b.outputs task sink ∙ ap (λ d. all_records (d.sinks task)) (sym (m.elsewhere elsewhere))
      ]

  no_output : (task : ℕ) → (IsSink job task → ⊥) → (to.tasks task).output ≡ []
  no_output task no_sink =
      elim (cases_eq task (mover move)) [
        | inl e ↦
            let no_kind : kind ≡ SinkTask → ⊥ = λ k. no_sink (kind_at task e ∙ ap (λ x. Some x) k) in
            ap (λ (h : TaskState R K S). h.output) (at_mover task e)
            ∙ output_stays job.meaning kind (at.tasks (mover move)) taken no_kind
            ∙ ap (λ i. (at.tasks i).output) (sym e)
            ∙ b.elsewhere task no_sink
        | inr apart ↦ ap (λ (h : TaskState R K S). h.output) (at_other task apart) ∙ b.elsewhere task no_sink
      ]

  moved_bare : IsBare job spell new (with_attempt there run) to
  moved_bare =
      let pruned_now = (handled job.meaning kind task_now taken).held in
      record {
        offsets =
            λ task.
            if_agree (λ (h : TaskState R K S). h.offset) (task == mover move) effect.held (at.tasks task) pruned_now (run.attempt.tasks task) (same_offset job.meaning kind (at.tasks (mover move)) task_now taken (b.offsets (mover move))) (b.offsets task);
        states =
            λ task.
            if_agree (λ (h : TaskState R K S). h.states) (task == mover move) effect.held (at.tasks task) pruned_now (run.attempt.tasks task) (same_states job.meaning kind (at.tasks (mover move)) task_now taken (b.states (mover move))) (b.states task);
        channels =
            λ channel.
            ap₂ (λ l sent. left move channel l ++ received job.meaning (mover move) sent (slice_get job.graph.channels channel)) (b.channels channel) (same_sent job.meaning kind (at.tasks (mover move)) task_now taken (b.states (mover move)))
            ∙ sym (ap (λ (c : Configuration R K S). c.channels channel) is_plain);
        outputs = put_out;
        elsewhere = no_output;
      }

module _ {R K S B : Type 0} where
  same_sinks : (old new : Devices R K S B) → new.sinks ≡ old.sinks → (task : ℕ) → all_records (new.sinks task) ≡ all_records (old.sinks task)
  same_sinks old new e task = ap (λ s. all_records (s task)) e

  changed_sink : (task : ℕ) (Changes : SinkTransactions B → SinkTransactions B → Type 0) (old new : Devices R K S B) → ChangesSink task Changes old new → all_records (new.sinks task) ≡ all_records (old.sinks task) → (other : ℕ) → all_records (new.sinks other) ≡ all_records (old.sinks other)
  changed_sink task Changes old new c here other =
      elim (cases_eq other task) [
        | inl e ↦ subst (λ i. all_records (new.sinks i) ≡ all_records (old.sinks i)) (sym e) here
        | inr apart ↦ ap all_records (c.others other apart)
      ]

module _ {R K S O B : Type 0} where
  -- dropping what code doesn't hold leaves the plain configuration
  pub pruned_bare : (job : Job R K S O) (spell : R → B) (devices : Devices R K S B) (run : Running R K S) (at : Configuration R K S) → IsBare job spell devices run at → IsBare job spell devices (pruned_run run) at
  pruned_bare job spell devices run at b = record { offsets = b.offsets; states = b.states; channels = b.channels; outputs = b.outputs; elsewhere = b.elsewhere }

  pub bare_of_pruned : (job : Job R K S O) (spell : R → B) (devices : Devices R K S B) (run : Running R K S) (at : Configuration R K S) → IsBare job spell devices (pruned_run run) at → IsBare job spell devices run at
  bare_of_pruned job spell devices run at b = record { offsets = b.offsets; states = b.states; channels = b.channels; outputs = b.outputs; elsewhere = b.elsewhere }

  pub plain_moves : (job : Job R K S O) (spell : R → B) → PlainMoves job spell
  plain_moves job spell move old new run next at m one b =
      let is : next ≡ with_attempt (there job spell move old new run next at m one b) run = m.ends ∙ ap (λ a. with_attempt a run) m.moves.ends in (
        to job spell move old new run next at m one b,
        step job spell move old new run next at m one b,
        pruned_bare job spell new next _ (subst (λ x. IsBare job spell new x (to job spell move old new run next at m one b)) (sym is) (moved_bare job spell move old new run next at m one b)),
      )

  -- a step that leaves the attempt's plain configuration and the records of each sink
  stays : (job : Job R K S O) (spell : R → B) (old new : Devices R K S B) (run next : Running R K S) (at : Configuration R K S) → bare next.attempt ≡ bare run.attempt → ((task : ℕ) → all_records (new.sinks task) ≡ all_records (old.sinks task)) → IsBare job spell old run at → IsBare job spell new (pruned_run next) at
  stays job spell old new run next at same all b =
      record {
        offsets = λ task. b.offsets task ∙ ap (λ (c : Configuration R K S). (c.tasks task).offset) (sym same);
        states = λ task. b.states task ∙ ap (λ (c : Configuration R K S). (c.tasks task).states) (sym same);
        channels = λ channel. b.channels channel ∙ ap (λ (c : Configuration R K S). c.channels channel) (sym same);
        outputs = λ task sink. b.outputs task sink ∙ sym (all task);
        elsewhere = b.elsewhere;
      }

  copies_stay : (job : Job R K S O) (spell : R → B) (is_logged : ℕ → Bool) (task : ℕ) → LeavesBare job spell (λ old new run next. EngineCopies job is_logged task old new run next)
  copies_stay job spell is_logged task old new run next at m b =
      let same : bare m.attempt ≡ bare run.attempt = (others_leave job is_logged run.attempt m.attempt).copy task m.copies in
      elim (sink_or_not m.kind) [
        | inl here ↦
            let a = m.at_sink here in
            let middle = a.1 in
            let begins : (t : ℕ) → all_records (middle.sinks t) ≡ all_records (old.sinks t) =
            changed_sink task _ old middle a.2 (ap all_records a.2.sink ∙ begun_records a.0 (old.sinks task)) in
            let pre : (t : ℕ) → all_records (new.sinks t) ≡ all_records (middle.sinks t) =
            changed_sink task _ middle new a.3 (pre_committed_records old.store.line run.number (middle.sinks task) (new.sinks task) a.3.sink a.4) in
            stays job spell old new run next at (ap (λ (x : Running R K S). bare x.attempt) a.7 ∙ same) (λ t. pre t ∙ begins t) b
        | inr elsewhere ↦
            let e = m.elsewhere elsewhere in
            stays job spell old new run next at (ap (λ (x : Running R K S). bare x.attempt) e.1 ∙ same) (same_sinks old new (ap (λ d. d.sinks) e.0)) b
      ]

  pub others_stay : (job : Job R K S O) (spell : R → B) → OtherStepsLeaveBare job spell
  others_stay job spell is_logged =
      let bare_of : Running R K S → Configuration R K S = λ x. bare x.attempt in
      record {
        barrier =
            λ input old new run next at m b.
            stays job spell old new run next at (ap bare_of m.ends ∙ (others_leave job is_logged run.attempt m.attempt).barrier input m.takes) (same_sinks old new (ap (λ d. d.sinks) m.same)) b;
        copy = λ task. copies_stay job spell is_logged task;
        trigger =
            λ old new run next at m b.
            stays job spell old new run next at (ap bare_of m.ends ∙ (others_leave job is_logged run.attempt m.attempt).trigger m.triggers) (same_sinks old new m.reserves.sinks) b;
        discard = λ n old new run next at m b. stays job spell old new run next at (ap bare_of m.ends) (same_sinks old new m.discards.1.sinks) b;
        persist = λ task old new run next at m b. stays job spell old new run next at (ap bare_of m.ends) (same_sinks old new m.puts.sinks) b;
        completion = λ old new run next at m b. stays job spell old new run next at (ap bare_of m.ends) (same_sinks old new m.completes.sinks) b;
        commit =
            λ task old new run next at m b.
            stays job spell old new run next at (ap bare_of m.ends) (changed_sink task _ old new m.commits (committed_records old.store.line (old.sinks task) (new.sinks task) m.commits.sink m.is_first)) b;
      }
