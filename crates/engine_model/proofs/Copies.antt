-- What an attempt does when a task copies is what the model's attempt does: it takes the barrier, and then copies.
use Rattle.std.proofs.Common.{◌≡◌, ◌<◌, ◌==◌, ◌++◌, inl, inr, if◌then◌else◌, Option, Some, None, slice_get, slice_set, unwrap_or, length, ℕ, Bool, true, false, List, [], refl, sym, ap, subst, ◌∙◌, is_some}
use Rattle.std.proofs.lemmas.Bool.Decides.{eqb_tells}
use Rattle.std.proofs.lemmas.Option.{slice_get_within, same_Some}
use Rattle.std.proofs.lemmas.List.{append-nil}
use Rattle.alignment.specs.Table.{effect_of}
use Rattle.commit_sink.specs.Sink.{Sinking}
use Rattle.checkpoint_model.specs.Attempt as attempt
use Rattle.checkpoint_model.specs.Attempt.{Attempt, TakesBarrier, Copies, task_copied}
use Rattle.checkpoint_model.proofs.Seen.{same_attempt}
use Rattle.dataflow_model.specs.Graph.{Channel}
use Rattle.job_graph.specs.Expanded.{IsExpanded, IsChannel, is_source, is_sink}
use Rattle.job_graph.specs.declared.role.Role.TheVariants as role
use Rattle.job_state.specs.Held.{Held, copy_at, came_at, gate_at, logged_at, barrier_taken, CopiesSource, CopiesOperator, sink_copied}
use Rattle.job_state.specs.Sending.{items_at, barrier_into}
use Rattle.job_state.specs.declared.holding.Holding.TheVariants as holds
use Rattle.task_part.specs.declared.part.Part.{Part}
use Rattle.task_part.specs.declared.part.Part.TheVariants as part
use Rattle.engine_model.specs.Calls.{input_at, is_copy, IsBarrierNext}
use Rattle.engine_model.specs.Keeps.{GateFits}
use Rattle.engine_model.specs.Language.{Language}
use Rattle.engine_model.specs.State.{State}
use Rattle.engine_model.specs.View.{held_state, copied_state, attempt_of, job_of, is_logged_in}
use Rattle.engine_model.proofs.Lists.{get_set_same, get_set_other}
use Rattle.engine_model.proofs.Calls.Tasks.{LeadsTo, input_leads}
use Rattle.engine_model.proofs.Shape.Gates.{copy_is_first, unmarked_came, input_of_channel}
use Rattle.engine_model.proofs.Items.{plain, plain_barriers, plain_put, taken, first_barrier}

module _ {P : Type 0} where
  -- a task's place among copies, one of which is written
  pub copied_at : (copies : List (Option P)) (task : ℕ) (p : P) → task < length copies → (t : ℕ) → unwrap_or (slice_get (slice_set copies task (Some p)) t) None ≡ (if t == task then Some p else unwrap_or (slice_get copies t) None)
  copied_at copies task p within t =
      elim (eqb_tells t task) [
        | inl same ↦ rw same.0 (ap (λ (n : ℕ). unwrap_or (slice_get (slice_set copies task (Some p)) n) None) same.1 ∙ ap (λ (o : Option (Option P)). unwrap_or o None) (get_set_same copies task (Some p) within))
        | inr other ↦ rw other.0 (ap (λ (o : Option (Option P)). unwrap_or o None) (get_set_other copies task t (Some p) other.1))
      ]

  pub if_some : (b : Bool) (p : P) (o : Option P) → is_some (if b then Some p else o) ≡ (if b then true else is_some o)
  if_some true p o = refl
  if_some false p o = refl

module _ {R K S O : Type 0} (lang : Language R K S O) (s : State O R K S) (h : Held R K S) where
  abbrev before : Attempt R K S
  before = attempt_of lang.cmp h

  -- no channel leads into a source
  pub not_source : IsExpanded s.graph → (task partition number : ℕ) (channel : Channel) → slice_get s.graph.tasks task ≡ Some (role.Source partition) → slice_get s.graph.channels number ≡ Some channel → channel.receiver ≡ task → ⊥
  not_source expanded task partition number channel is leads to =
      let receiver = (expanded.joined number channel leads).receiver in
      let same : receiver.role ≡ role.Source partition = same_Some receiver.role (role.Source partition) (sym receiver.is ∙ ap (slice_get s.graph.tasks) to ∙ is) in
      true_false (ap is_source (sym same) ∙ receiver.takes)
    where
      true_false : true ≡ false → ⊥
      true_false e = cc

  module _ (task : ℕ) (p : Part R K S) (within : task < length h.copies) where
    abbrev copies_set : List (Option (Part R K S))
    copies_set = slice_set h.copies task (Some p)

    -- the tasks that have copied
    copied_eq : (t : ℕ) → is_some (unwrap_or (slice_get copies_set t) None) ≡ (if t == task then true else is_some (copy_at h t))
    copied_eq t = ap is_some (copied_at h.copies task p within t) ∙ if_some (t == task) p (copy_at h t)

    -- and their copies
    copies_eq : copied_state {R = R} lang.cmp (Some p) ≡ held_state lang.cmp (slice_get h.tasks task) → (t : ℕ) →
        copied_state {R = R} lang.cmp (unwrap_or (slice_get copies_set t) None) ≡ (if t == task then held_state lang.cmp (slice_get h.tasks t) else copied_state lang.cmp (copy_at h t))
    copies_eq same_state t =
        elim (eqb_tells t task) [
          | inl same ↦
              rw same.0
              (ap (λ (n : ℕ). copied_state {R = R} lang.cmp (unwrap_or (slice_get copies_set n) None)) same.1 ∙ ap (λ (o : Option (Option (Part R K S))). copied_state lang.cmp (unwrap_or o None)) (get_set_same h.copies task (Some p) within)
              ∙ same_state ∙ ap (λ (n : ℕ). held_state {R = R} lang.cmp (slice_get h.tasks n)) (sym same.1))
          | inr other ↦ rw other.0 (ap (λ (o : Option (Option (Part R K S))). copied_state lang.cmp (unwrap_or o None)) (get_set_other h.copies task t (Some p) other.1))
        ]

  module _ (k : Held R K S) (task partition offset checkpoint : ℕ) (expanded : IsExpanded s.graph) (is : slice_get s.graph.tasks task ≡ Some (role.Source partition)) (at : slice_get h.tasks task ≡ Some (holds.Source offset))
      (pending : h.coordination.pending ≡ Some checkpoint) (none : copy_at h task ≡ None) (within : task < length h.copies) (copies : CopiesSource s.graph task offset checkpoint h k) where
    pub source_copies : Copies (job_of lang s) (is_logged_in s) task before (attempt_of lang.cmp k)
    source_copies = record {
      is_pending = ap is_some pending;
      is_first = ap is_some none;
      all_came = λ number channel leads to unlogged. absurd (not_source expanded task partition number channel is leads to);
      ends =
          same_attempt (attempt_of lang.cmp k) (task_copied (job_of lang s) task before)
          (λ t. ap (λ (x : Held R K S). held_state lang.cmp (slice_get x.tasks t)) copies.ends)
          (λ c. plain_put (λ n. barrier_into checkpoint task (slice_get s.graph.channels n)) h.channels k.channels copies.sent c ∙ ap (λ items. plain (items_at h.channels c) ++ items) (plain_barriers checkpoint task (slice_get s.graph.channels c)))
          (ap (λ (x : Held R K S). is_some x.coordination.pending) copies.ends)
          (λ t. ap (λ (x : Held R K S). is_some (copy_at x t)) copies.ends ∙ copied_eq task (part.Source offset) within t)
          (λ t. ap (λ (x : Held R K S). copied_state lang.cmp (copy_at x t)) copies.ends ∙ copies_eq task (part.Source offset) within (ap (held_state lang.cmp) (sym at)) t)
          (λ c. ap (λ (x : Held R K S). came_at x c) copies.ends)
          (λ c. ap (λ (x : Held R K S). logged_at x c) copies.ends);
    }

  module _ (k : Held R K S) (task input channel checkpoint : ℕ) (leads : input_at s.graph task input ≡ Some channel) (fits : GateFits s.graph h task) (came_each : length h.came ≡ length s.graph.channels) (barrier : IsBarrierNext h channel checkpoint) where
    -- what the task holds once it has taken the barrier
    abbrev taken_held : Held R K S
    taken_held = barrier_taken task input channel checkpoint h

    abbrev middle : Attempt R K S
    middle = attempt_of lang.cmp taken_held

    within_came : channel < length h.came
    within_came =
        let to : LeadsTo s.graph task channel = input_leads s.graph task input channel leads in
        subst (λ (m : ℕ). channel < m) (sym came_each) (slice_get_within s.graph.channels channel to.channel to.is)

    came_now : (c : ℕ) → came_at taken_held c ≡ (if c == channel then true else came_at h c)
    came_now c =
        elim (eqb_tells c channel) [
          | inl same ↦ rw same.0 (ap (λ (n : ℕ). unwrap_or (slice_get (slice_set h.came channel true) n) false) same.1 ∙ ap (λ (o : Option Bool). unwrap_or o false) (get_set_same h.came channel true within_came))
          | inr other ↦ rw other.0 (ap (λ (o : Option Bool). unwrap_or o false) (get_set_other h.came channel c true other.1))
        ]

    pub takes_barrier : TakesBarrier channel before middle
    takes_barrier = record {
      is_first = first_barrier (items_at h.channels channel) checkpoint barrier.0;
      ends = same_attempt middle (attempt.barrier_taken channel before) (λ t. refl) (λ c. taken channel h.channels c) refl (λ t. refl) (λ t. refl) came_now (λ c. refl);
    }

    module _ (within : task < length h.copies) (is_copying : is_copy (effect_of (gate_at h task) input) ≡ true) where
      -- the task has not copied yet
      pub not_copied : copy_at h task ≡ None
      not_copied = copy_is_first s.graph h task fits input channel leads checkpoint barrier.1 barrier.2 is_copying

      -- the barriers of all its unmarked inputs have come
      middle_came : (number : ℕ) (other : Channel) → slice_get s.graph.channels number ≡ Some other → other.receiver ≡ task → is_logged_in s number ≡ false → middle.came number ≡ true
      middle_came number other is there unlogged =
          let place = input_of_channel s.graph number other is in
          unmarked_came s.graph h task fits input channel leads checkpoint barrier.1 barrier.2 within_came is_copying place.0 number (subst (λ (t : ℕ). input_at s.graph t place.0 ≡ Some number) there place.1) unlogged

      pub operator_copies : CopiesOperator s.graph task input channel checkpoint h k → Copies (job_of lang s) (is_logged_in s) task middle (attempt_of lang.cmp k)
      operator_copies copies = record {
        is_pending = ap is_some barrier.1;
        is_first = ap is_some not_copied;
        all_came = middle_came;
        ends =
            same_attempt (attempt_of lang.cmp k) (task_copied (job_of lang s) task middle)
            (λ t. ap (λ (x : Held R K S). held_state lang.cmp (slice_get x.tasks t)) copies.ends)
            (λ c.
            plain_put (λ n. barrier_into checkpoint task (slice_get s.graph.channels n)) taken_held.channels k.channels copies.sent c
            ∙ ap (λ items. plain (items_at taken_held.channels c) ++ items) (plain_barriers checkpoint task (slice_get s.graph.channels c)))
            (ap (λ (x : Held R K S). is_some x.coordination.pending) copies.ends)
            (λ t. ap (λ (x : Held R K S). is_some (copy_at x t)) copies.ends ∙ copied_eq task (part.Operator copies.entries []) within t)
            (λ t. ap (λ (x : Held R K S). copied_state lang.cmp (copy_at x t)) copies.ends ∙ copies_eq task (part.Operator copies.entries []) within (ap (held_state lang.cmp) (sym copies.was)) t)
            (λ c. ap (λ (x : Held R K S). came_at x c) copies.ends)
            (λ c. ap (λ (x : Held R K S). logged_at x c) copies.ends);
      }

      -- no barrier goes on from a sink
      no_outputs : IsExpanded s.graph → (subtask : ℕ) → slice_get s.graph.tasks task ≡ Some (role.Sink subtask) → (number : ℕ) → attempt.barrier_of {R = R} task (slice_get s.graph.channels number) ≡ []
      no_outputs expanded subtask is number = of (slice_get s.graph.channels number) (λ other there. expanded.joined number other there)
        where
          at_sink : (other : Channel) → IsChannel s.graph.tasks other → other.sender ≡ task → ⊥
          at_sink other joined from =
              let same : joined.sender.role ≡ role.Sink subtask = same_Some joined.sender.role (role.Sink subtask) (sym joined.sender.is ∙ ap (slice_get s.graph.tasks) from ∙ is) in
              let e : true ≡ false = ap is_sink (sym same) ∙ joined.sender.sends in
              cc

          by_test : (other : Channel) → IsChannel s.graph.tasks other → attempt.barrier_of {R = R} task (Some other) ≡ []
          by_test other joined = elim (eqb_tells other.sender task) [ inl h ↦ absurd (at_sink other joined h.1) | inr h ↦ rw h.0 refl ]

          of : (o : Option Channel) → ((other : Channel) → o ≡ Some other → IsChannel s.graph.tasks other) → attempt.barrier_of {R = R} task o ≡ []
          of None joined = refl
          of (Some other) joined = by_test other (joined other refl)

      pub sink_copies : IsExpanded s.graph → (subtask : ℕ) (names : List ℕ) (sink sink' : Sinking) → slice_get s.graph.tasks task ≡ Some (role.Sink subtask) → slice_get h.tasks task ≡ Some (holds.Sink sink) → k ≡ sink_copied task input channel checkpoint names sink' h →
          Copies (job_of lang s) (is_logged_in s) task middle (attempt_of lang.cmp k)
      sink_copies expanded subtask names sink sink' is was ends = record {
        is_pending = ap is_some barrier.1;
        is_first = ap is_some not_copied;
        all_came = middle_came;
        ends =
            same_attempt (attempt_of lang.cmp k) (task_copied (job_of lang s) task middle)
            (λ t. ap (λ (x : Held R K S). held_state lang.cmp (slice_get x.tasks t)) ends ∙ sink_stays t)
            (λ c.
            ap (λ (x : Held R K S). plain (items_at x.channels c)) ends
            ∙ (sym (append-nil (plain (items_at taken_held.channels c))) ∙ ap (λ (l : List (attempt.Item R)). plain (items_at taken_held.channels c) ++ l) (sym (no_outputs expanded subtask is c))))
            (ap (λ (x : Held R K S). is_some x.coordination.pending) ends)
            (λ t. ap (λ (x : Held R K S). is_some (copy_at x t)) ends ∙ copied_eq task (part.Sink names []) within t)
            (λ t. ap (λ (x : Held R K S). copied_state lang.cmp (copy_at x t)) ends ∙ copies_eq task (part.Sink names []) within (ap (held_state lang.cmp) (sym was)) t)
            (λ c. ap (λ (x : Held R K S). came_at x c) ends)
            (λ c. ap (λ (x : Held R K S). logged_at x c) ends);
      }
        where
          here : task < length h.tasks
          here = slice_get_within h.tasks task (holds.Sink sink) was

          -- a sink's state is the same, whatever transactions it holds
          sink_stays : (t : ℕ) → held_state {R = R} lang.cmp (slice_get (slice_set h.tasks task (holds.Sink sink')) t) ≡ held_state lang.cmp (slice_get h.tasks t)
          sink_stays t =
              elim (eqb_tells t task) [
                | inl same ↦
                    ap (λ (n : ℕ). held_state {R = R} lang.cmp (slice_get (slice_set h.tasks task (holds.Sink sink')) n)) same.1 ∙ ap (held_state lang.cmp) (get_set_same h.tasks task (holds.Sink sink') here ∙ refl)
                    ∙ ap (held_state lang.cmp) (sym was) ∙ ap (λ (n : ℕ). held_state {R = R} lang.cmp (slice_get h.tasks n)) (sym same.1)
                | inr other ↦ ap (held_state lang.cmp) (get_set_other h.tasks task t (holds.Sink sink') other.1)
              ]
