-- A job in which nothing moves: no record stands in a channel, a checkpoint that begins finds it still, and the cut of a still job is at rest.
use Rattle.std.proofs.Common.{◌≡◌, ◌≢◌, ◌⊎◌, ◌≤◌, ◌<◌, ◌&&◌, ◌++◌, inl, inr, if◌then◌else◌, Bool, true, false, Option, Some, None, is_some, unwrap_or, ℕ, zero, suc, List, [], ◌∷◌, map, slice_get, length, refl, sym, ap, ap₂, subst, ◌∙◌, arith}
use Rattle.std.specs.Option.{option_map}
use Rattle.std.proofs.lemmas.Bool.{true≢false}
use Rattle.std.proofs.lemmas.Option.{none-some, slice_get_within}
use Rattle.alignment.specs.Inputs as gates
use Rattle.alignment.specs.Table.{is_aligning}
use Rattle.alignment.specs.declared.input.Phase.{Phase}
use Rattle.channels.specs.declared.item.Item.{Item}
use Rattle.channels.specs.declared.item.Item.TheVariants.{Record, Barrier}
use Rattle.checkpoint_model.specs.Attempt.{records, before_barrier}
use Rattle.checkpoint_model.specs.Consistent.{cut_channel, cut_so_far, logged, sent_before}
use Rattle.claims.specs.Due.{IsWorker, WorksFrom}
use Rattle.dataflow_model.specs.Graph.{Channel, Task, SourceTask}
use Rattle.dataflow_model.specs.Machine.{Configuration, Move, Read, Work, IsAtRest, IsPossible}
use Rattle.job_graph.specs.Expanded.{Expanded, IsExpanded, IsReceiver, is_source}
use Rattle.job_graph.specs.PlainGraph.{task_of, operator_task}
use Rattle.job_graph.specs.declared.role.Role.{Role}
use Rattle.job_graph.specs.declared.role.Role.TheVariants as role
use Rattle.job_graph.proofs.PlainTasks.{tasks-graph_of}
use Rattle.job_state.specs.Held.{Held, copy_at, came_at, gate_at, with_started}
use Rattle.job_state.specs.Sending.{items_at}
use Rattle.job_state.specs.declared.holding.Holding.{Holding}
use Rattle.job_state.specs.declared.holding.Holding.TheVariants as holds
use Rattle.snapshot_store.specs.Store.{Stored}
use Rattle.source_log.specs.Partitions.{records_at}
use Rattle.task_part.specs.declared.part.Part.{Part}
use Rattle.task_part.specs.declared.part.Part.TheVariants as part
use Rattle.engine_model.specs.AllRules.{AllRules}
use Rattle.engine_model.specs.Calls.{IsBlocked, NoRecord}
use Rattle.engine_model.specs.CompleteCut.{HasTheCut}
use Rattle.engine_model.specs.Keeps.{Shape, CopyAs, barriers_in}
use Rattle.engine_model.specs.State.{State}
use Rattle.engine_model.specs.View.{job_of, attempt_of, held_state, copied_state, plain_item}
use Rattle.engine_model.proofs.Shape.BarriersKept.{none_unpending}
use Rattle.engine_model.proofs.Shape.Gates.{input_of_channel}
use Rattle.engine_model.proofs.Shape.GatesKept.{rests_unpending}
use Rattle.engine_model.proofs.Shape.Shapes.{replicate_at}
use Rattle.engine_settling.specs.Resting.{IsStill, CutRests}

-- ---- queues

cons_not_nil : (n : ℕ) (rest : List ℕ) → n ∷ rest ≡ [] → ⊥
cons_not_nil n rest e = cc

at_within : {A : Type 0} (xs : List A) (i : ℕ) → i < length xs → (a : A) × (slice_get xs i ≡ Some a)
at_within [] i h = absurd (omega (arith, h))
at_within (x ∷ xs) zero h = (x, refl)
at_within (x ∷ xs) (suc i) h = at_within xs i (omega (arith, h))

module _ {R : Type 0} where
  -- where no record stands first, and no barrier anywhere, nothing stands
  none_stands : (items : List (Item R)) → ((r : R) → slice_get items 0 ≢ Some (Record r)) → barriers_in items ≡ [] → items ≡ []
  none_stands [] first none = refl
  none_stands (Record r ∷ items) first none = absurd (first r refl)
  none_stands (Barrier n ∷ items) first none = absurd (cons_not_nil n (barriers_in items) none)

  -- where no record stands there is none, with the barriers left out or before the first barrier
  no_records : (items : List (Item R)) → ((place : ℕ) (r : R) → slice_get items place ≢ Some (Record r)) → records (map plain_item items) ≡ []
  no_records [] none = refl
  no_records (Record r ∷ items) none = absurd (none 0 r refl)
  no_records (Barrier n ∷ items) none = no_records items (λ place r e. none (suc place) r e)

  none_before : (items : List (Item R)) → ((place : ℕ) (r : R) → slice_get items place ≢ Some (Record r)) → before_barrier (map plain_item items) ≡ []
  none_before [] none = refl
  none_before (Record r ∷ items) none = absurd (none 0 r refl)
  none_before (Barrier n ∷ items) none = refl

  none_sent : (copied came : Bool) (items : List (Item R)) → ((place : ℕ) (r : R) → slice_get items place ≢ Some (Record r)) → sent_before copied came (map plain_item items) ≡ []
  none_sent false came items none = no_records items none
  none_sent true false items none = none_before items none
  none_sent true true items none = refl

  none_logged : (copied : Bool) → logged {R = R} copied [] ≡ []
  none_logged true = refl
  none_logged false = refl

worker_by : (r : Role) → is_source r ≡ false → IsWorker (Some r)
worker_by (role.Source partition) takes = absurd (true≢false takes)
worker_by (role.Operator number) takes = tt
worker_by (role.Sink subtask) takes = tt

module _ {R K S O : Type 0} (rules : AllRules R K S O) (s : State O R K S) (h : Held R K S) (expanded : IsExpanded s.graph)
    (shape : Shape rules s.graph s.operators h) where
  module _ (quiet : h.coordination.pending ≡ None) where
    -- no gate waits
    free : (task input : ℕ) → task < length s.graph.tasks → ¬ IsBlocked task input h
    free task input within blocked =
        true≢false (sym blocked ∙ ap (λ (p : Phase). is_aligning p && (gates.input_at (gate_at h task).inputs input).came) (rests_unpending s.graph h task (shape.gate_fits task within) quiet))

    module _ (idle : (task input channel : ℕ) → WorksFrom s.graph task input channel → IsBlocked task input h ⊎ NoRecord h channel) where
      -- nothing stands in a channel
      empty_at : (number : ℕ) (channel : Channel) → slice_get s.graph.channels number ≡ Some channel → items_at h.channels number ≡ []
      empty_at number channel is =
          let receiver : IsReceiver s.graph.tasks channel.receiver = (expanded.joined number channel is).receiver in
          let within = slice_get_within s.graph.tasks channel.receiver receiver.role receiver.is in
          let leads = input_of_channel s.graph number channel is in
          let none = none_unpending s.graph h quiet (shape.barriers, shape.came_after) number channel is in
          elim (idle channel.receiver leads.0 number (subst IsWorker (sym receiver.is) (worker_by receiver.role receiver.takes), leads.1)) [
            | inl blocked ↦ absurd (free channel.receiver leads.0 within blocked)
            | inr first ↦ none_stands (items_at h.channels number) first none
          ]

      all_empty : (number : ℕ) → items_at h.channels number ≡ []
      all_empty number = of (slice_get h.channels number) refl
        where
          of : (o : Option (List (Item R))) → slice_get h.channels number ≡ o → items_at h.channels number ≡ []
          of None e = ap (λ (o : Option (List (Item R))). unwrap_or o []) e
          of (Some items) e =
              let inside : number < length h.channels = slice_get_within h.channels number items e in
              let there = at_within s.graph.channels number (omega (arith, inside, shape.channels)) in
              empty_at number there.0 there.1

  -- While nothing is pending and no worker has a record to take, no record stands in any channel.
  pub idle_queues : h.coordination.pending ≡ None → ((task input channel : ℕ) → WorksFrom s.graph task input channel → IsBlocked task input h ⊎ NoRecord h channel)
      → (number place : ℕ) (row : R) → slice_get (items_at h.channels number) place ≢ Some (Record row)
  idle_queues quiet idle number place row e = none-some (Record row) (sym (ap (λ (items : List (Item R)). slice_get items place) (all_empty quiet idle number)) ∙ e)

-- A checkpoint that begins where no record stands in a channel and each source is at its partition's end finds the job still.
pub still_started : {R K S : Type 0} (graph : Expanded) (partitions : List (List R)) (h : Held R K S) → ((number place : ℕ) (row : R) → slice_get (items_at h.channels number) place ≢ Some (Record row))
    → ((task partition offset : ℕ) → slice_get graph.tasks task ≡ Some (role.Source partition) → slice_get h.tasks task ≡ Some (holds.Source offset) → length (records_at partitions partition) ≤ offset)
    → (n : ℕ) → IsStill graph partitions (with_started n h)
still_started {R} {K} {S} graph partitions h queues sources n = record {
  queues = queues;
  logs = λ number. replicate_at {A = List R} (length h.logs) number [];
  read = sources;
  copied = λ task partition offset is copy. absurd (none-some (part.Source offset) (sym (replicate_at {A = Option (Part R K S)} (length h.copies) task None) ∙ copy));
}

-- what is a source in the plain machine no other task is
source_role : {O : Type 0} (operators : List O) (o : Option Role) (partition : ℕ) → option_map (task_of operators) o ≡ Some (SourceTask partition) → o ≡ Some (role.Source partition)
source_role operators None partition e = absurd (none-some (SourceTask partition) e)
source_role operators (Some (role.Source other)) partition e = let same : other ≡ partition = cc in ap (λ (p : ℕ). Some (role.Source p)) same
source_role {O} operators (Some (role.Operator number)) partition e = absurd (of (slice_get operators number) e)
  where
    of : (o : Option O) → ◌≡◌ {A = Option (Task O)} (Some (operator_task o)) (Some (SourceTask partition)) → ⊥
    of None e = cc
    of (Some operator) e = cc
source_role operators (Some (role.Sink subtask)) partition e = cc

module _ {R K S O : Type 0} (rules : AllRules R K S O) (s : State O R K S) (h : Held R K S)
    (shape : Shape rules s.graph s.operators h) (still : IsStill s.graph s.partitions h) where
  abbrev cut : Configuration R K S
  cut = cut_so_far (job_of rules.lang s) (attempt_of rules.lang.cmp h)

  -- each source has read to the end, and had when it copied, if it has
  past : (task partition : ℕ) (is : slice_get s.graph.tasks task ≡ Some (role.Source partition)) (o : Option (Part R K S)) → copy_at h task ≡ o → CopyAs (role.Source partition) o
      → length (records_at s.partitions partition) ≤ (if is_some o then copied_state {R = R} rules.lang.cmp o else held_state rules.lang.cmp (slice_get h.tasks task)).offset
  past task partition is None e form =
      let held = shape.forms task (role.Source partition) is in
      let offset_is : (held_state {R = R} rules.lang.cmp (slice_get h.tasks task)).offset ≡ held.0 = ap (λ (o : Option (Holding K S)). (held_state {R = R} rules.lang.cmp o).offset) held.1 in
      let end = still.read task partition held.0 is held.1 in
      omega (arith, offset_is, end)
  past task partition is (Some p) e form =
      let offset_is : (copied_state {R = R} rules.lang.cmp (Some p)).offset ≡ form.0 = ap (λ (q : Part R K S). (copied_state {R = R} rules.lang.cmp (Some q)).offset) form.1 in
      let end = still.copied task partition form.0 is (e ∙ ap (λ (q : Part R K S). Some q) form.1) in
      omega (arith, offset_is, end)

  -- the cut has no record in a channel
  cut_empty : (number : ℕ) (o : Option Channel) → cut_channel (attempt_of rules.lang.cmp h) number o ≡ []
  cut_empty number None = no_records (items_at h.channels number) (still.queues number)
  cut_empty number (Some channel) =
      ap₂ (λ (x y : List R). x ++ y) (ap (logged (is_some (copy_at h channel.receiver))) (still.logs number) ∙ none_logged (is_some (copy_at h channel.receiver)))
      (none_sent (is_some (copy_at h channel.sender)) (came_at h number) (items_at h.channels number) (still.queues number))

  none_possible : (move : Move) → IsPossible (job_of rules.lang s) move cut → ⊥
  none_possible (Read task) possible =
      let step = possible.1 in
      let partition = step.takes.0 in
      let is = source_role s.operators (slice_get s.graph.tasks task) partition (sym (tasks-graph_of s.graph s.operators task) ∙ step.is_task ∙ ap Some step.takes.1) in
      let end : length (records_at s.partitions partition) ≤ (cut.tasks task).offset = past task partition is (copy_at h task) refl (shape.copy_forms task (role.Source partition) is) in
      let next : (cut.tasks task).offset < length (records_at s.partitions partition) = slice_get_within (records_at s.partitions partition) (cut.tasks task).offset step.taken step.takes.2 in
      omega (arith, end, next)
  none_possible (Work task channel) possible =
      let step = possible.1 in
      none-some step.taken (ap (λ (rows : List R). slice_get rows 0) (sym (cut_empty channel (slice_get s.graph.channels channel))) ∙ step.takes.4)

  -- At the cut that a still job has made so far, no move of the plain machine is left.
  pub cut_rests : IsAtRest (job_of rules.lang s) (cut_so_far (job_of rules.lang s) (attempt_of rules.lang.cmp h))
  cut_rests move possible = none_possible move possible

  -- So rests a checkpoint that is that cut.
  pub cut_at_rest : (stored : Stored) (n : ℕ) → HasTheCut rules.lang s h stored n → CutRests rules.lang (record s { stored = stored }) n
  cut_at_rest stored n has = record { parts = has.parts; cut = cut; is_cut = has.cut; rests = cut_rests }
