-- When a task has a step to make, and when none has.
use Rattle.std.proofs.Common.{◌≡◌, ◌≢◌, ◌⊎◌, ◌≤◌, ◌<◌, inl, inr, Bool, not, Option, Some, None, MatchOption, option_map, ℕ, zero, suc, List, [], ◌∷◌, map, slice_get, length, refl, sym, ap, subst, ◌∙◌, arith}
use Rattle.std.specs.List.{range_with_len}
use Rattle.std.proofs.lemmas.List.FromFn.{length-range_with_len}
use Rattle.std.proofs.lemmas.List.Filters.{length-filter_both}
use Rattle.std.proofs.lemmas.Option.{none-some, same_Some, MatchOption-at_some, slice_get_within}
use Rattle.channels.specs.declared.item.Item.{Item}
use Rattle.channels.specs.declared.item.Item.TheVariants.{Record, Barrier}
use Rattle.checkpoint_model.specs.Attempt.{records}
use Rattle.claims.specs.Due.{IsWorker, WorksFrom}
use Rattle.dataflow_model.specs.Graph.{Task, SourceTask}
use Rattle.dataflow_model.specs.Machine.{Configuration, Move, Read, Work, HasInputs, IsPossible, after, handled}
use Rattle.job_graph.specs.Expanded.{Expanded, IsExpanded, inputs_of, meets, is_input}
use Rattle.job_graph.specs.PlainGraph.{task_of, operator_task}
use Rattle.job_graph.specs.declared.role.Role.{Role}
use Rattle.job_graph.specs.declared.role.Role.TheVariants as role
use Rattle.job_graph.proofs.PlainTasks.{tasks-graph_of}
use Rattle.job_state.specs.Held.{Held}
use Rattle.job_state.specs.Sending.{items_at}
use Rattle.job_state.specs.declared.holding.Holding.{Holding}
use Rattle.source_log.specs.Partitions.{records_at}
use Rattle.engine_model.specs.Calls.{HasNext, IsBlocked, NoRecord}
use Rattle.engine_model.specs.Language.{Language}
use Rattle.engine_model.specs.State.{State}
use Rattle.engine_model.specs.View.{job_of, held_state, plain_item}
use Rattle.engine_model.proofs.Calls.Tasks.{LeadsTo, input_leads}
use Rattle.engine_plain.specs.Plain.{StandsFor}
use Rattle.engine_plain.proofs.Stands.{HoldsFor, stands_at}
use Rattle.engine.specs.Readers.{HasHead}
use Rattle.engine_rounds.specs.Idle.{IsIdle, HasNothing, HasNothingIn, HasInput, HasStep, HasStepIn, IsIdleIn}
use Rattle.engine_rounds.specs.Works.{CanMove}

-- a task has at most 4,096 inputs
pub inputs_few : (graph : Expanded) (task : ℕ) → IsExpanded graph → length (inputs_of graph task) ≤ 4096
inputs_few graph task expanded =
    let test : ℕ → Bool = meets (is_input task) graph.channels in
    let both = length-filter_both test (λ n. not (test n)) (λ n. refl) (range_with_len 0 (length graph.channels)) in
    omega (arith, both, length-range_with_len 0 (length graph.channels), expanded.few_channels)

-- what stands at a place below the length
at_place : {A : Type 0} (xs : List A) (i : ℕ) → i < length xs → (a : A) × (slice_get xs i ≡ Some a)
at_place [] i h = absurd (omega (arith, h))
at_place (x ∷ xs) zero h = (x, refl)
at_place (x ∷ xs) (suc i) h = at_place xs i (omega (arith, h))

-- an input of an operator or of a sink is a channel that it works from
pub works_at : (graph : Expanded) (task input : ℕ) → IsWorker (slice_get graph.tasks task) → input < length (inputs_of graph task) → (channel : ℕ) × WorksFrom graph task input channel
works_at graph task input worker within =
    let p = at_place (inputs_of graph task) input within in
    (p.0, (worker, p.1))

-- an operator or a sink takes its records from inputs
has_inputs : {O : Type 0} (operators : List O) (r : Role) → IsWorker (Some r) → HasInputs (task_of operators r)
has_inputs {O} operators (role.Operator number) w = of (slice_get operators number)
  where
    of : (o : Option O) → HasInputs (operator_task o)
    of None = tt
    of (Some operator) = tt
has_inputs operators (role.Sink subtask) w = tt
has_inputs operators (role.Source partition) w = absurd w

-- the role of a worker
role_of : (o : Option Role) → IsWorker o → (r : Role) × (o ≡ Some r)
role_of (Some r) w = (r, refl)
role_of None w = absurd w

-- a record that stands first stands first with the barriers left out
first_of : {R : Type 0} (items : List (Item R)) (r : R) → slice_get items 0 ≡ Some (Record r) → slice_get (records (map plain_item items)) 0 ≡ Some r
first_of [] r e = absurd (none-some (Record r) e)
first_of (Record s ∷ items) r e = let same : s ≡ r = cc in ap Some same
first_of (Barrier n ∷ items) r e = cc

module _ {R K S O : Type 0} (lang : Language R K S O) (s : State O R K S) (h : Held R K S) (was : s.held ≡ Some h) (at : Configuration R K S) (stands : StandsFor lang s at) where
  -- a source that has a record left can read it
  read_possible : (task : ℕ) → HasNext s.graph task h h s.partitions → IsPossible (job_of lang s) (Read task) at
  read_possible task n =
      let b : HoldsFor lang s h at = stands_at lang s h was at stands in
      let row = at_place (records_at s.partitions n.partition) n.offset n.more in
      let offset_is : (at.tasks task).offset ≡ n.offset = b.offsets task ∙ ap (λ (o : Option (Holding K S)). (held_state {R = R} lang.cmp o).offset) n.at in (
        after (job_of lang s) (Read task) (handled lang.meaning (SourceTask n.partition) (at.tasks task) row.0) at,
        record {
          kind = SourceTask n.partition;
          taken = row.0;
          is_task = tasks-graph_of s.graph s.operators task ∙ ap (option_map (task_of s.operators)) n.is_source;
          takes = (n.partition, refl, ap (λ (o : ℕ). slice_get (records_at s.partitions n.partition) o) offset_is ∙ row.1);
          ends = refl;
        },
      )

  -- an operator or a sink can work a record that stands first in an input
  work_possible : (task input channel : ℕ) → WorksFrom s.graph task input channel → HasHead h channel → IsPossible (job_of lang s) (Work task channel) at
  work_possible task input channel works head =
      let b : HoldsFor lang s h at = stands_at lang s h was at stands in
      let l : LeadsTo s.graph task channel = input_leads s.graph task input channel works.1 in
      let r = role_of (slice_get s.graph.tasks task) works.0 in
      let kind : Task O = task_of s.operators r.0 in (
        after (job_of lang s) (Work task channel) (handled lang.meaning kind (at.tasks task) head.0) at,
        record {
          kind = kind;
          taken = head.0;
          is_task = tasks-graph_of s.graph s.operators task ∙ ap (option_map (task_of s.operators)) r.1;
          takes = (l.channel, has_inputs s.operators r.0 (subst IsWorker r.1 works.0), l.is, l.to, ap (λ (rs : List R). slice_get rs 0) (b.channels channel) ∙ first_of (items_at h.channels channel) head.0 head.1);
          ends = refl;
        },
      )

  step_possible : (task : ℕ) → HasStep s.graph s.partitions h task → (move : Move) × IsPossible (job_of lang s) move at
  step_possible task (inl next) = (Read task, read_possible task next)
  step_possible task (inr input) = (Work task input.1, work_possible task input.0 input.1 input.2 input.3)

-- where a task has a step to make, the plain machine can make a step
pub can_move : {R K S O : Type 0} (lang : Language R K S O) (s : State O R K S) (task : ℕ) → HasStepIn s task → CanMove lang s
can_move {R} {K} {S} lang s task has at stands = of s.held refl has
  where
    of : (o : Option (Held R K S)) → s.held ≡ o → MatchOption o ⊥ (λ h. HasStep s.graph s.partitions h task) → (move : Move) × IsPossible (job_of lang s) move at
    of None none has = absurd has
    of (Some h) some has = step_possible lang s h some at stands task has

-- a source that is read out, and an operator or a sink none of whose inputs has a record, is idle
module _ {R K S O : Type 0} (s : State O R K S) (task : ℕ) where
  idle_in : ((h : Held R K S) → s.held ≡ Some h → IsIdle s.graph s.partitions h task) → s.held ≢ None → IsIdleIn s task
  idle_in each running = of s.held refl
    where
      of : (o : Option (Held R K S)) → s.held ≡ o → MatchOption o ⊥ (λ h. IsIdle s.graph s.partitions h task)
      of None none = absurd (running none)
      of (Some h) some = each h some

  pub idle_inputs : IsWorker (slice_get s.graph.tasks task) → s.held ≢ None → (count : ℕ) → length (inputs_of s.graph task) ≤ count → ((k : ℕ) → k < count → HasNothingIn s task k) → IsIdleIn s task
  idle_inputs worker running count whole each =
      idle_in (λ h was. record {
        source = λ partition offset is at. absurd (subst IsWorker is worker);
        inputs = λ input channel works.
            let within : input < length (inputs_of s.graph task) = slice_get_within (inputs_of s.graph task) input channel works.1 in
            let n = MatchOption-at_some ⊥ (λ x. HasNothing s.graph x task input) h was (each input (omega arith)) in
            subst (λ (c : ℕ). IsBlocked task input h ⊎ NoRecord h c) (same_Some n.0 channel (sym n.1.1 ∙ works.1)) n.2;
      }) running

  -- there is no such task
  pub idle_none : slice_get s.graph.tasks task ≡ None → s.held ≢ None → IsIdleIn s task
  idle_none none running =
      idle_in (λ h was. record {
        source = λ partition offset is at. absurd (none-some (role.Source partition) (sym none ∙ is));
        inputs = λ input channel works. absurd (subst IsWorker none works.0);
      }) running

  -- none of the channels into the task has a record
  pub without_input : (count : ℕ) → length (inputs_of s.graph task) ≤ count → ((k number : ℕ) → k < count → slice_get (inputs_of s.graph task) k ≡ Some number → MatchOption s.held ⊥ (λ h. HasHead h number) → ⊥)
      → MatchOption s.held ⊥ (λ h. HasInput s.graph h task) → ⊥
  without_input count whole none has = of s.held refl has
    where
      of : (o : Option (Held R K S)) → s.held ≡ o → MatchOption o ⊥ (λ h. HasInput s.graph h task) → ⊥
      of None down has = has
      of (Some h) was has =
          let within : has.0 < length (inputs_of s.graph task) = slice_get_within (inputs_of s.graph task) has.0 has.1 has.2.1 in
          none has.0 has.1 (omega (arith, within, whole)) has.2.1 (subst (λ (o : Option (Held R K S)). MatchOption o ⊥ (λ x. HasHead x has.1)) (sym was) has.3)

  -- so it is idle
  pub idle_without : IsWorker (slice_get s.graph.tasks task) → s.held ≢ None → (MatchOption s.held ⊥ (λ h. HasInput s.graph h task) → ⊥) → IsIdleIn s task
  idle_without worker running none =
      idle_in (λ h was. record {
        source = λ partition offset is at. absurd (subst IsWorker is worker);
        inputs = λ input channel works. inr (λ row first. none (subst (λ (o : Option (Held R K S)). MatchOption o ⊥ (λ x. HasInput s.graph x task)) (sym was) (input, channel, works, (row, first))));
      }) running
