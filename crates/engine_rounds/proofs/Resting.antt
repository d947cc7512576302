-- Where no task of a sound engine has a step to make and nothing is pending, the plain machine is at rest.
use Rattle.std.proofs.Common.{◌≡◌, ◌≢◌, ◌≤◌, ◌<◌, inl, inr, false, Option, Some, None, MatchOption, is_some, ℕ, List, [], ◌∷◌, map, slice_get, length, refl, sym, ap, subst, ◌∙◌, arith}
use Rattle.std.specs.Option.{option_map}
use Rattle.std.proofs.lemmas.Bool.{true≢false}
use Rattle.std.proofs.lemmas.Option.{none-some, same_Some, MatchOption-at_some, slice_get_within}
use Rattle.alignment.specs.Table.{is_blocked}
use Rattle.alignment.specs.declared.input.Input.{Input}
use Rattle.alignment.specs.declared.input.Phase.{Phase}
use Rattle.alignment.specs.declared.input.Phase.TheVariants.{AtRest, Aligning, Copied}
use Rattle.channels.specs.declared.item.Item.{Item}
use Rattle.channels.specs.declared.item.Item.TheVariants.{Record, Barrier}
use Rattle.checkpoint_model.specs.Attempt.{records, count_barriers}
use Rattle.checkpoint_model.specs.Engine.{Running, MayRun}
use Rattle.checkpoint_model.specs.Pruned.{pruned_run, pruned_running}
use Rattle.claims.specs.Due.{IsWorker}
use Rattle.dataflow_model.specs.Graph.{Task, SourceTask}
use Rattle.dataflow_model.specs.Machine.{Configuration, Move, Read, Work, HasInputs, IsPossible}
use Rattle.job_graph.specs.Expanded.{inputs_of}
use Rattle.job_graph.specs.PlainGraph.{task_of, operator_task}
use Rattle.job_graph.specs.declared.role.Role.{Role}
use Rattle.job_graph.specs.declared.role.Role.TheVariants as role
use Rattle.job_graph.proofs.PlainTasks.{tasks-graph_of}
use Rattle.job_state.specs.Held.{Held, gate_at}
use Rattle.job_state.specs.Sending.{items_at}
use Rattle.job_state.specs.declared.holding.Holding.{Holding}
use Rattle.source_log.specs.Partitions.{records_at}
use Rattle.engine_model.specs.AllRules.{AllRules}
use Rattle.engine_model.specs.Calls.{IsBlocked}
use Rattle.engine_model.specs.Keeps.{Keeps, Shape, StandsAs}
use Rattle.engine_model.specs.Sound.{IsSound}
use Rattle.engine_model.specs.State.{State}
use Rattle.engine_model.specs.View.{job_of, is_logged_in, devices_of, run_of, running_of, held_state, plain_item}
use Rattle.engine_model.proofs.Calls.Goes.{shape_of}
use Rattle.engine_model.proofs.Shape.Gates.{input_of_channel}
use Rattle.engine_plain.specs.Plain.{StandsFor}
use Rattle.engine_plain.proofs.Stands.{HoldsFor, stands_at}
use Rattle.engine.specs.Readers.{pending_in}
use Rattle.engine_rounds.specs.Idle.{IsIdle, AreIdle}
use Rattle.engine_rounds.specs.Works.{IsResting}

-- what a source is in the plain machine no other task is
source_role : {O : Type 0} (operators : List O) (o : Option Role) (partition : ℕ) → option_map (task_of operators) o ≡ Some (SourceTask partition) → o ≡ Some (role.Source partition)
source_role operators None partition e = absurd (none-some (SourceTask partition) e)
source_role operators (Some (role.Source other)) partition e = let same : other ≡ partition = cc in ap (λ (p : ℕ). Some (role.Source p)) same
source_role {O} operators (Some (role.Operator number)) partition e = absurd (of (slice_get operators number) e)
  where
    of : (o : Option O) → ◌≡◌ {A = Option (Task O)} (Some (operator_task o)) (Some (SourceTask partition)) → ⊥
    of None e = cc
    of (Some operator) e = cc
source_role operators (Some (role.Sink subtask)) partition e = cc

-- a task that takes its records from inputs is an operator or a sink
worker_role : {O : Type 0} (operators : List O) (o : Option Role) (kind : Task O) → option_map (task_of operators) o ≡ Some kind → HasInputs kind → IsWorker o
worker_role operators None kind e has = absurd (none-some kind e)
worker_role operators (Some (role.Source partition)) kind e has = subst HasInputs (sym (same_Some (SourceTask partition) kind e)) has
worker_role operators (Some (role.Operator number)) kind e has = tt
worker_role operators (Some (role.Sink subtask)) kind e has = tt

-- where no record stands first, and no barrier anywhere, nothing stands
empty_of : {R : Type 0} (items : List (Item R)) → ((r : R) → slice_get items 0 ≢ Some (Record r)) → count_barriers (map plain_item items) ≡ 0 → (r : R) → slice_get (records (map plain_item items)) 0 ≡ Some r → ⊥
empty_of [] first none r e = none-some r e
empty_of (Record s ∷ items) first none r e = first s refl
empty_of (Barrier n ∷ items) first none r e = omega (arith, none)

module _ {R K S O : Type 0} (rules : AllRules R K S O) (s : State O R K S) (keeps : Keeps rules s) (sound : IsSound rules s)
    (h : Held R K S) (was : s.held ≡ Some h) (quiet : h.coordination.pending ≡ None) where
  shape : Shape rules s.graph s.operators h
  shape = shape_of rules s keeps h was

  -- no gate waits
  free_as : (task : ℕ) (phase : Phase) (inputs : List Input) → StandsAs s.graph h task phase inputs → (input : ℕ) → is_blocked (record { phase = phase; inputs = inputs }) input ≡ false
  free_as task AtRest inputs stands input = refl
  free_as task (Aligning checkpoint) inputs stands input = absurd (none-some checkpoint (sym quiet ∙ stands.0))
  free_as task (Copied checkpoint) inputs stands input = refl

  free : (task input : ℕ) → task < length s.graph.tasks → ¬ IsBlocked task input h
  free task input within blocked = true≢false (sym blocked ∙ free_as task (gate_at h task).phase (gate_at h task).inputs (shape.gate_fits task within).stands input)

  -- no barrier stands anywhere
  none_stands : (channel : ℕ) → count_barriers (map plain_item (items_at h.channels channel)) ≡ 0
  none_stands channel = of _ sound.tells.running sound.tells.is_pruned sound.tells.sound.runs
    where
      same_run : (run : Running R K S) → pruned_running (Some run) ≡ pruned_running (running_of rules.lang s) → pruned_run run ≡ pruned_run (run_of rules.lang.cmp s.graph h)
      same_run run e = same_Some (pruned_run run) (pruned_run (run_of rules.lang.cmp s.graph h)) (e ∙ ap (λ (o : Option (Held R K S)). pruned_running (option_map (run_of rules.lang.cmp s.graph) o)) was)

      of : (base : Configuration R K S) (o : Option (Running R K S)) → pruned_running o ≡ pruned_running (running_of rules.lang s) → MayRun (job_of rules.lang s) (is_logged_in s) rules.lang.spelling base (devices_of rules.lang s) o → count_barriers (map plain_item (items_at h.channels channel)) ≡ 0
      of base None e runs = absurd (none-some (pruned_run (run_of rules.lang.cmp s.graph h)) (e ∙ ap (λ (o : Option (Held R K S)). pruned_running (option_map (run_of rules.lang.cmp s.graph) o)) was))
      of base (Some run) e runs =
          let same = same_run run e in
          let none : run.attempt.pending ≡ false = ap (λ (x : Running R K S). x.attempt.pending) same ∙ ap (λ (o : Option ℕ). is_some o) quiet in
          ap (λ (x : Running R K S). count_barriers (x.attempt.channels channel)) (sym same) ∙ (runs.consistent.0 none).no_barrier channel

  module _ (idle : AreIdle s) (at : Configuration R K S) (stands : StandsFor rules.lang s at) where
    bare : HoldsFor rules.lang s h at
    bare = stands_at rules.lang s h was at stands

    idle_at : (task : ℕ) → task < length s.graph.tasks → IsIdle s.graph s.partitions h task
    idle_at task within = MatchOption-at_some ⊥ (λ x. IsIdle s.graph s.partitions x task) h was (idle task within)

    none_possible : (move : Move) → IsPossible (job_of rules.lang s) move at → ⊥
    none_possible (Read task) possible =
        let step = possible.1 in
        let partition = step.takes.0 in
        let is = source_role s.operators (slice_get s.graph.tasks task) partition (sym (tasks-graph_of s.graph s.operators task) ∙ step.is_task ∙ ap Some step.takes.1) in
        let held = shape.forms task (role.Source partition) is in
        let offset_is : (at.tasks task).offset ≡ held.0 = bare.offsets task ∙ ap (λ (o : Option (Holding K S)). (held_state {R = R} rules.lang.cmp o).offset) held.1 in
        let end : length (records_at s.partitions partition) ≤ held.0 = (idle_at task (slice_get_within s.graph.tasks task (role.Source partition) is)).source partition held.0 is held.1 in
        let next : (at.tasks task).offset < length (records_at s.partitions partition) = slice_get_within (records_at s.partitions partition) (at.tasks task).offset step.taken step.takes.2 in
        omega (arith, offset_is, end, next)
    none_possible (Work task channel) possible =
        let step = possible.1 in
        let worker = worker_role s.operators (slice_get s.graph.tasks task) step.kind (sym (tasks-graph_of s.graph s.operators task) ∙ step.is_task) step.takes.1 in
        let leads = input_of_channel s.graph channel step.takes.0 step.takes.2 in
        let input = leads.0 in
        let leads_here = subst (λ (t : ℕ). slice_get (inputs_of s.graph t) input ≡ Some channel) step.takes.3 leads.1 in
        let within = within_of (slice_get s.graph.tasks task) refl worker in
        elim ((idle_at task within).inputs input channel (worker, leads_here)) [
          | inl blocked ↦ free task input within blocked
          | inr none ↦ empty_of (items_at h.channels channel) none (none_stands channel) step.taken (ap (λ (rs : List R). slice_get rs 0) (sym (bare.channels channel)) ∙ step.takes.4)
        ]
      where
        within_of : (o : Option Role) → slice_get s.graph.tasks task ≡ o → IsWorker o → task < length s.graph.tasks
        within_of None e w = absurd w
        within_of (Some r) e w = slice_get_within s.graph.tasks task r e

pub rests : {R K S O : Type 0} (rules : AllRules R K S O) (s : State O R K S) → Keeps rules s → IsSound rules s → pending_in s.held ≡ None → AreIdle s → IsResting rules.lang s
rests {R} {K} {S} rules s keeps sound quiet idle at stands move possible = of s.held refl
  where
    of : (o : Option (Held R K S)) → s.held ≡ o → ⊥
    of None none = subst (λ (o : Option (Held R K S)). MatchOption o ⊥ (λ h. HoldsFor rules.lang s h at)) none stands
    of (Some h) some = none_possible rules s keeps sound h some (ap pending_in (sym some) ∙ quiet) idle at stands move possible
