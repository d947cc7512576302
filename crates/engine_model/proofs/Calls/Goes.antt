-- What a call leaves, and how the engine goes there by steps of the model's engine.
use Rattle.std.proofs.Common.{◌≡◌, ◌++◌, MatchOption, Option, Some, None, option_map, slice_get, ℕ, Bool, true, List, [], ◌∷◌, refl, sym, ap, subst, ◌∙◌}
use Rattle.std.proofs.lemmas.Option.{MatchOption-at_some}
use Rattle.checkpoint_model.specs.Engine.{Running}
use Rattle.checkpoint_model.specs.Headline.{Engine, RunningStep, Runs}
use Rattle.checkpoint_model.specs.Pruned.{pruned_run, pruned_running, IsPrunedSound, PrunedFails, PrunedLeads}
use Rattle.checkpoint_model.specs.PrunedLaws.{pruned_engine, OnlySinksName}
use Rattle.checkpoint_model.proofs.Pruned.{pruned_sound}
use Rattle.checkpoint_model.proofs.PrunedSteps.{engine_steps_pruned}
use Rattle.commit_sink.specs.Ledger.{Ledger, IsOrdered}
use Rattle.dataflow_model.specs.Graph.{Job, SinkTask}
use Rattle.job_graph.specs.PlainGraph.{task_of}
use Rattle.job_graph.specs.declared.role.Role.{Role}
use Rattle.job_graph.specs.declared.role.Role.TheVariants as role
use Rattle.job_graph.proofs.PlainTasks.{tasks-graph_of, receiver-graph_of}
use Rattle.job_state.specs.Held.{Held, copy_at}
use Rattle.snapshot_store.specs.Store.{Stored, IsNumbered}
use Rattle.task_part.specs.declared.part.Part.{Part}
use Rattle.engine_model.specs.AllRules.{AllRules}
use Rattle.engine_model.specs.Language.{Language}
use Rattle.engine_model.specs.State.{State}
use Rattle.engine_model.specs.View.{named_by, run_of, job_of, is_logged_in, devices_of, running_of, engine_of}
use Rattle.engine_model.specs.Keeps.{Shape, RunsIn, Keeps, PartsAreFormed}
use Rattle.engine_model.specs.Goes.{Goes}
use Rattle.engine_model.proofs.Store.Whole.{steps_whole}

-- ---- lists of steps

module _ {R K S O B : Type 0} (job : Job R K S O) (is_logged : ℕ → Bool) (spell : R → B) where
  -- one list of steps, and then another
  pub leads_on : (engines more : List (Engine R K S B)) (old middle new : Engine R K S B) → PrunedLeads job is_logged spell old engines middle → PrunedLeads job is_logged spell middle more new
      → PrunedLeads job is_logged spell old (engines ++ more) new
  leads_on [] more old middle new first then = subst (λ (e : Engine R K S B). PrunedLeads job is_logged spell e more new) first then
  leads_on (next ∷ engines) more old middle new first then = (first.0, leads_on engines more next middle new first.1 then)

-- ---- an engine's data

-- what a call leaves
abbrev pub after : {R K S O : Type 0} → State O R K S → Option (Held R K S) → Stored → Ledger → ℕ → State O R K S
after s held stored ledger n = record s { held = held; stored = stored; ledger = ledger; faults = n }

module _ {R K S O : Type 0} (lang : Language R K S O) where
  -- only sinks name transactions
  names_of_others : (operators : List O) (r : Option Role) (copy : Option (Part R K S)) → (option_map (task_of operators) r ≡ Some SinkTask → ⊥) → named_by r copy ≡ []
  names_of_others operators None copy no_sink = refl
  names_of_others operators (Some (role.Source partition)) copy no_sink = refl
  names_of_others operators (Some (role.Operator number)) copy no_sink = refl
  names_of_others operators (Some (role.Sink subtask)) copy no_sink = absurd (no_sink refl)

  pub only_sinks_name : (s : State O R K S) (h : Held R K S) → OnlySinksName (job_of lang s) (run_of lang.cmp s.graph h)
  only_sinks_name s h task no_sink = names_of_others s.operators (slice_get s.graph.tasks task) (copy_at h task) (λ e. no_sink (tasks-graph_of s.graph s.operators task ∙ e))

  module _ (s : State O R K S) where
    -- nothing of the engine changed
    pub goes_nowhere : (new : State O R K S) → engine_of lang new ≡ engine_of lang s → Goes lang s new
    goes_nowhere new same = ([], ap pruned_engine same)

    -- the job goes down
    pub goes_down : (stored : Stored) (ledger : Ledger) (n : ℕ) → stored ≡ s.stored → ledger ≡ s.ledger → Goes lang s (after s None stored ledger n)
    goes_down stored ledger n same_stored same_ledger = (
      pruned_engine (engine_of lang (after s None stored ledger n)) ∷ [],
      (PrunedFails refl (λ i. devices_of lang (record s { stored = same_stored i; ledger = same_ledger i })), refl),
    )

    -- a step of the running engine
    pub goes_by : (h k : Held R K S) (stored : Stored) (ledger : Ledger) (n : ℕ) (next : Running R K S) → s.held ≡ Some h → pruned_run next ≡ pruned_run (run_of lang.cmp s.graph k)
        → RunningStep (job_of lang s) (is_logged_in s) lang.spelling (devices_of lang s) (devices_of lang (after s (Some k) stored ledger n)) (run_of lang.cmp s.graph h) next
        → Goes lang s (after s (Some k) stored ledger n)
    goes_by h k stored ledger n next was ends step =
        let to : Engine R K S (List ℕ) = record { devices = devices_of lang (after s (Some k) stored ledger n); running = Some next } in
        let runs : running_of lang s ≡ Some (run_of lang.cmp s.graph h) = ap (option_map (run_of lang.cmp s.graph)) was in
        let only : (run : Running R K S) → running_of lang s ≡ Some run → OnlySinksName (job_of lang s) run =
        λ run is. subst (λ (r : Option (Running R K S)). MatchOption r (Unit {0}) (OnlySinksName (job_of lang s))) (sym runs ∙ is) (only_sinks_name s h) in (
          pruned_engine to ∷ [],
          (
            engine_steps_pruned (job_of lang s) lang.spelling (is_logged_in s) (engine_of lang s) to only (Runs (run_of lang.cmp s.graph h) next runs refl step),
            λ i. record { devices = to.devices; running = Some (ends' i) },
          ),
        )
      where
        ends' : pruned_run (run_of lang.cmp s.graph k) ≡ pruned_run next
        ends' = sym ends

  -- by one list of steps, and then by another
  pub goes_on : (s : State O R K S) (held : Option (Held R K S)) (stored : Stored) (ledger : Ledger) (n : ℕ) (new : State O R K S) → Goes lang s (after s held stored ledger n) → Goes lang (after s held stored ledger n) new
      → Goes lang s new
  goes_on s held stored ledger n new first then = (
    first.0 ++ then.0,
    leads_on (job_of lang s) (is_logged_in s) lang.spelling first.0 then.0 (pruned_engine (engine_of lang s)) (pruned_engine (engine_of lang (after s held stored ledger n))) (pruned_engine (engine_of lang new)) first.1 then.1,
  )

  -- what a running job keeps is not of the devices' faults
  pub runs_same : (s new : State O R K S) (h : Held R K S) → new.graph ≡ s.graph → new.stored ≡ s.stored → new.ledger ≡ s.ledger → RunsIn lang s h → RunsIn lang new h
  runs_same s new h graph stored ledger runs = record {
    pending = rw (graph, stored) (runs.pending);
    last_complete = rw stored (runs.last_complete);
    sinks = rw (graph, ledger) (runs.sinks);
    checkpoints = rw stored (runs.checkpoints);
    copied_last = rw stored (runs.copied_last);
    last_pending = runs.last_pending;
  }

  pub goes_then_down : (s : State O R K S) (held : Option (Held R K S)) (stored : Stored) (ledger : Ledger) (n : ℕ) → Goes lang s (after s held stored ledger n) → Goes lang s (after s None stored ledger n)
  goes_then_down s held stored ledger n first = goes_on s held stored ledger n (after s None stored ledger n) first (goes_down (after s held stored ledger n) stored ledger n refl refl)

-- ---- what a call ends in

module _ {R K S O : Type 0} (rules : AllRules R K S O) where
  module _ (s : State O R K S) (keeps : Keeps rules s) (held : Option (Held R K S)) (stored : Stored) (ledger : Ledger) (n : ℕ) where
    -- a fresh engine stays sound
    pub goes_keeps_fresh : Goes rules.lang s (after s held stored ledger n) → s.is_fresh ≡ true
        → IsPrunedSound (job_of rules.lang s) (is_logged_in s) rules.lang.spelling (devices_of rules.lang (after s held stored ledger n)) (pruned_running (running_of rules.lang (after s held stored ledger n)))
    goes_keeps_fresh goes fresh =
        pruned_sound (job_of rules.lang s) rules.lang.spelling (is_logged_in s) goes.0 (pruned_engine (engine_of rules.lang s)) (pruned_engine (engine_of rules.lang (after s held stored ledger n)))
        (receiver-graph_of s.graph s.operators keeps.expanded) goes.1 (keeps.fresh fresh)

    -- what an engine keeps, by its steps and what the devices and the job keep
    pub goes_keeps : stored.tasks ≡ s.stored.tasks → IsNumbered stored → (s.is_fresh ≡ true → PartsAreFormed rules s.graph stored) → ledger.subtasks ≡ s.ledger.subtasks → IsOrdered ledger
        → MatchOption held (Unit {0}) (Shape rules s.graph s.operators) → MatchOption held (Unit {0}) (RunsIn rules.lang (after s held stored ledger n)) → Goes rules.lang s (after s held stored ledger n)
        → Keeps rules (after s held stored ledger n) × Goes rules.lang s (after s held stored ledger n)
    goes_keeps tasks numbered formed subtasks ordered shape runs goes = (
      record {
        expanded = keeps.expanded;
        operators = keeps.operators;
        partitions = keeps.partitions;
        stored_tasks = tasks ∙ keeps.stored_tasks;
        numbered = numbered;
        subtasks = subtasks ∙ keeps.subtasks;
        ordered = ordered;
        shape = shape;
        runs = runs;
        fresh = goes_keeps_fresh goes;
        whole = λ fresh.
            steps_whole (job_of rules.lang s) (is_logged_in s) rules.lang.spelling goes.0 (pruned_engine (engine_of rules.lang s)) (pruned_engine (engine_of rules.lang (after s held stored ledger n)))
            (receiver-graph_of s.graph s.operators keeps.expanded) goes.1 (keeps.fresh fresh) (keeps.whole fresh);
        formed = formed;
      },
      goes,
    )

  -- what every call is to show
  abbrev pub KeepsAndGoes : State O R K S → State O R K S → Type 0
  KeepsAndGoes s new = Keeps rules new × Goes rules.lang s new

  module _ (s : State O R K S) (keeps : Keeps rules s) where
    pub shape_of : (h : Held R K S) → s.held ≡ Some h → Shape rules s.graph s.operators h
    shape_of h was = MatchOption-at_some (Unit {0}) (Shape rules s.graph s.operators) h was keeps.shape

    pub runs_of : (h : Held R K S) → s.held ≡ Some h → RunsIn rules.lang s h
    runs_of h was = MatchOption-at_some (Unit {0}) (RunsIn rules.lang s) h was keeps.runs

    -- a call that is refused
    pub keeps_refused : (h k : Held R K S) (stored : Stored) (ledger : Ledger) (n : ℕ) → s.held ≡ Some h → k ≡ h → stored ≡ s.stored → ledger ≡ s.ledger → KeepsAndGoes s (after s (Some k) stored ledger n)
    keeps_refused h k stored ledger n was same same_stored same_ledger =
        let is : Some k ≡ s.held = ap (λ (x : Held R K S). Some x) same ∙ sym was in
        goes_keeps s keeps (Some k) stored ledger n (ap (λ (x : Stored). x.tasks) same_stored) (subst IsNumbered (sym same_stored) keeps.numbered)
        (λ fresh. subst (PartsAreFormed rules s.graph) (sym same_stored) (keeps.formed fresh))
        (ap (λ (x : Ledger). x.subtasks) same_ledger) (subst IsOrdered (sym same_ledger) keeps.ordered)
        (subst (Shape rules s.graph s.operators) (sym same) (shape_of h was))
        (runs_same rules.lang s (after s (Some k) stored ledger n) k refl same_stored same_ledger (subst (RunsIn rules.lang s) (sym same) (runs_of h was)))
        (goes_nowhere rules.lang s (after s (Some k) stored ledger n) (λ i. engine_of rules.lang (record s { held = is i; stored = same_stored i; ledger = same_ledger i })))

    -- a call that took the job down
    pub keeps_down : (stored : Stored) (ledger : Ledger) (n : ℕ) → stored.tasks ≡ s.stored.tasks → IsNumbered stored → (s.is_fresh ≡ true → PartsAreFormed rules s.graph stored) → ledger.subtasks ≡ s.ledger.subtasks → IsOrdered ledger → Goes rules.lang s (after s None stored ledger n)
        → KeepsAndGoes s (after s None stored ledger n)
    keeps_down stored ledger n tasks numbered formed subtasks ordered goes = goes_keeps s keeps None stored ledger n tasks numbered formed subtasks ordered tt tt goes
