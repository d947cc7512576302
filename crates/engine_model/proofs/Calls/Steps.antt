-- What a call that leaves the store leaves of an engine, and the steps of the model's engine that it makes.
use Rattle.std.proofs.Common.{◌≡◌, Option, Some, None, MatchOption, ℕ, List, [], ◌∷◌, refl, sym, ap, subst, ◌∙◌}
use Rattle.std.specs.Option.{option_map}
use Rattle.std.proofs.lemmas.Option.{same_Some}
use Rattle.checkpoint_model.specs.Durable.{Devices, Call, Does}
use Rattle.checkpoint_model.specs.Engine.{Running}
use Rattle.checkpoint_model.specs.Headline.{Engine, RunningStep, Runs}
use Rattle.checkpoint_model.specs.Pruned.{pruned_run, PrunedStep, PrunedFails, PrunedCalls}
use Rattle.checkpoint_model.specs.PrunedLaws.{OnlySinksName, pruned_engine}
use Rattle.checkpoint_model.proofs.PrunedSteps.{engine_steps_pruned}
use Rattle.commit_sink.specs.Ledger.{Ledger, IsOrdered}
use Rattle.job_state.specs.Held.{Held}
use Rattle.engine_model.specs.AllRules.{AllRules}
use Rattle.engine_model.specs.Goes.{Goes}
use Rattle.engine_model.specs.Keeps.{Keeps, Shape, RunsIn}
use Rattle.engine_model.specs.Language.{Language}
use Rattle.engine_model.specs.State.{State}
use Rattle.engine_model.specs.View.{run_of, job_of, is_logged_in, devices_of, running_of, engine_of}
use Rattle.engine_model.proofs.Calls.Goes as calls
use Rattle.engine_model.proofs.Calls.Goes.{KeepsAndGoes, only_sinks_name, goes_down, keeps_refused}

module _ {R K S O : Type 0} (lang : Language R K S O) (s : State O R K S) where
  -- the engine with another ledger, and with this held, after so many failures
  abbrev pub after : Ledger → Option (Held R K S) → ℕ → State O R K S
  after ledger held n = record s { ledger = ledger; held = held; faults = n }

  -- a run that names what the job names
  only_sinks : (h : Held R K S) (run : Running R K S) → run.named ≡ (run_of lang.cmp s.graph h).named → OnlySinksName (job_of lang s) run
  only_sinks h run same task not_sink = ap (λ (f : ℕ → List ℕ). f task) same ∙ only_sinks_name lang s h task not_sink

  -- a step from devices to devices
  abbrev pub Steps : Devices R K S (List ℕ) → Devices R K S (List ℕ) → Running R K S → Running R K S → Type 0
  Steps old new from to = RunningStep (job_of lang s) (is_logged_in s) lang.spelling old new from to

  abbrev pub HeldSteps : Engine R K S (List ℕ) → Engine R K S (List ℕ) → Type 0
  HeldSteps old new = PrunedStep (job_of lang s) (is_logged_in s) lang.spelling old new

  abbrev pub up : Devices R K S (List ℕ) → Running R K S → Engine R K S (List ℕ)
  up devices run = record { devices = devices; running = Some run }

  abbrev pub down : Devices R K S (List ℕ) → Engine R K S (List ℕ)
  down devices = record { devices = devices; running = None }

  -- a step of an engine that runs
  step_held : (h : Held R K S) (old : Engine R K S (List ℕ)) (run next : Running R K S) (new : Devices R K S (List ℕ)) → old.running ≡ Some run → run.named ≡ (run_of lang.cmp s.graph h).named → Steps old.devices new run next
      → HeldSteps (pruned_engine old) (pruned_engine (up new next))
  step_held h old run next new was names step =
      engine_steps_pruned (job_of lang s) lang.spelling (is_logged_in s) old (up new next)
      (λ other is. subst (OnlySinksName (job_of lang s)) (same_Some run other (sym was ∙ is)) (only_sinks h run names))
      (Runs run next was refl step)

  module _ (h : Held R K S) (is : s.held ≡ Some h) where
    was_running : running_of lang s ≡ Some (run_of lang.cmp s.graph h)
    was_running = ap (option_map (run_of lang.cmp s.graph)) is

    -- one step
    pub goes_one : (ledger : Ledger) (k : Held R K S) (n : ℕ) (next : Running R K S) → Steps (devices_of lang s) (devices_of lang (after ledger (Some k) n)) (run_of lang.cmp s.graph h) next
        → pruned_run next ≡ pruned_run (run_of lang.cmp s.graph k) → Goes lang s (after ledger (Some k) n)
    goes_one ledger k n next step same =
        let new : Devices R K S (List ℕ) = devices_of lang (after ledger (Some k) n) in
        (pruned_engine (up new next) ∷ [], (step_held h (engine_of lang s) (run_of lang.cmp s.graph h) next new was_running refl step, ap (λ r. up new r) (sym same)))

    -- a step that leaves the devices, and another
    pub goes_two : (ledger : Ledger) (k : Held R K S) (n : ℕ) (middle : Running R K S) → middle.named ≡ (run_of lang.cmp s.graph h).named
        → Steps (devices_of lang s) (devices_of lang s) (run_of lang.cmp s.graph h) middle
        → Steps (devices_of lang s) (devices_of lang (after ledger (Some k) n)) middle (run_of lang.cmp s.graph k) → Goes lang s (after ledger (Some k) n)
    goes_two ledger k n middle names first second =
        let new : Devices R K S (List ℕ) = devices_of lang (after ledger (Some k) n) in
        let between : Engine R K S (List ℕ) = up (devices_of lang s) middle in
        let to : Running R K S = run_of lang.cmp s.graph k in (
          pruned_engine between ∷ pruned_engine (up new to) ∷ [],
          (step_held h (engine_of lang s) (run_of lang.cmp s.graph h) middle (devices_of lang s) was_running refl first, (step_held h between middle to new refl names second, refl)),
        )

  -- a device failed, and had done its work
  pub goes_down_once : (ledger : Ledger) (n : ℕ) (call : Call R K S (List ℕ)) → Does call (devices_of lang s) (devices_of lang (after ledger None n)) → Goes lang s (after ledger None n)
  goes_down_once ledger n call does =
      let new : Devices R K S (List ℕ) = devices_of lang (after ledger None n) in
      (down (devices_of lang s) ∷ down new ∷ [], (PrunedFails refl refl, (PrunedCalls call refl refl does, refl)))

  -- two calls of it
  pub goes_down_twice : (between ledger : Ledger) (n : ℕ) (first second : Call R K S (List ℕ)) → Does first (devices_of lang s) (devices_of lang (after between None n)) → Does second (devices_of lang (after between None n)) (devices_of lang (after ledger None n))
      → Goes lang s (after ledger None n)
  goes_down_twice between ledger n first second one two =
      let middle : Devices R K S (List ℕ) = devices_of lang (after between None n) in
      let new : Devices R K S (List ℕ) = devices_of lang (after ledger None n) in
      (down (devices_of lang s) ∷ down middle ∷ down new ∷ [], (PrunedFails refl refl, (PrunedCalls first refl refl one, (PrunedCalls second refl refl two, refl))))

module _ {R K S O : Type 0} (rules : AllRules R K S O) (s : State O R K S) (keeps : Keeps rules s) where
  -- the steps keep what every engine keeps, where the store stays
  pub goes_keeps : (ledger : Ledger) (held : Option (Held R K S)) (n : ℕ) → ledger.subtasks ≡ s.ledger.subtasks → IsOrdered ledger
      → MatchOption held (Unit {0}) (Shape rules s.graph s.operators) → MatchOption held (Unit {0}) (RunsIn rules.lang (after rules.lang s ledger held n))
      → Goes rules.lang s (after rules.lang s ledger held n) → KeepsAndGoes rules s (after rules.lang s ledger held n)
  goes_keeps ledger held n subtasks ordered shape runs goes = calls.goes_keeps rules s keeps held s.stored ledger n refl keeps.numbered keeps.formed subtasks ordered shape runs goes

  -- a device failed, and the job is down
  pub keeps_down : (n : ℕ) → KeepsAndGoes rules s (after rules.lang s s.ledger None n)
  keeps_down n = calls.keeps_down rules s keeps s.stored s.ledger n refl keeps.numbered keeps.formed refl keeps.ordered (goes_down rules.lang s s.stored s.ledger n refl refl)

  -- nothing changed
  pub keeps_still : (h : Held R K S) → s.held ≡ Some h → (k : Held R K S) (n : ℕ) → k ≡ h → KeepsAndGoes rules s (after rules.lang s s.ledger (Some k) n)
  keeps_still h is k n same = keeps_refused rules s keeps h k s.stored s.ledger n is same refl refl
