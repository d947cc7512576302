-- A sound engine keeps what a fresh one keeps.
use Rattle.std.proofs.Common.{◌≡◌, MatchOption, Option, Some, None, ℕ, List, false, true, refl, sym, subst}
use Rattle.std.specs.Option.{option_map}
use Rattle.checkpoint_model.specs.Pruned.{pruned_running, IsPrunedSound}
use Rattle.checkpoint_model.specs.PrunedLaws.{pruned_engine}
use Rattle.checkpoint_model.proofs.Pruned.{pruned_growth}
use Rattle.commit_sink.specs.Ledger.{Ledger}
use Rattle.job_graph.specs.Expanded.{Expanded}
use Rattle.job_state.specs.Held.{Held}
use Rattle.engine_model.specs.AllRules.{AllRules}
use Rattle.engine_model.specs.Keeps.{Keeps, RunsIn}
use Rattle.engine_model.specs.Sound.{IsSound, AreLegal, HaveGrown}
use Rattle.engine_model.specs.State.{State}
use Rattle.engine_model.specs.View.{run_of, job_of, is_logged_in, devices_of, engine_of}
use Rattle.snapshot_store.specs.Store.{Stored}
use Rattle.source_log.specs.Partitions.{records_at}

module _ {R K S O : Type 0} (rules : AllRules R K S O) (s : State O R K S) where
  -- an engine that is down is sound exactly where its devices are legal
  pub down_is_sound : s.held ≡ None → AreLegal rules s.graph s.operators s.partitions s.stored s.ledger → IsSound rules s
  down_is_sound down legal = record {
    tells = subst (λ (o : Option (Held R K S)). IsPrunedSound (job_of rules.lang s) (is_logged_in s) rules.lang.spelling (devices_of rules.lang s) (pruned_running (option_map (run_of rules.lang.cmp s.graph) o))) (sym down) legal.tells;
    whole = legal.whole;
    formed = legal.formed;
  }

  pub sound_is_legal : IsSound rules (record s { held = None }) → AreLegal rules s.graph s.operators s.partitions s.stored s.ledger
  sound_is_legal sound = record { tells = sound.tells; whole = sound.whole; formed = sound.formed }

-- legal devices stay legal over partitions that have grown
pub grown_is_legal : {R K S O : Type 0} (rules : AllRules R K S O) (graph : Expanded) (operators : List O) (former partitions : List (List R)) (stored : Stored) (ledger : Ledger)
    → HaveGrown former partitions → AreLegal rules graph operators former stored ledger → AreLegal rules graph operators partitions stored ledger
grown_is_legal {R} {K} {S} {O} rules graph operators former partitions stored ledger grown legal =
    let s : State O R K S = record { graph = graph; operators = operators; partitions = former; stored = stored; ledger = ledger; held = None; is_fresh = false; faults = 0; attempts = 0 } in
    record {
      tells = pruned_growth (job_of rules.lang s) rules.lang.spelling (is_logged_in s) (λ p. records_at partitions p) (pruned_engine (engine_of rules.lang s)) grown legal.tells;
      whole = legal.whole;
      formed = legal.formed;
    }

module _ {R K S O : Type 0} (rules : AllRules R K S O) (s : State O R K S) where
  abbrev pub as_fresh : State O R K S
  as_fresh = record s { is_fresh = true }

  -- a job that runs says nothing of whether its devices were new
  runs_on : (o : Option (Held R K S)) → MatchOption o (Unit {0}) (RunsIn rules.lang s) → MatchOption o (Unit {0}) (RunsIn rules.lang as_fresh)
  runs_on None runs = tt
  runs_on (Some h) runs = record {
    pending = runs.pending;
    last_complete = runs.last_complete;
    sinks = runs.sinks;
    checkpoints = runs.checkpoints;
    copied_last = runs.copied_last;
    last_pending = runs.last_pending;
  }

  pub keeps_as_fresh : Keeps rules s → IsSound rules s → Keeps rules as_fresh
  keeps_as_fresh keeps sound = record {
    expanded = keeps.expanded;
    operators = keeps.operators;
    partitions = keeps.partitions;
    stored_tasks = keeps.stored_tasks;
    numbered = keeps.numbered;
    subtasks = keeps.subtasks;
    ordered = keeps.ordered;
    shape = keeps.shape;
    runs = runs_on s.held keeps.runs;
    fresh = λ fresh. sound.tells;
    whole = λ fresh. sound.whole;
    formed = λ fresh. sound.formed;
  }

  pub sound_as_fresh : Keeps rules as_fresh → IsSound rules s
  sound_as_fresh keeps = record { tells = keeps.fresh refl; whole = keeps.whole refl; formed = keeps.formed refl }

  -- a fresh engine is sound
  pub fresh_is_sound : Keeps rules s → s.is_fresh ≡ true → IsSound rules s
  fresh_is_sound keeps fresh = record { tells = keeps.fresh fresh; whole = keeps.whole fresh; formed = keeps.formed fresh }

  -- attempts are of no account for what an engine keeps
  module _ (n : ℕ) where
    abbrev counted : State O R K S
    counted = record s { attempts = n }

    runs_counted : (o : Option (Held R K S)) → MatchOption o (Unit {0}) (RunsIn rules.lang s) → MatchOption o (Unit {0}) (RunsIn rules.lang counted)
    runs_counted None runs = tt
    runs_counted (Some h) runs = record {
      pending = runs.pending;
      last_complete = runs.last_complete;
      sinks = runs.sinks;
      checkpoints = runs.checkpoints;
      copied_last = runs.copied_last;
      last_pending = runs.last_pending;
    }

    pub keeps_counted : Keeps rules s → Keeps rules counted
    keeps_counted keeps = record {
      expanded = keeps.expanded;
      operators = keeps.operators;
      partitions = keeps.partitions;
      stored_tasks = keeps.stored_tasks;
      numbered = keeps.numbered;
      subtasks = keeps.subtasks;
      ordered = keeps.ordered;
      shape = keeps.shape;
      runs = runs_counted s.held keeps.runs;
      fresh = keeps.fresh;
      whole = keeps.whole;
      formed = keeps.formed;
    }
