-- An engine that is opened keeps what every engine keeps.
use Rattle.std.proofs.Common.{◌≡◌, Option, Some, None, MatchOption, length, count_by, slice_get, option_map, ℕ, true, List, [], refl, sym, ap, subst, ◌∙◌}
use mathlib.Core.Path.{fun_ext}
use Rattle.checkpoint_model.specs.Durable.{Devices, new_devices}
use Rattle.checkpoint_model.specs.Pruned.{pruned_running, IsPrunedSound}
use Rattle.checkpoint_model.proofs.Pruned.{new_pruned}
use Rattle.commit_sink.specs.Ledger as ledgers
use Rattle.commit_sink.specs.Ledger.{Ledger, IsOrdered}
use Rattle.job_graph.specs.Expanded.{IsExpanded, is_source, is_sink}
use Rattle.job_graph.specs.PlainGraph.{HaveOperators}
use Rattle.job_graph.specs.declared.role.Role.{Role}
use Rattle.job_graph.specs.declared.role.Role.TheVariants as role
use Rattle.job_state.specs.Held.{Held}
use Rattle.snapshot_store.specs.Store as stores
use Rattle.snapshot_store.specs.Store.{Stored, IsNumbered}
use Rattle.engine_model.specs.AllRules.{AllRules}
use Rattle.engine_model.specs.Language.{Language}
use Rattle.engine_model.specs.State.{State}
use Rattle.engine_model.specs.View.{store_of, transactions_at, run_of, job_of, is_logged_in, devices_of}
use Rattle.engine_model.specs.Keeps.{Shape, RunsIn, AllOrNone, Keeps, PartsAreFormed}
use Rattle.engine_model.proofs.Store.Formed.{formed_blank}
use Rattle.engine_model.proofs.Store.Trigger.{store_blank}
use Rattle.engine_model.proofs.Store.Whole.{whole_new}

no_shares : (subtasks : ℕ) (r : Option Role) → transactions_at (ledgers.blank subtasks) r ≡ record { committed = []; pre_committed = []; open_ones = [] }
no_shares subtasks None = refl
no_shares subtasks (Some (role.Source partition)) = refl
no_shares subtasks (Some (role.Operator number)) = refl
no_shares subtasks (Some (role.Sink subtask)) = refl

module _ {R K S O : Type 0} (lang : Language R K S O) (s : State O R K S) where
  -- devices that hold nothing are new ones
  pub new_devices_of : (tasks subtasks : ℕ) → s.stored ≡ stores.blank tasks → s.ledger ≡ ledgers.blank subtasks → devices_of lang s ≡ new_devices
  new_devices_of tasks subtasks stored ledger =
      let store : store_of lang s.stored ≡ (new_devices {R = R} {K = K} {S = S} {B = List ℕ}).store = ap (store_of lang) stored ∙ store_blank lang (List ℕ) tasks in
      let sinks : (λ task. transactions_at s.ledger (slice_get s.graph.tasks task)) ≡ (new_devices {R = R} {K = K} {S = S} {B = List ℕ}).sinks =
      fun_ext (λ task. ap (λ (l : Ledger). transactions_at l (slice_get s.graph.tasks task)) ledger ∙ no_shares subtasks (slice_get s.graph.tasks task)) in
      λ i. record { store = store i; sinks = sinks i }

module _ {R K S O : Type 0} (rules : AllRules R K S O) (s : State O R K S) (expanded : IsExpanded s.graph) (operators : HaveOperators s.graph s.operators) (partitions : length s.partitions ≡ count_by is_source s.graph.tasks)
    (stored_tasks : s.stored.tasks ≡ length s.graph.tasks) (numbered : IsNumbered s.stored) (subtasks : s.ledger.subtasks ≡ count_by is_sink s.graph.tasks) (ordered : IsOrdered s.ledger) (down : s.held ≡ None)
    (new : s.is_fresh ≡ true → (s.stored ≡ stores.blank (length s.graph.tasks)) × (s.ledger ≡ ledgers.blank (count_by is_sink s.graph.tasks))) where
  pub keeps_open : Keeps rules s
  keeps_open = record {
    expanded = expanded;
    operators = operators;
    partitions = partitions;
    stored_tasks = stored_tasks;
    numbered = numbered;
    subtasks = subtasks;
    ordered = ordered;
    shape = subst (λ (o : Option (Held R K S)). MatchOption o (Unit {0}) (Shape rules s.graph s.operators)) (sym down) tt;
    runs = subst (λ (o : Option (Held R K S)). MatchOption o (Unit {0}) (RunsIn rules.lang s)) (sym down) tt;
    fresh = λ fresh.
        let blank = new fresh in
        subst (λ (o : Option (Held R K S)). IsPrunedSound (job_of rules.lang s) (is_logged_in s) rules.lang.spelling (devices_of rules.lang s) (pruned_running (option_map (run_of rules.lang.cmp s.graph) o))) (sym down)
        (subst (λ (d : Devices R K S (List ℕ)). IsPrunedSound (job_of rules.lang s) (is_logged_in s) rules.lang.spelling d None) (sym (new_devices_of rules.lang s (length s.graph.tasks) (count_by is_sink s.graph.tasks) blank.0 blank.1))
        (new_pruned (job_of rules.lang s) rules.lang.spelling (is_logged_in s)));
    whole = λ fresh.
        let blank : store_of rules.lang s.stored ≡ (new_devices {R = R} {K = K} {S = S} {B = List ℕ}).store = ap (store_of rules.lang) (new fresh).0 ∙ store_blank rules.lang (List ℕ) (length s.graph.tasks) in
        subst (AllOrNone (job_of rules.lang s)) (sym blank) (whole_new (List ℕ) (job_of rules.lang s));
    formed = λ fresh. subst (PartsAreFormed rules s.graph) (sym (new fresh).0) (formed_blank rules s.graph (length s.graph.tasks));
  }
