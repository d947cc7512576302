-- What an engine that keeps what every engine keeps has committed, if it is fresh.
use Rattle.std.proofs.Common.{◌≡◌, ◌++◌, Option, Some, option_map, slice_get, length, map, ℕ, true, List, sym, ap, subst, ◌∙◌}
use Rattle.checkpoint_model.specs.Durable.{IsSink, joined}
use Rattle.checkpoint_model.specs.Headline.{IsExactlyOnce}
use Rattle.checkpoint_model.specs.Pruned.{pruned_run, pruned_running, IsPrunedSound}
use Rattle.checkpoint_model.specs.PrunedLaws.{pruned_engine, IsBare}
use Rattle.checkpoint_model.proofs.Pruned.{pruned_exact, pruned_withdraws}
use Rattle.checkpoint_model.proofs.PrunedReached.{sound_reached, pruned_sinks_commit}
use Rattle.commit_sink.specs.Ledger.{Ledger, IsOrdered, committed_rows}
use Rattle.dataflow_model.specs.Graph.{Begins}
use Rattle.dataflow_model.specs.Machine.{Configuration, Move, Reaches, start}
use Rattle.job_graph.specs.Expanded.{Expanded}
use Rattle.job_graph.specs.PlainGraph.{task_of}
use Rattle.job_graph.specs.declared.role.Role.{Role}
use Rattle.job_graph.specs.declared.role.Role.TheVariants as role
use Rattle.job_graph.proofs.PlainTasks.{tasks-graph_of}
use Rattle.job_state.specs.Held.{Held}
use Rattle.engine_model.specs.AllRules.{AllRules}
use Rattle.engine_model.specs.ExactlyOnce as rows
use Rattle.engine_model.specs.Language.{Language}
use Rattle.engine_model.specs.LastCommitted.{committed_of}
use Rattle.engine_model.specs.State.{State}
use Rattle.engine_model.specs.View.{run_of, transactions_at, job_of, is_logged_in, devices_of, engine_of}
use Rattle.engine_model.specs.Keeps.{Keeps}
use Rattle.engine_model.specs.Goes.{Goes}
use Rattle.engine_model.proofs.Ledger.Rows.{rows_in, count_in}

module _ {R K S O : Type 0} (lang : Language R K S O) where
  -- what a sink has committed, as its rows
  pub rows_at : (graph : Expanded) (l : Ledger) (task subtask : ℕ) → slice_get graph.tasks task ≡ Some (role.Sink subtask) → IsOrdered l → joined (transactions_at l (slice_get graph.tasks task)).committed ≡ committed_rows l subtask
  rows_at graph l task subtask is ordered = ap (λ (r : Option Role). joined (transactions_at l r).committed) is ∙ rows_in l subtask ordered

  -- and in how many transactions
  count_at : (graph : Expanded) (l : Ledger) (task subtask : ℕ) → slice_get graph.tasks task ≡ Some (role.Sink subtask) → IsOrdered l → length (transactions_at l (slice_get graph.tasks task)).committed ≡ length (committed_of l subtask)
  count_at graph l task subtask is ordered = ap (λ (r : Option Role). length (transactions_at l r).committed) is ∙ count_in l subtask ordered

  pub is_sink_of : (s : State O R K S) (task subtask : ℕ) → slice_get s.graph.tasks task ≡ Some (role.Sink subtask) → IsSink (job_of lang s) task
  is_sink_of s task subtask is = tasks-graph_of s.graph s.operators task ∙ ap (option_map (task_of s.operators)) is

  -- no steps withdraw a committed row
  pub goes_withdraws : (s new : State O R K S) (task subtask : ℕ) → new.graph ≡ s.graph → slice_get s.graph.tasks task ≡ Some (role.Sink subtask) → IsOrdered s.ledger → IsOrdered new.ledger → Goes lang s new
      → Begins (committed_rows s.ledger subtask) (committed_rows new.ledger subtask)
  goes_withdraws s new task subtask same is old_ordered new_ordered goes =
      let begins = pruned_withdraws (job_of lang s) lang.spelling (is_logged_in s) goes.0 (pruned_engine (engine_of lang s)) (pruned_engine (engine_of lang new)) goes.1 task in
      let was = rows_at s.graph s.ledger task subtask is old_ordered in
      let now = rows_at new.graph new.ledger task subtask (ap (λ (g : Expanded). slice_get g.tasks task) same ∙ is) new_ordered in
      (begins.0, sym now ∙ begins.1 ∙ ap (λ (l : List (List ℕ)). l ++ begins.0) was)

module _ {R K S O : Type 0} (rules : AllRules R K S O) (s : State O R K S) (keeps : Keeps rules s) (fresh : s.is_fresh ≡ true) where
  -- one plain run has a moment for each complete checkpoint, and each sink has committed its output at such a moment
  pub keeps_exact : IsExactlyOnce (job_of rules.lang s) rules.lang.spelling (devices_of rules.lang s)
  keeps_exact = pruned_exact (job_of rules.lang s) rules.lang.spelling (is_logged_in s) (pruned_engine (engine_of rules.lang s)) (keeps.fresh fresh)

  -- so of the rows that it has committed
  pub keeps_rows_exact : rows.IsExactlyOnce rules.lang s
  keeps_rows_exact =
      let e = keeps_exact in
      record {
        moves = e.moves;
        moments = e.moments;
        is_run = e.is_run;
        one_each = e.one_each;
        in_order = e.in_order;
        in_run = e.in_run;
        cuts = e.cuts;
        exactly = λ task subtask j is many.
            let x = e.exactly task j (is_sink_of rules.lang s task subtask is) (count_at rules.lang s.graph s.ledger task subtask is keeps.ordered ∙ many) in
            (x.0, x.1, x.2, x.3, x.4 ∙ rows_at rules.lang s.graph s.ledger task subtask is keeps.ordered);
      }

  -- each sink has committed its output after some moves of the plain machine
  pub keeps_output : (task subtask : ℕ) → slice_get s.graph.tasks task ≡ Some (role.Sink subtask)
      → (moves : List Move) × (at : Configuration R K S) × Reaches (job_of rules.lang s) moves start at × (map rules.lang.spelling (at.tasks task).output ≡ committed_rows s.ledger subtask)
  keeps_output task subtask is =
      let c = pruned_sinks_commit (job_of rules.lang s) rules.lang.spelling (is_logged_in s) (pruned_engine (engine_of rules.lang s)) task (is_sink_of rules.lang s task subtask is) (keeps.fresh fresh) in
      (c.moves, c.at, c.reached, c.output ∙ rows_at rules.lang s.graph s.ledger task subtask is keeps.ordered)

  -- a running engine stands for a configuration that the plain machine reaches
  pub keeps_bare : (h : Held R K S) → s.held ≡ Some h → (moves : List Move) × (at : Configuration R K S) × Reaches (job_of rules.lang s) moves start at × IsBare (job_of rules.lang s) rules.lang.spelling (devices_of rules.lang s) (pruned_run (run_of rules.lang.cmp s.graph h)) at
  keeps_bare h was =
      sound_reached (job_of rules.lang s) rules.lang.spelling (is_logged_in s) (devices_of rules.lang s) (pruned_run (run_of rules.lang.cmp s.graph h))
      (subst (λ (o : Option (Held R K S)). IsPrunedSound (job_of rules.lang s) (is_logged_in s) rules.lang.spelling (devices_of rules.lang s) (pruned_running (option_map (run_of rules.lang.cmp s.graph) o))) was (keeps.fresh fresh))
