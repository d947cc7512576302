-- A fresh engine goes on from the cut of its last complete checkpoint.
use Rattle.std.proofs.Common.{◌≡◌, Option, Some, None, Ok, slice_get, ℕ, true, [], refl, sym, ◌∙◌}
use Rattle.checkpoint_model.specs.Cuts.{IsReachedStart}
use Rattle.commit_sink.specs.Ledger.{Ledger}
use Rattle.commit_sink.specs.Sink.{Sinking}
use Rattle.job_graph.specs.declared.role.Role.TheVariants as role
use Rattle.job_state.specs.Held.{Held}
use Rattle.job_state.specs.declared.holding.Holding.TheVariants as holds
use Rattle.engine_model.specs.AllRules.{AllRules}
use Rattle.engine_model.specs.Keeps.{Keeps}
use Rattle.engine_model.specs.Restart.{EndsRestart}
use Rattle.engine_model.specs.RestartLaws.{restarted, GoesOnFromCut}
use Rattle.engine_model.specs.State.{State}
use Rattle.engine_model.specs.View.{job_of}
use Rattle.engine_model.proofs.Calls.Exact.{rows_at, is_sink_of}
use Rattle.engine_model.proofs.Calls.Goes.{shape_of}
use Rattle.engine_model.proofs.Calls.Lasts.{committed_all}
use Rattle.engine_model.proofs.Calls.Restarts.{keeps_restart}
use Rattle.engine_model.proofs.Ledger.Devices.{devices_with}
use Rattle.engine_model.proofs.Ledger.Rows.{count_in}
use Rattle.engine_model.proofs.Restart.Base.{base}
use Rattle.engine_model.proofs.Restart.Held.{leaves}
use Rattle.engine_model.proofs.Restart.Steps.{restart_goes, now_runs, start_reached}

module _ {R K S O : Type 0} (rules : AllRules R K S O) (s : State O R K S) (keeps : Keeps rules s) (down : s.held ≡ None) (fresh : s.is_fresh ≡ true)
    (ledger : Ledger) (n : ℕ) (last : Option ℕ) (k : Held R K S) (ends : EndsRestart rules s.graph s.operators s.partitions s.stored s.ledger ledger (Ok (last, k))) where
  abbrev new : State O R K S
  new = restarted s ledger n (Ok (last, k))

  kept : Keeps rules new
  kept = keeps_restart rules s keeps ledger n (Ok (last, k)) ends (λ f. restart_goes rules s keeps down f ledger n (Ok (last, k)) ends)

  -- each sink holds its new transaction, and nothing is pending
  sink_there : (task subtask : ℕ) → slice_get s.graph.tasks task ≡ Some (role.Sink subtask) → (sink : Sinking) × (slice_get k.tasks task ≡ Some (holds.Sink sink)) × (sink.pending ≡ [])
  sink_there task subtask is =
      let there = (shape_of rules new kept k refl).forms task (role.Sink subtask) is in
      let settled = (leaves rules s.graph s.operators s.partitions s.stored s.ledger ledger last ends.starts ends.are k.tasks ends.take keeps.expanded keeps.ordered).settled in
      (there.0, there.1, (settled task subtask there.0 is there.1).1)

  abbrev from_here : IsReachedStart (job_of rules.lang s) rules.lang.spelling (devices_with rules.lang s.graph s.stored ledger) (base rules s keeps.expanded keeps.operators keeps.numbered s.ledger ledger last ends.starts ends.are k.tasks ends.take)
  from_here = start_reached rules s keeps down fresh ledger n last k ends

  pub gives_cut : GoesOnFromCut rules.lang new last k
  gives_cut = record {
    moves = from_here.moves;
    base = from_here.base;
    reached = from_here.reached;
    restored = from_here.restored;
    outputs = λ task subtask is. from_here.restored.outputs task (is_sink_of rules.lang s task subtask is) ∙ rows_at rules.lang s.graph ledger task subtask is kept.ordered;
    holds = now_runs rules s keeps down fresh ledger n last k ends ∙ sym from_here.is_seen;
    latest = ends.are.latest;
    committed = λ task subtask is.
        let sink = sink_there task subtask is in
        sym (count_in ledger subtask kept.ordered) ∙ committed_all rules new kept fresh k refl task subtask is sink.0 sink.1 sink.2;
  }
