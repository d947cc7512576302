-- On a fresh engine a restart is steps of the model's engine, whatever it ends in, and it is not refused for what the devices hold.
use Rattle.std.proofs.Common.{◌≡◌, ◌+◌, inl, inr, Option, Some, None, Result, Ok, Err, slice_get, option_map, length, ℕ, true, List, [], ◌∷◌, ◌++◌, refl, sym, ap, subst, ◌∙◌, append-nil, arith}
use Rattle.std.proofs.lemmas.Option.{slice_get_within}
use Rattle.checkpoint_model.specs.Cuts.{IsReachedStart}
use Rattle.checkpoint_model.specs.Durable.{IsSink}
use Rattle.checkpoint_model.specs.Engine.{Running}
use Rattle.checkpoint_model.specs.EngineLaws.{IsSettled}
use Rattle.checkpoint_model.specs.Headline.{Engine}
use Rattle.checkpoint_model.specs.Pruned.{pruned_run, pruned_running, pruned_start, IsPrunedSound, PrunedRestarts, PrunedLeads}
use Rattle.checkpoint_model.specs.PrunedLaws.{pruned_engine}
use Rattle.checkpoint_model.proofs.Cuts.{restarts_reached}
use Rattle.checkpoint_model.proofs.Pruned.{pruned_sound}
use Rattle.commit_sink.specs.Ledger.{Ledger}
use Rattle.job_graph.specs.declared.role.Role.{Role}
use Rattle.job_graph.specs.declared.role.Role.TheVariants as role
use Rattle.job_graph.proofs.PlainTasks.{receiver-graph_of}
use Rattle.job_state.specs.Held.{Held}
use Rattle.snapshot_store.specs.Store.{IsLatest}
use Rattle.task_part.specs.Spelling.{Logs}
use Rattle.engine_model.specs.AllRules.{AllRules}
use Rattle.engine_model.specs.Goes.{Goes}
use Rattle.engine_model.specs.Keeps.{Keeps}
use Rattle.engine_model.specs.Restart.{IsStart, AreStarts, first_start, part_for, before_tasks, TakeSome, TakeUntilRefused, EndsRestart}
use Rattle.engine_model.specs.RestartLaws.{restarted}
use Rattle.engine_model.specs.State.{State}
use Rattle.engine_model.specs.View.{run_of, job_of, is_logged_in, devices_of, engine_of, part_view, transactions_at}
use Rattle.engine_model.specs.declared.fault.CoreFault.{CoreFault}
use Rattle.engine_model.specs.declared.fault.CoreFault.TheVariants as fault
use Rattle.engine_model.specs.declared.start.Start.{Start}
use Rattle.engine_model.specs.declared.start.Start.TheVariants as start
use Rattle.engine_model.proofs.Calls.Goes.{leads_on}
use Rattle.engine_model.proofs.Ledger.Devices.{devices_with, names_in}
use Rattle.engine_model.proofs.Ledger.Restart.{NamedIn}
use Rattle.engine_model.proofs.Ledger.Settle.{named_none}
use Rattle.engine_model.proofs.Restart.Base.{line_none, sink_of, part_said, base, begins_there, seen_restored}
use Rattle.engine_model.proofs.Restart.Goes.{down_with, GoesDown, down_then, down_stays, AreReady, takes_go, partly_go, never_refused}
use Rattle.engine_model.proofs.Restart.Held.{from_first, one_each}
use Rattle.engine_model.proofs.Restart.Starts.{sink_at, start_of_kind}
use Rattle.engine_model.proofs.Store.View.{line_of, last_of_line}

module _ {R K S O : Type 0} (rules : AllRules R K S O) (s : State O R K S) (keeps : Keeps rules s) (down : s.held ≡ None) (fresh : s.is_fresh ≡ true) where
  abbrev AreAll : Option ℕ → List (Start R K S) → Type 0
  AreAll last starts = AreStarts rules s.graph s.operators s.partitions s.stored last starts

  pub sound : IsPrunedSound (job_of rules.lang s) (is_logged_in s) rules.lang.spelling (devices_of rules.lang s) None
  sound = subst (λ (o : Option (Held R K S)). IsPrunedSound (job_of rules.lang s) (is_logged_in s) rules.lang.spelling (devices_of rules.lang s) (pruned_running (option_map (run_of rules.lang.cmp s.graph) o))) down (keeps.fresh fresh)

  -- what a sink's start names may be committed
  named : (last : Option ℕ) (starts : List (Start R K S)) → AreAll last starts → (k subtask : ℕ) (names : List ℕ) (logs : Logs R) → slice_get starts k ≡ Some (start.Sink subtask names logs) → NamedIn (line_of s.stored) names s.ledger subtask
  named last starts are k subtask names logs at = by last are.latest (are.each k (role.Sink subtask) (start.Sink subtask names logs) there at)
    where
      there : slice_get s.graph.tasks k ≡ Some (role.Sink subtask)
      there = sink_at rules s.graph s.operators s.partitions s.stored last starts are k subtask names logs at

      same_names : start.Sink subtask names logs ≡ first_start {R = R} {K = K} {S = S} (role.Sink subtask) → [] ≡ names
      same_names e = cc

      by : (o : Option ℕ) → IsLatest s.stored o → IsStart rules s.graph s.operators s.partitions s.stored o k (role.Sink subtask) (start.Sink subtask names logs) → NamedIn (line_of s.stored) names s.ledger subtask
      by None latest is =
          subst (λ (l : List ℕ). NamedIn l names s.ledger subtask) (sym (line_none s.stored latest)) (subst (λ (ns : List ℕ). NamedIn [] ns s.ledger subtask) (same_names is) (named_none s.ledger subtask))
      by (Some n) latest is =
          let last_one = last_of_line s.stored n keeps.numbered latest.0 latest.1 in
          names_in rules.lang s last_one.0 n k subtask (part_view rules.lang.cmp (part_for (start.Sink subtask names logs))) sound last_one.1 there (part_said rules.lang s.stored n k is.bytes (part_for (start.Sink subtask names logs)) is.is_part is.reads)

  ready : (last : Option ℕ) (starts : List (Start R K S)) → AreAll last starts → AreReady rules.lang s keeps.expanded 0 starts s.ledger
  ready last starts are = record {
    for = λ k subtask names logs at. ap (slice_get s.graph.tasks) (from_first k) ∙ sink_at rules s.graph s.operators s.partitions s.stored last starts are k subtask names logs at;
    kinds = λ k r st is at.
        let there = ap (slice_get s.graph.tasks) (sym (from_first k)) ∙ is in
        start_of_kind rules s.graph s.operators s.partitions s.stored last k r st (are.each k r st there at);
    named = named last starts are;
    settled = λ place subtask is less. absurd (omega (arith, less));
    ordered = keeps.ordered;
  }

  -- the engine that is down
  was_down : pruned_engine (engine_of rules.lang s) ≡ down_with rules.lang s keeps.expanded s.ledger
  was_down = λ i. record { devices = devices_of rules.lang s; running = pruned_running (option_map (run_of rules.lang.cmp s.graph) (down i)) }

  -- ---- refusals

  some_go : (last : Option ℕ) (starts : List (Start R K S)) (ledger : Ledger) → AreAll last starts → TakeSome starts s.ledger ledger → GoesDown rules.lang s keeps.expanded s.ledger ledger
  some_go last starts ledger are t =
      let first = takes_go rules.lang s keeps.expanded t.taken.done t.taken.rest (before_tasks s.ledger) t.middle (subst (λ (l : List (Start R K S)). AreReady rules.lang s keeps.expanded 0 l s.ledger) t.taken.are (ready last starts are)) t.taken.turns in
      elim t.either [
        | inl same ↦ down_then rules.lang s keeps.expanded s.ledger t.middle.ledger ledger first.goes (down_stays rules.lang s keeps.expanded t.middle.ledger ledger same)
        | inr next ↦
            let here = subst (λ (l : List (Start R K S)). AreReady rules.lang s keeps.expanded (length t.middle.tasks) l t.middle.ledger) next.4 first.ready in
            let is = here.for 0 next.0 next.1 next.2 refl in
            down_then rules.lang s keeps.expanded s.ledger t.middle.ledger ledger first.goes
            (partly_go rules.lang s keeps.expanded (length t.middle.tasks + 0) next.0 is next.1 t.middle.ledger ledger here.ordered (here.named 0 next.0 next.1 next.2 refl) next.5)
      ]

  -- what is named may be committed
  pub never_until : (last : Option ℕ) (starts : List (Start R K S)) (ledger : Ledger) → AreAll last starts → TakeUntilRefused starts s.ledger ledger → ⊥
  never_until last starts ledger are t =
      let first = takes_go rules.lang s keeps.expanded t.taken.done t.taken.rest (before_tasks s.ledger) t.middle (subst (λ (l : List (Start R K S)). AreReady rules.lang s keeps.expanded 0 l s.ledger) t.taken.are (ready last starts are)) t.taken.turns in
      let here = subst (λ (l : List (Start R K S)). AreReady rules.lang s keeps.expanded (length t.middle.tasks) l t.middle.ledger) t.next first.ready in
      never_refused rules.lang s keeps.expanded (length t.middle.tasks + 0) t.subtask (here.for 0 t.subtask t.names t.logs refl) t.names t.middle.ledger ledger here.ordered (here.named 0 t.subtask t.names t.logs refl) t.refused

  -- ---- the whole

  module _ (ledger : Ledger) (n : ℕ) where
    down_goes : (f : CoreFault) → GoesDown rules.lang s keeps.expanded s.ledger ledger → Goes rules.lang s (restarted s ledger n (Err f))
    down_goes f goes = (goes.0, subst (λ (e : Engine R K S (List ℕ)). PrunedLeads (job_of rules.lang s) (is_logged_in s) rules.lang.spelling e goes.0 (down_with rules.lang s keeps.expanded ledger)) (sym was_down) goes.1)

    module _ (last : Option ℕ) (k : Held R K S) (ends : EndsRestart rules s.graph s.operators s.partitions s.stored s.ledger ledger (Ok (last, k))) where
      calls : GoesDown rules.lang s keeps.expanded s.ledger ledger × AreReady rules.lang s keeps.expanded (length k.tasks) [] ledger
      calls =
          let whole = takes_go rules.lang s keeps.expanded ends.starts [] (before_tasks s.ledger) (record { ledger = ledger; tasks = k.tasks })
          (subst (λ (l : List (Start R K S)). AreReady rules.lang s keeps.expanded 0 l s.ledger) (sym (append-nil ends.starts)) (ready last ends.starts ends.are)) ends.take in
          (whole.goes, whole.ready)

      abbrev from_here : Rattle.dataflow_model.specs.Machine.Configuration R K S
      from_here = base rules s keeps.expanded keeps.operators keeps.numbered s.ledger ledger last ends.starts ends.are k.tasks ends.take

      pub now_runs : pruned_run (run_of rules.lang.cmp s.graph k) ≡ pruned_start from_here
      now_runs = ap (λ (h : Held R K S). pruned_run (run_of rules.lang.cmp s.graph h)) ends.ends ∙ begins_there rules s keeps.expanded keeps.operators keeps.numbered s.ledger ledger last ends.starts ends.are k.tasks ends.take

      all_settled : (task : ℕ) → IsSink (job_of rules.lang s) task → IsSettled (transactions_at ledger (slice_get s.graph.tasks task))
      all_settled task is =
          let sink = sink_of rules.lang s keeps.expanded keeps.operators task is in
          let long = one_each rules s.graph s.operators s.partitions s.stored s.ledger ledger last ends.starts ends.are k.tasks ends.take in
          let within = slice_get_within s.graph.tasks task (role.Sink sink.0) sink.1 in
          subst (λ (o : Option Role). IsSettled (transactions_at ledger o)) (sym sink.1) (calls.1.settled task sink.0 sink.1 (omega (arith, long, within)))

      -- a plain run comes to where it goes on from, with each sink's committed records as its output
      pub start_reached : IsReachedStart (job_of rules.lang s) rules.lang.spelling (devices_with rules.lang s.graph s.stored ledger) from_here
      start_reached =
          let first = calls.0 in
          let receivers = receiver-graph_of s.graph s.operators keeps.expanded in
          let now = pruned_sound (job_of rules.lang s) rules.lang.spelling (is_logged_in s) first.0 (down_with rules.lang s keeps.expanded s.ledger) (down_with rules.lang s keeps.expanded ledger) receivers first.1 sound in
          restarts_reached (job_of rules.lang s) rules.lang.spelling (is_logged_in s) (devices_with rules.lang s.graph s.stored ledger) from_here receivers all_settled now
          (seen_restored rules s keeps.expanded keeps.operators keeps.numbered s.ledger ledger last ends.starts ends.are k.tasks ends.take)

      pub ok_goes : Goes rules.lang s (restarted s ledger n (Ok (last, k)))
      ok_goes =
          let down_now = down_with rules.lang s keeps.expanded ledger in
          let up = pruned_engine (engine_of rules.lang (restarted s ledger n (Ok (last, k)))) in
          let step = PrunedRestarts from_here refl all_settled (seen_restored rules s keeps.expanded keeps.operators keeps.numbered s.ledger ledger last ends.starts ends.are k.tasks ends.take) refl (ap (λ (r : Running R K S). Some r) now_runs) in
          let first = calls.0 in
          let from_s = subst (λ (e : Engine R K S (List ℕ)). PrunedLeads (job_of rules.lang s) (is_logged_in s) rules.lang.spelling e first.0 down_now) (sym was_down) first.1 in
          (first.0 ++ up ∷ [], leads_on (job_of rules.lang s) (is_logged_in s) rules.lang.spelling first.0 (up ∷ []) (pruned_engine (engine_of rules.lang s)) down_now up from_s (step, refl))

    pub restart_goes : (result : Result (Option ℕ × Held R K S) CoreFault) → EndsRestart rules s.graph s.operators s.partitions s.stored s.ledger ledger result → Goes rules.lang s (restarted s ledger n result)
    restart_goes (Ok x) ends = ok_goes x.0 x.1 ends
    restart_goes (Err fault.Memory) ends = down_goes fault.Memory (elim ends [ inl same ↦ down_stays rules.lang s keeps.expanded s.ledger ledger same | inr p ↦ some_go p.last p.starts ledger p.are p.then_ends ])
    restart_goes (Err fault.Device) ends = down_goes fault.Device (elim ends [ inl same ↦ down_stays rules.lang s keeps.expanded s.ledger ledger same | inr p ↦ some_go p.last p.starts ledger p.are p.then_ends ])
    restart_goes (Err fault.BadSnapshot) ends =
        down_goes fault.BadSnapshot (elim ends [ inl broken ↦ down_stays rules.lang s keeps.expanded s.ledger ledger broken.1 | inr p ↦ absurd (never_until p.last p.starts ledger p.are p.then_ends) ])
    restart_goes (Err fault.NotRunning) ends = absurd ends
    restart_goes (Err fault.NoSuchTask) ends = absurd ends
    restart_goes (Err fault.NotReady) ends = absurd ends
    restart_goes (Err fault.ChannelBlocked) ends = absurd ends
    restart_goes (Err fault.Busy) ends = absurd ends
    restart_goes (Err fault.Stale) ends = absurd ends
    restart_goes (Err fault.WrongResult) ends = absurd ends
    restart_goes (Err fault.CheckpointPending) ends = absurd ends
    restart_goes (Err fault.NoCheckpoint) ends = absurd ends
    restart_goes (Err fault.NotAllAcked) ends = absurd ends
    restart_goes (Err fault.CommitFault) ends = absurd ends
    restart_goes (Err fault.NumbersSpent) ends = absurd ends
