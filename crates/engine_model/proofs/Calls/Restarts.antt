-- A restart, as a call of the engine.
use Rattle.std.proofs.Common.{◌≡◌, inl, inr, MatchOption, Option, Some, Result, Ok, Err, slice_get, ℕ, true, List, ◌++◌, refl, sym, ap, subst, ◌∙◌}
use Rattle.std.proofs.lemmas.Option.{none-some}
use Rattle.commit_sink.specs.Ledger.{Ledger, committed_rows}
use Rattle.dataflow_model.specs.Graph.{Begins}
use Rattle.job_state.specs.Held.{Held}
use Rattle.job_state.specs.declared.holding.Holding.TheVariants as holds
use Rattle.engine_model.specs.AllRules.{AllRules}
use Rattle.engine_model.specs.Goes.{Goes}
use Rattle.engine_model.specs.Keeps.{Shape, RunsIn, Keeps}
use Rattle.engine_model.specs.Restart.{InTurn, AreStarts, Takes, before_tasks, TakeSome, TakeUntilRefused, Restarts, RestartsPartly, EndsRestart}
use Rattle.engine_model.specs.RestartLaws.{held_by, restarted}
use Rattle.engine_model.specs.State.{State}
use Rattle.engine_model.specs.declared.fault.CoreFault.{CoreFault}
use Rattle.engine_model.specs.declared.fault.CoreFault.TheVariants as fault
use Rattle.engine_model.specs.declared.start.Start.{Start}
use Rattle.engine_model.specs.declared.start.Start.TheVariants as start
use Rattle.engine_model.proofs.Ledger.Rows.{rows_in}
use Rattle.engine_model.proofs.Restart.Sinks.{KeepsRows, rows_same, rows_then, partly_leaves, refused_leaves, takes_leave}
use Rattle.engine_model.proofs.Restart.Held.{from_first, shape, leaves, runs}
use Rattle.engine_model.proofs.Restart.Starts.{in_front, sink_at}
use Rattle.engine_model.proofs.Calls.Goes.{goes_keeps_fresh}

module _ {R K S O : Type 0} (rules : AllRules R K S O) (s : State O R K S) (keeps : Keeps rules s) (ledger : Ledger) where
  abbrev AreAll : Option ℕ → List (Start R K S) → Type 0
  AreAll last starts = AreStarts rules s.graph s.operators s.partitions s.stored last starts

  -- ---- the rows

  -- once some tasks have taken what they start from
  up_to_rows : (last : Option ℕ) (starts done rest : List (Start R K S)) (middle : Rattle.engine_model.specs.Restart.Settling K S) → AreAll last starts → starts ≡ done ++ rest → InTurn Takes done (before_tasks s.ledger) middle → KeepsRows s.ledger middle.ledger
  up_to_rows last starts done rest middle are split turns =
      (takes_leave s.graph keeps.expanded done (before_tasks s.ledger) middle
      (λ k subtask names logs at. ap (slice_get s.graph.tasks) (from_first k) ∙ sink_at rules s.graph s.operators s.partitions s.stored last starts are k subtask names logs (ap (λ (l : List (Start R K S)). slice_get l k) split ∙ in_front done k (start.Sink subtask names logs) rest at))
      keeps.ordered (λ place subtask sink is at. absurd (none-some (holds.Sink sink) at)) turns).rows

  some_rows : (last : Option ℕ) (starts : List (Start R K S)) → AreAll last starts → TakeSome starts s.ledger ledger → KeepsRows s.ledger ledger
  some_rows last starts are t =
      let first = up_to_rows last starts t.taken.done t.taken.rest t.middle are t.taken.are t.taken.turns in
      elim t.either [
        | inl same ↦ rows_then s.ledger t.middle.ledger ledger first (rows_same t.middle.ledger ledger first.ordered same)
        | inr more ↦ rows_then s.ledger t.middle.ledger ledger first (partly_leaves more.1 more.0 t.middle.ledger ledger first.ordered more.5).rows
      ]

  refused_rows : (last : Option ℕ) (starts : List (Start R K S)) → AreAll last starts → TakeUntilRefused starts s.ledger ledger → KeepsRows s.ledger ledger
  refused_rows last starts are t =
      let first = up_to_rows last starts t.taken.done t.taken.rest t.middle are t.taken.are t.taken.turns in
      rows_then s.ledger t.middle.ledger ledger first (refused_leaves t.names t.subtask t.middle.ledger ledger first.ordered t.refused).rows

  pub restart_rows : (result : Result (Option ℕ × Held R K S) CoreFault) → EndsRestart rules s.graph s.operators s.partitions s.stored s.ledger ledger result → KeepsRows s.ledger ledger
  restart_rows (Ok x) ends = (leaves rules s.graph s.operators s.partitions s.stored s.ledger ledger x.0 ends.starts ends.are (x.1).tasks ends.take keeps.expanded keeps.ordered).rows
  restart_rows (Err fault.Memory) ends = elim ends [ inl same ↦ rows_same s.ledger ledger keeps.ordered same | inr p ↦ some_rows p.last p.starts p.are p.then_ends ]
  restart_rows (Err fault.Device) ends = elim ends [ inl same ↦ rows_same s.ledger ledger keeps.ordered same | inr p ↦ some_rows p.last p.starts p.are p.then_ends ]
  restart_rows (Err fault.BadSnapshot) ends = elim ends [ inl broken ↦ rows_same s.ledger ledger keeps.ordered broken.1 | inr p ↦ refused_rows p.last p.starts p.are p.then_ends ]
  restart_rows (Err fault.NotRunning) ends = absurd ends
  restart_rows (Err fault.NoSuchTask) ends = absurd ends
  restart_rows (Err fault.NotReady) ends = absurd ends
  restart_rows (Err fault.ChannelBlocked) ends = absurd ends
  restart_rows (Err fault.Busy) ends = absurd ends
  restart_rows (Err fault.Stale) ends = absurd ends
  restart_rows (Err fault.WrongResult) ends = absurd ends
  restart_rows (Err fault.CheckpointPending) ends = absurd ends
  restart_rows (Err fault.NoCheckpoint) ends = absurd ends
  restart_rows (Err fault.NotAllAcked) ends = absurd ends
  restart_rows (Err fault.CommitFault) ends = absurd ends
  restart_rows (Err fault.NumbersSpent) ends = absurd ends

  -- no committed row is withdrawn
  pub restart_withdraws : (result : Result (Option ℕ × Held R K S) CoreFault) (subtask : ℕ) → EndsRestart rules s.graph s.operators s.partitions s.stored s.ledger ledger result
      → Begins (committed_rows s.ledger subtask) (committed_rows ledger subtask)
  restart_withdraws result subtask ends =
      let kept = restart_rows result ends in
      let begins = kept.rows subtask in
      (begins.0, sym (rows_in ledger subtask kept.ordered) ∙ begins.1 ∙ ap (λ (l : List (List ℕ)). l ++ begins.0) (rows_in s.ledger subtask keeps.ordered))

  -- ---- what every engine keeps

  abbrev Held_keeps : ℕ → Option (Held R K S) → Type 0
  Held_keeps n held = MatchOption held (Unit {0}) (Shape rules s.graph s.operators) × MatchOption held (Unit {0}) (RunsIn rules.lang (record s { held = held; ledger = ledger; faults = n }))

  held_keeps : (n : ℕ) (result : Result (Option ℕ × Held R K S) CoreFault) → EndsRestart rules s.graph s.operators s.partitions s.stored s.ledger ledger result → Held_keeps n (held_by result)
  held_keeps n (Ok x) ends =
      let whole = shape rules s.graph s.operators s.partitions s.stored s.ledger ledger x.0 ends.starts ends.are (x.1).tasks ends.take in
      let going = runs rules s.graph s.operators s.partitions s.stored s.ledger ledger x.0 ends.starts ends.are (x.1).tasks ends.take keeps.expanded keeps.ordered (record s { held = Some x.1; ledger = ledger; faults = n }) refl refl refl in
      (subst (Shape rules s.graph s.operators) (sym ends.ends) whole, subst (RunsIn rules.lang (record s { held = Some x.1; ledger = ledger; faults = n })) (sym ends.ends) going)
  held_keeps n (Err f) ends = (tt, tt)

  pub keeps_restart : (n : ℕ) (result : Result (Option ℕ × Held R K S) CoreFault) → EndsRestart rules s.graph s.operators s.partitions s.stored s.ledger ledger result
      → (s.is_fresh ≡ true → Goes rules.lang s (restarted s ledger n result)) → Keeps rules (restarted s ledger n result)
  keeps_restart n result ends goes =
      let kept = restart_rows result ends in
      let held = held_keeps n result ends in
      record {
        expanded = keeps.expanded;
        operators = keeps.operators;
        partitions = keeps.partitions;
        stored_tasks = keeps.stored_tasks;
        numbered = keeps.numbered;
        subtasks = kept.subtasks ∙ keeps.subtasks;
        ordered = kept.ordered;
        shape = held.0;
        runs = held.1;
        fresh = λ fresh. goes_keeps_fresh rules s keeps (held_by result) s.stored ledger n (goes fresh) fresh;
        whole = keeps.whole;
        formed = keeps.formed;
      }
