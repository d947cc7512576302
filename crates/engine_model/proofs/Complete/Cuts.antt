-- A checkpoint that completes is the cut so far.
use Rattle.std.proofs.Common.{◌≡◌, ◌<◌, ◌++◌, if◌then◌else◌, MatchOption, Option, Some, Ok, Err, Result, IfOk, slice_get, length, ℕ, Bool, true, List, refl, sym, ap, subst, ◌∙◌, arith}
use Rattle.std.proofs.lemmas.List.{append-nil, length-map}
use Rattle.std.proofs.lemmas.Option.{same_Some, slice_get_within}
use Rattle.checkpoint_model.specs.Attempt as attempt
use Rattle.checkpoint_model.specs.Consistent.{logged, sent_before, cut_channel, cut_so_far}
use Rattle.checkpoint_model.specs.Durable as durable
use Rattle.checkpoint_model.specs.Durable.{IsCutOf}
use Rattle.checkpoint_model.specs.Engine.{IsPartOf}
use Rattle.coordinator.specs.Coordinator.{IsReady, has_acked}
use Rattle.dataflow_model.specs.Graph.{Task}
use Rattle.dataflow_model.specs.Machine.{TaskState}
use Rattle.job_graph.specs.PlainGraph.{task_of}
use Rattle.job_graph.specs.declared.role.Role.{Role}
use Rattle.job_state.specs.Held.{Held, logs_of, with_logs}
use Rattle.snapshot_store.specs.Store.{Stored, completed}
use Rattle.engine_model.specs.AllRules.{AllRules}
use Rattle.engine_model.specs.State.{State}
use Rattle.engine_model.specs.View.{attempt_of, run_of, job_of, part_view}
use Rattle.engine_model.specs.Keeps.{CopyAs, PendingIn, Shape, Keeps}
use Rattle.engine_model.specs.Calls.{EndsComplete}
use Rattle.engine_model.specs.CompleteCut.{HasTheCut}
use Rattle.engine_model.specs.declared.fault.CoreFault.{CoreFault}
use Rattle.engine_model.proofs.Calls.Goes.{shape_of, runs_of}
use Rattle.engine_model.proofs.Calls.Persists.{found}
use Rattle.engine_model.proofs.Store.Complete.{ready_acked, acked_part, ready_has_parts}
use Rattle.engine_model.proofs.Store.Part.{have_come, part_of_copy}
use Rattle.engine_model.proofs.Store.Runs.{runs_pending}
use Rattle.engine_model.proofs.Store.View.{store_of}

-- of a channel whose sender and receiver have copied, and whose barrier was taken, the log is all
log_alone : {R : Type 0} (receiver sender came : Bool) (log : List R) (items : List (attempt.Item R)) → receiver ≡ true → sender ≡ true → came ≡ true → logged receiver log ++ sent_before sender came items ≡ log
log_alone receiver sender came log items received sent taken = rw (received, sent, taken) (append-nil log)

module _ {R K S O : Type 0} (rules : AllRules R K S O) (s : State O R K S) (keeps : Keeps rules s) (h : Held R K S) (was : s.held ≡ Some h) where
  abbrev shape : Shape rules s.graph s.operators h
  shape = shape_of rules s keeps h was

  module _ (n : ℕ) (is : h.coordination.pending ≡ Some n) (ready : IsReady h.coordination) where
    pending : PendingIn rules.lang s.graph s.stored h n
    pending = runs_pending rules.lang s h (runs_of rules s keeps h was) n is

    acked : (task : ℕ) → task < length s.graph.tasks → has_acked h.coordination task ≡ true
    acked task within = let same = shape.acked in ready_acked h.coordination ready task (omega (arith, within, same))

    -- each task's part in the store is its copy, with all that was logged for it
    part_there : (task : ℕ) → task < length s.graph.tasks → (part : durable.Part R K S) × ((store_of rules.lang s.stored).parts n task ≡ Some part) × IsPartOf (job_of rules.lang s) (run_of rules.lang.cmp s.graph h) task part
    part_there task within =
        let r = found s.graph.tasks task within in
        let same = keeps.stored_tasks in
        let there = acked_part rules.lang s.graph s.stored h n pending task (omega (arith, within, same)) (acked task within) in
        let fits = shape.gate_fits task within in
        let come = have_come s.graph h task there.0 fits (fits.acknowledged (acked task within)).1 there.1 in (
          part_view rules.lang.cmp (with_logs (logs_of s.graph h task) there.0),
          there.2,
          part_of_copy rules.lang s h task r.0 there.0 keeps.expanded r.1 there.1 (subst (CopyAs r.0) there.1 (shape.copy_forms task r.0 r.1)) come shape.only_marked,
        )

    copied : (task : ℕ) (r : Role) → slice_get s.graph.tasks task ≡ Some r → (run_of rules.lang.cmp s.graph h).attempt.copied task ≡ true
    copied task r at = (part_there task (slice_get_within s.graph.tasks task r at)).2.copied

    is_part : (task : ℕ) (part : durable.Part R K S) → task < length s.graph.tasks → (store_of rules.lang s.stored).parts n task ≡ Some part → IsPartOf (job_of rules.lang s) (run_of rules.lang.cmp s.graph h) task part
    is_part task part within at =
        let there = part_there task within in
        subst (IsPartOf (job_of rules.lang s) (run_of rules.lang.cmp s.graph h) task) (same_Some there.0 part (sym there.1 ∙ at)) there.2

    task_within : (task : ℕ) (kind : Task O) → slice_get (job_of rules.lang s).graph.tasks task ≡ Some kind → task < length s.graph.tasks
    task_within task kind at =
        let inside = slice_get_within (job_of rules.lang s).graph.tasks task kind at in
        let same = length-map s.graph.tasks (task_of s.operators) in
        omega (arith, inside, same)

    -- a task that has copied counts with its copy
    counts : {A : Type 0} (read : TaskState R K S → A) (task : ℕ) → (run_of rules.lang.cmp s.graph h).attempt.copied task ≡ true
        → read ((cut_so_far (job_of rules.lang s) (attempt_of rules.lang.cmp h)).tasks task) ≡ read ((run_of rules.lang.cmp s.graph h).attempt.copies task)
    counts read task yes_copied = ap (λ (b : Bool). read (if b then (attempt_of rules.lang.cmp h).copies task else (attempt_of rules.lang.cmp h).tasks task)) yes_copied

    is_cut : IsCutOf (job_of rules.lang s) (store_of rules.lang s.stored) n (cut_so_far (job_of rules.lang s) (attempt_of rules.lang.cmp h))
    is_cut = record {
      offsets = λ task part kind at there. let p = is_part task part (task_within task kind at) there in counts (λ t. t.offset) task p.copied ∙ sym p.offset;
      states = λ task part kind at there. let p = is_part task part (task_within task kind at) there in counts (λ t. t.states) task p.copied ∙ sym p.states;
      channels = λ number channel part at there.
          let joined = keeps.expanded.joined number channel at in
          let p = is_part channel.receiver part (slice_get_within s.graph.tasks channel.receiver joined.receiver.role joined.receiver.is) there in
          let a = attempt_of rules.lang.cmp h in
          ap (cut_channel a number) at
          ∙ log_alone (a.copied channel.receiver) (a.copied channel.sender) (a.came number) (a.logs number) (a.channels number) p.copied (copied channel.sender joined.sender.role joined.sender.is) (p.closed number channel at refl)
          ∙ sym (p.logs number channel at refl);
    }

    has_the_cut : HasTheCut rules.lang s h (completed s.stored n) n
    has_the_cut = record {
      parts = ready_has_parts rules.lang s.graph s.stored h n pending ready (shape.acked ∙ sym keeps.stored_tasks) (job_of rules.lang s) (length-map s.graph.tasks (task_of s.operators) ∙ sym keeps.stored_tasks);
      cut = record { offsets = is_cut.offsets; states = is_cut.states; channels = is_cut.channels };
    }

  module _ (k : Held R K S) (stored : Stored) where
    pub completes_cut : (n : ℕ) → EndsComplete h k s.stored stored (Ok n) → HasTheCut rules.lang s h stored n
    completes_cut n ends = subst (λ (x : Stored). HasTheCut rules.lang s h x n) (sym ends.2) (has_the_cut n ends.0 ends.1)

    -- and where the call is refused or fails, nothing is said
    pub cut_if_ok : (result : Result ℕ CoreFault) → EndsComplete h k s.stored stored result → IfOk result (λ n. MatchOption s.held ⊥ (λ held. HasTheCut rules.lang s held stored n))
    cut_if_ok (Ok n) ends = subst (λ (o : Option (Held R K S)). MatchOption o ⊥ (λ held. HasTheCut rules.lang s held stored n)) (sym was) (completes_cut n ends)
    cut_if_ok (Err fault) ends = tt
