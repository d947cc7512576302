-- The starts that parts say.
use Rattle.std.proofs.Common.{◌≡◌, ◌<◌, inl, inr, All, Option, Some, None, Ok, Err, slice_get, get_or, length, List, [], ◌∷◌, ◌++◌, ℕ, refl, sym, ap, subst, ◌∙◌}
use Rattle.std.proofs.lemmas.Option.{same_Some, slice_get-get_or}
use Rattle.engine_model.specs.AllRules.{AllRules}
use Rattle.commit_sink.specs.Ledger.{Ledger}
use Rattle.engine_model.specs.Restart.{IsStart, AreStarts, Takes, InTurn, before_tasks, Restarts, EndsRestart}
use Rattle.engine_model.specs.declared.fault.CoreFault.TheVariants as core
use Rattle.engine_model.proofs.Turns.{up_to_end}
use Rattle.job_state.specs.Held.{Held, begun}
use Rattle.job_state.specs.declared.holding.Holding.{Holding}
use Rattle.engine_model.specs.declared.start.Start.{Start}
use Rattle.engine_model.specs.declared.start.Start.TheVariants as start
use Rattle.engine_model.proofs.Restart.Starts.{sink_at}
use Rattle.job_graph.proofs.LinkLemmas.{slice_get_push}
use Rattle.job_graph.specs.Expanded.{Expanded}
use Rattle.job_graph.specs.declared.role.Role.{Role}
use Rattle.job_graph.specs.declared.role.Role.TheVariants as role
use Rattle.snapshot_store.specs.Store.{Stored, IsLatest}
use Rattle.task_part.specs.Spelling.{Logs}
use Rattle.recovery.specs.Ends.{EndsTask, CannotRestore, HasDamage, IsBelow, TakeAll}
use Rattle.recovery.specs.declared.fault.RecoveryFault.{RecoveryFault}
use Rattle.recovery.specs.declared.fault.RecoveryFault.TheVariants.{Fault, MissingPart, Damaged, Memory}

pub one_operator : {O : Type 0} (operators : List O) (number : ℕ) (a b : O) → slice_get operators number ≡ Some a → slice_get operators number ≡ Some b → (P : O → Type 0) → P b → P a
one_operator operators number a b at there P holds = subst P (same_Some b a (sym there ∙ at)) holds

module _ {R K S O : Type 0} (rules : AllRules R K S O) (graph : Expanded) (operators : List O) (partitions : List (List R)) (stored : Stored) where
  -- why the parts can't be read
  pub task_stops : (last : Option ℕ) (task : ℕ) (r : Role) (f : RecoveryFault) → IsLatest stored last → slice_get graph.tasks task ≡ Some r → EndsTask rules graph operators partitions stored last task r (Err f) → CannotRestore rules graph operators partitions stored f
  task_stops None task r f latest is ends = absurd ends
  task_stops (Some number) task r Fault latest is ends = tt
  task_stops (Some number) task r MissingPart latest is ends = record { last = number; latest = latest; task = task; role = r; is_task = is; missing = ends }
  task_stops (Some number) task r (Damaged which fault) latest is ends =
      subst (λ (t : ℕ). HasDamage rules graph operators partitions stored t fault) (sym ends.0) (record { last = number; latest = latest; role = r; is_task = is; damage = ends.1 })
  task_stops (Some number) task r Memory latest is ends = tt

  pub task_starts : (last : Option ℕ) (task : ℕ) (r : Role) (st : Start R K S) → EndsTask rules graph operators partitions stored last task r (Ok st) → IsStart rules graph operators partitions stored last task r st
  task_starts None task r st ends = ends
  task_starts (Some number) task r st ends = ends

  -- one more task has a start
  pub starts_more : (last : Option ℕ) (starts : List (Start R K S)) (task : ℕ) (st : Start R K S) → length starts ≡ task
      → ((t : ℕ) (q : Role) (x : Start R K S) → slice_get graph.tasks t ≡ Some q → slice_get starts t ≡ Some x → IsStart rules graph operators partitions stored last t q x)
      → ((q : Role) → slice_get graph.tasks task ≡ Some q → EndsTask rules graph operators partitions stored last task q (Ok st))
      → (t : ℕ) (q : Role) (x : Start R K S) → slice_get graph.tasks t ≡ Some q → slice_get (starts ++ st ∷ []) t ≡ Some x → IsStart rules graph operators partitions stored last t q x
  starts_more last starts task st long each ends t q x at there =
      elim (slice_get_push starts st t x there) [
        | inl old ↦ each t q x at old
        | inr new ↦
            let same : t ≡ task = new.0 ∙ long in
            subst (λ (n : ℕ). IsStart rules graph operators partitions stored last n q x) (sym same)
            (subst (λ (s : Start R K S). IsStart rules graph operators partitions stored last task q s) new.1
            (task_starts last task q st (ends q (ap (slice_get graph.tasks) (sym same) ∙ at))))
      ]

  -- each sink's subtask is one of so many
  pub starts_below : (last : Option ℕ) (starts : List (Start R K S)) (count : ℕ) → AreStarts rules graph operators partitions stored last starts
      → ((task subtask : ℕ) → slice_get graph.tasks task ≡ Some (role.Sink subtask) → subtask < count) → All (IsBelow count) starts
  starts_below last starts count are sinks k d within = by (get_or starts k d) (slice_get-get_or starts k d within)
    where
      by : (st : Start R K S) → slice_get starts k ≡ Some st → IsBelow count st
      by (start.Source offset) at = tt
      by (start.Operator entries logs) at = tt
      by (start.Sink subtask names logs) at = sinks k subtask (sink_at rules graph operators partitions stored last starts are k subtask names logs at)

  -- all tasks have taken what they start from, and there is no memory for the attempt
  pub restart_full : (old new : Ledger) (last : Option ℕ) (starts : List (Start R K S)) (x : List (Holding K S) × Logs R) → AreStarts rules graph operators partitions stored last starts
      → TakeAll old new starts x → EndsRestart rules graph operators partitions stored old new (Err core.Memory)
  restart_full old new last starts x are done = inr (record {
    last = last;
    starts = starts;
    are = are;
    then_ends = record { middle = record { ledger = new; tasks = x.0 }; taken = up_to_end Takes starts (before_tasks old) (record { ledger = new; tasks = x.0 }) done.0; either = inl refl };
  })

  -- all of them have, and the attempt begins with what they hold
  pub restart_whole : (old new : Ledger) (last number : Option ℕ) (starts : List (Start R K S)) (x : List (Holding K S) × Logs R) (k : Held R K S) → number ≡ last → AreStarts rules graph operators partitions stored last starts
      → TakeAll old new starts x → k ≡ begun graph x.0 x.1 number → Restarts rules graph operators partitions stored old new number k
  restart_whole old new last number starts x k same are done is =
      let tasks : x.0 ≡ k.tasks = sym (ap (λ (h : Held R K S). h.tasks) is) in
      record {
        starts = starts;
        are = subst (λ (l : Option ℕ). AreStarts rules graph operators partitions stored l starts) (sym same) are;
        take = subst (λ (ts : List (Holding K S)). InTurn Takes starts (before_tasks old) (record { ledger = new; tasks = ts })) tasks done.0;
        ends = is ∙ (ap (λ (ts : List (Holding K S)). begun graph ts x.1 number) tasks ∙ ap (λ (os : Logs R). begun graph k.tasks os number) done.1);
      }
