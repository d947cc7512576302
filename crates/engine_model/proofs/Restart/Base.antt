-- The configuration that a restart goes on from is what the parts of the last complete checkpoint say, or the start.
use Rattle.std.proofs.Common.{◌≡◌, ◌<◌, ◌≤◌, cond, Option, Some, None, Result, Ok, Err, slice_get, option_map, length, map, filter, count_by, take, ℕ, zero, suc, Bool, false, List, [], ◌∷◌, ◌++◌, refl, sym, ap, ◌∙◌, subst, arith}
use Rattle.std.proofs.lemmas.List.{length-append}
use Rattle.std.proofs.lemmas.List.Sums.{sum_by-cons}
use Rattle.std.proofs.lemmas.Option.{none-some, same_Some}
use mathlib.Core.Path.{fun_ext}
use Rattle.abs_codec.specs.Reading.{whole_of}
use Rattle.abs_codec.specs.declared.fault.CodecFault.{CodecFault}
use Rattle.checkpoint_model.specs.Attempt as attempt
use Rattle.checkpoint_model.specs.Attempt.{started}
use Rattle.checkpoint_model.specs.Durable as durable
use Rattle.checkpoint_model.specs.Durable.{IsSink, IsCutOf, is_on}
use Rattle.checkpoint_model.specs.Engine.{Running}
use Rattle.checkpoint_model.specs.Pruned.{pruned, pruned_run, pruned_start}
use Rattle.checkpoint_model.specs.Seen.{IsSeenRestored}
use Rattle.commit_sink.specs.Ledger.{Ledger}
use Rattle.dataflow_model.specs.Graph.{Task, SinkTask}
use Rattle.dataflow_model.specs.Machine.{TaskState, Configuration, fresh_task}
use Rattle.job_graph.specs.Expanded.{IsExpanded, is_operator}
use Rattle.job_graph.specs.PlainGraph.{task_of, operator_task, HaveOperators}
use Rattle.job_graph.specs.declared.role.Role.{Role}
use Rattle.job_graph.specs.declared.role.Role.TheVariants as role
use Rattle.job_graph.proofs.PlainTasks.{tasks-graph_of}
use Rattle.job_state.specs.Held.{Held, begun, opened}
use Rattle.job_state.specs.Sending.{items_at}
use Rattle.job_state.specs.declared.holding.Holding.{Holding}
use Rattle.job_state.specs.declared.holding.Holding.TheVariants as holds
use Rattle.snapshot_store.specs.Store.{Stored, IsLatest, IsNumbered, is_complete, part_of}
use Rattle.task_part.specs.declared.part.Part.{Part}
use Rattle.engine_model.specs.AllRules.{AllRules}
use Rattle.engine_model.specs.Language.{Language}
use Rattle.engine_model.specs.Restart.{InTurn, IsInPart, IsStart, AreStarts, Takes, before_tasks, first_start, part_for, openings_of}
use Rattle.engine_model.specs.State.{State}
use Rattle.engine_model.specs.View.{plain_item, held_state, part_view, part_in, run_of, job_of}
use Rattle.engine_model.specs.declared.start.Start.{Start}
use Rattle.engine_model.specs.declared.start.Start.TheVariants as from
use Rattle.engine_model.proofs.Items.{plain_records}
use Rattle.engine_model.proofs.Ledger.Devices.{devices_with}
use Rattle.engine_model.proofs.Restart.Held.{one_each, channels_are, Started, started as task_started}
use Rattle.engine_model.proofs.Restart.Logs.{past_end, view_logs, openings_at, openings_past, openings_first}
use Rattle.engine_model.proofs.Restart.Starts.{as_long, IsTaken}
use Rattle.engine_model.proofs.Store.View.{line_of, last_of_line}

-- ---- the line

last_is : (xs ys : List ℕ) (a b : ℕ) → xs ++ a ∷ [] ≡ ys ++ b ∷ [] → a ≡ b
last_is [] [] a b e = cc
last_is [] (y ∷ ys) a b e = absurd (omega (arith, ap length e, length-append ys (b ∷ [])))
last_is (x ∷ xs) [] a b e = absurd (omega (arith, ap length e, length-append xs (a ∷ [])))
last_is (x ∷ xs) (y ∷ ys) a b e = let rest : xs ++ a ∷ [] ≡ ys ++ b ∷ [] = cc in last_is xs ys a b rest

no_last : (xs : List ℕ) (a : ℕ) → xs ++ a ∷ [] ≡ [] → ⊥
no_last [] a e = absurd cc
no_last (x ∷ xs) a e = absurd cc

none_pass : {A : Type 0} (p : A → Bool) (xs : List A) → ((x : A) → p x ≡ false) → filter p xs ≡ []
none_pass p [] off = refl
none_pass p (x ∷ xs) off = ap (λ (b : Bool). cond b (x ∷ filter p xs) (filter p xs)) (off x) ∙ none_pass p xs off

-- where no number is complete, the line is empty
pub line_none : (stored : Stored) → IsLatest stored None → line_of stored ≡ []
line_none stored latest = none_pass (is_complete stored) _ latest

-- the last complete number is the last on the line
pub latest_last : (stored : Stored) (last : Option ℕ) (front : List ℕ) (n : ℕ) → IsNumbered stored → IsLatest stored last → line_of stored ≡ front ++ n ∷ [] → last ≡ Some n
latest_last stored None front n numbered latest e = absurd (no_last front n (sym e ∙ line_none stored latest))
latest_last stored (Some l) front n numbered latest e =
    let own = last_of_line stored l numbered latest.0 latest.1 in
    ap (λ (m : ℕ). Some m) (last_is own.0 front l n (sym own.1 ∙ e))

pub latest_none : (stored : Stored) (last : Option ℕ) → IsNumbered stored → IsLatest stored last → line_of stored ≡ [] → last ≡ None
latest_none stored None numbered latest e = refl
latest_none stored (Some l) numbered latest e = let own = last_of_line stored l numbered latest.0 latest.1 in absurd (no_last own.0 l (sym own.1 ∙ e))

-- ---- sinks

operators_before : (tasks : List Role) (i n : ℕ) → slice_get tasks i ≡ Some (role.Operator n) → count_by is_operator (take i tasks) < count_by is_operator tasks
operators_before [] i n at = absurd (none-some (role.Operator n) at)
operators_before (r ∷ tasks) zero n at =
    let all = sum_by-cons (λ (x : Role). cond (is_operator x) 1 0) r tasks in
    let one : ◌≡◌ {A = ℕ} (cond (is_operator r) 1 0) 1 = ap (λ (x : Role). (let m : ℕ = cond (is_operator x) 1 0 in m)) (same_Some r (role.Operator n) at) in
    omega (arith, all, one)
operators_before (r ∷ tasks) (suc i) n at =
    let here = sum_by-cons (λ (x : Role). cond (is_operator x) 1 0) r (take i tasks) in
    let there = sum_by-cons (λ (x : Role). cond (is_operator x) 1 0) r tasks in
    let rest = operators_before tasks i n at in
    omega (arith, here, there, rest)

-- a place before the end
pub is_within : {A : Type 0} (xs : List A) (i : ℕ) → i < length xs → (x : A) × (slice_get xs i ≡ Some x)
is_within [] i within = absurd (omega (arith, within))
is_within (x ∷ xs) zero within = (x, refl)
is_within (x ∷ xs) (suc i) within = is_within xs i (omega (arith, within))

none_within : {A : Type 0} (xs : List A) (i : ℕ) → slice_get xs i ≡ None → length xs ≤ i
none_within [] i none = omega arith
none_within (x ∷ xs) zero none = absurd (none-some x (sym none))
none_within (x ∷ xs) (suc i) none = let rest = none_within xs i none in omega (arith, rest)

module _ {R K S O : Type 0} (lang : Language R K S O) (s : State O R K S) (expanded : IsExpanded s.graph) (operators : HaveOperators s.graph s.operators) where
  -- the model's sinks are the sink tasks
  pub sink_of : (task : ℕ) → IsSink (job_of lang s) task → (subtask : ℕ) × (slice_get s.graph.tasks task ≡ Some (role.Sink subtask))
  sink_of task is = by (slice_get s.graph.tasks task) refl
    where
      as_task : (o : Option Role) → slice_get s.graph.tasks task ≡ o → option_map (task_of s.operators) o ≡ Some SinkTask
      as_task o e = ap (option_map (task_of s.operators)) (sym e) ∙ sym (tasks-graph_of s.graph s.operators task) ∙ is

      has_operator : (n : ℕ) → slice_get s.graph.tasks task ≡ Some (role.Operator n) → (operator : O) × (slice_get s.operators n ≡ Some operator)
      has_operator n e =
          let number = expanded.numbered.each task (role.Operator n) e in
          let less = operators_before s.graph.tasks task n e in
          is_within s.operators n (omega (arith, number, less, operators))

      no_operator : (o : O) → operator_task (Some o) ≡ SinkTask → ⊥
      no_operator o e = absurd cc

      by : (o : Option Role) → slice_get s.graph.tasks task ≡ o → (subtask : ℕ) × (slice_get s.graph.tasks task ≡ Some (role.Sink subtask))
      by None e = absurd (none-some SinkTask (as_task None e))
      by (Some (role.Source p)) e = absurd (cc (as_task (Some (role.Source p)) e))
      by (Some (role.Operator n)) e =
          let o = has_operator n e in
          let same = same_Some (operator_task (slice_get s.operators n)) SinkTask (as_task (Some (role.Operator n)) e) in
          absurd (no_operator o.0 (ap operator_task (sym o.1) ∙ same))
      by (Some (role.Sink subtask)) e = (subtask, e)

  pub role_of : (task : ℕ) (kind : Task O) → slice_get (job_of lang s).graph.tasks task ≡ Some kind → (r : Role) × (slice_get s.graph.tasks task ≡ Some r)
  role_of task kind is = by (slice_get s.graph.tasks task) refl
    where
      by : (o : Option Role) → slice_get s.graph.tasks task ≡ o → (r : Role) × (slice_get s.graph.tasks task ≡ Some r)
      by None e = absurd (none-some kind (ap (option_map (task_of s.operators)) (sym e) ∙ sym (tasks-graph_of s.graph s.operators task) ∙ is))
      by (Some r) e = (r, e)

-- ---- what a part says, and what a task holds that has taken it

module _ {R K S O : Type 0} (lang : Language R K S O) where
  pub part_said : (stored : Stored) (number task : ℕ) (bytes : List ℕ) (p : Part R K S) → part_of stored number task ≡ Some bytes → whole_of lang.read_part bytes ≡ Ok p → part_in lang (part_of stored number task) ≡ Some (part_view lang.cmp p)
  part_said stored number task bytes p there reads =
      ap (part_in lang) there ∙ ap (λ (r : Result (Part R K S) CodecFault). (let o : Option (durable.Part R K S) = elim r [ Ok q ↦ Some (part_view lang.cmp q) | Err fault ↦ None ] in o)) reads

  same_offset : (st : Start R K S) (h : Holding K S) → IsTaken st h → (held_state {R = R} lang.cmp (Some h)).offset ≡ (part_view {R = R} lang.cmp (part_for st)).offset
  same_offset (from.Source offset) h taken = ap (λ (x : Holding K S). (held_state {R = R} lang.cmp (Some x)).offset) taken
  same_offset (from.Operator entries logs) h taken = ap (λ (x : Holding K S). (held_state {R = R} lang.cmp (Some x)).offset) taken
  same_offset (from.Sink subtask names logs) h taken = ap (λ (x : Holding K S). (held_state {R = R} lang.cmp (Some x)).offset) taken.1

  same_states : (st : Start R K S) (h : Holding K S) → IsTaken st h → (held_state {R = R} lang.cmp (Some h)).states ≡ (part_view {R = R} lang.cmp (part_for st)).states
  same_states (from.Source offset) h taken = ap (λ (x : Holding K S). (held_state {R = R} lang.cmp (Some x)).states) taken
  same_states (from.Operator entries logs) h taken = ap (λ (x : Holding K S). (held_state {R = R} lang.cmp (Some x)).states) taken
  same_states (from.Sink subtask names logs) h taken = ap (λ (x : Holding K S). (held_state {R = R} lang.cmp (Some x)).states) taken.1

  no_output : (o : Option (Holding K S)) → (held_state {R = R} lang.cmp o).output ≡ []
  no_output None = refl
  no_output (Some (holds.Source offset)) = refl
  no_output (Some (holds.Operator entries)) = refl
  no_output (Some (holds.Sink sink)) = refl

  first_held : (r : Role) (h : Holding K S) → IsTaken {R = R} (first_start r) h → held_state {R = R} lang.cmp (Some h) ≡ fresh_task
  first_held (role.Source p) h taken = ap (λ (x : Holding K S). held_state {R = R} lang.cmp (Some x)) taken
  first_held (role.Operator n) h taken = ap (λ (x : Holding K S). held_state {R = R} lang.cmp (Some x)) taken
  first_held (role.Sink n) h taken = ap (λ (x : Holding K S). held_state {R = R} lang.cmp (Some x)) taken.1

-- ---- the configuration

module _ {R K S O : Type 0} (rules : AllRules R K S O) (s : State O R K S) (expanded : IsExpanded s.graph) (operators : HaveOperators s.graph s.operators) (numbered : IsNumbered s.stored)
    (old new : Ledger) (last : Option ℕ) (starts : List (Start R K S)) (are : AreStarts rules s.graph s.operators s.partitions s.stored last starts) (tasks : List (Holding K S))
    (take : InTurn Takes starts (before_tasks old) (record { ledger = new; tasks = tasks })) where
  -- what the tasks hold, and the logs in the channels
  abbrev pub base : Configuration R K S
  base = record { tasks = λ task. held_state rules.lang.cmp (slice_get tasks task); channels = λ number. opened (openings_of starts) number }

  abbrev k : Held R K S
  k = begun s.graph tasks (openings_of starts) last

  -- the attempt begins there
  pub begins_there : pruned_run (run_of rules.lang.cmp s.graph k) ≡ pruned_start base
  begins_there =
      let plainly : (λ number. map plain_item (items_at k.channels number)) ≡ (λ number. map attempt.Record (base.channels number)) =
      fun_ext (λ number. ap (map plain_item) (channels_are rules s.graph s.operators s.partitions s.stored old new last starts are tasks take number) ∙ plain_records (opened (openings_of starts) number)) in
      ap (λ (f : ℕ → List (attempt.Item R)). (let x : Running R K S = record { attempt = record (pruned (started base)) { channels = f }; number = 0; named = λ task. [] } in x)) plainly

  abbrev at_task : (task : ℕ) (r : Role) → slice_get s.graph.tasks task ≡ Some r → Started rules s.graph s.operators s.partitions s.stored old new last starts are tasks take task r
  at_task task r is = task_started rules s.graph s.operators s.partitions s.stored old new last starts are tasks take task r is

  -- a part of the last complete checkpoint is what its task has taken
  pub record Said (task : ℕ) (p : durable.Part R K S) : Type 0 where
    pub st : Start R K S
    pub at : slice_get starts task ≡ Some st
    pub h : Holding K S
    pub there : slice_get tasks task ≡ Some h
    pub taken : IsTaken st h
    pub is : p ≡ part_view rules.lang.cmp (part_for st)

  said : (n task : ℕ) (r : Role) (p : durable.Part R K S) → last ≡ Some n → slice_get s.graph.tasks task ≡ Some r → part_in rules.lang (part_of s.stored n task) ≡ Some p → Said task p
  said n task r p e is copy =
      let x = at_task task r is in
      let from_part : IsInPart rules s.graph s.operators s.partitions s.stored n task r x.st = subst (λ (o : Option ℕ). IsStart rules s.graph s.operators s.partitions s.stored o task r x.st) e (are.each task r x.st is x.at) in
      record {
        st = x.st;
        at = x.at;
        h = x.h;
        there = x.there;
        taken = x.taken;
        is = same_Some p (part_view rules.lang.cmp (part_for x.st)) (sym copy ∙ part_said rules.lang s.stored n task from_part.bytes (part_for x.st) from_part.is_part from_part.reads);
      }

  pub seen_restored : IsSeenRestored (job_of rules.lang s) (devices_with rules.lang s.graph s.stored new) base
  seen_restored = record {
    parts = λ front n e.
        let is_last = latest_last s.stored last front n numbered are.latest e in
        record {
          offsets = λ task p kind is copy.
              let r = role_of rules.lang s expanded operators task kind is in
              let x = said n task r.0 p is_last r.1 copy in
              ap (λ (o : Option (Holding K S)). (held_state {R = R} rules.lang.cmp o).offset) x.there ∙ same_offset rules.lang x.st x.h x.taken ∙ sym (ap (λ (q : durable.Part R K S). q.offset) x.is);
          states = λ task p kind is copy.
              let r = role_of rules.lang s expanded operators task kind is in
              let x = said n task r.0 p is_last r.1 copy in
              ap (λ (o : Option (Holding K S)). (held_state {R = R} rules.lang.cmp o).states) x.there ∙ same_states rules.lang x.st x.h x.taken ∙ sym (ap (λ (q : durable.Part R K S). q.states) x.is);
          channels = λ number channel p is copy.
              let r = (expanded.joined number channel is).receiver in
              let x = said n channel.receiver r.role p is_last r.is copy in
              openings_at rules s.graph s.operators s.partitions s.stored last starts are number channel x.st is x.at ∙ view_logs rules.lang.cmp x.st number ∙ sym (ap (λ (q : durable.Part R K S). q.logs number) x.is);
        };
    from_start = λ e.
        let is_none = latest_none s.stored last numbered are.latest e in
        ap (λ (f : ℕ → TaskState R K S). (let c : Configuration R K S = record { tasks = f; channels = λ number. opened (openings_of starts) number } in c)) (fun_ext (λ task. fresh_at is_none task))
        ∙ ap (λ (g : ℕ → List R). (let c : Configuration R K S = record { tasks = λ task. fresh_task; channels = g } in c)) (fun_ext (λ number. openings_first rules s.graph s.operators s.partitions s.stored last starts are is_none number));
    tasks = λ task none.
        ap (held_state rules.lang.cmp) (past_end tasks task
        (let long = one_each rules s.graph s.operators s.partitions s.stored old new last starts are tasks take in
        let past = none_within s.graph.tasks task (no_role task none) in
        omega (arith, long, past)));
    outputs = λ task. no_output rules.lang (slice_get tasks task);
    channels = λ number none. openings_past rules s.graph s.operators s.partitions s.stored last starts are number (no_channel number none);
  }
    where
      no_channel : (number : ℕ) → slice_get (job_of rules.lang s).graph.channels number ≡ None → slice_get s.graph.channels number ≡ None
      no_channel number none = none

      no_role : (task : ℕ) → slice_get (job_of rules.lang s).graph.tasks task ≡ None → slice_get s.graph.tasks task ≡ None
      no_role task none = by (slice_get s.graph.tasks task) refl
        where
          by : (o : Option Role) → slice_get s.graph.tasks task ≡ o → slice_get s.graph.tasks task ≡ None
          by None e = e
          by (Some r) e = absurd (none-some (task_of s.operators r) (sym none ∙ tasks-graph_of s.graph s.operators task ∙ ap (option_map (task_of s.operators)) e))

      fresh_at : last ≡ None → (task : ℕ) → held_state {R = R} rules.lang.cmp (slice_get tasks task) ≡ fresh_task
      fresh_at is_none task = by (slice_get tasks task) refl
        where
          by : (o : Option (Holding K S)) → slice_get tasks task ≡ o → held_state {R = R} rules.lang.cmp (slice_get tasks task) ≡ fresh_task
          by None e = ap (held_state rules.lang.cmp) e
          by (Some h) e =
              let r = as_long tasks s.graph.tasks task h (sym (one_each rules s.graph s.operators s.partitions s.stored old new last starts are tasks take)) e in
              let x = at_task task r.0 r.1 in
              let first : x.st ≡ first_start r.0 = subst (λ (o : Option ℕ). IsStart rules s.graph s.operators s.partitions s.stored o task r.0 x.st) is_none (are.each task r.0 x.st r.1 x.at) in
              ap (held_state rules.lang.cmp) x.there ∙ first_held rules.lang r.0 x.h (subst (λ (y : Start R K S). IsTaken y x.h) first x.taken)
