-- What a job holds after a restart is what every running job keeps.
use Rattle.std.proofs.Common.{◌≡◌, ◌⊎◌, ◌≤◌, ◌+◌, All, MatchOption, Option, Some, None, slice_get, ◌<◌, cond, length, map, count_by, replicate, unwrap_or, is_some, inl, inr, ℕ, zero, suc, Bool, true, false, List, [], ◌∷◌, refl, sym, ap, ◌∙◌, subst, arith}
use Rattle.std.specs.List.{range_with_len}
use Rattle.std.proofs.lemmas.Bool.{false≢true}
use Rattle.std.proofs.lemmas.Bool.Decides.{leb_tells}
use Rattle.std.proofs.lemmas.List.{length-map}
use Rattle.std.proofs.lemmas.List.Elements.{All-nil}
use Rattle.std.proofs.lemmas.List.FromFn.{length-map-range_with_len}
use Rattle.std.proofs.lemmas.List.Sums.{sum_by-cons}
use Rattle.alignment.specs.Inputs as gates
use Rattle.alignment.specs.Inputs.{fresh}
use Rattle.alignment.specs.Table.{Alignment, IsKept}
use Rattle.alignment.specs.declared.input.Input.{Input}
use Rattle.alignment.specs.declared.input.Phase.TheVariants.{AtRest}
use Rattle.channels.specs.declared.item.Item.{Item}
use Rattle.channels.specs.declared.item.Item.TheVariants.{Record}
use Rattle.std.proofs.lemmas.Option.{none-some, same_Some}
use Rattle.commit_sink.specs.Ledger.{Ledger, IsOrdered}
use Rattle.commit_sink.specs.Sink.{Sinking}
use Rattle.commit_sink.specs.declared.sink.Pending.{Pending}
use Rattle.job_graph.specs.Expanded.{Expanded, IsExpanded, meets, is_marked, inputs_of}
use Rattle.job_graph.specs.declared.role.Role.{Role}
use Rattle.job_graph.specs.declared.role.Role.TheVariants as role
use Rattle.job_graph.proofs.FlatMaps.{range_at}
use Rattle.job_state.specs.Held.{Held, begun, gate_at, fresh_gate, opened}
use Rattle.job_state.specs.Sending.{items_at}
use Rattle.job_state.specs.declared.holding.Holding.{Holding}
use Rattle.job_state.specs.declared.holding.Holding.TheVariants as holds
use Rattle.snapshot_store.specs.Store.{Stored, IsLatest, is_complete}
use Rattle.task_part.specs.Spelling.{Logs}
use Rattle.task_part.specs.declared.part.Part.{Part}
use Rattle.engine_model.specs.AllRules.{AllRules}
use Rattle.engine_model.specs.Keeps.{HoldsAs, CopyAs, IfRecord, StandsAs, GateFits, barriers_in, Shape, RunsIn}
use Rattle.engine_model.specs.Restart.{InTurn, AreStarts, Takes, before_tasks, openings_of}
use Rattle.engine_model.specs.State.{State}
use Rattle.engine_model.specs.declared.start.Start.{Start}
use Rattle.engine_model.proofs.Shape.BarriersKept.{none_of_records}
use Rattle.engine_model.proofs.Shape.Fitting.{fit_records}
use Rattle.engine_model.proofs.Ledger.Lists.{get_in_map}
use Rattle.engine_model.proofs.Restart.Logs.{past_end, openings_past, openings_fit}
use Rattle.engine_model.proofs.Restart.Sinks.{AreFor, TakesLeave, takes_leave}
use Rattle.engine_model.proofs.Restart.Starts.{as_long, sink_at, takes_length, takes_each, start_of_kind, holds_of_kind, good_states}

-- what nothing was written over
pub unset : {A : Type 0} (n k : ℕ) (x : A) → unwrap_or (slice_get (replicate n x) k) x ≡ x
unset zero k x = refl
unset (suc n) zero x = refl
unset (suc n) (suc k) x = unset n k x

pub many : {A : Type 0} (n : ℕ) (x : A) → length (replicate n x) ≡ n
many zero x = refl
many (suc n) x = ap suc (many n x)

pub from_first : (n : ℕ) → 0 + n ≡ n
from_first n = omega arith

-- what is made for each number
made_at : {A : Type 0} (f : ℕ → A) (n k : ℕ) → k < n → slice_get (map f (range_with_len 0 n)) k ≡ Some (f k)
made_at f n k within = get_in_map f (range_with_len 0 n) k (0 + k) (range_at 0 n k within) ∙ ap (λ (m : ℕ). Some (f m)) (from_first k)

made_past : {A : Type 0} (f : ℕ → A) (n k : ℕ) → n ≤ k → slice_get (map f (range_with_len 0 n)) k ≡ None
made_past f n k past = past_end (map f (range_with_len 0 n)) k (let long = length-map-range_with_len f 0 n in omega (arith, past, long))

-- ---- fresh gates

mark_at : (f : ℕ → Bool) (xs : List ℕ) (input number : ℕ) → slice_get xs input ≡ Some number → (gates.input_at (map (λ n. fresh (f n)) xs) input).is_marked ≡ f number
mark_at f [] input number at = absurd (none-some number at)
mark_at f (x ∷ xs) zero number at = ap f (same_Some x number at)
mark_at f (x ∷ xs) (suc input) number at = mark_at f xs input number at

none_noted : (f : ℕ → Bool) (xs : List ℕ) → count_by (λ (input : Input). input.came) (map (λ n. fresh (f n)) xs) ≡ 0
none_noted f [] = refl
none_noted f (x ∷ xs) =
    let rest = none_noted f xs in
    let first = sum_by-cons (λ (input : Input). cond input.came 1 0) (fresh (f x)) (map (λ n. fresh (f n)) xs) in
    omega (arith, rest, first)

module _ {R K S : Type 0} (graph : Expanded) (tasks : List (Holding K S)) (openings : Logs R) (last : Option ℕ) where
  abbrev first : Held R K S
  first = begun graph tasks openings last

  -- each gate is at rest, and has its task's inputs
  pub fresh_fits : (task : ℕ) → task < length tasks → GateFits graph first task
  fresh_fits task within = record {
    one_each = ap (λ (g : Alignment). length g.inputs) is ∙ length-map (inputs_of graph task) (λ number. fresh (meets is_marked graph.channels number));
    marks = λ input number at. ap (λ (g : Alignment). (gates.input_at g.inputs input).is_marked) is ∙ mark_at (meets is_marked graph.channels) (inputs_of graph task) input number at;
    kept = subst (λ (g : Alignment). IsKept g.phase g.inputs) (sym is) (none_noted (meets is_marked graph.channels) (inputs_of graph task));
    stands = subst (λ (g : Alignment). StandsAs graph first task g.phase g.inputs) (sym is) at_rest;
    acknowledged = λ acked. absurd (false≢true acked);
  }
    where
      is : gate_at first task ≡ fresh_gate graph task
      is = ap (λ (o : Option Alignment). unwrap_or o (record { phase = AtRest; inputs = [] })) (made_at (fresh_gate graph) (length tasks) task within)

      at_rest : StandsAs graph first task AtRest (fresh_gate graph task).inputs
      at_rest input number at = unset (length graph.channels) number false ∙ sym (ap is_some (unset (length tasks) task None))

module _ {R K S O : Type 0} (rules : AllRules R K S O) (graph : Expanded) (operators : List O) (partitions : List (List R)) (stored : Stored)
    (old new : Ledger) (last : Option ℕ) (starts : List (Start R K S)) (are : AreStarts rules graph operators partitions stored last starts) (tasks : List (Holding K S))
    (take : InTurn Takes starts (before_tasks old) (record { ledger = new; tasks = tasks })) where
  abbrev k : Held R K S
  k = begun graph tasks (openings_of starts) last

  pub for_sinks : AreFor graph 0 starts
  for_sinks n subtask names logs at = ap (slice_get graph.tasks) (from_first n) ∙ sink_at rules graph operators partitions stored last starts are n subtask names logs at

  pub one_each : length tasks ≡ length graph.tasks
  one_each = takes_length starts (before_tasks old) (record { ledger = new; tasks = tasks }) take ∙ from_first (length starts) ∙ are.one_each

  -- each task has a start, and has taken it
  pub record Started (task : ℕ) (r : Role) : Type 0 where
    pub st : Start R K S
    pub at : slice_get starts task ≡ Some st
    pub h : Holding K S
    pub there : slice_get tasks task ≡ Some h
    pub taken : Rattle.engine_model.proofs.Restart.Starts.IsTaken st h

  pub started : (task : ℕ) (r : Role) → slice_get graph.tasks task ≡ Some r → Started task r
  started task r is =
      let st = as_long graph.tasks starts task r are.one_each is in
      let h = takes_each starts (before_tasks old) (record { ledger = new; tasks = tasks }) take task st.0 st.1 in
      record { st = st.0; at = st.1; h = h.0; there = ap (slice_get tasks) (sym (from_first task)) ∙ h.1; taken = h.2 }

  -- the channels hold the logs
  pub channels_are : (number : ℕ) → items_at k.channels number ≡ map Record (opened (openings_of starts) number)
  channels_are number =
      elim (leb_tells (length graph.channels) number) [
        | inl past ↦
            ap (λ (o : Option (List (Item R))). unwrap_or o []) (made_past (λ n. map Record (opened (openings_of starts) n)) (length graph.channels) number past.1)
            ∙ sym (ap (map Record) (openings_past rules graph operators partitions stored last starts are number (past_end graph.channels number past.1)))
        | inr within ↦ ap (λ (o : Option (List (Item R))). unwrap_or o []) (made_at (λ n. map Record (opened (openings_of starts) n)) (length graph.channels) number (let h = within.1 in omega (arith, h)))
      ]

  pub shape : Shape rules graph operators k
  shape = record {
    tasks = one_each;
    channels = length-map-range_with_len (λ n. map Record (opened (openings_of starts) n)) 0 (length graph.channels);
    copies = many (length tasks) None ∙ one_each;
    gates = length-map-range_with_len (fresh_gate graph) 0 (length tasks) ∙ one_each;
    came = many (length graph.channels) false;
    logs = many (length graph.channels) [];
    acked = many (length tasks) false ∙ one_each;
    none_copied = λ none task. unset (length tasks) task None;
    none_came = λ none number. unset (length graph.channels) number false;
    barriers = λ number channel is. ap barriers_in (channels_are number) ∙ none_of_records (opened (openings_of starts) number);
    came_after = λ number channel is came. absurd (false≢true (sym (unset (length graph.channels) number false) ∙ came));
    gate_fits = λ task within. fresh_fits graph tasks (openings_of starts) last task (let long = one_each in omega (arith, within, long));
    only_marked = λ number unmarked. unset (length graph.channels) number [];
    forms = λ task r is.
        let s = started task r is in
        subst (λ (o : Option (Holding K S)). HoldsAs r o) (sym s.there) (holds_of_kind r s.st s.h (start_of_kind rules graph operators partitions stored last task r s.st (are.each task r s.st is s.at)) s.taken);
    copy_forms = λ task r is. subst (λ (o : Option (Part R K S)). CopyAs r o) (sym (unset (length tasks) task None)) (no_copy r);
    fit = λ number. subst (All (IfRecord rules.RecordFits)) (sym (channels_are number)) (fit_records rules.RecordFits (opened (openings_of starts) number) (openings_fit rules graph operators partitions stored last starts are number));
    logs_fit = λ number. subst (All rules.RecordFits) (sym (unset (length graph.channels) number [])) (All-nil rules.RecordFits);
    good = λ task number operator entries key state is at there found.
        let s = started task (role.Operator number) is in
        let same : s.h ≡ holds.Operator entries = same_Some s.h (holds.Operator entries) (sym s.there ∙ there) in
        good_states rules graph operators partitions stored last task number s.st entries operator key state (are.each task (role.Operator number) s.st is s.at)
        (subst (Rattle.engine_model.proofs.Restart.Starts.IsTaken s.st) same s.taken) at found;
  }
    where
      no_copy : (r : Role) → CopyAs {R = R} {K = K} {S = S} r None
      no_copy r = tt

  module _ (expanded : IsExpanded graph) (ordered : IsOrdered old) where
    pub leaves : TakesLeave graph (before_tasks old) (record { ledger = new; tasks = tasks })
    leaves = takes_leave graph expanded starts (before_tasks old) (record { ledger = new; tasks = tasks }) for_sinks ordered (λ place subtask sink is at. absurd (none-some (holds.Sink sink) at)) take

    pub runs : (s : State O R K S) → s.graph ≡ graph → s.stored ≡ stored → s.ledger ≡ new → RunsIn rules.lang s k
    runs s same_graph same_stored same_ledger = record {
      pending = tt;
      last_complete = rw same_stored (known last are.latest);
      sinks = rw (same_graph, same_ledger) (λ task subtask sink is at. (leaves.settled task subtask sink is at).0);
      checkpoints = λ task sink at. let P : Pending → Type 0 = λ p. (is_complete s.stored p.checkpoint ≡ true) ⊎ (k.coordination.pending ≡ Some p.checkpoint) in subst (All P) (sym (none_pending task sink at)) (All-nil P);
      copied_last = λ task number sink at pending copied. absurd (none-some number pending);
      last_pending = λ task sink at i p there pending. absurd (none-some p.checkpoint pending);
    }
      where
        known : (o : Option ℕ) → IsLatest stored o → MatchOption o ((n : ℕ) → is_complete stored n ≡ false) (λ l. (is_complete stored l ≡ true) × ((n : ℕ) → is_complete stored n ≡ true → n ≤ l))
        known None latest = latest
        known (Some l) latest = latest

        of_sink : (task : ℕ) (r : Role) (sink : Sinking) → slice_get graph.tasks task ≡ Some r → slice_get tasks task ≡ Some (holds.Sink sink) → (subtask : ℕ) × (slice_get graph.tasks task ≡ Some (role.Sink subtask))
        of_sink task r sink is at = by r is (subst (HoldsAs r) at (shape.forms task r is))
          where
            by : (r : Role) → slice_get graph.tasks task ≡ Some r → HoldsAs {K = K} {S = S} r (Some (holds.Sink sink)) → (subtask : ℕ) × (slice_get graph.tasks task ≡ Some (role.Sink subtask))
            by (role.Source partition) is holding = absurd (cc holding.1)
            by (role.Operator number) is holding = absurd (cc holding.1)
            by (role.Sink subtask) is holding = (subtask, is)

        none_pending : (task : ℕ) (sink : Sinking) → slice_get tasks task ≡ Some (holds.Sink sink) → sink.pending ≡ []
        none_pending task sink at =
            let r = as_long tasks graph.tasks task (holds.Sink sink) (sym one_each) at in
            (leaves.settled task (of_sink task r.0 sink r.1 at).0 sink (of_sink task r.0 sink r.1 at).1 at).1
