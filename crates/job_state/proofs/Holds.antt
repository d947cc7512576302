-- What an attempt holds after its calls.
use Rattle.std.proofs.Common.{◌≡◌, ◌<◌, ◌+◌, ◌++◌, ℕ, Bool, true, List, [], ◌∷◌, length, refl, None, replicate, false, map, slice_get, slice_set, unwrap_or, Option, Some, Result, Ok, Err, OnOk, OnErr, subst, sym, ap, ◌∙◌, arith, Ordering}
use Rattle.std.specs.List.{range_with_len}
use Rattle.std.proofs.lemmas.List.{length-set}
use Rattle.alignment.specs.Table.{Alignment, is_logged}
use Rattle.backedge_log.specs.Recorded.{without_last}
use Rattle.channels.specs.declared.item.Item.{Item}
use Rattle.channels.specs.declared.item.Item.TheVariants.{Record}
use Rattle.coordinator.specs.Coordinator.{Coordination, at_first}
use Rattle.dataflow_model.specs.Graph.{Meaning}
use Rattle.dataflow_model.specs.Machine.{received}
use Rattle.job_graph.specs.Expanded.{Expanded}
use Rattle.task_part.specs.Spelling.{Logs}
use Rattle.task_part.specs.declared.part.Part.{Part}
use Rattle.task_part.specs.declared.part.Part.TheVariants as part
use Rattle.job_state.specs.Sending.{Puts, items_at, barrier_into, without_head}
use Rattle.job_state.specs.Held.{Held, Keeps, Reads, Operates, CopiesSource, CopiesOperator, begun, opened, fresh_gate, gate_at, logged_at, log_with, record_logged, barrier_taken}
use Rattle.job_state.specs.declared.holding.Holding.{Holding}
use Rattle.job_state.specs.declared.holding.Holding.TheVariants as holds
use Rattle.job_state.proofs.Logging.{logged_dropped}

pub on_err : {T E : Type 0} (r : Result T E) (P : Type 0) → P → OnErr r P
on_err (Ok x) P p = tt
on_err (Err e) P p = p

pub on_ok : {T E : Type 0} (r : Result T E) {P Q : Type 0} → (P → Q) → OnOk r P → OnOk r Q
on_ok (Ok x) f p = f p
on_ok (Err e) f p = tt

pub on_refused : {T E : Type 0} (r : Result T E) {P Q : Type 0} → (P → Q) → OnErr r P → OnErr r Q
on_refused (Ok x) f p = tt
on_refused (Err e) f p = f p

module _ {R : Type 0} where
  pub puts_at : {before was after new : List (List (Item R))} (puts items : ℕ → List (Item R)) → before ≡ was → after ≡ new → ((k : ℕ) → puts k ≡ items k) → Puts puts before after → Puts items was new
  puts_at {before} {was} {after} {new} puts items same ends equal put = record {
    same_length = ap (λ l. length l) (sym ends) ∙ put.same_length ∙ ap (λ l. length l) same;
    each = λ k. ap (λ l. items_at l k) (sym ends) ∙ put.each k ∙ ap (λ l. items_at l k ++ puts k) same ∙ ap (λ l. items_at was k ++ l) (equal k);
  }

module _ {R K S : Type 0} where
  pub held_kept : (seen now : Held R K S) (tasks : List (Holding K S)) (channels : List (List (Item R))) (came : List Bool) (logs : List (List R)) (copies : List (Option (Part R K S))) → seen ≡ now → tasks ≡ seen.tasks → channels ≡ seen.channels → came ≡ seen.came → logs ≡ seen.logs → copies ≡ seen.copies →
      record seen { tasks = tasks; channels = channels; came = came; logs = logs; copies = copies } ≡ now
  held_kept seen now tasks channels came logs copies same one two three four five =
      ap (λ l. record seen { tasks = l; channels = channels; came = came; logs = logs; copies = copies }) one ∙ ap (λ l. record seen { channels = l; came = came; logs = logs; copies = copies }) two
      ∙ ap (λ l. record seen { came = l; logs = logs; copies = copies }) three ∙ ap (λ l. record seen { logs = l; copies = copies }) four ∙ ap (λ l. record seen { copies = l }) five ∙ same

  -- what was logged last is not logged
  pub unlogged : (task input channel : ℕ) (row : R) (seen now before : Held R K S) (came : List Bool) (logs : List (List R)) → seen ≡ now → now ≡ record_logged task input channel row before → is_logged (gate_at seen task) input ≡ true → channel < length seen.logs →
      came ≡ seen.came → logs ≡ slice_set seen.logs channel (without_last (logged_at seen channel)) → record seen { came = came; logs = logs } ≡ before
  unlogged task input channel row seen now before came logs same is logs_it within marks dropped =
      ap (λ l. record seen { came = l; logs = logs }) marks ∙ ap (λ l. record seen { logs = l }) (dropped ∙ back) ∙ ap (λ (h : Held R K S). record h { logs = before.logs }) whole
    where
      gate : is_logged (gate_at before task) input ≡ true
      gate = ap (λ (h : Held R K S). is_logged (gate_at h task) input) (sym (same ∙ is)) ∙ logs_it

      whole : seen ≡ record before { logs = log_with true channel row before.logs }
      whole = same ∙ is ∙ ap (λ b. record before { logs = log_with b channel row before.logs }) gate

      there : channel < length before.logs
      there = omega (arith, within, ap (λ (h : Held R K S). length h.logs) whole, length-set before.logs channel (unwrap_or (slice_get before.logs channel) [] ++ row ∷ []))

      back : slice_set seen.logs channel (without_last (logged_at seen channel)) ≡ before.logs
      back = ap (λ (h : Held R K S). slice_set h.logs channel (without_last (logged_at h channel))) whole ∙ logged_dropped before.logs channel row there

  -- what an attempt holds that begins
  pub begun_from : (graph : Expanded) (tasks held : List (Holding K S)) (openings : Logs R) (last_complete : Option ℕ) (count channel_count : ℕ) (channels : List (List (Item R))) (gates : List Alignment) (came : List Bool) (logs : List (List R)) (copies : List (Option (Part R K S))) (coordination : Coordination) →
      held ≡ tasks → count ≡ length tasks → channel_count ≡ length graph.channels → channels ≡ map (λ number. map Record (opened openings number)) (range_with_len 0 channel_count) → gates ≡ map (fresh_gate graph) (range_with_len 0 count) →
      came ≡ replicate channel_count false → logs ≡ replicate channel_count [] → copies ≡ replicate (length tasks) None → coordination ≡ record (at_first count) { last_complete = last_complete } →
      ◌≡◌ {A = Held R K S} (record { tasks = held; channels = channels; gates = gates; came = came; logs = logs; copies = copies; coordination = coordination }) (begun graph tasks openings last_complete)
  begun_from graph tasks held openings last_complete count channel_count channels gates came logs copies coordination a b c d e f g h i = rw (a, d, e, f, g, h, i, b, c) refl

  pub copies_source_from : (graph : Expanded) (task offset checkpoint : ℕ) (seen old new : Held R K S) (tasks : List (Holding K S)) (copies : List (Option (Part R K S))) → seen ≡ old →
      Puts (λ number. barrier_into checkpoint task (slice_get graph.channels number)) seen.channels new.channels →
      tasks ≡ seen.tasks → copies ≡ slice_set seen.copies task (Some (part.Source offset)) →
      new ≡ record seen { tasks = tasks; channels = new.channels; copies = copies } → CopiesSource graph task offset checkpoint old new
  copies_source_from graph task offset checkpoint seen old new tasks copies same puts held copied ends = record {
    sent = subst (λ (h : Held R K S). Puts (λ number. barrier_into checkpoint task (slice_get graph.channels number)) h.channels new.channels) same puts;
    ends = ends
        ∙ ap (λ l. record seen { tasks = l; channels = new.channels; copies = copies }) held
        ∙ ap (λ l. record seen { channels = new.channels; copies = l }) copied
        ∙ ap (λ (h : Held R K S). record h { channels = new.channels; copies = slice_set h.copies task (Some (part.Source offset)) }) same;
  }

  pub copies_from : (graph : Expanded) (task input channel checkpoint : ℕ) (seen old new : Held R K S) (entries : List (K × S)) (tasks : List (Holding K S)) (copies : List (Option (Part R K S))) → seen ≡ old → slice_get old.tasks task ≡ Some (holds.Operator entries) →
      Puts (λ number. barrier_into checkpoint task (slice_get graph.channels number)) (without_head channel seen.channels) new.channels →
      new.gates ≡ (barrier_taken task input channel checkpoint seen).gates → new.came ≡ slice_set seen.came channel true → new.logs ≡ seen.logs →
      tasks ≡ seen.tasks → copies ≡ slice_set seen.copies task (Some (part.Operator entries [])) →
      new ≡ record seen { tasks = tasks; channels = new.channels; gates = new.gates; came = new.came; logs = new.logs; copies = copies } → CopiesOperator graph task input channel checkpoint old new
  copies_from graph task input channel checkpoint seen old new entries tasks copies same was puts gates came kept held copied ends = record {
    entries = entries;
    was = was;
    sent = subst (λ (h : Held R K S). Puts (λ number. barrier_into checkpoint task (slice_get graph.channels number)) (without_head channel h.channels) new.channels) same puts;
    ends = ends
        ∙ ap (λ l. record seen { tasks = l; channels = new.channels; gates = new.gates; came = new.came; logs = new.logs; copies = copies }) held
        ∙ ap (λ l. record seen { channels = new.channels; gates = l; came = new.came; logs = new.logs; copies = copies }) gates
        ∙ ap (λ l. record (barrier_taken task input channel checkpoint seen) { channels = new.channels; came = l; logs = new.logs; copies = copies }) came
        ∙ ap (λ l. record (barrier_taken task input channel checkpoint seen) { channels = new.channels; logs = l; copies = copies }) kept
        ∙ ap (λ l. record (barrier_taken task input channel checkpoint seen) { channels = new.channels; copies = l }) copied
        ∙ ap (λ (h : Held R K S). record (barrier_taken task input channel checkpoint h) { channels = new.channels; copies = slice_set h.copies task (Some (part.Operator entries [])) }) same;
  }

module _ {R K S O : Type 0} (meaning : Meaning R K S O) (graph : Expanded) (task : ℕ) where
  pub reads_from : (offset : ℕ) (row : R) (seen old new : Held R K S) (sent : List (ℕ × R)) (tasks : List (Holding K S)) (copies : List (Option (Part R K S))) → seen ≡ old → sent ≡ (0, row) ∷ [] →
      Puts (λ number. map Record (received meaning task sent (slice_get graph.channels number))) seen.channels new.channels →
      tasks ≡ slice_set seen.tasks task (holds.Source (offset + 1)) → copies ≡ seen.copies →
      new ≡ record seen { tasks = tasks; channels = new.channels; copies = copies } → Reads meaning graph task offset row old new
  reads_from offset row seen old new sent tasks copies same one puts moved kept ends = record {
    sent = subst (λ (h : Held R K S). Puts (λ number. map Record (received meaning task ((0, row) ∷ []) (slice_get graph.channels number))) h.channels new.channels) same (subst (λ (s : List (ℕ × R)). Puts (λ number. map Record (received meaning task s (slice_get graph.channels number))) seen.channels new.channels) one puts);
    ends = ends
        ∙ ap (λ l. record seen { tasks = l; channels = new.channels; copies = copies }) moved
        ∙ ap (λ l. record seen { tasks = slice_set seen.tasks task (holds.Source (offset + 1)); channels = new.channels; copies = l }) kept
        ∙ ap (λ (h : Held R K S). record h { tasks = slice_set h.tasks task (holds.Source (offset + 1)); channels = new.channels }) same;
  }

  pub operates_from : (cmp : K → K → Ordering) (input channel : ℕ) (row : R) (key : Option K) (state : S) (sent : List (ℕ × R)) (seen old new : Held R K S) (before after : Holding K S) (tasks : List (Holding K S)) (copies : List (Option (Part R K S))) → seen ≡ old → slice_get seen.tasks task ≡ Some before → Keeps meaning cmp key state before after →
      Puts (λ number. map Record (received meaning task sent (slice_get graph.channels number))) (without_head channel seen.channels) new.channels →
      new.came ≡ seen.came → new.logs ≡ (record_logged task input channel row seen).logs →
      tasks ≡ slice_set seen.tasks task after → copies ≡ seen.copies →
      new ≡ record seen { tasks = tasks; channels = new.channels; came = new.came; logs = new.logs; copies = copies } → Operates meaning cmp graph task input channel row key state sent old new
  operates_from cmp input channel row key state sent seen old new before after tasks copies same here keeps puts came logged set kept ends = record {
    entries = keeps.entries;
    kept = keeps.kept;
    was = ap (λ (h : Held R K S). slice_get h.tasks task) (sym same) ∙ here ∙ ap Some keeps.was;
    keeps = keeps.keeps;
    puts = subst (λ (h : Held R K S). Puts (λ number. map Record (received meaning task sent (slice_get graph.channels number))) (without_head channel h.channels) new.channels) same puts;
    ends = ends
        ∙ ap (λ l. record seen { tasks = l; channels = new.channels; came = new.came; logs = new.logs; copies = copies }) set
        ∙ ap (λ l. record seen { tasks = slice_set seen.tasks task after; channels = new.channels; came = new.came; logs = new.logs; copies = l }) kept
        ∙ ap (λ l. record seen { tasks = slice_set seen.tasks task after; channels = new.channels; came = l; logs = new.logs }) came
        ∙ ap (λ l. record seen { tasks = slice_set seen.tasks task after; channels = new.channels; logs = l }) logged
        ∙ ap (λ t. record (record_logged task input channel row seen) { tasks = slice_set seen.tasks task t; channels = new.channels }) keeps.is
        ∙ ap (λ (h : Held R K S). record (record_logged task input channel row h) { tasks = slice_set h.tasks task (holds.Operator keeps.kept); channels = new.channels }) same;
  }
