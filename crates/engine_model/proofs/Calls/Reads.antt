-- A source reads its next record.
use Rattle.std.proofs.Common.{◌≡◌, ◌+◌, Some, Result, Ok, Err, OnOk, slice_get, ℕ, refl, sym, ap, ◌∙◌}
use Rattle.std.proofs.lemmas.Option.{slice_get_within}
use Rattle.commit_sink.specs.Sink.{Sinking}
use Rattle.job_graph.specs.declared.role.Role.TheVariants as role
use Rattle.job_state.specs.Held.{Held}
use Rattle.job_state.specs.declared.holding.Holding.{Holding}
use Rattle.job_state.specs.declared.holding.Holding.TheVariants as holds
use Rattle.source_log.specs.Partitions.{records_at}
use Rattle.engine_model.specs.AllRules.{AllRules}
use Rattle.engine_model.specs.Calls.{EndsRead, ReadsNext, left_by}
use Rattle.engine_model.specs.Keeps.{Keeps}
use Rattle.engine_model.specs.State.{State}
use Rattle.engine_model.specs.View.{run_of}
use Rattle.engine_model.specs.declared.fault.CoreFault.{CoreFault}
use Rattle.engine_model.specs.declared.fault.CoreFault.TheVariants.{NoSuchTask, NotReady, Memory, Device}
use Rattle.engine_model.proofs.Runs.{read_runs}
use Rattle.engine_model.proofs.Shape.ShapesKept.{shape_reads}
use Rattle.engine_model.proofs.Calls.Goes.{KeepsAndGoes, shape_of, runs_of}
use Rattle.engine_model.proofs.Calls.Steps.{after, goes_keeps, goes_one, keeps_still, keeps_down}
use Rattle.engine_model.proofs.Calls.Runs.{logs_same, runs_moved, no_other_sinks}

pub source_no_sink : {K S : Type 0} (offset : ℕ) (sink : Sinking) → ◌≡◌ {A = Holding K S} (holds.Source offset) (holds.Sink sink) → ⊥
source_no_sink offset sink e = cc

module _ {R K S O : Type 0} (rules : AllRules R K S O) (s : State O R K S) (h k : Held R K S) (n task : ℕ) (keeps : Keeps rules s) (is : s.held ≡ Some h) where
  -- the record that the source reads next fits
  abbrev pub NextFits : Type 0
  NextFits = (p o : ℕ) (r : R) → slice_get s.graph.tasks task ≡ Some (role.Source p) → slice_get h.tasks task ≡ Some (holds.Source o) → slice_get (records_at s.partitions p) o ≡ Some r → rules.RecordFits r

  reads_next : NextFits → ReadsNext s.graph task h k rules.lang s.partitions → KeepsAndGoes rules s (after rules.lang s s.ledger (Some k) n)
  reads_next fits ends =
      let shape = shape_of rules s keeps h is in
      let runs = runs_of rules s keeps h is in
      let moved = ends.reads in
      goes_keeps rules s keeps s.ledger (Some k) n refl keeps.ordered
      (shape_reads rules s.graph s.operators h shape rules.lang.meaning task ends.partition ends.offset ends.row k ends.is_source (fits ends.partition ends.offset ends.row ends.is_source ends.at ends.next) moved)
      (runs_moved rules.lang s h k runs s.ledger (Some k) n keeps.numbered (logs_same rules.lang s h k runs s.ledger (Some k) n (ap (λ (x : Held R K S). x.logs) moved.ends)) (ap (λ (x : Held R K S). x.copies) moved.ends) (ap (λ (x : Held R K S). x.coordination) moved.ends)
      (λ t sink at.
      no_other_sinks h.tasks task (holds.Source (ends.offset + 1)) (slice_get_within h.tasks task (holds.Source ends.offset) ends.at) (source_no_sink (ends.offset + 1)) t sink
      (ap (λ (x : Held R K S). slice_get x.tasks t) (sym moved.ends) ∙ at))
      runs.sinks)
      (goes_one rules.lang s h is s.ledger k n (run_of rules.lang.cmp s.graph k)
      (read_runs rules.lang s h k task ends.partition ends.offset ends.row ends.is_source ends.at ends.next moved) refl)

  pub keeps_read : (result : Result Unit CoreFault) → OnOk result NextFits → EndsRead s.graph task h k rules.lang s.partitions result
      → KeepsAndGoes rules s (record s { held = left_by result (Some k); faults = n })
  keeps_read (Ok u) fits ends = reads_next fits ends
  keeps_read (Err NoSuchTask) fits ends = keeps_still rules s keeps h is k n ends.1
  keeps_read (Err NotReady) fits ends = keeps_still rules s keeps h is k n ends.5
  keeps_read (Err Memory) fits ends = keeps_still rules s keeps h is k n ends.1
  keeps_read (Err Device) fits ends = keeps_down rules s keeps n
  keeps_read (Err other) fits ends = absurd ends

-- what holds anyhow holds at Ok
pub on_ok : {A E : Type 0} (P : Type 0) (result : Result A E) → P → OnOk result P
on_ok P (Ok v) p = p
on_ok P (Err e) p = tt
