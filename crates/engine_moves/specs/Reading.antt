-- A source's records are read in turn.
use Rattle.std.specs.Prelude.{◌≡◌, ◌⊎◌, ◌+◌, ℕ, zero, suc, List, slice_get, Some, Result, Ok, Err}
use Rattle.job_graph.specs.Expanded.{Expanded}
use Rattle.job_graph.specs.declared.role.Role.TheVariants as role
use Rattle.job_state.specs.Held.{Held}
use Rattle.job_state.specs.declared.holding.Holding.TheVariants as holds
use Rattle.source_log.specs.Partitions.{records_at}
use Rattle.engine_model.specs.AllRules.{AllRules}
use Rattle.engine_model.specs.Calls.{EndsRead}
use Rattle.engine_model.specs.declared.fault.CoreFault.{CoreFault}

module _ {R K S O : Type 0} (rules : AllRules R K S O) (graph : Expanded) (task : ℕ) (partitions : List (List R)) where
  -- the record that the source reads next fits
  abbrev pub NextFits : Held R K S → Type 0
  NextFits h = (partition offset : ℕ) (row : R) → slice_get graph.tasks task ≡ Some (role.Source partition) → slice_get h.tasks task ≡ Some (holds.Source offset) → slice_get (records_at partitions partition) offset ≡ Some row → rules.RecordFits row

  -- Records are read, one after another and so many at most, until one is not: so many are read.
  abbrev pub ReadsInTurn : (most : ℕ) → (h k : Held R K S) → (count : ℕ) → Result Unit CoreFault → Type 0
  ReadsInTurn zero h k count result = (count ≡ 0) × (result ≡ Ok tt) × (k ≡ h)
  ReadsInTurn (suc most) h k count result =
      ((fault : CoreFault) × (count ≡ 0) × (result ≡ Err fault) × EndsRead graph task h k rules.lang partitions (Err fault))
      ⊎ ((middle : Held R K S) × (others : ℕ) × (count ≡ others + 1) × NextFits h × EndsRead graph task h middle rules.lang partitions (Ok tt) × ReadsInTurn most middle k others result)
