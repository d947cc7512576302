-- When an engine is sound, whatever devices it was opened over.
use Rattle.std.specs.Prelude.{ℕ, List, None, false}
use Rattle.checkpoint_model.specs.Pruned.{pruned_running, IsPrunedSound}
use Rattle.commit_sink.specs.Ledger.{Ledger}
use Rattle.dataflow_model.specs.Graph.{Begins}
use Rattle.job_graph.specs.Expanded.{Expanded}
use Rattle.snapshot_store.specs.Store.{Stored}
use Rattle.source_log.specs.Partitions.{records_at}
use Rattle.engine_model.specs.AllRules.{AllRules}
use Rattle.engine_model.specs.Keeps.{AllOrNone, PartsAreFormed}
use Rattle.engine_model.specs.State.{State}
use Rattle.engine_model.specs.View.{job_of, is_logged_in, devices_of, running_of, store_of}

-- Its devices tell of one plain run with a moment for each complete checkpoint, and while it runs its attempt goes on from the last one; of each
-- complete checkpoint the store has the parts of all tasks or none; and each part is what its task's role asks for.
pub record IsSound {R K S O : Type 0} (rules : AllRules R K S O) (s : State O R K S) : Type 0 where
  pub tells : IsPrunedSound (job_of rules.lang s) (is_logged_in s) rules.lang.spelling (devices_of rules.lang s) (pruned_running (running_of rules.lang s))
  pub whole : AllOrNone (job_of rules.lang s) (store_of rules.lang s.stored)
  pub formed : PartsAreFormed rules s.graph s.stored

-- Devices are legal for a job, its operators and its partitions: an engine that is down over them is sound.
abbrev pub AreLegal : {R K S O : Type 0} → AllRules R K S O → Expanded → List O → List (List R) → Stored → Ledger → Type 0
AreLegal rules graph operators partitions stored ledger =
    IsSound rules (record { graph = graph; operators = operators; partitions = partitions; stored = stored; ledger = ledger; held = None; is_fresh = false; faults = 0; attempts = 0 })

-- each partition begins with the former one
abbrev pub HaveGrown : {R : Type 0} → List (List R) → List (List R) → Type 0
HaveGrown former partitions = (p : ℕ) → Begins (records_at former p) (records_at partitions p)
