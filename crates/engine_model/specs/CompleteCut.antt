-- A checkpoint that completes is the cut that its attempt has made so far: the store has every task's part, and the parts say that cut.
use Rattle.std.specs.Prelude.{ℕ}
use Rattle.checkpoint_model.specs.Consistent.{cut_so_far}
use Rattle.checkpoint_model.specs.Durable.{HasParts, IsCutOf}
use Rattle.job_state.specs.Held.{Held}
use Rattle.snapshot_store.specs.Store.{Stored}
use Rattle.engine_model.specs.Language.{Language}
use Rattle.engine_model.specs.State.{State}
use Rattle.engine_model.specs.View.{attempt_of, job_of, store_of}

-- the store has all parts of checkpoint n, and they are the cut so far of what was held
pub record HasTheCut {R K S O : Type 0} (lang : Language R K S O) (s : State O R K S) (held : Held R K S) (stored : Stored) (n : ℕ) : Type 0 where
  pub parts : HasParts (job_of lang s) (store_of lang stored) n
  pub cut : IsCutOf (job_of lang s) (store_of lang stored) n (cut_so_far (job_of lang s) (attempt_of lang.cmp held))
