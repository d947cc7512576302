-- What is left of the store where the parts of older checkpoints are dropped.
use Rattle.std.proofs.Common.{◌≡◌, ℕ, Option, Some, None, refl}
use Rattle.checkpoint_devices.specs.Ends.{older_discarded}
use Rattle.engine_model.specs.Calls.{tidied}
use Rattle.snapshot_store.specs.Store.{Stored}

pub older_are_tidied : (last : Option ℕ) (stored : Stored) → older_discarded last stored ≡ tidied last stored
older_are_tidied None stored = refl
older_are_tidied (Some last) stored = refl
