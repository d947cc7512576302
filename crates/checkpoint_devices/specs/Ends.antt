-- How each call ends, by what the device holds before and after, with the number of its failures.
use Rattle.std.specs.Prelude.{◌≡◌, ◌≢◌, ◌⊎◌, ◌<◌, ℕ, Bool, true, false, slice_get, Option, Some, None, Result, Ok, Err}
use Rattle.commit_sink.specs.Ledger.{Ledger, after_commit}
use Rattle.commit_sink.specs.Sink.{Sinking}
use Rattle.commit_sink.specs.declared.sink.Pending.{Pending}
use Rattle.commit_sink.specs.declared.transactions.TransactionFault.{TransactionFault}
use Rattle.snapshot_store.specs.Store.{Stored, discarded_below}
use Rattle.checkpoint_devices.specs.declared.parts.PutFault.{PutFault}
use Rattle.checkpoint_devices.specs.declared.parts.PutFault.TheVariants.{Memory, Device}

-- the store once the parts below the last complete number are gone
abbrev pub older_discarded : Option ℕ → Stored → Stored
older_discarded None stored = stored
older_discarded (Some last) stored = discarded_below stored last

-- a part is put, which leaves this, or memory was refused, or the device failed, before its work or after it
abbrev pub EndsPut : Stored × ℕ → Stored × ℕ → Stored → Result Unit PutFault → Type 0
EndsPut old new after (Ok u) = (new.0 ≡ after) × (new.1 ≡ old.1)
EndsPut old new after (Err Memory) = (new.0 ≡ old.0) × (new.1 ≡ old.1)
EndsPut old new after (Err Device) = ((new.0 ≡ old.0) ⊎ (new.0 ≡ after)) × (old.1 < new.1)

-- the sink's oldest pending transaction, of a checkpoint that is complete: one that is not pending any more
pub record IsDue (sink : Sinking) (pending : Option ℕ) (p : Pending) : Type 0 where
  pub oldest : slice_get sink.pending 0 ≡ Some p
  pub complete : pending ≢ Some p.checkpoint

module _ (sink : Sinking) (pending : Option ℕ) (old new : Ledger × ℕ) where
  -- it is committed
  pub record CommitsDue : Type 0 where
    pub next : Pending
    pub is_due : IsDue sink pending next
    pub commits : new.0 ≡ after_commit old.0 next.transaction
    pub told : new.1 ≡ old.1

  -- the device failed, before its work or after it
  pub record FailsAtDue : Type 0 where
    pub next : Pending
    pub is_due : IsDue sink pending next
    pub either : (new.0 ≡ old.0) ⊎ (new.0 ≡ after_commit old.0 next.transaction)
    pub counted : old.1 < new.1

  -- a transaction was committed, or there was none to commit, or the device failed
  abbrev pub EndsOldest : Result Bool TransactionFault → Type 0
  EndsOldest (Ok true) = CommitsDue
  EndsOldest (Ok false) = ((p : Pending) → ¬ IsDue sink pending p) × (new.0 ≡ old.0) × (new.1 ≡ old.1)
  EndsOldest (Err other) = FailsAtDue
