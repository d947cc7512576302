-- What a task holds, and its logs.
use Rattle.std.proofs.Common.{◌≡◌, ◌++◌, ℕ, Bool, true, false, Option, Err, List, [], ◌∷◌, slice_get, length, unwrap_or, refl}
use Rattle.commit_sink.specs.Ledger.{Ledger, Ends}
use Rattle.commit_sink.specs.declared.transactions.TransactionFault.{TransactionFault}
use Rattle.commit_sink.specs.declared.transactions.TransactionFault.TheVariants.{Memory}
use Rattle.engine_model.proofs.Lists.{set_length}
use Rattle.job_state.specs.Held.{log_with}

-- a call that is refused memory leaves the transactions
pub memory_leaves : (old new : Ledger × ℕ) (refusal : Option TransactionFault) (after : Ledger) (fault : TransactionFault) → fault ≡ Memory → Ends {T = Unit {0}} old new refusal after (Err fault) → new.0 ≡ old.0
memory_leaves old new refusal after Memory is ends = ends.1
memory_leaves old new refusal after other is ends = absurd cc

-- as many channels have logs
pub logged_length : {R : Type 0} (is_logged : Bool) (channel : ℕ) (row : R) (logs : List (List R)) → length (log_with is_logged channel row logs) ≡ length logs
logged_length false channel row logs = refl
logged_length true channel row logs = set_length logs channel (unwrap_or (slice_get logs channel) [] ++ row ∷ [])
