-- A record is put last in a partition, or nothing changes.
use Rattle.std.proofs.Common.{◌≡◌, ◌⊎◌, inl, inr, Option, Result, Ok, Err, ℕ, List}
use Rattle.source_log.specs.Partitions.{Ends}
use Rattle.source_log.specs.declared.partitions.SourceFault.{SourceFault}
use Rattle.source_log.specs.declared.partitions.SourceFault.TheVariants.{Fault, NoSuchPartition, Full, Memory}

pub appends_or_not : {R T : Type 0} (old new : List (List R)) (before after : ℕ) (refusal : Option SourceFault) (made : List (List R)) (result : Result T SourceFault)
    → Ends (old, before) (new, after) refusal made result → (new ≡ old) ⊎ (new ≡ made)
appends_or_not old new before after refusal made (Ok v) e = inr e.1
appends_or_not old new before after refusal made (Err Fault) e = elim e.0 [ inl same ↦ inl same | inr done ↦ inr done.1 ]
appends_or_not old new before after refusal made (Err Memory) e = inl e.1
appends_or_not old new before after refusal made (Err NoSuchPartition) e = inl e.1
appends_or_not old new before after refusal made (Err Full) e = inl e.1
