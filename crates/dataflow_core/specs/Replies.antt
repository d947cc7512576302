-- How an outcome is told.
use Rattle.std.specs.Prelude.{ℕ, Option, Some, None, Result, Ok, Err}
use Rattle.alignment.specs.declared.input.Effect.{Effect}
use Rattle.source_log.specs.declared.partitions.SourceFault.{SourceFault}
use Rattle.engine_model.specs.declared.fault.CoreFault.{CoreFault}
use Rattle.engine_model.specs.declared.persisted.Persisted.{Persisted}
use Rattle.engine_model.specs.declared.persisted.Persisted.TheVariants as persisted
use Rattle.dataflow_core.specs.declared.replies.Reply.{Reply}
use Rattle.dataflow_core.specs.declared.replies.Reply.TheVariants.{Accepted, More, Number, Barrier, Drained, Refused, Source}
use Rattle.engine_rounds.specs.declared.ending.Drained as ending

abbrev pub accepted_as : Result Unit CoreFault → Reply
accepted_as (Ok u) = Accepted
accepted_as (Err fault) = Refused fault

abbrev pub numbered_as : Result ℕ CoreFault → Reply
numbered_as (Ok number) = Number number
numbered_as (Err fault) = Refused fault

abbrev pub restarted_as : Result (Option ℕ) CoreFault → Reply
restarted_as (Ok None) = Number 0
restarted_as (Ok (Some number)) = Number number
restarted_as (Err fault) = Refused fault

abbrev pub persisted_as : Result Persisted CoreFault → Reply
persisted_as (Ok persisted.More) = More
persisted_as (Ok persisted.Done) = Accepted
persisted_as (Err fault) = Refused fault

abbrev pub copied_as : Result Effect CoreFault → Reply
copied_as (Ok effect) = Barrier effect
copied_as (Err fault) = Refused fault

abbrev pub drained_as : Result ending.Drained CoreFault → Reply
drained_as (Ok drained) = Drained drained
drained_as (Err fault) = Refused fault

abbrev pub appended_as : Result Unit SourceFault → Reply
appended_as (Ok u) = Accepted
appended_as (Err fault) = Source fault
