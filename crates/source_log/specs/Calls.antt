-- The calls of partitions that may fail, by number.
use Rattle.std.specs.Prelude.{ℕ}
use Rattle.source_log.specs.declared.flaky_log.LogCall.{LogCall}
use Rattle.source_log.specs.declared.flaky_log.LogCall.TheVariants.{Read, Append}

abbrev pub call_number : LogCall → ℕ
call_number Read = 0
call_number Append = 1
