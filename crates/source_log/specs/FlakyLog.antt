-- Partitions that fail by plan.
use Rattle.fault_plan.specs.Plan.{Planned}
use Rattle.source_log.specs.declared.flaky_log.FlakyLog.{FlakyLog}

-- the partitions behind
abbrev pub log_of : {P R : Type 0} → FlakyLog P R → P
log_of f = f.log

-- which calls fail
abbrev pub plan_of : {P R : Type 0} → FlakyLog P R → Planned
plan_of f = f.plan
