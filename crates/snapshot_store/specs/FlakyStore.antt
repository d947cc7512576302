-- A store that fails by plan.
use Rattle.fault_plan.specs.Plan.{Planned}
use Rattle.snapshot_store.specs.declared.flaky_store.FlakyStore.{FlakyStore}

-- the store behind
abbrev pub store_of : {S : Type 0} → FlakyStore S → S
store_of f = f.store

-- which calls fail
abbrev pub plan_of : {S : Type 0} → FlakyStore S → Planned
plan_of f = f.plan
