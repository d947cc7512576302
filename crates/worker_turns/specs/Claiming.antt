-- How often a turn claims.
use Rattle.std.specs.Prelude.{◌+◌, ◌≤◌, length}
use Rattle.dataflow_core.specs.CoreState.{CoreState}

-- one claim is made at most, with a serial of its own
abbrev pub ClaimsOnce : {O R K S : Type 0} → CoreState O R K S → CoreState O R K S → Type 0
ClaimsOnce old new = (length new.claims + old.serials ≤ length old.claims + new.serials) × (new.serials ≤ old.serials + 1)
