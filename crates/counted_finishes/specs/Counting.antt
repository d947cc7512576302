-- What is counted of a core's finishes.
use Rattle.std.specs.Prelude.{◌≡◌, ℕ, ◌+◌, ◌*◌, ◌^◌, ◌≤◌, Result, MatchResult, length}
use Rattle.engine_model.specs.declared.fault.CoreFault.{CoreFault}
use Rattle.dataflow_core.specs.CoreState.{CoreState}

-- each claim adds fewer than 2^64, and once it has ended
abbrev pub Within : {O R K S : Type 0} → ℕ → CoreState O R K S → Type 0
Within total core = total + 2 ^ 64 * length core.claims ≤ 2 ^ 64 * core.serials

-- a claim ends where a result is taken, and none is made
abbrev pub EndsAClaim : {O R K S : Type 0} → CoreState O R K S → CoreState O R K S → Result Unit CoreFault → Type 0
EndsAClaim old new result =
    MatchResult result (λ _. length new.claims + 1 ≡ length old.claims) (λ _. length new.claims ≤ length old.claims) × (new.serials ≡ old.serials)

-- a serial is used up where a result is taken with no claim, and the claims stay
abbrev pub UsesASerial : {O R K S : Type 0} → CoreState O R K S → CoreState O R K S → Result Unit CoreFault → Type 0
UsesASerial old new result =
    MatchResult result (λ _. new.serials ≡ old.serials + 1) (λ _. old.serials ≤ new.serials) × (new.claims ≡ old.claims)

-- a serial is used up for all that is counted at once, and the claims stay
abbrev pub SpendsASerial : {O R K S : Type 0} → CoreState O R K S → CoreState O R K S → (count : ℕ) → Type 0
SpendsASerial old new count = (count + 2 ^ 64 * old.serials ≤ 2 ^ 64 * new.serials) × (new.claims ≡ old.claims)
