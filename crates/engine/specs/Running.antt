-- How a call ends that wants a running job: `Ends` says it of what the job holds before and after. A failed device takes the job down.
use Rattle.std.specs.Prelude.{◌≡◌, ◌⊎◌, ◌+◌, ◌^◌, ◌<◌, ◌≤◌, ℕ, Option, Some, Result, Ok, Err, MatchOption}
use Rattle.job_state.specs.Held.{Held}
use Rattle.engine_model.specs.Calls.{left_by}
use Rattle.engine_model.specs.RestartLaws.{held_by}
use Rattle.engine_model.specs.State.{State}
use Rattle.engine_model.specs.declared.fault.CoreFault.{CoreFault}
use Rattle.engine_model.specs.declared.fault.CoreFault.TheVariants.{NotRunning, NotReady, Device, CommitFault, NumbersSpent}

-- how often the devices have failed, before a fault is told and after it: more often where it is a device's, or a commit's, and else as often
abbrev pub CountsFault : ℕ → ℕ → CoreFault → Type 0
CountsFault old new Device = old < new
CountsFault old new CommitFault = old < new
CountsFault old new other = new ≡ old

-- so of a call: a fault is counted exactly where it is told
abbrev pub IsCounted : {T : Type 0} → ℕ → ℕ → Result T CoreFault → Type 0
IsCounted old new (Ok v) = new ≡ old
IsCounted old new (Err fault) = CountsFault old new fault

-- what no call changes: the graph, the operators, and whether the devices were new
abbrev pub IsSameJob : {O R K S : Type 0} → State O R K S → State O R K S → Type 0
IsSameJob old new = (new.graph ≡ old.graph) × (new.operators ≡ old.operators) × (new.is_fresh ≡ old.is_fresh)

module _ {O R K S T : Type 0} (old new : State O R K S) (Ends : Held R K S → Held R K S → Result T CoreFault → Type 0) (result : Result T CoreFault) where
  -- the call is refused where the job is down
  abbrev pub WhileRunning : (Held R K S → State O R K S) → Type 0
  WhileRunning leaves = MatchOption old.held ((result ≡ Err NotRunning) × (new ≡ old)) (λ h. (k : Held R K S) × Ends h k result × (new ≡ leaves k))

  -- it leaves the store and the transactions,
  abbrev pub OnAttempt : Type 0
  OnAttempt = WhileRunning (λ k. record old { held = left_by result (Some k); faults = new.faults })

  -- or changes the store alone,
  abbrev pub OnStore : Type 0
  OnStore = WhileRunning (λ k. record old { held = left_by result (Some k); stored = new.stored; faults = new.faults })

  -- or the transactions alone
  abbrev pub OnTransactions : Type 0
  OnTransactions = WhileRunning (λ k. record old { held = left_by result (Some k); ledger = new.ledger; faults = new.faults })

-- the number alone of what a restart made
abbrev pub number_of : {A : Type 0} → Result (Option ℕ × A) CoreFault → Result (Option ℕ) CoreFault
number_of (Ok made) = Ok made.0
number_of (Err fault) = Err fault

-- what is held after a restart: what it made, or else what was held before
abbrev pub raised : {A : Type 0} → Result (Option ℕ × A) CoreFault → Option A → Option A
raised (Ok made) held = Some made.1
raised (Err fault) held = held

-- attempts are counted where one is made
abbrev pub attempts_after : {A : Type 0} → Result A CoreFault → ℕ → ℕ
attempts_after (Ok made) attempts = attempts + 1
attempts_after (Err fault) attempts = attempts

-- How a restart ends: it is refused while the job runs, or where no number of an attempt is left; and it leaves all but the attempt and the
-- transactions.
abbrev pub OnDown : {O R K S : Type 0} → State O R K S → State O R K S → (Result (Option ℕ × Held R K S) CoreFault → Type 0) → Result (Option ℕ) CoreFault → Type 0
OnDown {O} {R} {K} {S} old new Ends result =
    MatchOption old.held
    (((2 ^ 63 ≤ old.attempts + 1) × (result ≡ Err NumbersSpent) × (new ≡ old)) ⊎
    ((old.attempts + 1 < 2 ^ 63) × (made : Result (Option ℕ × Held R K S) CoreFault) × Ends made × (result ≡ number_of made)
    × (new ≡ record old { held = held_by made; ledger = new.ledger; faults = new.faults; attempts = attempts_after made old.attempts })))
    (λ h. (result ≡ Err NotReady) × (new ≡ old))
