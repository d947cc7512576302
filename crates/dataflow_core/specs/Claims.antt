-- Claims: a task's hold on the first records of an input.
use Rattle.std.specs.Prelude.{◌≡◌, ◌≢◌, ◌⊎◌, ◌+◌, ◌<◌, ◌≤◌, ◌^◌, ◌++◌, ℕ, List, [], ◌∷◌, Some, None, Result, Ok, Err, MatchOption, slice_get}
use Rattle.std.specs.List.{remove}
use Rattle.alignment.specs.declared.input.Effect.{Effect}
use Rattle.claims.specs.Carried.{given_of, records_of}
use Rattle.claims.specs.Due.{WorksFrom, EndsOffer}
use Rattle.claims.specs.declared.parts.Given.{Given}
use Rattle.claims.specs.declared.parts.Made.{Made}
use Rattle.engine_model.specs.Calls.{input_at, IsBlocked, NoRecord, IsRecordDue}
use Rattle.engine_model.specs.Language.{Language}
use Rattle.engine_model.specs.declared.fault.CoreFault.{CoreFault}
use Rattle.engine_model.specs.declared.fault.CoreFault.TheVariants.{NotRunning, NoSuchTask, Busy, ChannelBlocked, NotReady, NumbersSpent, Memory, Stale, WrongResult}
use Rattle.engine_plain.specs.Plain.{StepsOften, Stays}
use Rattle.dataflow_model.specs.Machine as machine
use Rattle.engine.specs.Claimed.{Accepts, AcceptsRows, StepsSoMany}
use Rattle.job_state.specs.Held.{Held}
use Rattle.dataflow_core.specs.Calls.{TakesBarrier}
use Rattle.dataflow_core.specs.CoreState.{CoreState}
use Rattle.dataflow_core.specs.declared.held.Claim.{Claim}

-- the task holds a claim, on whatever input
abbrev pub IsBusy : ℕ → List Claim → Type 0
IsBusy task claims = (at : ℕ) × (claim : Claim) × (slice_get claims at ≡ Some claim) × (claim.task ≡ task)

-- a claim of this serial stands at this place
abbrev pub IsClaimAt : List Claim → (serial at : ℕ) → Claim → Type 0
IsClaimAt claims serial at claim = (slice_get claims at ≡ Some claim) × (claim.serial ≡ serial)

-- a claim ends with its result, but for a wrong one
abbrev pub claims_left : ℕ → Result Unit CoreFault → List Claim → List Claim
claims_left at (Err WrongResult) claims = claims
claims_left at other claims = remove claims at

-- where no serial is left, what was offered is not, and no memory is asked for
abbrev pub spent_as : {A : Type 0} → Result A CoreFault → Result A CoreFault
spent_as (Ok work) = Err NumbersSpent
spent_as (Err Memory) = Err NumbersSpent
spent_as (Err other) = Err other

module _ {R K S O : Type 0} (old : CoreState O R K S) where
  -- the attempt and the serial are those of a claim that is held now, which stands at this place
  abbrev pub IsHeldAt : (attempt serial at : ℕ) → Claim → Type 0
  IsHeldAt attempt serial at claim = (attempt ≡ old.engine.attempts) × IsClaimAt old.claims serial at claim

  -- so they are a fresh ticket
  abbrev pub IsFreshTicket : (attempt serial : ℕ) → Type 0
  IsFreshTicket attempt serial = (at : ℕ) × (claim : Claim) × IsHeldAt attempt serial at claim

  -- the task is an operator or a sink, and has such an input
  abbrev pub HasInput : (task input : ℕ) → Type 0
  HasInput task input = (channel : ℕ) × WorksFrom old.engine.graph task input channel

  module _ (task input : ℕ) where
    -- a record may be taken from the input
    abbrev pub HasRecord : Held R K S → Type 0
    HasRecord h = (channel : ℕ) × (row : R) × WorksFrom old.engine.graph task input channel × IsRecordDue task input h channel row

    -- why a claim of a running job is refused
    abbrev pub RefusesClaim : Held R K S → CoreFault → Type 0
    RefusesClaim h NoSuchTask = (channel : ℕ) → ¬ WorksFrom old.engine.graph task input channel
    RefusesClaim h Busy = HasInput task input × IsBusy task old.claims
    RefusesClaim h ChannelBlocked = ¬ IsBusy task old.claims × ((channel : ℕ) × WorksFrom old.engine.graph task input channel × IsBlocked task input h)
    RefusesClaim h NotReady = ¬ IsBusy task old.claims × ((channel : ℕ) × WorksFrom old.engine.graph task input channel × ¬ IsBlocked task input h × NoRecord h channel)
    RefusesClaim h NumbersSpent = ¬ IsBusy task old.claims × HasRecord h × (2 ^ 63 ≤ old.serials)
    RefusesClaim h Memory = ¬ IsBusy task old.claims × HasRecord h × (old.serials < 2 ^ 63)
    RefusesClaim h other = ⊥

    -- why a claim is refused
    abbrev pub Refuses : CoreFault → Type 0
    Refuses fault = MatchOption old.engine.held (fault ≡ NotRunning) (λ h. RefusesClaim h fault)

    -- the task may claim so many records at most, and this is the work on them, which is due
    abbrev pub MayClaim : (most : ℕ) → Language R K S O → Given O K S R → Type 0
    MayClaim most lang work = MatchOption old.engine.held ⊥ (λ h. ¬ IsBusy task old.claims × EndsOffer lang old.engine.graph old.engine.operators task input h most (Ok work) × (old.serials < 2 ^ 63))

    -- a claim is kept, of the next serial, for the work that is due; nothing else changes
    abbrev pub Claims : (most : ℕ) → Language R K S O → CoreState O R K S → (attempt serial : ℕ) → Given O K S R → Type 0
    Claims most lang new attempt serial work =
        MayClaim most lang work × (attempt ≡ old.engine.attempts) × (serial ≡ old.serials)
        × (new ≡ record old { claims = old.claims ++ record { serial = old.serials; task = task; input = input } ∷ []; serials = old.serials + 1 })

    -- the task holds a claim, so it takes no barrier
    abbrev pub IsHeldUp : Type 0
    IsHeldUp = (old.engine.held ≢ None) × HasInput task input × IsBusy task old.claims

    abbrev pub TakesBarrierUnclaimed : CoreState O R K S → Result Effect CoreFault → Type 0
    TakesBarrierUnclaimed new result =
        (IsHeldUp × (result ≡ Err Busy) × (new ≡ old)) ⊎ (¬ IsHeldUp × TakesBarrier old.engine new.engine task input result)

  module _ (lang : Language R K S O) (new : CoreState O R K S) (attempt serial : ℕ) where
    -- What was made of the claim's work is taken, as the task's work would end, and the claim ends; it stays where the work is not due.
    abbrev pub EndsClaimed : ℕ → Claim → Made O K S R → Result Unit CoreFault → Type 0
    EndsClaimed at claim made result =
        Accepts lang old.engine new.engine claim.task claim.input made result
        × (new ≡ record old { engine = new.engine; claims = claims_left at result old.claims })

    -- A result is taken where it is a fresh ticket, and else it is stale.
    abbrev pub EndsFinish : Made O K S R → Result Unit CoreFault → Type 0
    EndsFinish made result =
        MatchOption old.engine.held ((result ≡ Err NotRunning) × (new ≡ old)) (λ h.
        ((result ≡ Err Stale) × ¬ IsFreshTicket attempt serial × (new ≡ old))
        ⊎ ((at : ℕ) × (claim : Claim) × IsHeldAt attempt serial at claim × EndsClaimed at claim made result))

    -- a result that is taken is as many plain steps as its work has records, of the claim's task and input, and one that is refused is none
    abbrev pub FinishMoves : Made O K S R → Result Unit CoreFault → Type 0
    FinishMoves made (Ok u) =
        (at channel : ℕ) × (claim : Claim) × IsHeldAt attempt serial at claim × (input_at old.engine.graph claim.task claim.input ≡ Some channel)
        × StepsOften (records_of (given_of made)) lang (machine.Work claim.task channel) old.engine new.engine
    FinishMoves made (Err fault) = Stays lang old.engine new.engine

  -- the job runs, the task holds no claim, and a serial is left
  abbrev pub MayAccept : ℕ → Type 0
  MayAccept task = (old.engine.held ≢ None) × ¬ IsBusy task old.claims × (old.serials < 2 ^ 63)

  -- why what was made of work is not looked at
  abbrev pub RefusesAccept : ℕ → CoreFault → Type 0
  RefusesAccept task NotRunning = old.engine.held ≡ None
  RefusesAccept task Busy = (old.engine.held ≢ None) × IsBusy task old.claims
  RefusesAccept task NumbersSpent = (old.engine.held ≢ None) × ¬ IsBusy task old.claims × (2 ^ 63 ≤ old.serials)
  RefusesAccept task other = ⊥

  module _ (lang : Language R K S O) (new : CoreState O R K S) (task input : ℕ) where
    -- What was made of work is taken with no claim, as the task's work would end. A serial is used up for it, as for a claim.
    abbrev pub EndsAccepting : Made O K S R → Result Unit CoreFault → Type 0
    EndsAccepting made result =
        (MayAccept task
        × Accepts lang old.engine new.engine task input made result
        × (new ≡ record old { engine = new.engine; serials = old.serials + 1 }))
        ⊎ ((fault : CoreFault) × (result ≡ Err fault) × RefusesAccept task fault × (new ≡ old))

    -- what is taken is as many plain steps as the work has records, of this task and input, and what is refused is none
    abbrev pub AcceptMoves : Made O K S R → Result Unit CoreFault → Type 0
    AcceptMoves made (Ok u) =
        (channel : ℕ) × (input_at old.engine.graph task input ≡ Some channel)
        × StepsOften (records_of (given_of made)) lang (machine.Work task channel) old.engine new.engine
    AcceptMoves made (Err fault) = Stays lang old.engine new.engine

    -- What was made of the work on a sink's records is taken in turn with no claim: so many records are taken. A serial is used up for all of it.
    abbrev pub EndsAcceptingRows : List (Made O K S R) → (count : ℕ) → Result Unit CoreFault → Type 0
    EndsAcceptingRows mades count result =
        (MayAccept task
        × AcceptsRows lang old.engine new.engine task input mades count result
        × (new ≡ record old { engine = new.engine; serials = old.serials + 1 }))
        ⊎ ((fault : CoreFault) × (result ≡ Err fault) × (count ≡ 0) × RefusesAccept task fault × (new ≡ old))

    -- what is taken is as many plain steps, of this task and input
    abbrev pub RowsMove : (count : ℕ) → Type 0
    RowsMove count =
        MatchOption (input_at old.engine.graph task input) (Stays lang old.engine new.engine)
        (λ channel. StepsSoMany count lang (machine.Work task channel) old.engine new.engine)
