-- A result that is taken.
use Rattle.std.proofs.Common.{◌≡◌, ◌≢◌, ◌⊎◌, inl, inr, ℕ, Option, Some, None, Result, Ok, Err, MatchOption, List, refl, subst}
use Rattle.claims.specs.Carried.{given_of, records_of}
use Rattle.claims.specs.Due.{EndsAccept}
use Rattle.claims.specs.declared.parts.Made.{Made}
use Rattle.claims.specs.declared.parts.Made.TheVariants as made
use Rattle.commit_sink.specs.Ledger.{Ledger}
use Rattle.engine_model.specs.Calls.{input_at}
use Rattle.engine_model.specs.Language.{Language}
use Rattle.engine_model.specs.State.{State}
use Rattle.engine_model.specs.declared.fault.CoreFault.{CoreFault}
use Rattle.engine_model.specs.declared.fault.CoreFault.TheVariants.{NotRunning, Stale}
use Rattle.engine_plain.specs.Plain.{StepsOftenIfOk, Stays}
use Rattle.dataflow_model.specs.Machine as machine
use Rattle.engine.specs.Claimed.{Accepts}
use Rattle.job_graph.specs.Expanded.{Expanded}
use Rattle.job_state.specs.Held.{Held}
use Rattle.dataflow_core.specs.Claims.{IsHeldAt, IsFreshTicket, EndsFinish, FinishMoves, AcceptMoves, claims_left}
use Rattle.dataflow_core.specs.CoreState.{CoreState}
use Rattle.dataflow_core.specs.declared.held.Claim.{Claim}

module _ {R K S O : Type 0} (lang : Language R K S O) where
  -- work that is taken is due, from its input's channel
  leads : (graph : Expanded) (operators : List O) (task input : ℕ) (h k : Held R K S) (old new : Ledger) (made : Made O K S R) (u : Unit) → EndsAccept lang graph operators task input h k old new made (Ok u) → (channel : ℕ) × (input_at graph task input ≡ Some channel)
  leads graph operators task input h k old new (made.Operator solved) u e = (e.channel, e.due.leads)
  leads graph operators task input h k old new (made.Sink row bytes) u e = (e.0.0, e.0.1.leads)
  leads graph operators task input h k old new (made.Refused work) u e = absurd e

  -- a result that is no fresh ticket is refused, and changes nothing
  refused : (P Q : Type 0) (F : Held R K S → Type 0) (h : Option (Held R K S)) → ((h ≡ None) × P) ⊎ ((h ≢ None) × Q) → MatchOption h P (λ k. Q ⊎ F k)
  refused P Q F (Some k) (inl down) = absurd (let never : ◌≡◌ {A = Option (Held R K S)} (Some k) None = down.0 in cc)
  refused P Q F (Some k) (inr stale) = inl stale.1
  refused P Q F None (inl down) = down.1
  refused P Q F None (inr stale) = absurd (stale.0 refl)

  told : {A : Type 0} (fault other : CoreFault) → fault ≡ other → ◌≡◌ {A = Result A CoreFault} (Err fault) (Err other)
  told fault other e = cc

  pub refuses : (old : CoreState O R K S) (attempt serial : ℕ) (made : Made O K S R) (fault : CoreFault)
      → ((fault ≡ NotRunning) × (old.engine.held ≡ None)) ⊎ ((fault ≡ Stale) × (old.engine.held ≢ None) × ¬ IsFreshTicket old attempt serial)
      → EndsFinish old lang old attempt serial made (Err fault)
  refuses old attempt serial made fault (inl down) = refused _ _ _ old.engine.held (inl (down.1, (told fault NotRunning down.0, refl)))
  refuses old attempt serial made fault (inr stale) = refused _ _ _ old.engine.held (inr (stale.1, (told fault Stale stale.0, stale.2, refl)))

  module _ (old : CoreState O R K S) (engine : State O R K S) (serials task input : ℕ) (made : Made O K S R) where
    abbrev next : CoreState O R K S
    next = record { engine = engine; claims = old.claims; serials = serials }

    abbrev Plain : Result Unit CoreFault → Option ℕ → Type 0
    Plain result channel = MatchOption channel (Stays lang old.engine engine) (λ c. StepsOftenIfOk result (records_of (given_of made)) lang (machine.Work task c) old.engine engine)

    stays_by : (fault : CoreFault) (channel : Option ℕ) → Plain (Err fault) channel → Stays lang old.engine engine
    stays_by fault (Some c) plain = plain
    stays_by fault None plain = plain

    channel_of : (u : Unit) (h : Option (Held R K S)) → MatchOption h ((◌≡◌ {A = Result Unit CoreFault} (Ok u) (Err NotRunning)) × (engine ≡ old.engine)) (λ h. (k : Held R K S) × EndsAccept lang old.engine.graph old.engine.operators task input h k old.engine.ledger engine.ledger made (Ok u) × (engine ≡ record old.engine { held = Some k; ledger = engine.ledger; faults = engine.faults }))
        → (channel : ℕ) × (input_at old.engine.graph task input ≡ Some channel)
    channel_of u (Some h) e = leads old.engine.graph old.engine.operators task input h e.0 old.engine.ledger engine.ledger made u e.1
    channel_of u None e = (let never : ◌≡◌ {A = Result Unit CoreFault} (Ok u) (Err NotRunning) = e.0 in cc)

    pub accept_moves : (result : Result Unit CoreFault) → Accepts lang old.engine engine task input made result → Plain result (input_at old.engine.graph task input) → AcceptMoves old lang next task input made result
    accept_moves (Ok u) takes plain =
        let c = channel_of u old.engine.held takes in
        (c.0, c.1, subst (λ (o : Option ℕ). Plain (Ok u) o) c.1 plain)
    accept_moves (Err fault) takes plain = stays_by fault (input_at old.engine.graph task input) plain

  module _ (old : CoreState O R K S) (engine : State O R K S) (claims : List Claim) (attempt serial at : ℕ) (claim : Claim) (made : Made O K S R) (held : IsHeldAt old attempt serial at claim) where
    abbrev new : CoreState O R K S
    new = record { engine = engine; claims = claims; serials = old.serials }

    abbrev Takes : Result Unit CoreFault → Type 0
    Takes result = Accepts lang old.engine engine claim.task claim.input made result

    running : (A Q : Type 0) (P : Held R K S → Type 0) (h : Option (Held R K S)) → h ≢ None → Q → MatchOption h A (λ k. P k ⊎ Q)
    running A Q P (Some h) some q = inr q
    running A Q P None some q = absurd (some refl)

    pub finishes : (result : Result Unit CoreFault) → old.engine.held ≢ None → Takes result → claims ≡ claims_left at result old.claims → EndsFinish old lang new attempt serial made result
    finishes result some takes same =
        running _ _ _ old.engine.held some (at, claim, held, (takes, λ i. record { engine = engine; claims = same i; serials = old.serials }))

    pub moves : (result : Result Unit CoreFault) → Takes result → Plain old engine old.serials claim.task claim.input made result (input_at old.engine.graph claim.task claim.input) → FinishMoves old lang new attempt serial made result
    moves (Ok u) takes plain =
        let step = accept_moves old engine old.serials claim.task claim.input made (Ok u) takes plain in
        (at, step.0, claim, held, step.1, step.2)
    moves (Err fault) takes plain = accept_moves old engine old.serials claim.task claim.input made (Err fault) takes plain
