-- One turn of a task.
use Rattle.std.proofs.Common.{◌≡◌, ◌≢◌, ◌⊎◌, ◌≤◌, inl, inr, Option, Some, None, Result, Ok, Err, MatchOption, ℕ, List, [], ◌∷◌, slice_get, length, refl, sym, ap, subst, ◌∙◌}
use Rattle.std.proofs.lemmas.Option.{none-some, same_Some, MatchOption-at_some}
use Rattle.claims.specs.Carried.{given_of, records_of}
use Rattle.claims.specs.Due.{IsWorker, WorksFrom, IsDue, EndsOffer, EndsAccept}
use Rattle.claims.specs.declared.parts.Given.{Given}
use Rattle.claims.specs.declared.parts.Given.TheVariants as given
use Rattle.claims.specs.declared.parts.Made.{Made}
use Rattle.claims.specs.declared.parts.Made.TheVariants as made
use Rattle.commit_sink.specs.Ledger.{Ledger, committed_rows}
use Rattle.dataflow_model.specs.Graph.{Begins}
use Rattle.dataflow_model.specs.Machine.{Move, Read, Work}
use Rattle.job_graph.specs.declared.role.Role.{Role}
use Rattle.job_graph.specs.declared.role.Role.TheVariants as role
use Rattle.job_state.specs.Held.{Held}
use Rattle.snapshot_store.specs.Store.{Stored}
use Rattle.job_state.specs.declared.holding.Holding.{Holding}
use Rattle.job_state.specs.declared.holding.Holding.TheVariants as holds
use Rattle.source_log.specs.Partitions.{records_at}
use Rattle.engine_model.specs.AllRules.{AllRules}
use Rattle.engine_model.specs.Calls.{EndsRead, IsSource, input_at, left_by}
use Rattle.engine_model.specs.Goes.{Goes}
use Rattle.engine_model.specs.Sound.{IsSound}
use Rattle.engine_model.specs.State.{State}
use Rattle.engine_model.specs.declared.fault.CoreFault.{CoreFault}
use Rattle.engine_model.specs.declared.fault.CoreFault.TheVariants.{NoSuchTask, NotRunning, NotReady, ChannelBlocked, Memory, Device, WrongResult}
use Rattle.engine_model.proofs.Calls.Goes.{after}
use Rattle.engine_plain.specs.Plain.{Stays, StepsBy, StepsOften, StepsIfOk, StepsOftenIfOk}
use Rattle.engine_plain.proofs.PlainBatches.{once_often}
use Rattle.engine.specs.Running.{IsCounted, OnAttempt, OnTransactions}
use Rattle.engine_rounds.specs.Idle.{IsIdle, HasNothing, HasNothingIn}
use Rattle.engine_rounds.specs.Turns.{turned_as, EndsTurn, EndsWorkAt}
use Rattle.engine_rounds.specs.Works.{MovesBy, Works}
use Rattle.engine_rounds.proofs.Many.{IsLike, ran, like, stays_down, moves_none, moves_one, works_none}
use Rattle.engine_rounds.proofs.One.{offered_one}

same_source : {a b : ℕ} → ◌≡◌ {A = Role} (role.Source a) (role.Source b) → a ≡ b
same_source e = cc

same_offset : {K S : Type 0} {a b : ℕ} → ◌≡◌ {A = Holding K S} (holds.Source a) (holds.Source b) → a ≡ b
same_offset e = cc

no_none : {A : Type 0} (a : A) → ◌≡◌ {A = Option A} (Some a) None → ⊥
no_none a e = none-some a (sym e)

module _ {R K S O : Type 0} (rules : AllRules R K S O) (old new : State O R K S) where
  -- what calls on a running job have in common
  pub record Calls : Type 0 where
    pub goes : Goes rules.lang old new
    pub sound : IsSound rules old → IsSound rules new
    pub begins : (task subtask : ℕ) → slice_get old.graph.tasks task ≡ Some (role.Sink subtask) → Begins (committed_rows old.ledger subtask) (committed_rows new.ledger subtask)

  pub works_of : Calls → (moves : List Move) → IsLike old new → (old.held ≡ None → new.held ≡ None) → MovesBy rules.lang moves old new → Works rules moves old new
  works_of c moves like down by = record { goes = c.goes; sound = c.sound; same = like; down = down; begins = c.begins; moves_by = by }

  pub still_held : (k : Held R K S) → new.held ≡ Some k → new.held ≢ None
  still_held k is none = no_none k (sym is ∙ none)

  pub unchanged : (held : Option (Held R K S)) (stored : Stored) (ledger : Ledger) (n : ℕ) → new ≡ after old held stored ledger n → held ≡ old.held → stored ≡ old.stored → ledger ≡ old.ledger → n ≡ old.faults → new ≡ old
  unchanged held stored ledger n is p s l q = is ∙ (λ i. record old { held = p i; stored = s i; ledger = l i; faults = q i })

  -- a source's turn
  module _ (task : ℕ) (calls : Calls) (running : old.held ≢ None) (source : IsSource old.graph task) where
    abbrev EndsReading : Held R K S → Held R K S → Result Unit CoreFault → Type 0
    EndsReading h k r = EndsRead old.graph task h k rules.lang old.partitions r

    abbrev left : Result Unit CoreFault → Held R K S → State O R K S
    left r k = record old { held = left_by r (Some k); faults = new.faults }

    read_out : (h k : Held R K S) → EndsReading h k (Err NotReady) → IsIdle old.graph old.partitions h task
    read_out h k e =
        record {
          source = λ partition offset is at.
              subst (λ (o : ℕ). length (records_at old.partitions partition) ≤ o) (same_offset (same_Some (holds.Source e.1) (holds.Source offset) (sym e.3 ∙ at)))
              (subst (λ (p : ℕ). length (records_at old.partitions p) ≤ e.1) (same_source (same_Some (role.Source e.0) (role.Source partition) (sym e.2 ∙ is))) e.4);
          inputs = λ input channel works. absurd (subst IsWorker source.1 works.0);
        }

    pub read_turns : (r : Result Unit CoreFault) → OnAttempt old new EndsReading r → StepsIfOk r rules.lang (Read task) old new → IsCounted old.faults new.faults r → EndsTurn rules old new task (turned_as r)
    read_turns (Ok u) e s c =
        let a = ran old new EndsReading (Ok u) (left (Ok u)) e running in (
          Read task,
          refl,
          (
            works_of calls (Read task ∷ []) (like old new EndsReading (Ok u) (left (Ok u)) e (λ k. refl)) (stays_down old new EndsReading (Ok u) (left (Ok u)) e) (moves_one rules.lang (Read task) old new s),
            still_held a.k (ap (λ (x : State O R K S). x.held) a.is),
          ),
        )
    read_turns (Err NotReady) e s c =
        let a = ran old new EndsReading (Err NotReady) (left (Err NotReady)) e running in (
          subst (λ (o : Option (Held R K S)). MatchOption o ⊥ (λ h. IsIdle old.graph old.partitions h task)) (sym a.was) (read_out a.h a.k a.ended),
          unchanged (Some a.k) old.stored old.ledger new.faults a.is (ap Some a.ended.5 ∙ sym a.was) refl refl c,
        )
    read_turns (Err NoSuchTask) e s c = absurd ((ran old new EndsReading (Err NoSuchTask) (left (Err NoSuchTask)) e running).ended.0 source)
    read_turns (Err Memory) e s c =
        let a = ran old new EndsReading (Err Memory) (left (Err Memory)) e running in (
          works_of calls [] (like old new EndsReading (Err Memory) (left (Err Memory)) e (λ k. refl)) (stays_down old new EndsReading (Err Memory) (left (Err Memory)) e) (moves_none rules.lang old new s),
          still_held a.k (ap (λ (x : State O R K S). x.held) a.is),
        )
    read_turns (Err Device) e s c =
        let a = ran old new EndsReading (Err Device) (left (Err Device)) e running in (
          works_of calls [] (like old new EndsReading (Err Device) (left (Err Device)) e (λ k. refl)) (stays_down old new EndsReading (Err Device) (left (Err Device)) e) (moves_none rules.lang old new s),
          ap (λ (x : State O R K S). x.held) a.is,
        )
    read_turns (Err other) e s c = absurd (ran old new EndsReading (Err other) (left (Err other)) e running).ended

  -- what is offered is worked
  module _ (task input : ℕ) (calls : Calls) (running : old.held ≢ None) (worked : Made O K S R) where
    abbrev EndsTaken : Held R K S → Held R K S → Result Unit CoreFault → Type 0
    EndsTaken h k r = EndsAccept rules.lang old.graph old.operators task input h k old.ledger new.ledger worked r

    abbrev kept : Result Unit CoreFault → Held R K S → State O R K S
    kept r k = record old { held = left_by r (Some k); ledger = new.ledger; faults = new.faults }

    abbrev fails : CoreFault → Result Unit CoreFault
    fails f = Err f

    abbrev Moves : Result Unit CoreFault → Type 0
    Moves r = MatchOption (input_at old.graph task input) (Stays rules.lang old new) (λ channel. StepsOftenIfOk r (records_of (given_of worked)) rules.lang (Work task channel) old new)

    -- no step was made
    stays_of : (f : CoreFault) → Moves (Err f) → Stays rules.lang old new
    stays_of f = of (input_at old.graph task input)
      where
        of : (o : Option ℕ) → MatchOption o (Stays rules.lang old new) (λ channel. StepsOftenIfOk (fails f) (records_of (given_of worked)) rules.lang (Work task channel) old new) → Stays rules.lang old new
        of None s = s
        of (Some channel) s = s

    leads_of : (h : Held R K S) (g : Given O K S R) → IsDue rules.lang old.graph old.operators task input h g → (channel : ℕ) × (input_at old.graph task input ≡ Some channel)
    leads_of h (given.Operator operand) due = (due.0, due.1.leads)
    leads_of h (given.Sink row) due = (due.0, due.1.leads)

    step_of : records_of (given_of worked) ≡ 1 → (channel : ℕ) → input_at old.graph task input ≡ Some channel → Moves (Ok tt) → StepsBy rules.lang (Work task channel) old new
    step_of one channel leads m =
        once_often rules.lang (Work task channel) old new
        (subst (λ (count : ℕ). StepsOften count rules.lang (Work task channel) old new) one
        (MatchOption-at_some (Stays rules.lang old new) (λ c. StepsOften (records_of (given_of worked)) rules.lang (Work task c) old new) channel leads m))

    -- a result of work that is due is refused for want of memory, or where a device failed
    due_only : (h k : Held R K S) (w : Made O K S R) (f : CoreFault) → IsDue rules.lang old.graph old.operators task input h (given_of w) → EndsAccept rules.lang old.graph old.operators task input h k old.ledger new.ledger w (Err f) → (f ≡ Memory) ⊎ (f ≡ Device)
    due_only h k (made.Operator solved) WrongResult due e = absurd (e.0 due)
    due_only h k (made.Operator solved) Memory due e = inl refl
    due_only h k (made.Operator solved) Device due e = inr refl
    due_only h k (made.Operator solved) other due e = absurd e
    due_only h k (made.Sink row bytes) WrongResult due e = absurd (e.0 due)
    due_only h k (made.Sink row bytes) Memory due e = inl refl
    due_only h k (made.Sink row bytes) Device due e = inr refl
    due_only h k (made.Sink row bytes) other due e = absurd e
    due_only h k (made.Refused work) WrongResult due e = absurd (e.0 due)
    due_only h k (made.Refused work) Memory due e = inl refl
    due_only h k (made.Refused work) other due e = absurd e

    module _ (due : MatchOption old.held ⊥ (λ h. IsDue rules.lang old.graph old.operators task input h (given_of worked))) (one : records_of (given_of worked) ≡ 1) where
      due_at : (h : Held R K S) → old.held ≡ Some h → IsDue rules.lang old.graph old.operators task input h (given_of worked)
      due_at h was = MatchOption-at_some ⊥ (λ x. IsDue rules.lang old.graph old.operators task input x (given_of worked)) h was due

      refused : (f : CoreFault) → (f ≡ Memory) ⊎ (f ≡ Device) → OnTransactions old new EndsTaken (Err f) → Moves (Err f) → EndsWorkAt rules old new task input (turned_as (Err f))
      refused f (inl is) = subst (λ (x : CoreFault). OnTransactions old new EndsTaken (Err x) → Moves (Err x) → EndsWorkAt rules old new task input (turned_as (Err x))) (sym is) (λ e m.
          let a = ran old new EndsTaken (Err Memory) (kept (Err Memory)) e running in (
            works_of calls [] (like old new EndsTaken (Err Memory) (kept (Err Memory)) e (λ k. refl)) (stays_down old new EndsTaken (Err Memory) (kept (Err Memory)) e) (moves_none rules.lang old new (stays_of Memory m)),
            still_held a.k (ap (λ (x : State O R K S). x.held) a.is),
          ))
      refused f (inr is) = subst (λ (x : CoreFault). OnTransactions old new EndsTaken (Err x) → Moves (Err x) → EndsWorkAt rules old new task input (turned_as (Err x))) (sym is) (λ e m.
          let a = ran old new EndsTaken (Err Device) (kept (Err Device)) e running in (
            works_of calls [] (like old new EndsTaken (Err Device) (kept (Err Device)) e (λ k. refl)) (stays_down old new EndsTaken (Err Device) (kept (Err Device)) e) (moves_none rules.lang old new (stays_of Device m)),
            ap (λ (x : State O R K S). x.held) a.is,
          ))

      pub accept_turns : (r : Result Unit CoreFault) → OnTransactions old new EndsTaken r → Moves r → EndsWorkAt rules old new task input (turned_as r)
      accept_turns (Ok u) e m =
          let a = ran old new EndsTaken (Ok u) (kept (Ok u)) e running in
          let l = leads_of a.h (given_of worked) (due_at a.h a.was) in (
            Work task l.0,
            refl,
            (
              works_of calls (Work task l.0 ∷ []) (like old new EndsTaken (Ok u) (kept (Ok u)) e (λ k. refl)) (stays_down old new EndsTaken (Ok u) (kept (Ok u)) e) (moves_one rules.lang (Work task l.0) old new (step_of one l.0 l.1 m)),
              still_held a.k (ap (λ (x : State O R K S). x.held) a.is),
            ),
          )
      accept_turns (Err f) e m =
          let a = ran old new EndsTaken (Err f) (kept (Err f)) e running in
          refused f (due_only a.h a.k worked f (due_at a.h a.was) a.ended) e m

-- where nothing is offered
module _ {R K S O : Type 0} (rules : AllRules R K S O) (old : State O R K S) (task input : ℕ) (running : old.held ≢ None) (asked : (channel : ℕ) × WorksFrom old.graph task input channel) where
  nothing_at : (h : Held R K S) → old.held ≡ Some h → HasNothing old.graph h task input → HasNothingIn old task input
  nothing_at h was n = subst (λ (o : Option (Held R K S)). MatchOption o ⊥ (λ h. HasNothing old.graph h task input)) (sym was) n

  offer_at : (h : Held R K S) → old.held ≡ Some h → (f : CoreFault) → EndsOffer rules.lang old.graph old.operators task input h 1 (Err f) → EndsWorkAt rules old old task input (turned_as (Err f))
  offer_at h was NoSuchTask e = absurd (e asked.0 asked.1)
  offer_at h was ChannelBlocked e = (nothing_at h was (e.0, e.1, inl e.2), refl)
  offer_at h was NotReady e = (nothing_at h was (e.0, e.1, inr e.3), refl)
  offer_at h was Memory e = (works_none rules old old refl, running)
  offer_at h was other e = absurd e

  pub offer_turns : (f : CoreFault) → MatchOption old.held (◌≡◌ {A = Result (Given O K S R) CoreFault} (Err f) (Err NotRunning)) (λ h. EndsOffer rules.lang old.graph old.operators task input h 1 (Err f)) → EndsWorkAt rules old old task input (turned_as (Err f))
  offer_turns f e = of old.held refl e
    where
      of : (o : Option (Held R K S)) → old.held ≡ o → MatchOption o (◌≡◌ {A = Result (Given O K S R) CoreFault} (Err f) (Err NotRunning)) (λ h. EndsOffer rules.lang old.graph old.operators task input h 1 (Err f)) → EndsWorkAt rules old old task input (turned_as (Err f))
      of None none e = absurd (running none)
      of (Some h) some e = offer_at h some f e

  -- what is offered
  abbrev Offers : Given O K S R → Option (Held R K S) → Type 0
  Offers work o = MatchOption o (◌≡◌ {A = Result (Given O K S R) CoreFault} (Ok work) (Err NotRunning)) (λ h. EndsOffer rules.lang old.graph old.operators task input h 1 (Ok work))

  -- work that is offered is due,
  pub offered_due : (work : Given O K S R) → Offers work old.held → MatchOption old.held ⊥ (λ h. IsDue rules.lang old.graph old.operators task input h work)
  offered_due work e = of old.held refl e
    where
      of : (o : Option (Held R K S)) → old.held ≡ o → Offers work o → MatchOption o ⊥ (λ h. IsDue rules.lang old.graph old.operators task input h work)
      of None none e = absurd (running none)
      of (Some h) some e = e.0

  -- and takes one record
  pub offered_single : (work : Given O K S R) → Offers work old.held → records_of work ≡ 1
  offered_single work e = of old.held refl e
    where
      of : (o : Option (Held R K S)) → old.held ≡ o → Offers work o → records_of work ≡ 1
      of None none e = absurd (running none)
      of (Some h) some e = offered_one rules.lang old.graph old.operators task input h work e
