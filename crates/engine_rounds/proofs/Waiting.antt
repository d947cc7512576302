-- Reads and works leave the pending checkpoint.
use Rattle.std.proofs.Common.{◌≡◌, ◌≢◌, Option, Some, None, Result, Ok, Err, OnOk, ℕ, List, refl, sym, ap, subst, ◌∙◌}
use Rattle.claims.specs.Carried.{given_of, records_of}
use Rattle.claims.specs.Due.{EndsAccept}
use Rattle.claims.specs.Tasks.{WorksAs}
use Rattle.claims.specs.declared.parts.Made.{Made}
use Rattle.claims.specs.declared.parts.Made.TheVariants as made
use Rattle.commit_sink.specs.Ledger.{Ledger}
use Rattle.job_graph.specs.Expanded.{Expanded}
use Rattle.job_graph.specs.declared.role.Role.{Role}
use Rattle.job_graph.specs.declared.role.Role.TheVariants as role
use Rattle.job_state.specs.Held.{Held}
use Rattle.engine_model.specs.Calls.{EndsRead, input_at, left_by}
use Rattle.engine_model.specs.Language.{Language}
use Rattle.engine_model.specs.State.{State}
use Rattle.engine_model.specs.declared.fault.CoreFault.{CoreFault}
use Rattle.engine_model.specs.declared.fault.CoreFault.TheVariants.{NoSuchTask, NotReady, ChannelBlocked}
use Rattle.engine.specs.Readers.{pending_in}
use Rattle.engine.specs.Running.{OnAttempt, OnTransactions}
use Rattle.engine_rounds.specs.Turns.{turned_as}
use Rattle.engine_rounds.proofs.Many.{ran}
use Rattle.engine_rounds.proofs.One.{one_works}

module _ {R K S O : Type 0} (lang : Language R K S O) (graph : Expanded) (operators : List O) (task input : ℕ) (h k : Held R K S) (old new : Ledger) where
  abbrev Same : Type 0
  Same = k.coordination.pending ≡ h.coordination.pending

  -- a record that is worked leaves what is known of the checkpoint
  work_waits : (u : Unit) (r : Option Role) (c : Option ℕ) → WorksAs graph task input h k old new lang operators (Ok u) r c → Same
  work_waits u (Some (role.Operator number)) (Some channel) e = ap (λ (x : Held R K S). x.coordination.pending) e.2.operates.ends
  work_waits u (Some (role.Sink subtask)) (Some channel) e = ap (λ (x : Held R K S). x.coordination.pending) e.ends
  work_waits u (Some (role.Operator number)) None e = absurd (let clash : ◌≡◌ {A = Result Unit CoreFault} (Ok u) (Err NoSuchTask) = e.0 in cc)
  work_waits u (Some (role.Sink subtask)) None e = absurd (let clash : ◌≡◌ {A = Result Unit CoreFault} (Ok u) (Err NoSuchTask) = e.0 in cc)
  work_waits u (Some (role.Source partition)) c e = absurd (let clash : ◌≡◌ {A = Result Unit CoreFault} (Ok u) (Err NoSuchTask) = e.0 in cc)
  work_waits u None c e = absurd (let clash : ◌≡◌ {A = Result Unit CoreFault} (Ok u) (Err NoSuchTask) = e.0 in cc)

  accept_waits : (u : Unit) (w : Made O K S R) → records_of (given_of w) ≡ 1 → EndsAccept lang graph operators task input h k old new w (Ok u) → Same
  accept_waits u w one e = work_waits u _ _ (one_works lang graph operators task input h k old new u w one e)

  -- what is taken is never refused so
  not_ready : (w : Made O K S R) → EndsAccept lang graph operators task input h k old new w (Err NotReady) → ⊥
  not_ready (made.Operator solved) e = e
  not_ready (made.Sink row bytes) e = e
  not_ready (made.Refused work) e = e

  not_blocked : (w : Made O K S R) → EndsAccept lang graph operators task input h k old new w (Err ChannelBlocked) → ⊥
  not_blocked (made.Operator solved) e = e
  not_blocked (made.Sink row bytes) e = e
  not_blocked (made.Refused work) e = e

module _ {R K S O : Type 0} (old new : State O R K S) where
  abbrev Waits : Type 0
  Waits = pending_in new.held ≡ pending_in old.held

  -- where what is held leaves it
  held_waits : (h k : Held R K S) → old.held ≡ Some h → new.held ≡ Some k → k.coordination.pending ≡ h.coordination.pending → Waits
  held_waits h k was is same = ap pending_in is ∙ same ∙ sym (ap pending_in was)

  module _ (lang : Language R K S O) (task : ℕ) (running : old.held ≢ None) where
    abbrev Reading : Held R K S → Held R K S → Result Unit CoreFault → Type 0
    Reading h k r = EndsRead old.graph task h k lang old.partitions r

    abbrev left : Result Unit CoreFault → Held R K S → State O R K S
    left r k = record old { held = left_by r (Some k); faults = new.faults }

    -- a turn of a source leaves the pending checkpoint
    pub read_turn_waits : (r : Result Unit CoreFault) → OnAttempt old new Reading r → OnOk (turned_as r) Waits
    read_turn_waits (Ok u) e =
        let a = ran old new Reading (Ok u) (left (Ok u)) e running in
        held_waits a.h a.k a.was (ap (λ (s : State O R K S). s.held) a.is) (ap (λ (x : Held R K S). x.coordination.pending) a.ended.reads.ends)
    read_turn_waits (Err NotReady) e =
        let a = ran old new Reading (Err NotReady) (left (Err NotReady)) e running in
        held_waits a.h a.k a.was (ap (λ (s : State O R K S). s.held) a.is) (ap (λ (x : Held R K S). x.coordination.pending) a.ended.5)
    read_turn_waits (Err ChannelBlocked) e = absurd (ran old new Reading (Err ChannelBlocked) (left (Err ChannelBlocked)) e running).ended
    read_turn_waits (Err other) e = tt

  module _ (lang : Language R K S O) (task input : ℕ) (running : old.held ≢ None) (worked : Made O K S R) (one : records_of (given_of worked) ≡ 1) where
    abbrev Taking : Held R K S → Held R K S → Result Unit CoreFault → Type 0
    Taking h k r = EndsAccept lang old.graph old.operators task input h k old.ledger new.ledger worked r

    abbrev kept : Result Unit CoreFault → Held R K S → State O R K S
    kept r k = record old { held = left_by r (Some k); ledger = new.ledger; faults = new.faults }

    -- what an operator or a sink is given and takes leaves it
    pub work_turn_waits : (r : Result Unit CoreFault) → OnTransactions old new Taking r → OnOk (turned_as r) Waits
    work_turn_waits (Ok u) e =
        let a = ran old new Taking (Ok u) (kept (Ok u)) e running in
        held_waits a.h a.k a.was (ap (λ (s : State O R K S). s.held) a.is) (accept_waits lang old.graph old.operators task input a.h a.k old.ledger new.ledger u worked one a.ended)
    work_turn_waits (Err NotReady) e = absurd (let a = ran old new Taking (Err NotReady) (kept (Err NotReady)) e running in not_ready lang old.graph old.operators task input a.h a.k old.ledger new.ledger worked a.ended)
    work_turn_waits (Err ChannelBlocked) e = absurd (let a = ran old new Taking (Err ChannelBlocked) (kept (Err ChannelBlocked)) e running in not_blocked lang old.graph old.operators task input a.h a.k old.ledger new.ledger worked a.ended)
    work_turn_waits (Err other) e = tt
