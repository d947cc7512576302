-- The record that stands first in an input is worked, as a part of settling.
use Rattle.std.proofs.Common.{◌≡◌, ◌≢◌, ◌⊎◌, ◌<◌, inl, inr, Option, Some, None, Result, Ok, Err, IfOk, MatchOption, ℕ, false, List, [], ◌∷◌, IsTrue, refl, sym, ap, subst, ◌∙◌}
use Rattle.std.proofs.lemmas.Bool.{false≢true}
use Rattle.std.proofs.lemmas.Option.{same_Some, MatchOption-at_some}
use Rattle.channels.specs.declared.item.Item.{Item}
use Rattle.claims.specs.Carried.{given_of, records_of}
use Rattle.claims.specs.Due.{WorksFrom, IsDue, EndsOffer, EndsAccept}
use Rattle.claims.specs.declared.parts.Given.{Given}
use Rattle.claims.specs.declared.parts.Made.{Made}
use Rattle.dataflow_model.specs.Machine.{Work}
use Rattle.job_graph.specs.Expanded.{Expanded}
use Rattle.job_state.specs.Held.{Held}
use Rattle.job_state.specs.Sending.{items_at}
use Rattle.engine_model.specs.AllRules.{AllRules}
use Rattle.engine_model.specs.Calls.{IsBlocked, NoRecord, input_at, left_by}
use Rattle.engine_model.specs.Keeps.{Keeps}
use Rattle.engine_model.specs.State.{State}
use Rattle.engine_model.specs.declared.fault.CoreFault.{CoreFault}
use Rattle.engine_model.specs.declared.fault.CoreFault.TheVariants.{NotRunning, NoSuchTask, NotReady, ChannelBlocked, Memory, Device}
use Rattle.engine_plain.specs.Plain.{Stays, StepsOftenIfOk}
use Rattle.engine.specs.Readers.{HasHead}
use Rattle.engine.specs.Running.{OnTransactions}
use Rattle.engine_rounds.specs.Turns.{EndsWorkAt, turned_as}
use Rattle.engine_rounds.proofs.Many.{ran}
use Rattle.engine_rounds.proofs.Turning.{Calls, accept_turns}
use Rattle.engine_settling.specs.Advancing.{Advances, IsPending}
use Rattle.engine_settling.specs.Awaiting.{IsAwaited, leading, leading_in}
use Rattle.engine_settling.specs.Bringing.{Holds, EndsPart}
use Rattle.engine_settling.specs.Resting.{IsStill}
use Rattle.engine_settling.proofs.Bringing.{holds_one, holds_at, brings_same, shape_at}
use Rattle.engine_settling.proofs.Gating.{barrier_sent, input_channel, is_free}
use Rattle.engine_settling.proofs.Leading.{leading_falls}
use Rattle.engine_settling.proofs.Ordering.{advances_none}
use Rattle.engine_settling.proofs.Parts.{accept_refused}
use Rattle.engine_settling.proofs.Steps.{work_advances, work_head, work_came, work_not_still}

-- where no record stands first in the channel of a running job
pub no_head : {R K S : Type 0} (held : Option (Held R K S)) (channel : ℕ) → (MatchOption held ⊥ (λ h. HasHead h channel) → IsTrue false) → held ≢ None → MatchOption held ⊥ (λ h. NoRecord h channel)
no_head None channel none running = absurd (running refl)
no_head (Some h) channel none running = λ r head. false≢true (none (r, head))

-- the number that is pending
number_of : {R K S : Type 0} (h : Held R K S) → IsPending h → (n : ℕ) × (h.coordination.pending ≡ Some n)
number_of h pending = of h.coordination.pending refl
  where
    of : (o : Option ℕ) → h.coordination.pending ≡ o → (n : ℕ) × (h.coordination.pending ≡ Some n)
    of None is = absurd (pending is)
    of (Some n) is = (n, is)

module _ {R K S O : Type 0} (rules : AllRules R K S O) (old : State O R K S) (keeps : Keeps rules old) (task input channel : ℕ) (awaited : Holds old (λ g h. IsAwaited g h task input channel)) where
  abbrev Awaited : Expanded → Held R K S → Type 0
  Awaited g h = IsAwaited g h task input channel

  await_at : (h : Held R K S) → old.held ≡ Some h → IsAwaited old.graph h task input channel
  await_at h was = holds_at old Awaited h was awaited

  pub await_runs : old.held ≢ None
  await_runs none = absurd (subst (λ (o : Option (Held R K S)). MatchOption o ⊥ (λ h. Awaited old.graph h)) none awaited)

  pub await_works : (channel : ℕ) × WorksFrom old.graph task input channel
  await_works = of old.held refl awaited
    where
      of : (o : Option (Held R K S)) → old.held ≡ o → MatchOption o ⊥ (λ h. Awaited old.graph h) → (channel : ℕ) × WorksFrom old.graph task input channel
      of None is p = absurd p
      of (Some h) is p = (channel, p.works)

  free_at : (h : Held R K S) → old.held ≡ Some h → IsBlocked task input h → ⊥
  free_at h was =
      let a = await_at h was in
      is_free rules old.graph old.operators h keeps.expanded (shape_at rules old h was keeps) task input channel a.works.1 a.missing

  -- where nothing is offered
  pub offer_part : (f : CoreFault) → Holds old (λ g h. HasHead h channel) → MatchOption old.held (◌≡◌ {A = Result (Given O K S R) CoreFault} (Err f) (Err NotRunning)) (λ h. EndsOffer rules.lang old.graph old.operators task input h 1 (Err f))
      → EndsPart rules old old {T = Unit {0}} Awaited (Err f)
  offer_part f head e = of old.held refl head e
    where
      at : (h : Held R K S) → old.held ≡ Some h → HasHead h channel → (f : CoreFault) → EndsOffer rules.lang old.graph old.operators task input h 1 (Err f) → EndsPart rules old old {T = Unit {0}} Awaited (Err f)
      at h was head NoSuchTask e = absurd (e channel (await_at h was).works)
      at h was head ChannelBlocked e = absurd (free_at h was e.2)
      at h was head NotReady e =
          let same : e.0 ≡ channel = same_Some e.0 channel (sym e.1.1 ∙ (await_at h was).works.1) in
          absurd (subst (λ (c : ℕ). NoRecord h c) same e.3 head.0 head.1)
      at h was head Memory e = brings_same rules old h was
      at h was head other e = absurd e

      of : (o : Option (Held R K S)) → old.held ≡ o → MatchOption o ⊥ (λ h. HasHead h channel) → MatchOption o (◌≡◌ {A = Result (Given O K S R) CoreFault} (Err f) (Err NotRunning)) (λ h. EndsOffer rules.lang old.graph old.operators task input h 1 (Err f)) → EndsPart rules old old {T = Unit {0}} Awaited (Err f)
      of None is head e = absurd head
      of (Some h) is head e = at h is head f e

  module _ (new : State O R K S) (calls : Calls rules old new) (worked : Made O K S R) (due : MatchOption old.held ⊥ (λ h. IsDue rules.lang old.graph old.operators task input h (given_of worked))) (one : records_of (given_of worked) ≡ 1) where
    abbrev Taking : Held R K S → Held R K S → Result Unit CoreFault → Type 0
    Taking h k r = EndsAccept rules.lang old.graph old.operators task input h k old.ledger new.ledger worked r

    abbrev kept : Result Unit CoreFault → Held R K S → State O R K S
    kept r k = record old { held = left_by r (Some k); ledger = new.ledger; faults = new.faults }

    abbrev Moves : Result Unit CoreFault → Type 0
    Moves r = MatchOption (input_at old.graph task input) (Stays rules.lang old new) (λ c. StepsOftenIfOk r (records_of (given_of worked)) rules.lang (Work task c) old new)

    turns : (r : Result Unit CoreFault) → OnTransactions old new Taking r → Moves r → EndsWorkAt rules old new task input (turned_as r)
    turns r e m = accept_turns rules old new task input calls await_runs worked due one r e m

    -- the barrier is still awaited, and one record less stands before it
    still_awaited : (h k : Held R K S) → old.held ≡ Some h → EndsAccept rules.lang old.graph old.operators task input h k old.ledger new.ledger worked (Ok tt) → IsAwaited old.graph k task input channel
    still_awaited h k was e =
        let a = await_at h was in
        let shape = shape_at rules old h was keeps in
        let advances : Advances h k = work_advances rules old.graph old.operators old.partitions h k keeps.expanded shape task input channel a.works.1 old.ledger new.ledger tt worked one e in
        record {
          works = a.works;
          pending = λ none. a.pending (sym advances.pending ∙ none);
          sent = λ c is. advances.copied c.sender (a.sent c is);
          missing = work_came rules old.graph old.operators old.partitions h k keeps.expanded shape task input channel a.works.1 old.ledger new.ledger tt worked one e channel ∙ a.missing;
        }

    falls_at : (h k : Held R K S) → old.held ≡ Some h → EndsAccept rules.lang old.graph old.operators task input h k old.ledger new.ledger worked (Ok tt) → leading (items_at k.channels channel) < leading (items_at h.channels channel)
    falls_at h k was e =
        let a = await_at h was in
        let shape = shape_at rules old h was keeps in
        let head = work_head rules old.graph old.operators old.partitions h k keeps.expanded shape task input channel a.works.1 old.ledger new.ledger tt worked one e in
        let to = input_channel old.graph task input channel a.works.1 in
        let n = number_of h a.pending in
        let one = barrier_sent rules old.graph old.operators h keeps.expanded shape channel n.0 to.0 to.1 n.1 (a.sent to.0 to.1) a.missing in
        subst (λ (items : List (Item R)). leading items < leading (items_at h.channels channel)) (sym head.3) (leading_falls (items_at h.channels channel) head.2 head.0 n.0 head.1 one)

    pub accept_part : (r : Result Unit CoreFault) → OnTransactions old new Taking r → Moves r → EndsPart rules old new Awaited r
    accept_part (Ok u) e m =
        let a = ran old new Taking (Ok u) (kept (Ok u)) e await_runs in
        let shape = shape_at rules old a.h a.was keeps in
        let made = turns (Ok u) e m in
        let is = ap (λ (s : State O R K S). s.held) a.is in (
          record {
            before = a.h;
            after = a.k;
            was = a.was;
            is = is;
            moves = made.0 ∷ [];
            works = made.2.0;
            advances = work_advances rules old.graph old.operators old.partitions a.h a.k keeps.expanded shape task input channel (await_at a.h a.was).works.1 old.ledger new.ledger u worked one a.ended;
            still = λ still. absurd (work_not_still rules old.graph old.operators old.partitions a.h a.k keeps.expanded shape task input channel (await_at a.h a.was).works.1 old.ledger new.ledger u worked one a.ended still);
          },
          holds_one new Awaited a.k is (subst (λ (g : Expanded). Awaited g a.k) (sym (ap (λ (s : State O R K S). s.graph) a.is)) (still_awaited a.h a.k a.was a.ended)),
        )
    accept_part (Err f) e m =
        let a = ran old new Taking (Err f) (kept (Err f)) e await_runs in
        by f a.h a.k a.was a.is (accept_refused rules.lang old.graph old.operators task input a.h a.k old.ledger new.ledger worked f (MatchOption-at_some ⊥ (λ x. IsDue rules.lang old.graph old.operators task input x (given_of worked)) a.h a.was due) a.ended) (turns (Err f) e m)
      where
        by : (f : CoreFault) (h k : Held R K S) → old.held ≡ Some h → new ≡ kept (Err f) k → ((f ≡ Memory) × (k ≡ h)) ⊎ (f ≡ Device) → EndsWorkAt rules old new task input (turned_as (Err f)) → EndsPart rules old new {T = Unit {0}} Awaited (Err f)
        by Memory h k was is (inl same) turned =
            record {
              before = h;
              after = k;
              was = was;
              is = ap (λ (s : State O R K S). s.held) is;
              moves = [];
              works = turned.0;
              advances = subst (λ (x : Held R K S). Advances h x) (sym same.1) (advances_none h);
              still = λ still. subst (λ (x : Held R K S). IsStill old.graph old.partitions x) (sym same.1) still;
            }
        by Device h k was is w turned = ([], turned.0, turned.1)
        by other h k was is (inl same) turned = absurd cc
        by other h k was is (inr same) turned = absurd cc

    pub accept_falls : (r : Result Unit CoreFault) → OnTransactions old new Taking r → IfOk r (λ u. leading_in new.held channel < leading_in old.held channel)
    accept_falls (Ok u) e =
        let a = ran old new Taking (Ok u) (kept (Ok u)) e await_runs in
        let is : new.held ≡ Some a.k = ap (λ (s : State O R K S). s.held) a.is in
        subst (λ (o : Option (Held R K S)). leading_in o channel < leading_in old.held channel) (sym is)
        (subst (λ (o : Option (Held R K S)). leading (items_at a.k.channels channel) < leading_in o channel) (sym a.was) (falls_at a.h a.k a.was a.ended))
    accept_falls (Err f) e = tt
