-- What may be claimed, and why a claim is refused.
use Rattle.std.proofs.Common.{◌≡◌, ◌<◌, ◌≤◌, ◌+◌, ◌++◌, ◌^◌, ℕ, List, [], ◌∷◌, length, take, map, slice_get, Option, Some, None, Result, Ok, Err, IfOk, IfErr, MatchOption, refl, subst, sym, arith}
use Rattle.std.proofs.lemmas.List.{length-append}
use Rattle.std.proofs.lemmas.List.Elements.{All-append}
use Rattle.std.specs.List.{All}
use Rattle.channels.specs.declared.item.Item.{Item}
use Rattle.channels.specs.declared.item.Item.TheVariants.{Record}
use Rattle.job_state.specs.Held.{Held}
use Rattle.job_state.specs.Sending.{items_at}
use Rattle.claims.specs.Due.{IsWorker, EndsOffer}
use Rattle.claims.specs.declared.parts.Given.{Given}
use Rattle.claims.specs.declared.parts.Given.TheVariants as given
use Rattle.engine_model.specs.Language.{Language}
use Rattle.engine_model.specs.declared.fault.CoreFault.{CoreFault}
use Rattle.engine_model.specs.declared.fault.CoreFault.TheVariants.{NotRunning, NoSuchTask, NotReady, ChannelBlocked, Busy, Stale, WrongResult, CheckpointPending, NoCheckpoint, NotAllAcked, Memory, Device, CommitFault, NumbersSpent, BadSnapshot}
use Rattle.dataflow_core.specs.Claims.{IsBusy, HasRecord, RefusesClaim, Refuses, MayClaim, spent_as}
use Rattle.dataflow_core.specs.CoreState.{CoreState}
use Rattle.dataflow_core.specs.declared.held.Claim.{Claim}

-- where records stand first, the first of them does
first_stands : {R : Type 0} (rows : List R) (items : List (Item R)) → 0 < length rows → take (length rows) items ≡ map Record rows → (row : R) × (slice_get items 0 ≡ Some (Record row))
first_stands [] items some stand = absurd (omega arith)
first_stands {R = R} (row ∷ rows) items some stand = (row, first items stand)
  where
    first : (items : List (Item R)) → take (length (row ∷ rows)) items ≡ map Record (row ∷ rows) → slice_get items 0 ≡ Some (Record row)
    first [] stand = absurd cc
    first (item ∷ items) stand = cc

-- one claim more is kept, of the next serial
pub one_more : (serials : ℕ) (claim : Claim) (claims after : List Claim) → claim.serial ≡ serials → length claims ≤ serials → All (λ c. c.serial < serials) claims → after ≡ claims ++ claim ∷ []
    → (length after ≤ serials + 1) × All (λ c. c.serial < serials + 1) after
one_more serials claim claims after is few below same =
    subst (λ (l : List Claim). (length l ≤ serials + 1) × All (λ c. c.serial < serials + 1) l) (sym same)
    (omega (arith, few, length-append claims (claim ∷ [])), All-append (λ (c : Claim). c.serial < serials + 1) claims (claim ∷ []) (λ k d within. (let b = below k d within in omega (arith, b))) (last is))
  where
    last : claim.serial ≡ serials → All (λ (c : Claim). c.serial < serials + 1) (claim ∷ [])
    last is = grind (arith, is)

module _ {R K S O : Type 0} (lang : Language R K S O) (s : CoreState O R K S) (task input most : ℕ) where
  -- where work is offered there is a record to take
  offer_there : (h : Held R K S) (work : Given O K S R) → EndsOffer lang s.engine.graph s.engine.operators task input h most (Ok work) → HasRecord s task input h
  offer_there h (given.Operator p) e =
      let due = e.0 in
      let row = first_stands p.rows.items (items_at h.channels due.0) e.1.0 due.1.first.1 in
      (due.0, row.0, (subst IsWorker (sym due.1.is_operator) tt, due.1.leads), (due.1.first.0, row.1))
  offer_there h (given.Sink row) e = (e.0.0, row, (subst IsWorker (sym e.0.1.is_sink) tt, e.0.1.leads), e.0.1.first)

  -- what may be claimed may find no memory
  no_memory_by : (work : Given O K S R) (held : Option (Held R K S)) → MatchOption held ⊥ (λ h. ¬ IsBusy task s.claims × EndsOffer lang s.engine.graph s.engine.operators task input h most (Ok work) × (s.serials < 2 ^ 63))
      → MatchOption held (Memory ≡ NotRunning) (λ h. RefusesClaim s task input h Memory)
  no_memory_by work (Some h) may = (may.0, offer_there h work may.1, may.2)
  no_memory_by work None may = absurd may

  pub no_memory : (work : Given O K S R) → MayClaim s task input most lang work → Refuses s task input Memory
  no_memory work may = no_memory_by work s.engine.held may

  left_by : (work : Given O K S R) (held : Option (Held R K S)) → MatchOption held ⊥ (λ h. ¬ IsBusy task s.claims × EndsOffer lang s.engine.graph s.engine.operators task input h most (Ok work) × (s.serials < 2 ^ 63)) → s.serials < 2 ^ 63
  left_by work (Some h) may = may.2
  left_by work None may = absurd may

  -- a serial is left for it
  pub is_left : (work : Given O K S R) → MayClaim s task input most lang work → s.serials < 2 ^ 63
  is_left work may = left_by work s.engine.held may

  -- how a task's asking for work ends
  abbrev Answers : Held R K S → Result (Given O K S R) CoreFault → Type 0
  Answers h (Ok work) = ¬ IsBusy task s.claims × EndsOffer lang s.engine.graph s.engine.operators task input h most (Ok work) × (s.serials < 2 ^ 63)
  Answers h (Err fault) = RefusesClaim s task input h fault

  abbrev Offered : Held R K S → Result (Given O K S R) CoreFault → Type 0
  Offered h offered = EndsOffer lang s.engine.graph s.engine.operators task input h most offered

  module _ (free : ¬ IsBusy task s.claims) where
    answers : (h : Held R K S) → s.serials < 2 ^ 63 → (offered : Result (Given O K S R) CoreFault) → Offered h offered → Answers h offered
    answers h left (Ok work) e = (free, e, left)
    answers h left (Err Memory) e = (free, e, left)
    answers h left (Err NoSuchTask) e = e
    answers h left (Err ChannelBlocked) e = (free, e)
    answers h left (Err NotReady) e = (free, e)
    answers h left (Err NotRunning) e = absurd e
    answers h left (Err Busy) e = absurd e
    answers h left (Err Stale) e = absurd e
    answers h left (Err WrongResult) e = absurd e
    answers h left (Err CheckpointPending) e = absurd e
    answers h left (Err NoCheckpoint) e = absurd e
    answers h left (Err NotAllAcked) e = absurd e
    answers h left (Err Device) e = absurd e
    answers h left (Err CommitFault) e = absurd e
    answers h left (Err NumbersSpent) e = absurd e
    answers h left (Err BadSnapshot) e = absurd e

    answers_spent : (h : Held R K S) → 2 ^ 63 ≤ s.serials → (offered : Result (Given O K S R) CoreFault) → Offered h offered → Answers h (spent_as offered)
    answers_spent h spent (Ok work) e = (free, offer_there h work e, spent)
    answers_spent h spent (Err Memory) e = (free, e, spent)
    answers_spent h spent (Err NoSuchTask) e = e
    answers_spent h spent (Err ChannelBlocked) e = (free, e)
    answers_spent h spent (Err NotReady) e = (free, e)
    answers_spent h spent (Err NotRunning) e = absurd e
    answers_spent h spent (Err Busy) e = absurd e
    answers_spent h spent (Err Stale) e = absurd e
    answers_spent h spent (Err WrongResult) e = absurd e
    answers_spent h spent (Err CheckpointPending) e = absurd e
    answers_spent h spent (Err NoCheckpoint) e = absurd e
    answers_spent h spent (Err NotAllAcked) e = absurd e
    answers_spent h spent (Err Device) e = absurd e
    answers_spent h spent (Err CommitFault) e = absurd e
    answers_spent h spent (Err NumbersSpent) e = absurd e
    answers_spent h spent (Err BadSnapshot) e = absurd e

    ok_of : (h : Held R K S) (r : Result (Given O K S R) CoreFault) → Answers h r → IfOk r (λ work. ¬ IsBusy task s.claims × EndsOffer lang s.engine.graph s.engine.operators task input h most (Ok work) × (s.serials < 2 ^ 63))
    ok_of h (Ok work) a = a
    ok_of h (Err fault) a = tt

    err_of : (h : Held R K S) (r : Result (Given O K S R) CoreFault) → Answers h r → IfErr r (λ fault. RefusesClaim s task input h fault)
    err_of h (Ok work) a = tt
    err_of h (Err fault) a = a

    module _ (offered : Result (Given O K S R) CoreFault) where
      abbrev Offers : Option (Held R K S) → Type 0
      Offers held = MatchOption held (offered ≡ Err NotRunning) (λ h. Offered h offered)

      ok_by : s.serials < 2 ^ 63 → (held : Option (Held R K S)) → Offers held → IfOk offered (λ work. MatchOption held ⊥ (λ h. ¬ IsBusy task s.claims × EndsOffer lang s.engine.graph s.engine.operators task input h most (Ok work) × (s.serials < 2 ^ 63)))
      ok_by left (Some h) e = ok_of h offered (answers h left offered e)
      ok_by left None e = subst (λ (r : Result (Given O K S R) CoreFault). IfOk r (λ work. ⊥)) (sym e) tt

      err_by : s.serials < 2 ^ 63 → (held : Option (Held R K S)) → Offers held → IfErr offered (λ fault. MatchOption held (fault ≡ NotRunning) (λ h. RefusesClaim s task input h fault))
      err_by left (Some h) e = err_of h offered (answers h left offered e)
      err_by left None e = subst (λ (r : Result (Given O K S R) CoreFault). IfErr r (λ fault. fault ≡ NotRunning)) (sym e) refl

      spent_by : 2 ^ 63 ≤ s.serials → (held : Option (Held R K S)) → Offers held → IfErr (spent_as offered) (λ fault. MatchOption held (fault ≡ NotRunning) (λ h. RefusesClaim s task input h fault))
      spent_by spent (Some h) e = err_of h (spent_as offered) (answers_spent h spent offered e)
      spent_by spent None e = subst (λ (r : Result (Given O K S R) CoreFault). IfErr (spent_as r) (λ fault. fault ≡ NotRunning)) (sym e) refl

      pub offers_ok : s.serials < 2 ^ 63 → Offers s.engine.held → IfOk offered (MayClaim s task input most lang)
      offers_ok left e = ok_by left s.engine.held e

      pub offers_err : s.serials < 2 ^ 63 → Offers s.engine.held → IfErr offered (Refuses s task input)
      offers_err left e = err_by left s.engine.held e

      pub offers_spent : 2 ^ 63 ≤ s.serials → Offers s.engine.held → IfErr (spent_as offered) (Refuses s task input)
      offers_spent spent e = spent_by spent s.engine.held e
