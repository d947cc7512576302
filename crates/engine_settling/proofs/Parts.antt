-- Each call as a part of settling.
use Rattle.std.proofs.Common.{◌≡◌, ◌≢◌, ◌⊎◌, ◌<◌, inl, inr, Option, Some, None, Result, Ok, Err, MatchOption, ℕ, true, List, [], ◌∷◌, IsSome, zero, suc, slice_get, length, refl, sym, ap, subst, arith}
use Rattle.std.proofs.lemmas.Option.{none-some, same_Some, MatchOption-at_some}
use Rattle.alignment.specs.declared.input.Effect.{Effect}
use Rattle.claims.specs.Carried.{given_of}
use Rattle.claims.specs.Due.{IsWorker, WorksFrom, IsDue, EndsAccept}
use Rattle.claims.specs.Tasks.{TakesAs, EndsBarrier}
use Rattle.claims.specs.declared.parts.Made.{Made}
use Rattle.claims.specs.declared.parts.Made.TheVariants as made
use Rattle.commit_sink.specs.Ledger.{Ledger}
use Rattle.coordinator.specs.Coordinator.{has_acked}
use Rattle.dataflow_model.specs.Machine.{Move}
use Rattle.job_graph.specs.Expanded.{Expanded}
use Rattle.job_graph.specs.declared.role.Role.{Role}
use Rattle.job_graph.specs.declared.role.Role.TheVariants as role
use Rattle.job_state.specs.Held.{Held, copy_at, came_at}
use Rattle.task_part.specs.declared.part.Part.{Part}
use Rattle.engine_model.specs.AllRules.{AllRules}
use Rattle.engine_model.specs.Calls.{EndsInject, EndsPersist, EndsOperatorBarrier, EndsSinkBarrier, IsSource, IsBarrierDue, NoRecord, input_at, left_by}
use Rattle.engine_model.specs.Keeps.{Keeps}
use Rattle.engine_model.specs.Language.{Language}
use Rattle.engine_model.specs.State.{State}
use Rattle.engine_model.specs.declared.fault.CoreFault.{CoreFault}
use Rattle.engine_model.specs.declared.fault.CoreFault.TheVariants.{NoSuchTask, NotReady, ChannelBlocked, NoCheckpoint, WrongResult, Memory, Device}
use Rattle.engine_plain.specs.Plain.{Stays}
use Rattle.engine.specs.Running.{OnAttempt, OnStore, OnTransactions}
use Rattle.engine_rounds.specs.Works.{Works}
use Rattle.engine_rounds.proofs.Many.{ran}
use Rattle.engine_rounds.proofs.Turning.{Calls}
use Rattle.engine_settling.specs.Advancing.{Advances, IsPending, HaveEnded}
use Rattle.engine_settling.specs.Awaiting.{IsAwaited}
use Rattle.engine_settling.specs.Bringing.{done_as, Holds, Brings, EndsPart}
use Rattle.engine_settling.specs.Resting.{IsStill}
use Rattle.engine_settling.proofs.Bringing.{holds_one, holds_at, shape_at, works_stays}
use Rattle.engine_settling.proofs.Gating.{barrier_next, input_channel, gate_rests}
use Rattle.engine_settling.proofs.Ordering.{advances_none}
use Rattle.engine_settling.proofs.Steps.{inject_advances, inject_copies, inject_stays_still, barrier_advances, barrier_comes, barrier_stays_still, persist_advances, persist_acks, persist_stays_still, persist_done}

-- what stands at a place below the length
is_there : {A : Type 0} (xs : List A) (i : ℕ) → i < length xs → IsSome (slice_get xs i)
is_there [] i h = absurd (omega (arith, h))
is_there (x ∷ xs) zero h = refl
is_there (x ∷ xs) (suc i) h = is_there xs i (omega (arith, h))

-- how a barrier that is due is refused
module _ {R K S : Type 0} (graph : Expanded) (task input channel n : ℕ) (h k : Held R K S) (old new : Ledger) (due : IsBarrierDue task input h channel n) where
  abbrev Refused : CoreFault → Type 0
  Refused f = ((f ≡ Memory) × (k ≡ h)) ⊎ (f ≡ Device)

  as_operator : (f : CoreFault) → EndsOperatorBarrier graph task h k input channel (Err f) → Refused f
  as_operator ChannelBlocked e = absurd (due.0 e.0)
  as_operator NotReady e = absurd (e.1 n due.1)
  as_operator Memory e = inl (refl, e.2)
  as_operator other e = absurd e

  as_sink : (subtask : ℕ) (f : CoreFault) → EndsSinkBarrier task input h k channel subtask old new (Err f) → Refused f
  as_sink subtask ChannelBlocked e = absurd (due.0 e.0)
  as_sink subtask NotReady e = absurd (e.1 n due.1)
  as_sink subtask Memory e = inl (refl, e.2)
  as_sink subtask Device e = inr refl
  as_sink subtask other e = absurd e

  refused_by : (f : CoreFault) (r : Option Role) (c : Option ℕ) → IsWorker r → c ≡ Some channel → TakesAs graph task input h k old new (Err f) r c → Refused f
  refused_by f (Some (role.Operator number)) (Some other) worker is e =
      as_operator f (subst (λ (c : ℕ). EndsOperatorBarrier graph task h k input c (Err f)) (same_Some other channel is) e.0)
  refused_by f (Some (role.Sink subtask)) (Some other) worker is e =
      as_sink subtask f (subst (λ (c : ℕ). EndsSinkBarrier task input h k c subtask old new (Err f)) (same_Some other channel is) e)
  refused_by f (Some (role.Source partition)) c worker is e = absurd worker
  refused_by f None c worker is e = absurd worker
  refused_by f (Some (role.Operator number)) None worker is e = absurd (none-some channel is)
  refused_by f (Some (role.Sink subtask)) None worker is e = absurd (none-some channel is)

  pub barrier_refused : (f : CoreFault) → WorksFrom graph task input channel → EndsBarrier graph task input h k old new (Err f) → Refused f
  barrier_refused f works e = refused_by f (slice_get graph.tasks task) (input_at graph task input) works.0 works.1 e

-- how what is due is refused where it is handed in
module _ {R K S O : Type 0} (lang : Language R K S O) (graph : Expanded) (operators : List O) (task input : ℕ) (h k : Held R K S) (old new : Ledger) where
  pub accept_refused : (w : Made O K S R) (f : CoreFault) → IsDue lang graph operators task input h (given_of w) → EndsAccept lang graph operators task input h k old new w (Err f) → ((f ≡ Memory) × (k ≡ h)) ⊎ (f ≡ Device)
  accept_refused (made.Operator solved) WrongResult due e = absurd (e.0 due)
  accept_refused (made.Operator solved) Memory due e = inl (refl, e.1)
  accept_refused (made.Operator solved) Device due e = inr refl
  accept_refused (made.Operator solved) other due e = absurd e
  accept_refused (made.Sink row bytes) WrongResult due e = absurd (e.0 due)
  accept_refused (made.Sink row bytes) Memory due e = inl (refl, e.1)
  accept_refused (made.Sink row bytes) Device due e = inr refl
  accept_refused (made.Sink row bytes) other due e = absurd e
  accept_refused (made.Refused work) WrongResult due e = absurd (e.0 due)
  accept_refused (made.Refused work) Memory due e = inl (refl, e.1)
  accept_refused (made.Refused work) other due e = absurd e

module _ {R K S O : Type 0} (rules : AllRules R K S O) (old new : State O R K S) (keeps : Keeps rules old) (calls : Calls rules old new) where
  abbrev Ends : (Expanded → Held R K S → Type 0) → Result Unit CoreFault → Type 0
  Ends Done r = EndsPart rules old new Done r

  -- where nothing that is held has changed
  unchanged : (h k : Held R K S) → old.held ≡ Some h → new.held ≡ Some k → Works rules [] old new → k ≡ h → Brings rules old new
  unchanged h k was is works same =
      record {
        before = h;
        after = k;
        was = was;
        is = is;
        moves = [];
        works = works;
        advances = subst (λ (x : Held R K S). Advances h x) (sym same) (advances_none h);
        still = λ still. subst (λ (x : Held R K S). IsStill old.graph old.partitions x) (sym same) still;
      }

  brings : (h k : Held R K S) → old.held ≡ Some h → new.held ≡ Some k → (moves : List Move) → Works rules moves old new → Advances h k → (IsStill old.graph old.partitions h → IsStill old.graph old.partitions k) → Brings rules old new
  brings h k was is moves works advances still = record { before = h; after = k; was = was; is = is; moves = moves; works = works; advances = advances; still = still }

  graph_held : (P : Expanded → Held R K S → Type 0) (moves : List Move) (k : Held R K S) → Works rules moves old new → new.held ≡ Some k → P old.graph k → Holds new P
  graph_held P moves k works is p = holds_one new P k is (subst (λ (g : Expanded). P g k) (sym (ap (λ (s : State O R K S). s.graph) works.same)) p)

  -- ---- a source copies

  module _ (stays : Stays rules.lang old new) (task : ℕ) (source : IsSource old.graph task) (pending : Holds old (λ g h. IsPending h)) where
    abbrev Injecting : Held R K S → Held R K S → Result Unit CoreFault → Type 0
    Injecting h k r = EndsInject old.graph task h k r

    abbrev injected : Result Unit CoreFault → Held R K S → State O R K S
    injected r k = record old { held = left_by r (Some k); faults = new.faults }

    abbrev Copied : Expanded → Held R K S → Type 0
    Copied g h = copy_at h task ≢ None

    injects : (r : Result Unit CoreFault) → OnAttempt old new Injecting r → Works rules [] old new
    injects r e = works_stays rules old new Injecting r (injected r) e (λ k. refl) calls stays

    running : old.held ≢ None
    running none = absurd (subst (λ (o : Option (Held R K S)). MatchOption o ⊥ (λ h. IsPending h)) none pending)

    waits : (h : Held R K S) → old.held ≡ Some h → h.coordination.pending ≢ None
    waits h was = holds_at old (λ g h. IsPending h) h was pending

    pub inject_part : (r : Result Unit CoreFault) → OnAttempt old new Injecting r → Ends Copied (done_as r)
    inject_part (Ok u) e =
        let a = ran old new Injecting (Ok u) (injected (Ok u)) e running in
        let is = ap (λ (s : State O R K S). s.held) a.is in
        let shape = shape_at rules old a.h a.was keeps in (
          brings a.h a.k a.was is [] (injects (Ok u) e) (inject_advances rules old.graph old.operators old.partitions a.h a.k keeps.expanded shape task a.ended)
              (inject_stays_still rules old.graph old.operators old.partitions a.h a.k keeps.expanded shape task a.ended),
          graph_held Copied [] a.k (injects (Ok u) e) is (inject_copies rules old.graph old.operators old.partitions a.h a.k keeps.expanded shape task a.ended),
        )
    inject_part (Err NotReady) e =
        let a = ran old new Injecting (Err NotReady) (injected (Err NotReady)) e running in
        let is = ap (λ (s : State O R K S). s.held) a.is in (
          unchanged a.h a.k a.was is (injects (Err NotReady) e) a.ended.3,
          graph_held Copied [] a.k (injects (Err NotReady) e) is (subst (λ (x : Held R K S). copy_at x task ≢ None) (sym a.ended.3) a.ended.2),
        )
    inject_part (Err Memory) e =
        let a = ran old new Injecting (Err Memory) (injected (Err Memory)) e running in
        unchanged a.h a.k a.was (ap (λ (s : State O R K S). s.held) a.is) (injects (Err Memory) e) a.ended.3
    inject_part (Err NoSuchTask) e = absurd ((ran old new Injecting (Err NoSuchTask) (injected (Err NoSuchTask)) e running).ended.0 source)
    inject_part (Err NoCheckpoint) e =
        let a = ran old new Injecting (Err NoCheckpoint) (injected (Err NoCheckpoint)) e running in
        absurd (waits a.h a.was a.ended.1)
    inject_part (Err other) e = absurd (ran old new Injecting (Err other) (injected (Err other)) e running).ended

  -- ---- a part is put

  module _ (stays : Stays rules.lang old new) (task : ℕ) (within : task < length old.graph.tasks) (spelling : Part R K S → List ℕ) (ended : Holds old HaveEnded) where
    abbrev Persisting : Held R K S → Held R K S → Result Unit CoreFault → Type 0
    Persisting h k r = EndsPersist old.graph task h k old.stored new.stored spelling r

    abbrev persisted : Result Unit CoreFault → Held R K S → State O R K S
    persisted r k = record old { held = left_by r (Some k); stored = new.stored; faults = new.faults }

    abbrev Acked : Expanded → Held R K S → Type 0
    Acked g h = has_acked h.coordination task ≡ true

    persists : (r : Result Unit CoreFault) → OnStore old new Persisting r → Works rules [] old new
    persists r e = works_stays rules old new Persisting r (persisted r) e (λ k. refl) calls stays

    runs : old.held ≢ None
    runs none = absurd (subst (λ (o : Option (Held R K S)). MatchOption o ⊥ (λ h. HaveEnded old.graph h)) none ended)

    ended_at : (h : Held R K S) → old.held ≡ Some h → HaveEnded old.graph h
    ended_at h was = holds_at old HaveEnded h was ended

    pub persist_part : (r : Result Unit CoreFault) → OnStore old new Persisting r → Ends Acked (done_as r)
    persist_part (Ok u) e =
        let a = ran old new Persisting (Ok u) (persisted (Ok u)) e runs in
        let is = ap (λ (s : State O R K S). s.held) a.is in
        let shape = shape_at rules old a.h a.was keeps in (
          brings a.h a.k a.was is [] (persists (Ok u) e) (persist_advances rules old.graph old.operators old.partitions a.h a.k keeps.expanded shape task old.stored new.stored spelling a.ended)
              (persist_stays_still rules old.graph old.operators old.partitions a.h a.k keeps.expanded shape task old.stored new.stored spelling a.ended),
          graph_held Acked [] a.k (persists (Ok u) e) is (persist_acks rules old.graph old.operators old.partitions a.h a.k keeps.expanded shape task old.stored new.stored spelling a.ended),
        )
    persist_part (Err NotReady) e =
        let a = ran old new Persisting (Err NotReady) (persisted (Err NotReady)) e runs in
        let is = ap (λ (s : State O R K S). s.held) a.is in
        let shape = shape_at rules old a.h a.was keeps in
        let was = ended_at a.h a.was in
        let acked = persist_done rules old.graph old.operators old.partitions a.h a.k keeps.expanded shape task old.stored new.stored spelling a.ended (was.copied task within)
        (gate_rests rules old.graph old.operators a.h keeps.expanded shape was.copied was.come task within) in (
          unchanged a.h a.k a.was is (persists (Err NotReady) e) a.ended.3,
          graph_held Acked [] a.k (persists (Err NotReady) e) is (subst (λ (x : Held R K S). has_acked x.coordination task ≡ true) (sym a.ended.3) acked),
        )
    persist_part (Err Memory) e =
        let a = ran old new Persisting (Err Memory) (persisted (Err Memory)) e runs in
        unchanged a.h a.k a.was (ap (λ (s : State O R K S). s.held) a.is) (persists (Err Memory) e) a.ended.3
    persist_part (Err Device) e =
        let a = ran old new Persisting (Err Device) (persisted (Err Device)) e runs in
        ([], persists (Err Device) e, ap (λ (s : State O R K S). s.held) a.is)
    persist_part (Err NoSuchTask) e = absurd ((ran old new Persisting (Err NoSuchTask) (persisted (Err NoSuchTask)) e runs).ended.0 (is_there old.graph.tasks task within))
    persist_part (Err NoCheckpoint) e =
        let a = ran old new Persisting (Err NoCheckpoint) (persisted (Err NoCheckpoint)) e runs in
        absurd ((ended_at a.h a.was).pending a.ended.1)
    persist_part (Err other) e = absurd (ran old new Persisting (Err other) (persisted (Err other)) e runs).ended

  -- ---- a barrier is taken

  module _ (task input channel : ℕ) (awaited : Holds old (λ g h. IsAwaited g h task input channel)) where
    awaited_at : (h : Held R K S) → old.held ≡ Some h → IsAwaited old.graph h task input channel
    awaited_at h was = holds_at old (λ g h. IsAwaited g h task input channel) h was awaited

    awake : old.held ≢ None
    awake none = absurd (subst (λ (o : Option (Held R K S)). MatchOption o ⊥ (λ h. IsAwaited old.graph h task input channel)) none awaited)

    -- the number that is pending, and the channel
    numbered : (h : Held R K S) → IsAwaited old.graph h task input channel → (n : ℕ) × (h.coordination.pending ≡ Some n)
    numbered h a = of h.coordination.pending refl
      where
        of : (o : Option ℕ) → h.coordination.pending ≡ o → (n : ℕ) × (h.coordination.pending ≡ Some n)
        of None is = absurd (a.pending is)
        of (Some n) is = (n, is)

    module _ (stays : Stays rules.lang old new) where
      abbrev Taking : Held R K S → Held R K S → Result Effect CoreFault → Type 0
      Taking h k r = EndsBarrier old.graph task input h k old.ledger new.ledger r

      abbrev taken : Result Effect CoreFault → Held R K S → State O R K S
      taken r k = record old { held = left_by r (Some k); ledger = new.ledger; faults = new.faults }

      abbrev Come : Expanded → Held R K S → Type 0
      Come g h = came_at h channel ≡ true

      takes : (r : Result Effect CoreFault) → OnTransactions old new Taking r → Works rules [] old new
      takes r e = works_stays rules old new Taking r (taken r) e (λ k. refl) calls stays

      pub barrier_done : (effect : Effect) → OnTransactions old new Taking (Ok effect) → Brings rules old new × Holds new Come
      barrier_done effect e =
          let a = ran old new Taking (Ok effect) (taken (Ok effect)) e awake in
          let is = ap (λ (s : State O R K S). s.held) a.is in
          let shape = shape_at rules old a.h a.was keeps in
          let leads = (awaited_at a.h a.was).works.1 in (
            brings a.h a.k a.was is [] (takes (Ok effect) e) (barrier_advances rules old.graph old.operators old.partitions a.h a.k keeps.expanded shape task input channel leads old.ledger new.ledger effect a.ended)
                (barrier_stays_still rules old.graph old.operators old.partitions a.h a.k keeps.expanded shape task input channel leads old.ledger new.ledger effect a.ended),
            graph_held Come [] a.k (takes (Ok effect) e) is (barrier_comes rules old.graph old.operators old.partitions a.h a.k keeps.expanded shape task input channel leads old.ledger new.ledger effect a.ended),
          )

      -- it is due where no record stands first
      due_at : (h : Held R K S) → old.held ≡ Some h → NoRecord h channel → (n : ℕ) × IsBarrierDue task input h channel n
      due_at h was none =
          let a = awaited_at h was in
          let n = numbered h a in
          let to = input_channel old.graph task input channel a.works.1 in
          (n.0, barrier_next rules old.graph old.operators h keeps.expanded (shape_at rules old h was keeps) task input channel n.0 to.0 a.works.1 to.1 n.1 (a.sent to.0 to.1) a.missing none)

      fails_as : (h k : Held R K S) → old.held ≡ Some h → (f : CoreFault) → new ≡ taken (Err f) k → Works rules [] old new → ((f ≡ Memory) × (k ≡ h)) ⊎ (f ≡ Device) → Ends Come (Err f)
      fails_as h k was Memory is works (inl same) = unchanged h k was (ap (λ (s : State O R K S). s.held) is) works same.1
      fails_as h k was Device is works w = ([], works, ap (λ (s : State O R K S). s.held) is)
      fails_as h k was f is works (inl same) = absurd cc
      fails_as h k was f is works (inr same) = absurd cc

      pub barrier_fails : (f : CoreFault) → MatchOption old.held ⊥ (λ h. NoRecord h channel) → OnTransactions old new Taking (Err f) → Ends Come (Err f)
      barrier_fails f none e =
          let a = ran old new Taking (Err f) (taken (Err f)) e awake in
          let due = due_at a.h a.was (MatchOption-at_some ⊥ (λ h. NoRecord h channel) a.h a.was none) in
          fails_as a.h a.k a.was f a.is (takes (Err f) e) (barrier_refused old.graph task input channel due.0 a.h a.k old.ledger new.ledger due.1 f (awaited_at a.h a.was).works a.ended)
