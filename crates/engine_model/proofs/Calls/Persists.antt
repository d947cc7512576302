-- A task's part is put, as a call of the engine.
use Rattle.std.proofs.Common.{◌≡◌, ◌<◌, inl, inr, Option, Some, None, Result, Ok, Err, slice_get, unwrap_or, length, ℕ, zero, suc, List, [], ◌∷◌, refl, sym, ap, subst, arith, true}
use Rattle.std.proofs.lemmas.Option.{none-some}
use Rattle.abs_codec.specs.Reading.{whole_of}
use Rattle.checkpoint_model.specs.Headline.{PersistsAPart}
use Rattle.job_state.specs.Held.{Held, copy_at, logs_of, with_logs, with_acknowledged}
use Rattle.snapshot_store.specs.Store.{Stored, IsNumbered, with_part}
use Rattle.job_graph.specs.declared.role.Role.{Role}
use Rattle.task_part.specs.declared.part.Part.{Part}
use Rattle.engine_model.specs.AllRules.{AllRules}
use Rattle.engine_model.specs.State.{State}
use Rattle.engine_model.specs.View.{run_of, transactions_at}
use Rattle.engine_model.specs.Keeps.{PartsAreFormed, CopyAs, Shape, Keeps}
use Rattle.engine_model.specs.Calls.{IsPersistNext, EndsPersist, EndsPersistSome, WhereReached, WherePut, left_by}
use Rattle.engine_model.specs.Goes.{Goes}
use Rattle.engine_model.specs.declared.fault.CoreFault.{CoreFault}
use Rattle.engine_model.specs.declared.fault.CoreFault.TheVariants.{NoSuchTask, NotReady, NoCheckpoint, Memory, Device}
use Rattle.engine_model.specs.declared.persisted.Persisted.{Persisted}
use Rattle.engine_model.specs.declared.persisted.Persisted.TheVariants.{More, Done}
use Rattle.engine_model.proofs.Shape.ShapesKept.{shape_acknowledged}
use Rattle.engine_model.proofs.Store.Logs.{logs_suit}
use Rattle.engine_model.proofs.Store.Part.{part_of_form, have_come}
use Rattle.engine_model.proofs.Store.Steps.{engine_persists}
use Rattle.engine_model.proofs.Store.Runs.{runs_put}
use Rattle.engine_model.proofs.Store.Formed.{formed_put}
use Rattle.engine_model.proofs.Calls.Goes.{after, goes_by, goes_then_down, goes_down, goes_keeps, runs_same, shape_of, runs_of, KeepsAndGoes, keeps_refused, keeps_down}

-- ---- a task that has a copy is one of the graph

pub found : {A : Type 0} (xs : List A) (i : ℕ) → i < length xs → (x : A) × (slice_get xs i ≡ Some x)
found [] i within = absurd (omega (arith, within))
found (x ∷ xs) zero within = (x, refl)
found (x ∷ xs) (suc i) within = found xs i (omega (arith, within))

pub copy_within : {R K S : Type 0} (h : Held R K S) (task : ℕ) (p : Part R K S) → copy_at h task ≡ Some p → task < length h.copies
copy_within {R} {K} {S} h task p is = of h.copies task is
  where
    of : (xs : List (Option (Part R K S))) (i : ℕ) → unwrap_or (slice_get xs i) None ≡ Some p → i < length xs
    of [] i e = absurd (none-some p e)
    of (x ∷ xs) zero e = omega arith
    of (x ∷ xs) (suc i) e = let rest = of xs i e in omega (arith, rest)

module _ {R K S O : Type 0} (rules : AllRules R K S O) (s : State O R K S) (keeps : Keeps rules s) (h : Held R K S) (was : s.held ≡ Some h) where
  abbrev shape : Shape rules s.graph s.operators h
  shape = shape_of rules s keeps h was

  module _ (task : ℕ) (k : Held R K S) (checkpoint : ℕ) (p : Part R K S) (bytes : List ℕ) (next : IsPersistNext s.graph task h k checkpoint p) (reads : whole_of rules.lang.read_part bytes ≡ Ok (with_logs (logs_of s.graph h task) p)) where
    abbrev put : Stored
    put = with_part s.stored checkpoint task bytes

    within : task < length s.graph.tasks
    within = subst (λ m. task < m) shape.copies (copy_within h task p next.copied)

    form : (r : Role) → slice_get s.graph.tasks task ≡ Some r → CopyAs r (Some p)
    form r is = subst (CopyAs r) next.copied (shape.copy_forms task r is)

    put_formed : s.is_fresh ≡ true → PartsAreFormed rules s.graph put
    put_formed fresh =
        formed_put rules s.graph s.stored checkpoint task bytes (with_logs (logs_of s.graph h task) p) reads
        (λ r is. part_of_form rules.RecordFits s.graph task (logs_of s.graph h task) r p (logs_suit s.graph h rules.RecordFits task shape.logs_fit) (form r is)) (keeps.formed fresh)

    goes_put : (n : ℕ) → Goes rules.lang s (after s (Some (with_acknowledged task h)) put s.ledger n)
    goes_put n =
        let r = found s.graph.tasks task within in
        goes_by rules.lang s h (with_acknowledged task h) put s.ledger n (run_of rules.lang.cmp s.graph (with_acknowledged task h)) was refl
        (PersistsAPart task (engine_persists rules.lang s h s.stored (λ t. transactions_at s.ledger (slice_get s.graph.tasks t)) checkpoint task bytes r.0 p next.pending r.1 next.copied (form r.0 r.1)
        (have_come s.graph h task p (shape.gate_fits task within) next.closed next.copied) shape.only_marked keeps.expanded reads))

    keeps_put : (n : ℕ) → IsNumbered put → KeepsAndGoes rules s (after s (Some (with_acknowledged task h)) put s.ledger n)
    keeps_put n numbered =
        goes_keeps rules s keeps (Some (with_acknowledged task h)) put s.ledger n refl numbered put_formed refl keeps.ordered
        (shape_acknowledged rules s.graph s.operators h shape task p next.copied next.closed)
        (runs_same rules.lang (record s { stored = put }) (after s (Some (with_acknowledged task h)) put s.ledger n) (with_acknowledged task h) refl refl refl
        (runs_put rules.lang s h (runs_of rules s keeps h was) checkpoint task bytes p next.pending (subst (λ m. task < m) (sym shape.acked) within) next.copied reads))
        (goes_put n)

  module _ (task : ℕ) (k : Held R K S) (stored : Stored) (n : ℕ) (spelling : Part R K S → List ℕ) (numbered : IsNumbered stored) where
    -- the copy with its logs
    abbrev full : Part R K S → Part R K S
    full p = with_logs (logs_of s.graph h task) p

    -- what spells it is read again
    abbrev pub IsReadable : Type 0
    IsReadable = (p : Part R K S) → copy_at h task ≡ Some p → whole_of rules.lang.read_part (spelling (full p)) ≡ Ok (full p)

    pub keeps_persist : (result : Result Unit CoreFault) → WhereReached result IsReadable → EndsPersist s.graph task h k s.stored stored spelling result
        → Keeps rules (record s { held = left_by result (Some k); stored = stored; faults = n }) × Goes rules.lang s (record s { held = left_by result (Some k); stored = stored; faults = n })
    keeps_persist (Ok u) spells e =
        let made = keeps_put task k e.0 e.1 (spelling (full e.1)) e.2 (spells e.1 e.2.copied) n (subst IsNumbered e.3 numbered) in
        subst (λ (x : Held R K S). KeepsAndGoes rules s (after s (Some x) stored s.ledger n)) (sym e.4)
        (subst (λ (x : Stored). KeepsAndGoes rules s (after s (Some (with_acknowledged task h)) x s.ledger n)) (sym e.3) made)
    keeps_persist (Err NoSuchTask) spells e = keeps_refused rules s keeps h k stored s.ledger n was e.1 e.2 refl
    keeps_persist (Err NoCheckpoint) spells e = keeps_refused rules s keeps h k stored s.ledger n was e.2 e.3 refl
    keeps_persist (Err NotReady) spells e = keeps_refused rules s keeps h k stored s.ledger n was e.3 e.4 refl
    keeps_persist (Err Memory) spells e = keeps_refused rules s keeps h k stored s.ledger n was e.3 e.4 refl
    keeps_persist (Err Device) spells e =
        let reads = spells e.1 e.2.copied in
        elim e.3 [
          | inl same ↦ keeps_down rules s keeps stored s.ledger n (ap (λ (x : Stored). x.tasks) same) numbered (λ fresh. subst (PartsAreFormed rules s.graph) (sym same) (keeps.formed fresh)) refl keeps.ordered (goes_down rules.lang s stored s.ledger n same refl)
          | inr done ↦
              let goes = goes_then_down rules.lang s (Some (with_acknowledged task h)) (with_part s.stored e.0 task (spelling (full e.1))) s.ledger n (goes_put task k e.0 e.1 (spelling (full e.1)) e.2 reads n) in
              keeps_down rules s keeps stored s.ledger n (ap (λ (x : Stored). x.tasks) done) numbered (λ fresh. subst (PartsAreFormed rules s.graph) (sym done) (put_formed task k e.0 e.1 (spelling (full e.1)) e.2 reads fresh)) refl keeps.ordered
              (subst (λ (x : Stored). Goes rules.lang s (after s None x s.ledger n)) (sym done) goes)
        ]
    keeps_persist (Err other) spells e = absurd e

    pub keeps_persist_some : (result : Result Persisted CoreFault) → WherePut result IsReadable → EndsPersistSome s.graph task h k s.stored stored spelling result
        → Keeps rules (record s { held = left_by result (Some k); stored = stored; faults = n }) × Goes rules.lang s (record s { held = left_by result (Some k); stored = stored; faults = n })
    keeps_persist_some (Ok Done) spells e = keeps_persist (Ok tt) spells e
    keeps_persist_some (Ok More) spells e = keeps_refused rules s keeps h k stored s.ledger n was e.3 e.4 refl
    keeps_persist_some (Err NoSuchTask) spells e = keeps_persist (Err NoSuchTask) tt e
    keeps_persist_some (Err NoCheckpoint) spells e = keeps_persist (Err NoCheckpoint) tt e
    keeps_persist_some (Err NotReady) spells e = keeps_persist (Err NotReady) tt e
    keeps_persist_some (Err Memory) spells e = keeps_refused rules s keeps h k stored s.ledger n was e.3 e.4 refl
    keeps_persist_some (Err Device) spells e = keeps_persist (Err Device) spells e
    keeps_persist_some (Err other) spells e = absurd e

-- what holds anyhow holds where the device is reached
pub when_reached : {T : Type 0} (P : Type 0) (result : Result T CoreFault) → P → WhereReached result P
when_reached P (Ok v) p = p
when_reached P (Err Device) p = p
when_reached P (Err other) p = tt

-- what holds anyhow holds where a part was put
pub when_put : (P : Type 0) (result : Result Persisted CoreFault) → P → WherePut result P
when_put P (Ok Done) p = p
when_put P (Ok More) p = tt
when_put P (Err Device) p = p
when_put P (Err other) p = tt
