-- The calls that settle a sink's transactions, one after another.
use Rattle.std.proofs.Common.{◌≡◌, ◌≢◌, ◌<◌, ◌+◌, inl, inr, Option, Some, None, Ok, Err, slice_get, length, take, drop, ℕ, List, [], refl, sym, ap, ◌∙◌, subst}
use Rattle.std.proofs.lemmas.Option.{none-some}
use Rattle.commit_sink.specs.Ledger.{Ledger, IsOrdered, Ends, after_commit, commit_refusal, aborted, abort_refusal, begun, unsettled_of}
use Rattle.commit_sink.specs.declared.transactions.TransactionFault.{TransactionFault}
use Rattle.commit_sink.specs.declared.transactions.TransactionFault.TheVariants as fault
use Rattle.engine_model.specs.Restart.{InTurn, UpTo, CommitsNext, AbortsNext, SettlesPartly, NamesOther}
use Rattle.engine_model.proofs.Turns.{turn_next, up_to_here, up_to_next, next_of_rest, take_and_drop, up_to_end}
use Rattle.engine_model.proofs.Ledger.Settle.{abort_first, abort_not_refused, all_named, named_none}
use Rattle.settlement.specs.Ends.{commit_fault, call_fault, EndsCommits, EndsAborts, EndsSettle}

-- ---- commits

pub commit_next : (names : List ℕ) (i n a b : ℕ) (old l m : Ledger) → slice_get names i ≡ Some n → InTurn CommitsNext (take i names) old l → IsOrdered m
    → Ends {T = Unit} (l, a) (m, b) (commit_refusal l n) (after_commit l n) (Ok tt) → InTurn CommitsNext (take (i + 1) names) old m
commit_next names i n a b old l m at done ordered e = turn_next CommitsNext names i n old l m at done (record { may = e.0; ends = e.1; ordered = ordered })

pub commit_stops : (names : List ℕ) (i n a b : ℕ) (old l m : Ledger) (f : TransactionFault) → slice_get names i ≡ Some n → InTurn CommitsNext (take i names) old l → IsOrdered m → f ≢ fault.Memory
    → Ends {T = Unit} (l, a) (m, b) (commit_refusal l n) (after_commit l n) (Err f) → EndsCommits old m names (Err (commit_fault f))
commit_stops names i n a b old l m f at done ordered no_memory e = by f no_memory e
  where
    here : m ≡ l → UpTo CommitsNext names old m
    here same = up_to_here CommitsNext names i old m (subst (InTurn CommitsNext (take i names) old) (sym same) done)

    refused : (g : TransactionFault) → commit_refusal l n ≡ Some g → m ≡ l → NamesOther names old m
    refused g why same = record {
      commits = record { done = take i names; rest = drop i names; are = take_and_drop i names; turns = subst (InTurn CommitsNext (take i names) old) (sym same) done };
      name = n;
      more = drop (i + 1) names;
      next = next_of_rest names i n at;
      refused = λ none. none-some g (sym none ∙ ap (λ (x : Ledger). commit_refusal x n) same ∙ why);
    }

    by : (f : TransactionFault) → f ≢ fault.Memory → Ends {T = Unit} (l, a) (m, b) (commit_refusal l n) (after_commit l n) (Err f) → EndsCommits old m names (Err (commit_fault f))
    by fault.Fault other e = elim e.0 [
      | inl same ↦ here same
      | inr did ↦ up_to_next CommitsNext names i n old l m at done (record { may = did.0; ends = did.1; ordered = ordered })
    ]
    by fault.NotPreCommitted other e = refused fault.NotPreCommitted e.0 e.1
    by fault.NotOpen other e = refused fault.NotOpen e.0 e.1
    by fault.AlreadyCommitted other e = refused fault.AlreadyCommitted e.0 e.1
    by fault.NoSuchTransaction other e = refused fault.NoSuchTransaction e.0 e.1
    by fault.Memory other e = absurd (other refl)

-- ---- aborts

-- the first that is left is aborted
abort_leaves : (left : List (ℕ × Option ℕ)) (i subtask : ℕ) (n : ℕ × Option ℕ) (l m : Ledger) → slice_get left i ≡ Some n → IsOrdered l → unsettled_of l subtask ≡ drop i left → m ≡ aborted l n.0 → unsettled_of m subtask ≡ drop (i + 1) left
abort_leaves left i subtask n l m at ordered rest is =
    (abort_first l m subtask [] n (drop (i + 1) left) ordered (all_named [] l subtask (named_none l subtask)) (rest ∙ next_of_rest left i n at) is).unsettled

pub abort_may : (left : List (ℕ × Option ℕ)) (i subtask : ℕ) (n : ℕ × Option ℕ) (l : Ledger) → slice_get left i ≡ Some n → unsettled_of l subtask ≡ drop i left → abort_refusal l n.0 ≡ None
abort_may left i subtask n l at rest = abort_not_refused l subtask [] n (drop (i + 1) left) (rest ∙ next_of_rest left i n at)

pub abort_next : (left : List (ℕ × Option ℕ)) (i subtask a b : ℕ) (n : ℕ × Option ℕ) (old l m : Ledger) → slice_get left i ≡ Some n → InTurn AbortsNext (take i left) old l → IsOrdered l → IsOrdered m → unsettled_of l subtask ≡ drop i left
    → Ends {T = Unit} (l, a) (m, b) (abort_refusal l n.0) (aborted l n.0) (Ok tt) → InTurn AbortsNext (take (i + 1) left) old m × (unsettled_of m subtask ≡ drop (i + 1) left)
abort_next left i subtask a b n old l m at done was ordered rest e = (
  turn_next AbortsNext left i n old l m at done (record { may = e.0; ends = e.1; ordered = ordered }),
  abort_leaves left i subtask n l m at was rest e.1,
)

pub abort_stops : (left : List (ℕ × Option ℕ)) (i subtask a b : ℕ) (n : ℕ × Option ℕ) (old l m : Ledger) (f : TransactionFault) → slice_get left i ≡ Some n → InTurn AbortsNext (take i left) old l → IsOrdered m → f ≢ fault.Memory → unsettled_of l subtask ≡ drop i left
    → Ends {T = Unit} (l, a) (m, b) (abort_refusal l n.0) (aborted l n.0) (Err f) → EndsAborts old m left (Err (call_fault f))
abort_stops left i subtask a b n old l m f at done ordered no_memory rest e = by f no_memory e
  where
    never : (g : TransactionFault) → abort_refusal l n.0 ≡ Some g → ⊥
    never g why = none-some g (sym (abort_may left i subtask n l at rest) ∙ why)

    by : (f : TransactionFault) → f ≢ fault.Memory → Ends {T = Unit} (l, a) (m, b) (abort_refusal l n.0) (aborted l n.0) (Err f) → EndsAborts old m left (Err (call_fault f))
    by fault.Fault other e = elim e.0 [
      | inl same ↦ up_to_here AbortsNext left i old m (subst (InTurn AbortsNext (take i left) old) (sym same) done)
      | inr did ↦ up_to_next AbortsNext left i n old l m at done (record { may = did.0; ends = did.1; ordered = ordered })
    ]
    by fault.NotPreCommitted other e = absurd (never fault.NotPreCommitted e.0)
    by fault.NotOpen other e = absurd (never fault.NotOpen e.0)
    by fault.AlreadyCommitted other e = absurd (never fault.AlreadyCommitted e.0)
    by fault.NoSuchTransaction other e = absurd (never fault.NoSuchTransaction e.0)
    by fault.Memory other e = absurd (other refl)

-- only a device's failure is answered, and it is counted
pub abort_counted : (left : List (ℕ × Option ℕ)) (i subtask a b : ℕ) (n : ℕ × Option ℕ) (l m : Ledger) (f : TransactionFault) → slice_get left i ≡ Some n → f ≢ fault.Memory → unsettled_of l subtask ≡ drop i left
    → Ends {T = Unit} (l, a) (m, b) (abort_refusal l n.0) (aborted l n.0) (Err f) → a < b
abort_counted left i subtask a b n l m f at no_memory rest e = by f no_memory e
  where
    never : (g : TransactionFault) → abort_refusal l n.0 ≡ Some g → ⊥
    never g why = none-some g (sym (abort_may left i subtask n l at rest) ∙ why)

    by : (f : TransactionFault) → f ≢ fault.Memory → Ends {T = Unit} (l, a) (m, b) (abort_refusal l n.0) (aborted l n.0) (Err f) → a < b
    by fault.Fault other e = e.1
    by fault.NotPreCommitted other e = absurd (never fault.NotPreCommitted e.0)
    by fault.NotOpen other e = absurd (never fault.NotOpen e.0)
    by fault.AlreadyCommitted other e = absurd (never fault.AlreadyCommitted e.0)
    by fault.NoSuchTransaction other e = absurd (never fault.NoSuchTransaction e.0)
    by fault.Memory other e = absurd (other refl)

-- ---- one is begun

pub begin_stops : (names : List ℕ) (subtask a b : ℕ) (old named rest new : Ledger) (f : TransactionFault) → InTurn CommitsNext names old named → InTurn AbortsNext (unsettled_of named subtask) named rest → IsOrdered new
    → Ends {T = ℕ} (rest, a) (new, b) None (begun rest subtask) (Err f) → EndsSettle old new names subtask (Err (call_fault f))
begin_stops names subtask a b old named rest new f commits aborts ordered e = by f e
  where
    none : new ≡ rest → SettlesPartly names subtask old new
    none same = inr (inl (record { named = named; commits = commits; aborts = up_to_end AbortsNext (unsettled_of named subtask) named new (subst (InTurn AbortsNext (unsettled_of named subtask) named) (sym same) aborts) }))

    by : (f : TransactionFault) → Ends {T = ℕ} (rest, a) (new, b) None (begun rest subtask) (Err f) → EndsSettle old new names subtask (Err (call_fault f))
    by fault.Fault e = elim e.0 [
      | inl same ↦ none same
      | inr did ↦ inr (inr (length rest.transactions + 1, record { named = named; rest = rest; commits = commits; aborts = aborts; is_next = refl; begins = did.1; ordered = ordered }))
    ]
    by fault.NotPreCommitted e = absurd (none-some fault.NotPreCommitted e.0)
    by fault.NotOpen e = absurd (none-some fault.NotOpen e.0)
    by fault.AlreadyCommitted e = absurd (none-some fault.AlreadyCommitted e.0)
    by fault.NoSuchTransaction e = absurd (none-some fault.NoSuchTransaction e.0)
    by fault.Memory e = none e.1
