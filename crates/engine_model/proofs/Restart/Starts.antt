-- What tasks start from, and what they hold then.
use Rattle.std.proofs.Common.{◌≡◌, ◌+◌, ◌<◌, Option, Some, None, slice_get, length, ℕ, zero, suc, List, [], ◌∷◌, ◌++◌, refl, sym, ap, subst, ◌∙◌, arith}
use Rattle.std.proofs.lemmas.List.{length-append}
use Rattle.std.proofs.lemmas.Option.{none-some, same_Some, slice_get_within}
use Rattle.abs_codec.specs.Entries.{value_at}
use Rattle.engine_model.specs.AllRules.{AllRules, IsGood}
use Rattle.engine_model.specs.Keeps.{HoldsAs}
use Rattle.engine_model.specs.Restart.{InTurn, IsStart, AreStarts, first_start, Suits, Takes, Settling}
use Rattle.engine_model.specs.declared.start.Start.{Start}
use Rattle.engine_model.specs.declared.start.Start.TheVariants as start
use Rattle.job_graph.specs.Expanded.{Expanded}
use Rattle.job_graph.specs.declared.role.Role.{Role}
use Rattle.job_graph.specs.declared.role.Role.TheVariants as role
use Rattle.job_state.specs.declared.holding.Holding.{Holding}
use Rattle.job_state.specs.declared.holding.Holding.TheVariants as holds
use Rattle.snapshot_store.specs.Store.{Stored}
use Rattle.task_part.specs.Spelling.{Logs}
use Rattle.engine_model.proofs.Ledger.Lists.{get_put}

-- a place of one list is a place of another as long
pub as_long : {A B : Type 0} (xs : List A) (ys : List B) (k : ℕ) (x : A) → length ys ≡ length xs → slice_get xs k ≡ Some x → (y : B) × (slice_get ys k ≡ Some y)
as_long {B = B} xs ys k x long at = by (slice_get ys k) refl
  where
    past : {B : Type 0} (ys : List B) (k : ℕ) → slice_get ys k ≡ None → k < length ys → ⊥
    past [] k none within = omega (arith, within)
    past (y ∷ ys) zero none within = none-some y (sym none)
    past (y ∷ ys) (suc k) none within = past ys k none (omega (arith, within))

    by : (o : Option B) → slice_get ys k ≡ o → (y : B) × (slice_get ys k ≡ Some y)
    by None none = absurd (past ys k none (let within = slice_get_within xs k x at in omega (arith, within, long)))
    by (Some y) there = (y, there)

-- what stands in the first of two lists
pub in_front : {A : Type 0} (xs : List A) (k : ℕ) (x : A) (ys : List A) → slice_get xs k ≡ Some x → slice_get (xs ++ ys) k ≡ Some x
in_front [] k x ys at = absurd (none-some x at)
in_front (y ∷ xs) zero x ys at = at
in_front (y ∷ xs) (suc k) x ys at = in_front xs k x ys at

same_entries : {K S : Type 0} (a b : List (K × S)) → ◌≡◌ {A = Holding K S} (holds.Operator a) (holds.Operator b) → a ≡ b
same_entries a b e = cc

module _ {R K S O : Type 0} (rules : AllRules R K S O) (graph : Expanded) (operators : List O) (partitions : List (List R)) (stored : Stored) where
  sink_role : (last : Option ℕ) (task : ℕ) (r : Role) (subtask : ℕ) (names : List ℕ) (logs : Logs R) → IsStart rules graph operators partitions stored last task r (start.Sink subtask names logs) → r ≡ role.Sink subtask
  sink_role None task (role.Source p) subtask names logs e = absurd cc
  sink_role None task (role.Operator n) subtask names logs e = absurd cc
  sink_role None task (role.Sink s) subtask names logs e = let same : subtask ≡ s = cc in ap role.Sink (sym same)
  sink_role (Some n) task (role.Source p) subtask names logs is = absurd is.suits
  sink_role (Some n) task (role.Operator m) subtask names logs is = absurd is.suits
  sink_role (Some n) task (role.Sink s) subtask names logs is = ap role.Sink (sym (is.suits).0)

  -- a start of a sink is for the task of its subtask
  pub sink_at : (last : Option ℕ) (starts : List (Start R K S)) → AreStarts rules graph operators partitions stored last starts
      → (task subtask : ℕ) (names : List ℕ) (logs : Logs R) → slice_get starts task ≡ Some (start.Sink subtask names logs) → slice_get graph.tasks task ≡ Some (role.Sink subtask)
  sink_at last starts are task subtask names logs at =
      let r = as_long starts graph.tasks task (start.Sink subtask names logs) (sym are.one_each) at in
      r.1 ∙ ap (λ (q : Role). Some q) (sink_role last task r.0 subtask names logs (are.each task r.0 (start.Sink subtask names logs) r.1 at))

-- ---- what tasks hold that have taken what they start from

module _ {R K S : Type 0} where
  abbrev pub IsTaken : Start R K S → Holding K S → Type 0
  IsTaken (start.Source offset) h = h ≡ holds.Source offset
  IsTaken (start.Operator entries logs) h = h ≡ holds.Operator entries
  IsTaken (start.Sink subtask names logs) h = (opened : ℕ) × (h ≡ holds.Sink (record { open_one = opened; pending = [] }))

  -- one task more holds something
  pub takes_one : (st : Start R K S) (old new : Settling K S) → Takes st old new → (h : Holding K S) × (new.tasks ≡ old.tasks ++ h ∷ []) × IsTaken st h
  takes_one (start.Source offset) old new e = (holds.Source offset, ap (λ (x : Settling K S). x.tasks) e, refl)
  takes_one (start.Operator entries logs) old new e = (holds.Operator entries, ap (λ (x : Settling K S). x.tasks) e, refl)
  takes_one (start.Sink subtask names logs) old new e = (holds.Sink (record { open_one = e.0; pending = [] }), e.2, (e.0, refl))

  pub takes_length : (starts : List (Start R K S)) (old new : Settling K S) → InTurn Takes starts old new → length new.tasks ≡ length old.tasks + length starts
  takes_length [] old new e = let same = ap (λ (x : Settling K S). length x.tasks) e in omega (arith, same)
  takes_length (st ∷ starts) old new e =
      let one = takes_one st old e.0 e.1 in
      let rest = takes_length starts e.0 new e.2 in
      let long = ap length one.1 in
      let more = length-append old.tasks (one.0 ∷ []) in
      omega (arith, rest, long, more)

  -- what was held stays held
  pub takes_kept : (starts : List (Start R K S)) (old new : Settling K S) → InTurn Takes starts old new → (k : ℕ) (h : Holding K S) → slice_get old.tasks k ≡ Some h → slice_get new.tasks k ≡ Some h
  takes_kept [] old new e k h at = ap (λ (x : Settling K S). slice_get x.tasks k) e ∙ at
  takes_kept (st ∷ starts) old new e k h at =
      let one = takes_one st old e.0 e.1 in
      takes_kept starts e.0 new e.2 k h (ap (λ (l : List (Holding K S)). slice_get l k) one.1 ∙ in_front old.tasks k h (one.0 ∷ []) at)

  -- each task holds what it has taken
  pub takes_each : (starts : List (Start R K S)) (old new : Settling K S) → InTurn Takes starts old new → (k : ℕ) (st : Start R K S) → slice_get starts k ≡ Some st → (h : Holding K S) × (slice_get new.tasks (length old.tasks + k) ≡ Some h) × IsTaken st h
  takes_each [] old new e k st at = absurd (none-some st at)
  takes_each (x ∷ starts) old new e zero st at =
      let one = takes_one x old e.0 e.1 in
      let there : slice_get (e.0).tasks (length old.tasks) ≡ Some one.0 = ap (λ (l : List (Holding K S)). slice_get l (length old.tasks)) one.1 ∙ get_put old.tasks one.0 in
      let none : length old.tasks + 0 ≡ length old.tasks = omega arith in
      (one.0, ap (slice_get new.tasks) none ∙ takes_kept starts e.0 new e.2 (length old.tasks) one.0 there, subst (λ (y : Start R K S). IsTaken y one.0) (same_Some x st at) one.2)
  takes_each (x ∷ starts) old new e (suc k) st at =
      let one = takes_one x old e.0 e.1 in
      let rest = takes_each starts e.0 new e.2 k st at in
      let long = ap length one.1 in
      let more = length-append old.tasks (one.0 ∷ []) in
      let plus : length old.tasks + suc k ≡ length (e.0).tasks + k = omega (arith, long, more) in
      (rest.0, ap (slice_get new.tasks) plus ∙ rest.1, rest.2)

-- ---- of a task's kind

module _ {R K S : Type 0} where
  -- the start is of the task's kind
  abbrev pub IsOfKind : Role → Start R K S → Type 0
  IsOfKind (role.Source partition) (start.Source offset) = Unit {0}
  IsOfKind (role.Operator number) (start.Operator entries logs) = Unit {0}
  IsOfKind (role.Sink subtask) (start.Sink number names logs) = number ≡ subtask
  IsOfKind r st = ⊥

  -- so the task holds what its role asks for
  pub holds_of_kind : (r : Role) (st : Start R K S) (h : Holding K S) → IsOfKind r st → IsTaken st h → HoldsAs r (Some h)
  holds_of_kind (role.Source partition) (start.Source offset) h kind taken = (offset, ap (λ (x : Holding K S). Some x) taken)
  holds_of_kind (role.Source partition) (start.Operator entries logs) h kind taken = absurd kind
  holds_of_kind (role.Source partition) (start.Sink number names logs) h kind taken = absurd kind
  holds_of_kind (role.Operator number) (start.Source offset) h kind taken = absurd kind
  holds_of_kind (role.Operator number) (start.Operator entries logs) h kind taken = (entries, ap (λ (x : Holding K S). Some x) taken)
  holds_of_kind (role.Operator number) (start.Sink other names logs) h kind taken = absurd kind
  holds_of_kind (role.Sink subtask) (start.Source offset) h kind taken = absurd kind
  holds_of_kind (role.Sink subtask) (start.Operator entries logs) h kind taken = absurd kind
  holds_of_kind (role.Sink subtask) (start.Sink number names logs) h kind taken = (record { open_one = taken.0; pending = [] }, ap (λ (x : Holding K S). Some x) taken.1)

first_of_kind : (R K S : Type 0) (r : Role) → IsOfKind {R = R} {K = K} {S = S} r (first_start r)
first_of_kind R K S (role.Source partition) = tt
first_of_kind R K S (role.Operator number) = tt
first_of_kind R K S (role.Sink subtask) = refl

module _ {R K S O : Type 0} (rules : AllRules R K S O) (graph : Expanded) (operators : List O) (partitions : List (List R)) where
  suits_of_kind : (task : ℕ) (r : Role) (st : Start R K S) → Suits rules graph operators partitions task r st → IsOfKind r st
  suits_of_kind task (role.Source partition) (start.Source offset) suits = tt
  suits_of_kind task (role.Source partition) (start.Operator entries logs) suits = absurd suits
  suits_of_kind task (role.Source partition) (start.Sink number names logs) suits = absurd suits
  suits_of_kind task (role.Operator number) (start.Source offset) suits = absurd suits
  suits_of_kind task (role.Operator number) (start.Operator entries logs) suits = tt
  suits_of_kind task (role.Operator number) (start.Sink other names logs) suits = absurd suits
  suits_of_kind task (role.Sink subtask) (start.Source offset) suits = absurd suits
  suits_of_kind task (role.Sink subtask) (start.Operator entries logs) suits = absurd suits
  suits_of_kind task (role.Sink subtask) (start.Sink number names logs) suits = suits.0

  module _ (stored : Stored) where
    pub start_of_kind : (last : Option ℕ) (task : ℕ) (r : Role) (st : Start R K S) → IsStart rules graph operators partitions stored last task r st → IsOfKind r st
    start_of_kind None task r st e = subst (IsOfKind r) (sym e) (first_of_kind R K S r)
    start_of_kind (Some number) task r st is = suits_of_kind task r st is.suits

    -- an operator can go on from the states that its task holds
    pub good_states : (last : Option ℕ) (task number : ℕ) (st : Start R K S) (entries : List (K × S)) (operator : O) (key : K) (state : S) → IsStart rules graph operators partitions stored last task (role.Operator number) st
        → IsTaken st (holds.Operator entries) → slice_get operators number ≡ Some operator → value_at rules.lang.cmp entries key ≡ Some state → IsGood rules operator state
    good_states None task number st entries operator key state e taken at found =
        let now : IsTaken {R = R} (start.Operator [] []) (holds.Operator entries) = subst (λ (x : Start R K S). IsTaken x (holds.Operator entries)) e taken in
        let none : entries ≡ [] = same_entries entries [] now in
        absurd (none-some state (ap (λ (l : List (K × S)). value_at rules.lang.cmp l key) (sym none) ∙ found))
    good_states (Some n) task number (start.Source offset) entries operator key state is taken at found = absurd is.suits
    good_states (Some n) task number (start.Operator others logs) entries operator key state is taken at found =
        let same : entries ≡ others = same_entries entries others taken in
        let good = is.suits in
        let one : good.0 ≡ operator = same_Some good.0 operator (sym good.1 ∙ at) in
        subst (λ (o : O). IsGood rules o state) one ((good.2 key state (ap (λ (l : List (K × S)). value_at rules.lang.cmp l key) (sym same) ∙ found)).1)
    good_states (Some n) task number (start.Sink subtask names logs) entries operator key state is taken at found = absurd is.suits
