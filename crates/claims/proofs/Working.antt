-- An operator's records while they are worked: what is sent so far, and the states that are left.
use Rattle.std.proofs.Common.{◌≡◌, ◌<◌, ℕ, Bool, true, false, cond, List, [], ◌∷◌, ◌++◌, length, Option, Some, None, Ordering, refl, sym, ap, subst, ◌∙◌, append_assoc, unwrap_or, is_some}
use Rattle.std.specs.BTreeMap.{is_at}
use Rattle.std.specs.Cmp.{IsTotalOrder, Equal-is, eq_by_cmp_equiv}
use Rattle.std.specs.List.{All}
use Rattle.std.specs.List.Sorted.{IsStrictlySortedBy}
use Rattle.std.specs.Map.{keys_of}
use Rattle.std.specs.Ordering.{is_eq}
use Rattle.std.proofs.lemmas.Map.{NonePasses, lookup-none}
use Rattle.std.proofs.lemmas.Map.Entries.{none_past_head}
use Rattle.std.proofs.lemmas.Map.Keys.{IsDistinct-from_sorted}
use Rattle.std.proofs.lemmas.List.{append-nil}
use Rattle.std.proofs.lemmas.List.Elements.{All-nil, All-head, All-tail, All-push, All-weaker}
use Rattle.std.proofs.lemmas.Bool.{false≢true}
use mathlib.Core.Path.{fun_ext}
use Rattle.abs_codec.specs.Entries.{value_at}
use Rattle.dataflow_model.specs.Graph.{Meaning}
use Rattle.dataflow_model.specs.Machine.{kept_under, state_under}
use Rattle.job_state.specs.Batch.{turns_of, sent_by, kept_by, put_all}
use Rattle.operators.specs.Operator.{OrderIsExact}
use Rattle.claims.proofs.Turns.{turns_same}
use Rattle.deliveries.specs.Deliveries.{sent_in, AreFanned}
use Rattle.job_state.specs.Sending.{AreLanes}
use Rattle.claims.specs.Carried.{lanes_in, states_given, turns_given, HasItsState, AreStatesOf, IsCarried, IsOperand, IsOutcome}
use Rattle.claims.specs.Left.{either, left_over, state_left, made_of, WorksRow, AllGood}
use Rattle.claims.specs.Places.{left_at, IsPlaceOf, LeavesAt}
use Rattle.claims.specs.declared.left.Place.{Place}
use Rattle.claims.specs.declared.parts.Operand.{Operand}
use Rattle.claims.specs.declared.parts.Outcomes.{Outcomes}
use Rattle.engine_model.specs.AllRules.{AllRules, IsGood}

-- the rest of the records is to be worked
pub record IsWorking {R K S O : Type 0} (meaning : Meaning R K S O) (cmp : K → K → Ordering) (p : Operand O K S R) (rest : List R) (left : List (K × S)) (sent : List (ℕ × R)) : Type 0 where
  pub sends : sent ++ sent_by (turns_of meaning p.operator rest (left_over cmp left (states_given cmp p.states))) ≡ sent_by (turns_given meaning cmp p)
  pub leaves : (states : K → Option S) (key : K) → kept_by meaning.same_key (turns_of meaning p.operator rest (left_over cmp left (states_given cmp p.states))) (left_over cmp left states) key ≡ kept_by meaning.same_key (turns_given meaning cmp p) states key

module _ {R K S O : Type 0} (meaning : Meaning R K S O) (cmp : K → K → Ordering) (p : Operand O K S R) where
  pub works_from_first : (left : List (K × S)) (sent : List (ℕ × R)) → left ≡ [] → sent ≡ [] → IsWorking meaning cmp p p.rows.items left sent
  works_from_first [] [] l s = record { sends = refl; leaves = λ states key. refl }
  works_from_first (e ∷ left) sent l s = absurd cc
  works_from_first [] (e ∷ sent) l s = absurd cc

  -- one record more is worked
  pub works_on : (row : R) (rest : List R) (left kept : List (K × S)) (old new : List (ℕ × R)) → WorksRow meaning cmp p left row kept old new → IsWorking meaning cmp p (row ∷ rest) left old → IsWorking meaning cmp p rest kept new
  works_on row rest left kept old new worked was =
      let key = meaning.key p.operator row in
      let given = states_given cmp p.states in
      let made = made_of meaning cmp p left row in
      let left_is : (states : K → Option S) → left_over cmp kept states ≡ kept_under meaning.same_key key made.state (left_over cmp left states) = λ states. fun_ext (worked.leaves states) in
      let turns = λ (f : K → Option S). turns_of meaning p.operator rest f in
      let next : K → Option S = kept_under meaning.same_key key made.state (left_over cmp left given) in
      record {
        sends =
            ap (λ (f : K → Option S). new ++ sent_by (turns f)) (left_is given)
            ∙ ap (λ (s : List (ℕ × R)). s ++ sent_by (turns next)) worked.sends
            ∙ append_assoc old made.sent (sent_by (turns next))
            ∙ was.sends;
        leaves = λ states q.
            ap (λ (f : K → Option S). kept_by meaning.same_key (turns f) (left_over cmp kept states) q) (left_is given)
            ∙ ap (λ (f : K → Option S). kept_by meaning.same_key (turns next) f q) (left_is states)
            ∙ was.leaves states q;
      }

module _ {K S : Type 0} {cmp : K → K → Ordering} (order : IsTotalOrder cmp) (same_key : K → K → Bool) (law : (a b : K) → same_key a b ≡ is_eq (cmp a b)) where
  -- the last states are put over what was there
  pub put_over : (entries : List (K × S)) → IsStrictlySortedBy cmp (keys_of entries) → (states : K → Option S) (q : K) → put_all same_key entries states q ≡ left_over cmp entries states q
  unfolding IsStrictlySortedBy
  put_over [] rising states q = refl
  put_over (e ∷ entries) rising states q =
      put_over entries rising.1 (kept_under same_key (Some e.0) e.1 states) q ∙ by (is_at (cmp q) e.0) refl
    where
      at : same_key e.0 q ≡ is_at (cmp q) e.0
      at = law e.0 q ∙ (eq_by_cmp_equiv order).symm e.0 q

      by : (b : Bool) → is_at (cmp q) e.0 ≡ b → either (value_at cmp entries q) (kept_under same_key (Some e.0) e.1 states q) ≡ either (value_at cmp (e ∷ entries) q) (states q)
      by true is =
          let none : NonePasses (is_at (cmp q)) entries = none_past_head (eq_by_cmp_equiv order) q e entries (IsDistinct-from_sorted cmp (keys_of (e ∷ entries)) rising) is in
          rw (at, is, lookup-none (is_at (cmp q)) entries none) refl
      by false is = rw (at, is) refl

  -- a key that is left
  found_first : (b : Bool) (state : S) (found under : Option S) → either (cond b (Some state) found) under ≡ cond b (Some state) (either found under)
  found_first true state found under = refl
  found_first false state found under = refl

  pub left_more : (left kept : List (K × S)) (key : K) (state : S) → ((q : K) → value_at cmp kept q ≡ cond (is_at (cmp key) q) (Some state) (value_at cmp left q)) → (states : K → Option S) (q : K)
      → left_over cmp kept states q ≡ kept_under same_key (Some key) state (left_over cmp left states) q
  left_more left kept key state more states q =
      ap (λ (o : Option S). either o (states q)) (more q) ∙ found_first (is_at (cmp key) q) state (value_at cmp left q) (states q)
      ∙ ap (λ (b : Bool). cond b (Some state) (left_over cmp left states q)) (sym (law key q))

  -- a good state more
  pub good_more : (P : S → Type 0) (left kept : List (K × S)) (key : K) (state : S) → ((q : K) → value_at cmp kept q ≡ cond (is_at (cmp key) q) (Some state) (value_at cmp left q)) → P state → AllGood cmp P left → AllGood cmp P kept
  good_more P left kept key state more good all q s found = by (is_at (cmp key) q) (sym (more q) ∙ found)
    where
      by : (b : Bool) → cond b (Some state) (value_at cmp left q) ≡ Some s → P s
      by true e = subst P (let same : state ≡ s = cc in same) good
      by false e = all q s e

  -- one that is left at a key's place
  pub good_at : (P : S → Type 0) (places after : List (Place K S)) (key : Option K) (place : ℕ) (state : S) → IsPlaceOf cmp places key place → (put : List (Place K S)) → after ≡ put → ((k : K) → IsPlaceOf cmp places (Some k) place → LeavesAt cmp k state (left_at places) (left_at put)) → P state → AllGood cmp P (left_at places) → AllGood cmp P (left_at after)
  good_at P places after None place state found put same leaves good all = absurd (false≢true found.keyed)
  good_at P places after (Some key) place state found put same leaves good all =
      good_more P (left_at places) (left_at after) key state (λ q. ap (λ (ps : List (Place K S)). value_at cmp (left_at ps) q) same ∙ leaves key found q) good all

module _ {R K S O : Type 0} (meaning : Meaning R K S O) (cmp : K → K → Ordering) (p : Operand O K S R) (order : IsTotalOrder cmp) (law : (a b : K) → meaning.same_key a b ≡ is_eq (cmp a b)) where
  -- all records are worked
  pub works_to_last : (left : List (K × S)) (sent : List (ℕ × R)) (outcomes : Outcomes K S R) → outcomes.states.items ≡ left → sent_in outcomes.sent ≡ sent → AreLanes meaning sent (lanes_in outcomes.lanes) → AreFanned sent outcomes.fanned → IsStrictlySortedBy cmp (keys_of left) → IsWorking meaning cmp p [] left sent → IsOutcome meaning cmp p outcomes
  works_to_last left sent outcomes is same lanes fanned rising was = record {
    sent = same ∙ sym (append-nil sent) ∙ was.sends;
    last = λ states q. ap (λ (es : List (K × S)). put_all meaning.same_key es states q) is ∙ put_over order meaning.same_key law left rising states q ∙ was.leaves states q;
    rising = subst (λ (es : List (K × S)). IsStrictlySortedBy cmp (keys_of es)) (sym is) rising;
    lanes = subst (λ (ss : List (ℕ × R)). AreLanes meaning ss (lanes_in outcomes.lanes)) (sym same) lanes;
    fanned = subst (λ (ss : List (ℕ × R)). AreFanned ss outcomes.fanned) (sym same) fanned;
  }

module _ {R K S O : Type 0} (meaning : Meaning R K S O) (cmp : K → K → Ordering) where
  -- where the record has a state under its key
  pub state_found : (p : Operand O K S R) (left : List (K × S)) (key : Option K) (state : S) → state_left cmp p.states left key ≡ Some state → state_under key (meaning.fresh p.operator) (left_over cmp left (states_given cmp p.states)) ≡ state
  state_found p left None state e = absurd cc
  state_found p left (Some k) state e = ap (λ (o : Option S). state_under (Some k) (meaning.fresh p.operator) (λ q. o)) e

  -- and where it has none
  pub state_fresh : (p : Operand O K S R) (left : List (K × S)) (key : Option K) → state_left cmp p.states left key ≡ None → state_under key (meaning.fresh p.operator) (left_over cmp left (states_given cmp p.states)) ≡ meaning.fresh p.operator
  state_fresh p left None e = refl
  state_fresh p left (Some k) e = ap (λ (o : Option S). state_under (Some k) (meaning.fresh p.operator) (λ q. o)) e

  -- a state that is found is good
  pub found_good : (P : S → Type 0) (states : List (K × Option S)) (left : List (K × S)) (key : Option K) (state : S) → ((k : K) (s : S) → value_at cmp states k ≡ Some (Some s) → P s) → AllGood cmp P left → state_left cmp states left key ≡ Some state → P state
  found_good P states left None state given good e = absurd cc
  found_good P states left (Some k) state given good e = by (value_at cmp left k) (value_at cmp states k) refl refl e
    where
      by : (l : Option S) (g : Option (Option S)) → value_at cmp left k ≡ l → value_at cmp states k ≡ g → either l (unwrap_or g None) ≡ Some state → P state
      by (Some s) g l_is g_is e = good k state (l_is ∙ e)
      by None (Some o) l_is g_is e = given k state (g_is ∙ ap Some e)
      by None None l_is g_is e = absurd cc

module _ {R K S O : Type 0} (meaning : Meaning R K S O) (cmp : K → K → Ordering) where
  -- a key that has a place among the states has the state that is given there
  pub given_is : (states : List (K × Option S)) (entries : List (K × S)) (key : K) → is_some (value_at cmp states key) ≡ true → AreStatesOf cmp entries states → states_given cmp states key ≡ value_at cmp entries key
  given_is states entries key there same = by (value_at cmp states key) refl there
    where
      by : (o : Option (Option S)) → value_at cmp states key ≡ o → is_some o ≡ true → unwrap_or o None ≡ value_at cmp entries key
      by None is there = absurd cc
      by (Some state) is there = sym (same key state is)

  -- the records are worked on what is given as they are on what the task has
  pub worked_same : (p : Operand O K S R) (entries : List (K × S)) → All (HasItsState meaning cmp p.operator p.states) p.rows.items → AreStatesOf cmp entries p.states → turns_given meaning cmp p ≡ turns_of meaning p.operator p.rows.items (value_at cmp entries)
  worked_same p entries keyed same =
      turns_same meaning p.operator p.rows.items (states_given cmp p.states) (value_at cmp entries) (λ i d less key is. given_is p.states entries key (keyed i d less key is) same)

-- what is carried is whole
pub carried_whole : {R K S O : Type 0} (rules : AllRules R K S O) (entries : List (K × S)) (p : Operand O K S R) → IsCarried rules.lang.meaning rules.lang.cmp entries p → 0 < length p.rows.items → All rules.RecordFits p.rows.items
    → ((key : K) (state : S) → value_at rules.lang.cmp entries key ≡ Some state → IsGood rules p.operator state) → IsOperand rules p
carried_whole rules entries p carried some fit good = record {
  rising = carried.rising;
  keyed = carried.keyed;
  some = some;
  fit = fit;
  good = λ key state found. good key state (carried.same key (Some state) found);
}

-- the entries have the state of the place, or none where it has none
abbrev pub Has : {K S : Type 0} → (K → K → Ordering) → List (K × S) → K × Option S → Type 0
Has cmp entries place = value_at cmp entries place.0 ≡ place.1

module _ {K S : Type 0} {cmp : K → K → Ordering} (exact : OrderIsExact cmp) (entries : List (K × S)) where
  pub same_by_place : (states : List (K × Option S)) → All (Has cmp entries) states → AreStatesOf cmp entries states
  same_by_place [] all key state found = absurd cc
  same_by_place (e ∷ states) all key state found = by (is_at (cmp key) e.0) refl found (same_by_place states (All-tail (Has cmp entries) e states all) key state)
    where
      by : (b : Bool) → is_at (cmp key) e.0 ≡ b → cond b (Some e.1) (value_at cmp states key) ≡ Some state → (value_at cmp states key ≡ Some state → value_at cmp entries key ≡ state) → value_at cmp entries key ≡ state
      by true is at rest =
          let one = exact key e.0 ((Equal-is (cmp key e.0)).0 is) in
          ap (value_at cmp entries) one ∙ All-head (Has cmp entries) e states all ∙ (let same : e.1 ≡ state = cc in same)
      by false is at rest = rest at

  pub place_by_place : (states : List (K × Option S)) → All (λ e. value_at cmp states e.0 ≡ Some e.1) states → AreStatesOf cmp entries states → All (Has cmp entries) states
  place_by_place states found same i d less = same _ _ (found i d less)

module _ {K S : Type 0} {cmp : K → K → Ordering} (order : IsTotalOrder cmp) where
  -- a key that is there stays, where one more comes
  stays_there : (b : Bool) (state : Option S) (found : Option (Option S)) → is_some found ≡ true → is_some (cond b (Some state) found) ≡ true
  stays_there true state found there = refl
  stays_there false state found there = there

  pub there_still : (states more : List (K × Option S)) (key : K) (state : Option S) → ((q : K) → value_at cmp more q ≡ cond (is_at (cmp key) q) (Some state) (value_at cmp states q)) → (q : K) → is_some (value_at cmp states q) ≡ true → is_some (value_at cmp more q) ≡ true
  there_still states more key state is q there = ap (λ (o : Option (Option S)). is_some o) (is q) ∙ stays_there (is_at (cmp key) q) state (value_at cmp states q) there

  pub there_now : (states more : List (K × Option S)) (key : K) (state : Option S) → ((q : K) → value_at cmp more q ≡ cond (is_at (cmp key) q) (Some state) (value_at cmp states q)) → is_some (value_at cmp more key) ≡ true
  there_now states more key state is = ap (λ (o : Option (Option S)). is_some o) (is key) ∙ ap (λ (b : Bool). is_some (cond b (Some state) (value_at cmp states key))) ((eq_by_cmp_equiv order).refl key)

  pub same_still : OrderIsExact cmp → (entries : List (K × S)) (states more : List (K × Option S)) (key : K) (state : Option S) → ((q : K) → value_at cmp more q ≡ cond (is_at (cmp key) q) (Some state) (value_at cmp states q)) → value_at cmp entries key ≡ state
      → AreStatesOf cmp entries states → AreStatesOf cmp entries more
  same_still exact entries states more key state is has same q given found = by (is_at (cmp key) q) refl (sym (is q) ∙ found)
    where
      by : (b : Bool) → is_at (cmp key) q ≡ b → cond b (Some state) (value_at cmp states q) ≡ Some given → value_at cmp entries q ≡ given
      by true at e =
          let one = exact key q ((Equal-is (cmp key q)).0 at) in
          ap (value_at cmp entries) (sym one) ∙ has ∙ (let given_it : state ≡ given = cc in given_it)
      by false at e = same q given e

module _ {R K S O : Type 0} (meaning : Meaning R K S O) (cmp : K → K → Ordering) (p : Operand O K S R) (left : List (K × S)) (row : R) where
  -- what the operator makes of the record, where a state is found under its key
  pub made_found : (key : Option K) (state : S) → key ≡ meaning.key p.operator row → state_left cmp p.states left key ≡ Some state → made_of meaning cmp p left row ≡ meaning.apply p.operator state row
  made_found key state is found =
      ap (λ (s : S). meaning.apply p.operator s row)
      (ap (λ (k : Option K). state_under k (meaning.fresh p.operator) (left_over cmp left (states_given cmp p.states))) (sym is) ∙ state_found meaning cmp p left key state found)

  -- and where none is
  pub made_fresh : (key : Option K) (fresh : S) → key ≡ meaning.key p.operator row → fresh ≡ meaning.fresh p.operator → state_left cmp p.states left key ≡ None → made_of meaning cmp p left row ≡ meaning.apply p.operator fresh row
  made_fresh key fresh is one none =
      ap (λ (s : S). meaning.apply p.operator s row)
      (ap (λ (k : Option K). state_under k (meaning.fresh p.operator) (left_over cmp left (states_given cmp p.states))) (sym is) ∙ state_fresh meaning cmp p left key none ∙ sym one)

  module _ (kept : List (K × S)) (old new out : List (ℕ × R)) (state : S) (st : state ≡ (made_of meaning cmp p left row).state) (se : out ≡ (made_of meaning cmp p left row).sent) (put : new ≡ old ++ out) where
    -- a record with a key is worked
    pub works_keyed : IsTotalOrder cmp → ((a b : K) → meaning.same_key a b ≡ is_eq (cmp a b)) → (key : K) → Some key ≡ meaning.key p.operator row → ((q : K) → value_at cmp kept q ≡ cond (is_at (cmp key) q) (Some state) (value_at cmp left q))
        → WorksRow meaning cmp p left row kept old new
    works_keyed order law key is more = record {
      sends = put ∙ ap (λ (s : List (ℕ × R)). old ++ s) se;
      leaves = λ states q.
          left_more order meaning.same_key law left kept key state more states q
          ∙ ap (λ (k : Option K). kept_under meaning.same_key k state (left_over cmp left states) q) is
          ∙ ap (λ (s : S). kept_under meaning.same_key (meaning.key p.operator row) s (left_over cmp left states) q) st;
    }

    -- a record without one
    pub works_keyless : None ≡ meaning.key p.operator row → kept ≡ left → WorksRow meaning cmp p left row kept old new
    works_keyless is same = record {
      sends = put ∙ ap (λ (s : List (ℕ × R)). old ++ s) se;
      leaves = λ states q.
          ap (λ (l : List (K × S)). left_over cmp l states q) same
          ∙ ap (λ (k : Option K). kept_under meaning.same_key k (made_of meaning cmp p left row).state (left_over cmp left states) q) is;
    }

module _ {R K S O : Type 0} (meaning : Meaning R K S O) (cmp : K → K → Ordering) (p : Operand O K S R) (places after : List (Place K S)) (row : R) where
  -- a record whose key has a place is worked
  pub works_at : (old new out : List (ℕ × R)) (state : S) → state ≡ (made_of meaning cmp p (left_at places) row).state → out ≡ (made_of meaning cmp p (left_at places) row).sent → new ≡ old ++ out → IsTotalOrder cmp → ((a b : K) → meaning.same_key a b ≡ is_eq (cmp a b)) → (key : Option K) (place : ℕ) → key ≡ meaning.key p.operator row → IsPlaceOf cmp places key place → (put : List (Place K S)) → after ≡ put → ((k : K) → IsPlaceOf cmp places (Some k) place → LeavesAt cmp k state (left_at places) (left_at put))
      → WorksRow meaning cmp p (left_at places) row (left_at after) old new
  works_at old new out state st se sends order law None place is found put same leaves = absurd (false≢true found.keyed)
  works_at old new out state st se sends order law (Some key) place is found put same leaves =
      works_keyed meaning cmp p (left_at places) row (left_at after) old new out state st se sends order law key is (λ q. ap (λ (ps : List (Place K S)). value_at cmp (left_at ps) q) same ∙ leaves key found q)

-- where nothing is left, all that is left is good
pub none_good : {K S : Type 0} (cmp : K → K → Ordering) (P : S → Type 0) (left : List (K × S)) → left ≡ [] → AllGood cmp P left
none_good cmp P [] none key state found = absurd cc
none_good cmp P (e ∷ left) none key state found = absurd cc

module _ {R K S O : Type 0} (meaning : Meaning R K S O) (cmp : K → K → Ordering) where
  -- a record more is carried
  pub carried_more : (entries : List (K × S)) (p q : Operand O K S R) (row : R) → q.operator ≡ p.operator → q.rows.items ≡ p.rows.items ++ row ∷ [] → IsStrictlySortedBy cmp (keys_of q.states)
      → ((key : K) → is_some (value_at cmp p.states key) ≡ true → is_some (value_at cmp q.states key) ≡ true) → HasItsState meaning cmp p.operator q.states row → AreStatesOf cmp entries q.states → IsCarried meaning cmp entries p → IsCarried meaning cmp entries q
  carried_more entries p q row o rows rising stays there same was =
      let Keyed = HasItsState meaning cmp p.operator q.states in
      record {
        rising = rising;
        keyed =
            subst (λ (x : O). All (HasItsState meaning cmp x q.states) q.rows.items) (sym o)
            (subst (All Keyed) (sym rows) (All-push Keyed p.rows.items row (All-weaker (HasItsState meaning cmp p.operator p.states) Keyed (λ r h key is. stays key (h key is)) p.rows.items was.keyed) there));
        same = same;
      }

  -- nothing is carried yet
  pub carried_none : (entries : List (K × S)) (p : Operand O K S R) → p.states ≡ [] → p.rows.items ≡ [] → IsCarried meaning cmp entries p
  unfolding IsStrictlySortedBy
  carried_none entries p states rows = record {
    rising = subst (λ (ss : List (K × Option S)). IsStrictlySortedBy cmp (keys_of ss)) (sym states) tt;
    keyed = subst (All (HasItsState meaning cmp p.operator p.states)) (sym rows) (All-nil (HasItsState meaning cmp p.operator p.states));
    same = λ key state found. absurd (none_there key state (ap (λ (ss : List (K × Option S)). value_at cmp ss key) (sym states) ∙ found));
  }
    where
      none_there : (key : K) (state : Option S) → value_at {V = Option S} cmp [] key ≡ Some state → ⊥
      none_there key state e = cc
