-- The states under several keys: they rise, each key has its state there, and it is the one that it has among the entries.
use Rattle.std.proofs.Common.{◌≡◌, ◌<◌, ℕ, zero, suc, Bool, true, false, cond, List, [], ◌∷◌, ◌++◌, length, Option, Some, None, Ordering, refl, sym, ap, subst, ◌∙◌, slice_get, arith}
use Rattle.std.specs.Prelude.{is_some}
use Rattle.std.specs.BTreeMap.{insert_entry}
use Rattle.std.specs.Cmp.{IsTotalOrder}
use Rattle.std.specs.List.{All, IsAmong}
use Rattle.std.specs.List.Sorted.{IsStrictlySortedBy}
use Rattle.std.specs.Map.{keys_of}
use Rattle.abs_codec.specs.Entries.{value_at}
use Rattle.dataflow_model.specs.Graph.{Meaning}
use Rattle.keyed_state.proofs.Laid.{insert_entry-rises, value_at-insert_entry}
use Rattle.operators.specs.Operator.{OrderIsExact}
use Rattle.claims.specs.Carried.{AreStatesOf, IsCarried}
use Rattle.claims.specs.Keys.{with_key, with_keys, states_under, HasItsKey}
use Rattle.claims.specs.declared.parts.Operand.{Operand}
use Rattle.claims.proofs.Working.{there_still, there_now, same_still}

module _ {K S : Type 0} {cmp : K → K → Ordering} (order : IsTotalOrder cmp) (entries : List (K × S)) where
  -- ---- the keys rise

  with_key-rises : (states : List (K × Option S)) (key : K) → IsStrictlySortedBy cmp (keys_of states) → IsStrictlySortedBy cmp (keys_of (with_key cmp entries states key))
  with_key-rises states key rises = by (is_some (value_at cmp states key))
    where
      by : (b : Bool) → IsStrictlySortedBy cmp (keys_of (cond b states (insert_entry cmp states key (value_at cmp entries key))))
      by true = rises
      by false = insert_entry-rises order states key (value_at cmp entries key) rises

  with_keys-rise : (keys : List K) (states : List (K × Option S)) → IsStrictlySortedBy cmp (keys_of states) → IsStrictlySortedBy cmp (keys_of (with_keys cmp entries states keys))
  with_keys-rise [] states rises = rises
  with_keys-rise (key ∷ keys) states rises = with_keys-rise keys (with_key cmp entries states key) (with_key-rises states key rises)

  pub under-rises : (keys : List K) → IsStrictlySortedBy cmp (keys_of (states_under cmp entries keys))
  unfolding IsStrictlySortedBy
  under-rises keys = with_keys-rise keys [] tt

  -- ---- each key has its state there

  there_more : (states : List (K × Option S)) (key q : K) → is_some (value_at cmp states q) ≡ true → is_some (value_at cmp (with_key cmp entries states key) q) ≡ true
  there_more states key q there = by (is_some (value_at cmp states key))
    where
      state : Option S
      state = value_at cmp entries key

      by : (b : Bool) → is_some (value_at cmp (cond b states (insert_entry cmp states key (value_at cmp entries key))) q) ≡ true
      by true = there
      by false = there_still order states (insert_entry cmp states key state) key state (value_at-insert_entry order states key state) q there

  there_here : (states : List (K × Option S)) (key : K) → is_some (value_at cmp (with_key cmp entries states key) key) ≡ true
  there_here states key = by (is_some (value_at cmp states key)) refl
    where
      state : Option S
      state = value_at cmp entries key

      by : (b : Bool) → is_some (value_at cmp states key) ≡ b → is_some (value_at cmp (cond b states (insert_entry cmp states key (value_at cmp entries key))) key) ≡ true
      by true is = is
      by false is = there_now order states (insert_entry cmp states key state) key state (value_at-insert_entry order states key state)

  there_after : (keys : List K) (states : List (K × Option S)) (q : K) → is_some (value_at cmp states q) ≡ true → is_some (value_at cmp (with_keys cmp entries states keys) q) ≡ true
  there_after [] states q there = there
  there_after (key ∷ keys) states q there = there_after keys (with_key cmp entries states key) q (there_more states key q there)

  there_of : (keys : List K) (states : List (K × Option S)) (q : K) → IsAmong keys q → is_some (value_at cmp (with_keys cmp entries states keys) q) ≡ true
  there_of [] states q (i, (less, is)) = absurd (omega (arith, less))
  there_of (key ∷ keys) states q (zero, (less, is)) = there_after keys (with_key cmp entries states key) q (subst (λ k. is_some (value_at cmp (with_key cmp entries states key) k) ≡ true) (sym is) (there_here states key))
  there_of (key ∷ keys) states q (suc i, (less, is)) = there_of keys (with_key cmp entries states key) q (i, (omega (arith, less), is))

  pub there_under : (keys : List K) (q : K) → IsAmong keys q → is_some (value_at cmp (states_under cmp entries keys) q) ≡ true
  there_under keys q among = there_of keys [] q among

  -- where nothing is there, there is no key
  pub none_under : (keys : List K) → states_under cmp entries keys ≡ [] → length keys ≡ 0
  none_under [] none = refl
  none_under (key ∷ keys) none =
      let there : is_some (value_at cmp (states_under cmp entries (key ∷ keys)) key) ≡ true = there_under (key ∷ keys) key (0, (omega arith, refl)) in
      let nothing : is_some (value_at {V = Option S} cmp [] key) ≡ true = subst (λ states. is_some (value_at cmp states key) ≡ true) none there in
      absurd cc

  -- ---- and these entries have it, where they agree with those at each of the keys

  module _ (exact : OrderIsExact cmp) (mine : List (K × S)) where
    same_more : (states : List (K × Option S)) (key : K) → value_at cmp mine key ≡ value_at cmp entries key → AreStatesOf cmp mine states → AreStatesOf cmp mine (with_key cmp entries states key)
    same_more states key agree same = by (is_some (value_at cmp states key))
      where
        state : Option S
        state = value_at cmp entries key

        by : (b : Bool) → AreStatesOf cmp mine (cond b states (insert_entry cmp states key (value_at cmp entries key)))
        by true = same
        by false = same_still order exact mine states (insert_entry cmp states key state) key state (value_at-insert_entry order states key state) agree same

    abbrev pub AgreeAt : List K → ℕ → Type 0
    AgreeAt keys i = (k : K) → slice_get keys i ≡ Some k → value_at cmp mine k ≡ value_at cmp entries k

    same_after : (keys : List K) (states : List (K × Option S)) → ((i : ℕ) → i < length keys → AgreeAt keys i) → AreStatesOf cmp mine states → AreStatesOf cmp mine (with_keys cmp entries states keys)
    same_after [] states agree same = same
    same_after (key ∷ keys) states agree same =
        same_after keys (with_key cmp entries states key) (λ i less k is. agree (suc i) (omega (arith, less)) k is) (same_more states key (agree 0 (omega arith) key refl) same)

    pub same_under : (keys : List K) → ((i : ℕ) → i < length keys → AgreeAt keys i) → AreStatesOf cmp mine (states_under cmp entries keys)
    same_under keys agree = same_after keys [] agree (λ key state found. absurd cc)

module _ {K S : Type 0} {cmp : K → K → Ordering} (order : IsTotalOrder cmp) (exact : OrderIsExact cmp) (entries : List (K × S)) where
  -- the states are those of the entries
  pub own_under : (keys : List K) → AreStatesOf cmp entries (states_under cmp entries keys)
  own_under keys = same_under order entries exact entries keys (λ i less k is. refl)

  -- entries that have all these states agree at each of the keys
  pub agree_under : (mine : List (K × S)) (keys : List K) (q : K) → IsAmong keys q → AreStatesOf cmp mine (states_under cmp entries keys) → value_at cmp mine q ≡ value_at cmp entries q
  agree_under mine keys q among same = by (value_at cmp (states_under cmp entries keys) q) refl (there_under order entries keys q among)
    where
      by : (o : Option (Option S)) → value_at cmp (states_under cmp entries keys) q ≡ o → is_some o ≡ true → value_at cmp mine q ≡ value_at cmp entries q
      by None is there = absurd cc
      by (Some state) is there = same q state is ∙ sym (own_under keys q state is)

-- ---- one key more

pub among_more : {K : Type 0} (xs : List K) (x q : K) → IsAmong xs q → IsAmong (xs ++ x ∷ []) q
among_more [] x q (i, (less, is)) = absurd (omega (arith, less))
among_more (y ∷ xs) x q (zero, (less, is)) = (zero, (omega arith, is))
among_more (y ∷ xs) x q (suc i, (less, is)) = let (j, (under, it)) = among_more xs x q (i, (omega (arith, less), is)) in (suc j, (omega (arith, under), it))

pub among_last : {K : Type 0} (xs : List K) (x : K) → IsAmong (xs ++ x ∷ []) x
among_last [] x = (0, (omega arith, refl))
among_last (y ∷ xs) x = let (j, (under, it)) = among_last xs x in (suc j, (omega (arith, under), it))

pub among_at : {K : Type 0} (xs : List K) (i : ℕ) (q : K) → slice_get xs i ≡ Some q → IsAmong xs q
among_at [] i q is = absurd cc
among_at (x ∷ xs) zero q is = (0, (omega arith, let same : q ≡ x = cc in same))
among_at (x ∷ xs) (suc i) q is = let (j, (under, it)) = among_at xs i q is in (suc j, (omega (arith, under), it))

-- what is gathered is carried, with the states under its keys
pub carried_under : {R K S O : Type 0} (meaning : Meaning R K S O) (cmp : K → K → Ordering) → IsTotalOrder cmp → OrderIsExact cmp → (entries : List (K × S)) (keys : List K) (p : Operand O K S R) → p.states ≡ states_under cmp entries keys → All (HasItsKey meaning p.operator keys) p.rows.items
    → IsCarried meaning cmp entries p
carried_under meaning cmp order exact entries keys p is keyed = record {
  rising = subst (λ states. IsStrictlySortedBy cmp (keys_of states)) (sym is) (under-rises order entries keys);
  keyed = λ i d less key its. ap (λ states. is_some (value_at cmp states key)) is ∙ there_under order entries keys key (keyed i d less key its);
  same = subst (λ states. AreStatesOf cmp entries states) (sym is) (own_under order exact entries keys);
}
