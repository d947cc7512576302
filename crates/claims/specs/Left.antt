-- What is left of an operator's records while they are worked.
use Rattle.std.specs.Prelude.{◌≡◌, ◌++◌, ℕ, List, Option, Some, None}
use Rattle.std.specs.declared.cmp.Ordering.{Ordering}
use Rattle.abs_codec.specs.Entries.{value_at}
use Rattle.dataflow_model.specs.Graph.{Meaning, Outcome}
use Rattle.dataflow_model.specs.Machine.{kept_under, state_under}
use Rattle.claims.specs.Carried.{states_given}
use Rattle.claims.specs.declared.parts.Operand.{Operand}

-- the first, or else the second
abbrev pub either : {A : Type 0} → Option A → Option A → Option A
either None other = other
either (Some first) other = Some first

-- the states by key, once these are left
abbrev pub left_over : {K S : Type 0} → (K → K → Ordering) → List (K × S) → (K → Option S) → K → Option S
left_over cmp left states key = either (value_at cmp left key) (states key)

-- the state under a record's key, once these are left, of those that were given
abbrev pub state_left : {K S : Type 0} → (K → K → Ordering) → (states : List (K × Option S)) → (left : List (K × S)) → Option K → Option S
state_left cmp states left None = None
state_left cmp states left (Some key) = left_over cmp left (states_given cmp states) key

module _ {R K S O : Type 0} (meaning : Meaning R K S O) (cmp : K → K → Ordering) (p : Operand O K S R) (left : List (K × S)) (row : R) where
  -- what the operator makes of the record, where these states are left
  abbrev pub made_of : Outcome R S
  made_of = meaning.apply p.operator (state_under (meaning.key p.operator row) (meaning.fresh p.operator) (left_over cmp left (states_given cmp p.states))) row

  -- the record is worked: what is sent is last, and the key's state is left
  pub record WorksRow (kept : List (K × S)) (old new : List (ℕ × R)) : Type 0 where
    pub sends : new ≡ old ++ made_of.sent
    pub leaves : (states : K → Option S) (key : K) → left_over cmp kept states key ≡ kept_under meaning.same_key (meaning.key p.operator row) made_of.state (left_over cmp left states) key

-- every state that is left is good
abbrev pub AllGood : {K S : Type 0} → (K → K → Ordering) → (S → Type 0) → List (K × S) → Type 0
AllGood {K} {S} cmp P left = (key : K) (state : S) → value_at cmp left key ≡ Some state → P state
