-- What a claim carries.
use Rattle.std.specs.Prelude.{◌≡◌, ◌<◌, ℕ, true, List, [], ◌∷◌, All, length, Option, Some, None, is_some, unwrap_or}
use Rattle.std.specs.List.Sorted.{IsStrictlySortedBy}
use Rattle.std.specs.Map.{keys_of}
use Rattle.std.specs.declared.cmp.Ordering.{Ordering}
use Rattle.abs_codec.specs.Entries.{value_at}
use Rattle.dataflow_model.specs.Graph.{Meaning}
use Rattle.job_state.specs.Batch.{Turn, turns_of, sent_by, AreLastStates}
use Rattle.deliveries.specs.Deliveries.{sent_in, AreFanned}
use Rattle.job_state.specs.Sending.{AreLanes}
use Rattle.claims.specs.declared.parts.Lanes.{Lanes}
use Rattle.claims.specs.declared.parts.Lanes.TheVariants as lanes
use Rattle.claims.specs.declared.parts.Operand.{Operand}
use Rattle.claims.specs.declared.parts.Outcomes.{Outcomes}
use Rattle.claims.specs.declared.parts.Given.{Given}
use Rattle.claims.specs.declared.parts.Given.TheVariants as given
use Rattle.claims.specs.declared.parts.Made.{Made}
use Rattle.claims.specs.declared.parts.Made.TheVariants as made
use Rattle.engine_model.specs.AllRules.{AllRules, IsGood}

-- the lanes that are told
abbrev pub lanes_in : Lanes → List ℕ
lanes_in (lanes.One lane) = lane ∷ []
lanes_in (lanes.Each each) = each.items

module _ {K S : Type 0} where
  -- the states that are given, by key
  abbrev pub states_given : (K → K → Ordering) → List (K × Option S) → K → Option S
  states_given cmp states key = unwrap_or (value_at cmp states key) None

  -- the entries have each of these states, or none where none is given
  abbrev pub AreStatesOf : (K → K → Ordering) → List (K × S) → List (K × Option S) → Type 0
  AreStatesOf cmp entries states = (key : K) (state : Option S) → value_at cmp states key ≡ Some state → value_at cmp entries key ≡ state

module _ {R K S O : Type 0} where
  -- the work that a result was made of
  abbrev pub given_of : Made O K S R → Given O K S R
  given_of (made.Operator solved) = given.Operator solved.operand
  given_of (made.Sink row bytes) = given.Sink row
  given_of (made.Refused work) = work

  -- the result is none: memory was refused
  abbrev pub IsRefused : Made O K S R → Type 0
  IsRefused (made.Operator solved) = ⊥
  IsRefused (made.Sink row bytes) = ⊥
  IsRefused (made.Refused work) = Unit {0}

  -- how many records the work takes
  abbrev pub records_of : Given O K S R → ℕ
  records_of (given.Operator operand) = length operand.rows.items
  records_of (given.Sink row) = 1

  -- these states have a place for the record's key, if it has one
  abbrev pub HasItsState : Meaning R K S O → (K → K → Ordering) → O → List (K × Option S) → R → Type 0
  HasItsState meaning cmp operator states row = (key : K) → meaning.key operator row ≡ Some key → is_some (value_at cmp states key) ≡ true

  -- the records of the work, worked one after another, the first on the states that are given
  abbrev pub turns_given : Meaning R K S O → (K → K → Ordering) → Operand O K S R → List (Turn R K S)
  turns_given meaning cmp p = turns_of meaning p.operator p.rows.items (states_given cmp p.states)

  module _ (rules : AllRules R K S O) where
    -- Each record's key has its place among the states, which stand by rising keys; the records fit, and the states are good.
    pub record IsOperand (p : Operand O K S R) : Type 0 where
      pub rising : IsStrictlySortedBy rules.lang.cmp (keys_of p.states)
      pub keyed : All (HasItsState rules.lang.meaning rules.lang.cmp p.operator p.states) p.rows.items
      pub some : 0 < length p.rows.items
      pub fit : All rules.RecordFits p.rows.items
      pub good : (key : K) (state : S) → value_at rules.lang.cmp p.states key ≡ Some (Some state) → IsGood rules p.operator state

    abbrev pub IsGiven : Given O K S R → Type 0
    IsGiven (given.Operator operand) = IsOperand operand
    IsGiven (given.Sink row) = Unit {0}

  module _ (meaning : Meaning R K S O) (cmp : K → K → Ordering) where
    -- what is carried so far, of a task that has these entries
    pub record IsCarried (entries : List (K × S)) (p : Operand O K S R) : Type 0 where
      pub rising : IsStrictlySortedBy cmp (keys_of p.states)
      pub keyed : All (HasItsState meaning cmp p.operator p.states) p.rows.items
      pub same : AreStatesOf cmp entries p.states

    -- The outcomes are what the operator makes of the records, one after another: all that is sent, and the last state of each key, by
    -- rising keys; the lanes of what is sent, or none of them; and it, once for each channel of its port, or none of it.
    pub record IsOutcome (p : Operand O K S R) (outcomes : Outcomes K S R) : Type 0 where
      pub sent : sent_in outcomes.sent ≡ sent_by (turns_given meaning cmp p)
      pub last : AreLastStates meaning.same_key (turns_given meaning cmp p) outcomes.states.items
      pub rising : IsStrictlySortedBy cmp (keys_of outcomes.states.items)
      pub lanes : AreLanes meaning (sent_in outcomes.sent) (lanes_in outcomes.lanes)
      pub fanned : AreFanned (sent_in outcomes.sent) outcomes.fanned

  -- what was made is what the work means: an operator's outcomes, or the spelling of a sink's record
  abbrev pub IsMade : (rules : AllRules R K S O) → (R → List ℕ) → Made O K S R → Type 0
  IsMade rules spelling (made.Operator solved) = IsOperand rules solved.operand × IsOutcome rules.lang.meaning rules.lang.cmp solved.operand solved.outcomes
  IsMade rules spelling (made.Sink row bytes) = bytes.items ≡ spelling row
  IsMade rules spelling (made.Refused work) = IsGiven rules work
