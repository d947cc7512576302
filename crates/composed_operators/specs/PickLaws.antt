-- The laws of one of two operators.
use Rattle.std.proofs.Common.{◌≡◌, Option, Some, None}
use Rattle.dataflow_model.specs.Graph.{Meaning}
use Rattle.chained_operators.specs.Chains.{HasNoKeys}
use Rattle.operators.specs.Operator.{KeysFit, KeysHaveLanes, FreshIsGood, StatesStayGood, SentFits, KeylessKeepsFresh}
use Rattle.composed_operators.specs.Picks.{pick_meaning, PickSuits}
use Rattle.composed_operators.specs.declared.pick.Pick.TheVariants.{First, Second}

no_key : {K : Type 0} (o : Option K) (key : K) → o ≡ None → o ≡ Some key → ⊥
no_key o key none some = cc

module _ {R K S A B : Type 0} (a : Meaning R K S A) (b : Meaning R K S B) where
  pub pick_keys_fit : (RecordFits : R → Type 0) (KeyFits : K → Type 0) → KeysFit a RecordFits KeyFits → KeysFit b RecordFits KeyFits → KeysFit (pick_meaning a b) RecordFits KeyFits
  pick_keys_fit RecordFits KeyFits first second (First op) = first op
  pick_keys_fit RecordFits KeyFits first second (Second op) = second op

  pub pick_keys_have_lanes : KeysHaveLanes a → HasNoKeys b → KeysHaveLanes (pick_meaning a b)
  pick_keys_have_lanes first none (First op) q r key is_q is_r = first op q r key is_q is_r
  pick_keys_have_lanes first none (Second op) q r key is_q is_r = absurd (no_key (b.key op q) key (none op q) is_q)

  pub pick_keyless_keeps_fresh : KeylessKeepsFresh a → KeylessKeepsFresh b → KeylessKeepsFresh (pick_meaning a b)
  pick_keyless_keeps_fresh first second (First op) = first op
  pick_keyless_keeps_fresh first second (Second op) = second op

  pub pick_has_no_keys : HasNoKeys a → HasNoKeys b → HasNoKeys (pick_meaning a b)
  pick_has_no_keys first second (First op) = first op
  pick_has_no_keys first second (Second op) = second op

  module _ (StateFits : S → Type 0) (SuitsFirst : A → S → Type 0) (SuitsSecond : B → S → Type 0) where
    pub pick_fresh_is_good : FreshIsGood a StateFits SuitsFirst → FreshIsGood b StateFits SuitsSecond → FreshIsGood (pick_meaning a b) StateFits (PickSuits SuitsFirst SuitsSecond)
    pick_fresh_is_good first second (First op) = first op
    pick_fresh_is_good first second (Second op) = second op

    pub pick_states_stay_good : (RecordFits : R → Type 0) → StatesStayGood a RecordFits StateFits SuitsFirst → StatesStayGood b RecordFits StateFits SuitsSecond
        → StatesStayGood (pick_meaning a b) RecordFits StateFits (PickSuits SuitsFirst SuitsSecond)
    pick_states_stay_good RecordFits first second (First op) = first op
    pick_states_stay_good RecordFits first second (Second op) = second op

    pub pick_sent_fits : (RecordFits : R → Type 0) → SentFits a RecordFits StateFits SuitsFirst → SentFits b RecordFits StateFits SuitsSecond
        → SentFits (pick_meaning a b) RecordFits StateFits (PickSuits SuitsFirst SuitsSecond)
    pick_sent_fits RecordFits first second (First op) = first op
    pick_sent_fits RecordFits first second (Second op) = second op
