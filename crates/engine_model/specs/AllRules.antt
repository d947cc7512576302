-- What operators mean and what they ask of records, keys and states, as one value.
use Rattle.operators.specs.Operator.{IsGoodState}
use Rattle.engine_model.specs.Language.{Language}

-- what operators mean and how values are spelled, which records, keys and states fit, and which states have an operator's form
pub record AllRules (R K S O : Type 0) : Type 1 where
  pub lang : Language R K S O
  pub RecordFits : R → Type 0
  pub KeyFits : K → Type 0
  pub StateFits : S → Type 0
  pub Suits : O → S → Type 0

module _ {R K S O : Type 0} where
  -- a state that an operator can go on from
  abbrev pub IsGood : AllRules R K S O → O → S → Type 0
  IsGood rules = IsGoodState rules.StateFits rules.Suits

  abbrev pub all_rules : Language R K S O → (R → Type 0) → (K → Type 0) → (S → Type 0) → (O → S → Type 0) → AllRules R K S O
  all_rules lang RecordFits KeyFits StateFits Suits = record { lang = lang; RecordFits = RecordFits; KeyFits = KeyFits; StateFits = StateFits; Suits = Suits }
