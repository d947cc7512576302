-- What an operator brings, as a contract's quote of `Rules` has it.
use Rattle.abs_codec.specs.Spelling.{Fits}
use Rattle.abs_codec.specs.declared.codec.Codec as codec
use Rattle.std.specs.declared.cmp.Ord as ord
use Rattle.operators.specs.declared.operator.Operator as operator
use Rattle.engine_model.specs.AllRules.{AllRules}
use Rattle.engine_model.specs.Language.{language}

-- by what its types bring
abbrev pub rules_of : {O R K S : Type 0} → operator.Ghosts O R K S → ord.Ghosts K → codec.Ghosts R → codec.Ghosts K → codec.Ghosts S → AllRules R K S O
rules_of o order row key state = record {
  lang = language o.meaning order.cmp row.spelling row.reading key.reading state.reading;
  RecordFits = Fits row.HasSpelling row.spelling;
  KeyFits = Fits key.HasSpelling key.spelling;
  StateFits = Fits state.HasSpelling state.spelling;
  Suits = o.Suits;
}
