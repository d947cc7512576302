use Rattle.std.specs.List.{All}
use Rattle.abs_codec.specs.Spelling.{Fits}
use Rattle.operators.specs.Operator.{IsGoodState}
use Rattle.recovery.proofs.starts.are_good.Given as goal

-- all entries are good if those that were not met yet are, and the other way round
abbrev pub invariant-loop-key : goal.invariant-loop-key
invariant-loop-key g l =
    let IsGood = λ (e : g.row.O-Key.Denot × g.row.O-State.Denot). Fits g.O.Key.Codec.HasSpelling g.O.Key.Codec.spelling e.0 × IsGoodState (Fits g.O.State.Codec.HasSpelling g.O.State.Codec.spelling) g.O.Operator.Suits l.operator e.1 in
    record {
      each : All IsGood l.key-iterator → All IsGood l.states;
      some : All IsGood l.states → All IsGood l.key-iterator;
    }
