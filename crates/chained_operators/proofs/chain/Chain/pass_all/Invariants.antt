use Rattle.std.proofs.Common.{◌≡◌, ◌++◌}
use Rattle.std.specs.List.{All, flat_map}
use Rattle.std.specs.Vec.Iter.{into_iter_items}
use Rattle.abs_codec.specs.Spelling.{Fits}
use Rattle.chained_operators.specs.Chains.{passed_on}
use Rattle.operators.specs.Operator.{MayBeSent}
use Rattle.chained_operators.proofs.chain.Chain.pass_all.Given as goal

abbrev pub invariant-loop-port : goal.invariant-loop-port
invariant-loop-port g l =
    let pass = passed_on g.B.Operator.meaning l.self.second in
    record {
      left : l.sent.items ++ flat_map pass (into_iter_items l.port-iterator) ≡ flat_map pass l.fn.items.items;
      fit : All (MayBeSent (Fits g.A.Record.Codec.HasSpelling g.A.Record.Codec.spelling) (g.A.Operator.meaning.ports l.self.first)) (into_iter_items l.port-iterator);
    }
