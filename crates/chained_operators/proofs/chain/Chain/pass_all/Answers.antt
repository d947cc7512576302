use Rattle.std.proofs.Common.{subst}
use Rattle.std.specs.List.{All, flat_map}
use Rattle.std.proofs.lemmas.List.Elements.{All-head, All-tail}
use Rattle.std.specs.Vec.Iter.{into_iter_items}
use Rattle.abs_codec.specs.Spelling.{Fits}
use Rattle.chained_operators.specs.Chains.{passed_on}
use Rattle.operators.specs.Operator.{MayBeSent}
use Rattle.chained_operators.proofs.PassingOn.{taken_first, left_goes_on, all_is_left, all_still_hold}
use Rattle.chained_operators.proofs.chain.Chain.pass_all.Goals as goal

pub loop-port-init : goal.loop-port-init
loop-port-init g c =
    let P = MayBeSent (Fits g.A.Record.Codec.HasSpelling g.A.Record.Codec.spelling) (g.A.Operator.meaning.ports c.args.self.now.first) in
    let pass = passed_on g.B.Operator.meaning c.args.self.now.second in
    let left = into_iter_items c.into_iter-port-iterator.result in
    let same = c.into_iter-port-iterator.ensures.into_iter_gives.0 in
    record { left = all_is_left pass c.new-sent.result.items left c.args.items.items c.new-sent.ensures.items same; fit = all_still_hold P left c.args.items.items same c.requires }

pub pass_on-requires : goal.pass_on-requires
pass_on-requires g c =
    let turn = taken_first c.loop-port.port-iterator c.next.new.self c.next.result (c.in-Some.port, c.in-Some.item) c.in-Some.is c.next.ensures.steps in
    let P = MayBeSent (Fits g.A.Record.Codec.HasSpelling g.A.Record.Codec.spelling) (g.A.Operator.meaning.ports c.args.self.now.first) in
    All-head P (c.in-Some.port, c.in-Some.item) (into_iter_items c.next.new.self) (subst (All P) turn c.loop-port.invariant.fit)

pub loop-port-preserved : goal.loop-port-preserved
loop-port-preserved g c =
    let turn = taken_first c.loop-port.port-iterator c.next.new.self c.next.result (c.in-Some.port, c.in-Some.item) c.in-Some.is c.next.ensures.steps in
    let P = MayBeSent (Fits g.A.Record.Codec.HasSpelling g.A.Record.Codec.spelling) (g.A.Operator.meaning.ports c.args.self.now.first) in
    let pass = passed_on g.B.Operator.meaning c.args.self.now.second in
    record {
      left = left_goes_on pass (flat_map pass c.args.items.items) c.loop-port.sent.items c.pass_on.new.sent.items (into_iter_items c.loop-port.port-iterator) (into_iter_items c.next.new.self) (c.in-Some.port, c.in-Some.item) turn c.in_ok-pass_on.ensures c.loop-port.invariant.left;
      fit = All-tail P (c.in-Some.port, c.in-Some.item) (into_iter_items c.next.new.self) (subst (All P) turn c.loop-port.invariant.fit);
    }
