use Rattle.std.proofs.Common.{◌∷◌, [], subst, sym, ap, ◌∙◌, arith}
use Rattle.channels.specs.declared.item.Item.TheVariants.{Record}
use Rattle.job_state.specs.Sending.{IsOneInto}
use Rattle.job_state.proofs.Putting.{are_channels, popped_alone, room_for_one}
use Rattle.job_state.proofs.Received.{deliveries_are_put}
use Rattle.job_state.proofs.ready.make_each_ready.Goals as goal

pub reserve_one-requires : goal.reserve_one-requires
reserve_one-requires g c =
    let meaning = g.O.Operator.meaning in
    let graph = c.args.graph.now in
    let one = subst (IsOneInto meaning graph c.args.task c.in-Some.number) c.deref.ensures.value c.in-Some.ensures in
    are_channels (sym one.3) c.requires.channels (deliveries_are_put meaning graph c.args.task c.args.sent.now.items) 0 (c.in-Some.number, Record one.1) (omega arith)

pub returns-in-Some-pop-clause-puts : goal.returns-in-Some-pop-clause-puts
returns-in-Some-pop-clause-puts g c =
    let one = subst (IsOneInto g.O.Operator.meaning c.args.graph.now c.args.task c.in-Some.number) c.deref.ensures.value c.in-Some.ensures in
    let same = popped_alone c.args.sent.now.items c.pop.new.self.items (one.0, one.1) (c.in-Some-pop.field-0-0, c.in-Some-pop.row) one.2 c.in-Some-pop.ensures.items in
    sym (one.3 ∙ ap (λ p. (c.in-Some.number, Record p.1) ∷ []) same)

pub returns-in-Some-pop-clause-place : goal.returns-in-Some-pop-clause-place
returns-in-Some-pop-clause-place g c = room_for_one c.reserve_one.new.channels c.in-Some.number (Record c.in-Some-pop.row) c.in_ok-reserve_one.ensures.room
