use Rattle.std.proofs.Common.{refl, subst, sym}
use Rattle.job_state.specs.Sending.{HasRoom}
use Rattle.job_state.proofs.FannedOut.{known_are_sent}
use Rattle.job_state.proofs.fans.reserve_known.Goals as goal

pub returns-clause-puts : goal.returns-clause-puts
returns-clause-puts g c =
    let ports = c.in-Some.ports in
    let fans = c.args.known.fans in
    known_are_sent g.O.Operator.meaning c.args.graph.now c.args.task ports.first.now ports.second.now c.in-Some.ensures.all c.args.known.rows.items c.args.sent.now fans.first.items fans.second.items c.requires.known (c.if-not-are.ensures.0 refl) c.in-Some.ensures.two

pub returns-clause-room : goal.returns-clause-room
returns-clause-room g c =
    let ports = c.in-Some.ports in
    let fans = c.args.known.fans in
    let sent = known_are_sent g.O.Operator.meaning c.args.graph.now c.args.task ports.first.now ports.second.now c.in-Some.ensures.all c.args.known.rows.items c.args.sent.now fans.first.items fans.second.items c.requires.known (c.if-not-are.ensures.0 refl) c.in-Some.ensures.two in
    subst (HasRoom c.reserve_ports.new.channels) (sym sent) c.in_ok-reserve_ports.ensures.room
