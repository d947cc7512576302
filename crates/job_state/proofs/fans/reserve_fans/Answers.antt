use Rattle.std.proofs.Common.{subst, sym, ap, ◌∙◌}
use Rattle.deliveries.specs.Deliveries.{deliveries_of}
use Rattle.job_state.specs.Sending.{HasRoom}
use Rattle.job_state.proofs.fans.reserve_fans.Goals as goal

pub returns-clause-room : goal.returns-clause-room
returns-clause-room g c =
    let meaning = g.O.Operator.meaning in
    subst (HasRoom c.reserve_ports.new.channels) (ap (λ l. deliveries_of meaning c.args.graph.now c.args.task l) c.deref.ensures.value ∙ sym c.in-Ok.ensures) c.in_ok-room.ensures.room
