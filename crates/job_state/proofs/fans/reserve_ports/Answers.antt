use Rattle.std.proofs.Common.{◌<◌, length, subst, sym, ap, arith}
use Rattle.std.specs.Prelude.{All}
use Rattle.job_state.specs.Sending.{waiting_in}
use Rattle.job_state.proofs.Departures.{outlets_below}
use Rattle.job_state.proofs.FannedOut.{fans_in}
use Rattle.job_state.proofs.fans.reserve_ports.Goals as goal

pub reserve_each-requires : goal.reserve_each-requires
reserve_each-requires g c = λ k d within.
    let graph = c.args.graph.now in
    let below = subst (All (λ n. n < length graph.channels)) (sym c.requires.first) (outlets_below g.O.Operator.meaning graph c.args.task 0) in
    omega (arith, below k d within, c.requires.channels)

pub reserve_each-requires-2 : goal.reserve_each-requires-2
reserve_each-requires-2 g c = λ k d within.
    let graph = c.args.graph.now in
    let below = subst (All (λ n. n < length graph.channels)) (sym c.requires.second) (outlets_below g.O.Operator.meaning graph c.args.task 1) in
    omega (arith, below k d within, c.requires.channels, c.reserve_each.auto.channels)

pub returns-clause-room : goal.returns-clause-room
returns-clause-room g c = λ k.
    let first = c.args.ports.first.now in
    let second = c.args.ports.second.now in
    omega (
      arith,
      c.in_ok-reserve_each.ensures.room k,
      c.in_ok-reserve_each-2.ensures.room k,
      ap (λ n. waiting_in first n k) c.count_on-on_first.ensures,
      ap (λ n. waiting_in second n k) c.count_on-on_second.ensures,
      fans_in g.O.Operator.meaning c.args.graph.now c.args.task first second c.requires.all k c.args.sent.now c.requires.two,
    )
