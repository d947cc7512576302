use Rattle.std.proofs.Common.{◌<◌, ◌++◌, ℕ, length, map, subst, sym, ap, ◌∙◌}
use Rattle.std.proofs.lemmas.Iterator.Adapters.{YieldsList-from_vec}
use Rattle.std.proofs.lemmas.Iterator.Consumers.{YieldsList-turn}
use Rattle.channels.specs.declared.item.Item.{Item}
use Rattle.channels.specs.declared.item.Item.TheVariants.{Record}
use Rattle.deliveries.specs.Deliveries.{deliveries_of, numbers_at}
use Rattle.job_state.specs.Sending.{as_puts}
use Rattle.job_state.proofs.Departures.{sent_more}
use Rattle.job_state.proofs.fans.fan_out.Goals as goal

pub loop-port-preserved : goal.loop-port-preserved
loop-port-preserved g c =
    let meaning = g.O.Operator.meaning in
    let graph = c.args.graph.now in
    let task = c.args.task in
    let q : ℕ × _ = (c.in-Some.port, c.in-Some.row) in
    let sent = c.args.sent.items in
    let b = c.into_iter-port-iterator.ensures.into_iter_gives in
    let road = YieldsList-from_vec {s = c.into_iter-port-iterator.result} sent b.0 (b.1 ∙ c.args.sent.ok.0) in
    let yielded = c.loop-port.yielded in
    let t = YieldsList-turn road yielded c.loop-port.port-iterator c.loop-port.yielded_by c.next.result c.next.new.self q c.in-Some.is c.next.ensures.steps in
    let below : q.0 < 2 = subst (λ s. s.0 < 2) (sym t.1) (c.requires.two (length yielded) q t.0) in
    let rows = c.loop-port.rows.items in
    let put : ℕ → ℕ × Item _ = λ n. (n, Record q.1) in
    c.in_ok-put_each.ensures
    ∙ ap (λ l. as_puts rows ++ map put l) c.numbers.ensures
    ∙ ap (λ l. l ++ map put (numbers_at c.args.ports.first.now c.args.ports.second.now q.0)) c.loop-port.invariant
    ∙ ap (λ l. deliveries_of meaning graph task yielded ++ l) (sym (c.requires.all q.0 q.1 below))
    ∙ sym (sent_more meaning graph task yielded q)
