use Rattle.std.proofs.Common.{◌≡◌, ◌<◌, List, length, subst, sym, ap, ◌∙◌}
use Rattle.deliveries.specs.Deliveries.{deliveries_of, on_first}
use Rattle.job_state.specs.Sending.{into_one}
use Rattle.job_state.proofs.Putting.{are_channels}
use Rattle.job_state.proofs.Received.{deliveries_are_put}
use Rattle.job_state.proofs.Together.{into_below}
use Rattle.job_state.proofs.ready.make_together_ready.Goals as goal

-- the channel is there
pub reserve_unless_empty-requires : goal.reserve_unless_empty-requires
reserve_unless_empty-requires g c =
    let meaning = g.O.Operator.meaning in
    let graph = c.args.graph.now in
    let rows = c.args.rows.items in
    let same = c.deref.ensures.value in
    let all = subst (λ rs. deliveries_of meaning graph c.args.task (on_first rs) ≡ into_one c.in-Some.number rs) same c.in-Some.ensures.all in
    let some = subst (λ rs. 0 < length rs) same c.in-Some.ensures.some in
    into_below rows c.in-Some.number _ some (are_channels (sym all) c.requires.channels (deliveries_are_put meaning graph c.args.task (on_first rows)))
