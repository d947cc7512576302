use Rattle.std.proofs.Common.{false, [], replicate, sym, ap, ◌∙◌, arith}
use Rattle.coordinator.specs.Coordinator.{Coordination}
use Rattle.job_state.proofs.Holds.{begun_from}
use Rattle.job_state.proofs.attempt.Attempt.new.Goals as goal

pub returns : goal.returns
returns g c =
    let same = c.channels-2.ensures ∙ sym c.channels.ensures in
    begun_from c.args.graph.now c.args.tasks.items _ c.args.openings.items c.args.last_complete c.len-count.result c.channels.result _ _ _ _ _ _ c.in_ok-tasks.ensures.holdings (omega (arith, c.len-count.ensures, c.args.tasks.ok.0)) c.channels.ensures c.in_ok-channels.ensures c.in_ok-gates.ensures
    (c.in_ok-logs.ensures.came ∙ ap (λ n. replicate n false) same) (c.in_ok-logs.ensures.logged ∙ ap (λ n. replicate n []) same) c.in_ok-tasks.ensures.copies
    (c.with_last_complete-coordinator.ensures ∙ ap (λ (x : Coordination). record x { last_complete = c.args.last_complete }) c.in_ok-new.ensures)
