use Rattle.std.proofs.Common.{ap}
use Rattle.dataflow_core.proofs.Preserving.{of_none, of_both}
use Rattle.dataflow_core.specs.CoreState.{CoreState}
use Rattle.worker_turns.proofs.turn.claim_on.Goals as goal

pub returns-in-Ok-clause-step : goal.returns-in-Ok-clause-step
returns-in-Ok-clause-step g c =
    let same = ap (λ (s : CoreState g.row.O.Denot g.row.O-Record.Denot g.row.O-Key.Denot g.row.O-State.Denot). s.engine) c.in-Ok.ensures.ok.3 in
    of_none _ _ _ same

pub returns-in-Err-clause-step : goal.returns-in-Err-clause-step
returns-in-Err-clause-step g c =
    let same = ap (λ (s : CoreState g.row.O.Denot g.row.O-Record.Denot g.row.O-Key.Denot g.row.O-State.Denot). s.engine) c.in-Err.ensures.err.1 in
    of_both _ _ _ _ (of_none _ _ _ same) c.find_barrier.ensures.step
