use Rattle.std.proofs.Common.{◌∷◌, [], slice_index, ap, ◌∙◌, arith}
use Rattle.deliveries.proofs.Runs.{run_target}
use Rattle.deliveries.proofs.puts.target.Goals as goal

pub returns-then-run-gt1 : goal.returns-then-run-gt1
returns-then-run-gt1 g c =
    rw (← c.lane.ensures) (
    run_target c.args.graph.now.channels c.args.numbers.now c.args.place c.args.run c.lane.result c.requires c.if-run-gt1.true
    ∙ ap (λ n. slice_index c.args.numbers.now n ∷ []) (omega (arith, c.turn.ensures)))
