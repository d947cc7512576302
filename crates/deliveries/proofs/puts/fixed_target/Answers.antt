use Rattle.std.proofs.Common.{◌∷◌, [], slice_index, refl}
use Rattle.job_graph.specs.Expanded.{meets, takes}
use Rattle.deliveries.proofs.Delivered.{run_delivers, sole_delivery}
use Rattle.std.specs.Prelude.{Some}
use Rattle.deliveries.proofs.Runs.{only_passes}
use Rattle.deliveries.proofs.puts.fixed_target.Goals as goal

pub returns-then-takes_all : goal.returns-then-takes_all
returns-then-takes_all g c row =
    let meaning = g.O.Operator.meaning in
    let graph = c.args.graph.now in
    let numbers = c.in_ok-numbers.numbers.now in
    let number = slice_index numbers 0 in
    let passes = only_passes (meets (takes (meaning.lane row)) graph.channels) numbers c.if-numbers-eq1.true (c.if-takes_all.ensures refl (meaning.lane row)) in
    sole_delivery meaning graph c.args.task c.args.port row (Some number)
    (run_delivers meaning graph c.args.task c.args.port row numbers (number ∷ []) c.in_ok-numbers.ensures.are passes)
