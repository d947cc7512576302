use Rattle.std.proofs.Common.{refl}
use Rattle.job_graph.specs.Expanded.{meets, takes}
use Rattle.deliveries.proofs.Delivered.{run_delivers}
use Rattle.deliveries.proofs.Runs.{all_pass}
use Rattle.deliveries.proofs.puts.open_port.Goals as goal

pub returns-then-take_all-clause-all : goal.returns-then-take_all-clause-all
returns-then-take_all-clause-all g c row =
    let meaning = g.O.Operator.meaning in
    let graph = c.args.graph.now in
    let numbers = c.outlets-numbers.result.now in
    let passes = meets (takes (meaning.lane row)) graph.channels in
    run_delivers meaning graph c.args.task c.args.port row numbers numbers c.outlets-numbers.ensures
    (all_pass passes numbers (c.if-take_all.ensures refl (meaning.lane row)))
