use Rattle.std.specs.Option.{option_to_list}
use Rattle.deliveries.proofs.Delivered.{run_delivers, sole_delivery}
use Rattle.deliveries.proofs.puts.sole_target.Goals as goal

pub returns : goal.returns
returns g c =
    let meaning = g.O.Operator.meaning in
    let graph = c.args.graph.now in
    let numbers = c.in_ok-numbers.numbers.now in
    let delivers = run_delivers meaning graph c.args.task c.args.port c.args.row.now numbers (option_to_list c.target.result) c.in_ok-numbers.ensures.are c.target.ensures in
    sole_delivery meaning graph c.args.task c.args.port c.args.row.now c.target.result delivers
