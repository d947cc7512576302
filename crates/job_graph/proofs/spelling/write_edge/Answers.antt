use Rattle.std.specs.Int.{to_be_bytes, w32}
use Rattle.job_graph.specs.Spelling.{route_number, back_number}
use Rattle.job_graph.proofs.Appends.{appended_five}
use Rattle.job_graph.proofs.spelling.write_edge.Goals as goal

pub returns : goal.returns
returns c =
    appended_five _ _ _ _ _ _ (to_be_bytes w32 c.args.edge.now.from) (to_be_bytes w32 c.args.edge.now.to) (to_be_bytes w32 c.args.edge.now.port) _ _
    (route_number c.args.edge.now.route) (back_number c.args.edge.now.back)
    c.in_ok-write.ensures.appended.1 c.in_ok-write-2.ensures.appended.1 c.in_ok-write-3.ensures.appended.1 c.in_ok-push.ensures.items c.in_ok-push-2.ensures.items c.route_number.ensures c.back_number.ensures
