use Rattle.std.proofs.Common.{slice_get, ap, ◌∙◌, arith}
use Rattle.job_state.specs.Sending.{put_into, barrier_into, contents_items}
use Rattle.job_state.proofs.Putting.{puts_from}
use Rattle.job_state.proofs.Received.{barriers_put}
use Rattle.job_state.proofs.sending.send_barriers.Goals as goal

pub returns-clause-ok : goal.returns-clause-ok
returns-clause-ok g c =
    puts_from c.reserve_barriers.new.channels c.push_all.new.channels (contents_items c.args.channels.now) c.in_ok-puts.puts.items (λ k. barrier_into c.args.checkpoint c.args.task (slice_get c.args.graph.now.channels k))
    c.in_ok-puts.ensures.same (omega arith) c.push_all.ensures (λ k. ap (put_into k) c.in_ok-puts.ensures.puts ∙ barriers_put g.row.R.Denot c.args.graph.now c.args.task c.args.checkpoint k)
