use Rattle.std.proofs.Common.{refl, arith}
use Rattle.job_state.specs.Sending.{put_into, without_head, contents_items}
use Rattle.job_state.proofs.Putting.{puts_from}
use Rattle.job_state.proofs.sending.pass_on.Goals as goal

pub returns-clause-puts : goal.returns-clause-puts
returns-clause-puts g c = puts_from c.take_head-taken.new.channels c.push_all.new.channels (without_head c.args.channel (contents_items c.args.channels.now)) c.args.puts.items (λ k. put_into k c.args.puts.items) c.take_head-taken.ensures.rest (omega arith) c.push_all.ensures (λ k. refl)
