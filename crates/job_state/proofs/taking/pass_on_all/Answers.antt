use Rattle.std.proofs.Common.{refl, arith}
use Rattle.job_state.specs.AtOnce.{without_first}
use Rattle.job_state.specs.Sending.{put_into, puts_of, contents_items}
use Rattle.job_state.proofs.Putting.{puts_from}
use Rattle.job_state.proofs.Together.{place_still}
use Rattle.job_state.proofs.taking.pass_on_all.Goals as goal

pub push_ready-requires : goal.push_ready-requires
push_ready-requires g c = place_still c.args.channels.now c.take_all.new.channels c.args.count c.args.channel c.args.ready c.take_all.ensures.rest c.take_all.ensures.room c.requires.place

pub returns-clause-puts : goal.returns-clause-puts
returns-clause-puts g c =
    let puts = puts_of c.args.ready in
    puts_from c.take_all.new.channels c.push_ready.new.channels (without_first c.args.count c.args.channel (contents_items c.args.channels.now)) puts (λ k. put_into k puts) c.take_all.ensures.rest (omega arith) c.push_ready.ensures (λ k. refl)
