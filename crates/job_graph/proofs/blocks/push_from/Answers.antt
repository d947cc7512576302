use Rattle.std.proofs.Common.{◌+◌, refl}
use Rattle.job_graph.proofs.Growing.{grown_same}
use Rattle.job_graph.proofs.blocks.push_from.Goals as goal

pub loop-i-preserved : goal.loop-i-preserved
loop-i-preserved c = grown_same _ _ _ _ (λ i. c.args.first + i) c.loop-i.i c.in_ok-push.ensures.items refl c.loop-i.invariant
