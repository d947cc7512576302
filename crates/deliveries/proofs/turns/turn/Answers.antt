use Rattle.deliveries.proofs.Masks.{mask_turns}
use Rattle.deliveries.proofs.turns.turn.Goals as goal

pub returns-then-parallelism-mask-eq0 : goal.returns-then-parallelism-mask-eq0
returns-then-parallelism-mask-eq0 c = mask_turns c.args.lane c.args.parallelism c.requires c.if-parallelism-mask-eq0.true
