use Rattle.std.proofs.Common.{arith}
use Rattle.std.proofs.lemmas.Grind.{common_steps}
use Rattle.serde_json.proofs.Views.{items_len-items_view}
use Rattle.job_spec.proofs.reading.is_length_in.Goals as goal

pub returns-then-low-len : goal.returns-then-low-len
returns-then-low-len c = rw (items_len-items_view c.args.items.now.items) (grind (arith, common_steps))

pub returns-else-low-len : goal.returns-else-low-len
returns-else-low-len c = rw (items_len-items_view c.args.items.now.items) (grind (arith, common_steps))
