use Rattle.std.proofs.Common.{rules}
use Rattle.serde_json.proofs.Views.{items_len-items_view}
use Rattle.script_file.proofs.contents.count.Goals as goal

pub returns : goal.returns
returns c = rw (items_len-items_view c.args.items.now) (search rules)
