use Rattle.std.proofs.Common.{◌∙◌}
use Rattle.json_members.proofs.Names.{have_names-keys}
use Rattle.json_members.proofs.members.has_only.Goals as goal

pub returns-in-Some : goal.returns-in-Some
returns-in-Some c = rw (← c.in-Some.ensures) (c.have_names.ensures ∙ have_names-keys c.args.names.now c.in-Some.members.now.entries)
