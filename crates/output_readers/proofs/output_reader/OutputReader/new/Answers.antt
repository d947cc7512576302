use Rattle.std.proofs.Common.{◌≡◌, length, rules, ◌∙◌}
use Rattle.output_readers.proofs.Opening.{opening}
use Rattle.output_readers.proofs.output_reader.OutputReader.new.Goals as goal

pub returns : goal.returns
returns c =
    let long : length c.in_ok-read.read.items ≡ c.args.subtasks = search rules in
    opening c.args.place c.again.result c.args.subtasks c.in_ok-read.read.items c.requires (c.again.ensures ∙ c.edition.ensures) long
