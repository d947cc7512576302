use Rattle.script_file.proofs.NumberLemmas.{number_of-is}
use Rattle.script_file.proofs.number.number.Goals as goal

pub returns : goal.returns
returns c = number_of-is c.args.text.now c.printed.result c.printed.ensures.some c.printed.ensures.none
