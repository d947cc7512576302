use Rattle.script_file.proofs.NumberLemmas.{signed_number_of-is}
use Rattle.script_file.proofs.number.signed_number.Goals as goal

pub returns : goal.returns
returns c = signed_number_of-is c.args.text.now c.signed_printed.result c.signed_printed.ensures.some c.signed_printed.ensures.none
