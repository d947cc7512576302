use Rattle.job_input.proofs.Digits.{utf8_printed}
use Rattle.job_input.proofs.plain.printed_number.Goals as goal

pub returns-in-Some-clause-utf8 : goal.returns-in-Some-clause-utf8
returns-in-Some-clause-utf8 c = utf8_printed _ c.in-Some.n c.in-Some.ensures.0 c.in-Some.ensures.1
