use Rattle.std.proofs.Common.{◌≡◌, true, rules}
use Rattle.std.proofs.lemmas.List.Elements.{All-more}
use Rattle.job_input.specs.Plain.{is_plain}
use Rattle.job_input.proofs.plain.plain_len.Goals as goal

pub loop-i-preserved : goal.loop-i-preserved
loop-i-preserved c = (search rules, All-more (λ x. is_plain x ≡ true) _ _ 0 (search rules) c.loop-i.invariant.1 (search rules))
