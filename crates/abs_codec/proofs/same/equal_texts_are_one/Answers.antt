use Rattle.std.proofs.lemmas.Map.Lookups.{exact_bytes}
use Rattle.abs_codec.proofs.same.equal_texts_are_one.Goals as goal

pub returns-clause-at_order : goal.returns-clause-at_order
returns-clause-at_order c = exact_bytes
