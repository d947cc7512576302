use Rattle.std.proofs.lemmas.Str.{is_utf8-from_IsUtf8}
use Rattle.operators.proofs.parameters.RowKey.new.Goals as goal

pub invariant_of-result-clause-utf8 : goal.invariant_of-result-clause-utf8
invariant_of-result-clause-utf8 c = is_utf8-from_IsUtf8 _ c.as_str.ensures.utf8
