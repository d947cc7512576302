use Rattle.std.proofs.Common.{◌^◌, ◌-◌, arith}
use Rattle.std.proofs.lemmas.Str.{IsUtf8-from_is_utf8}
use Rattle.abs_codec.specs.Spelling.{IsTextWithin}
use Rattle.operators.specs.declared.parameters.RowKey.{RowKey}
use Rattle.operators.proofs.Refusals.{only_memory}
use Rattle.operators.proofs.row_op.RowOp.write_parameter.Goals as goal

key_is_spelled : (k : RowKey) → IsTextWithin (2 ^ 32 - 1) k.text
key_is_spelled k = (omega (arith, k.within), IsUtf8-from_is_utf8 k.text k.utf8)

pub returns-in-Rekey-clause-memory : goal.returns-in-Rekey-clause-memory
returns-in-Rekey-clause-memory c = only_memory _ c.write.result (key_is_spelled c.in-Rekey.k) c.write.ensures.too_long
