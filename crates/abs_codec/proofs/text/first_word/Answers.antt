use Rattle.std.proofs.Common.{◌∙◌, [], ◌∷◌, arith}
use Rattle.std.specs.Int.{w64, from_be_bytes}
use Rattle.abs_codec.proofs.Words.{padded}
use Rattle.abs_codec.proofs.text.first_word.Goals as goal

pub returns : goal.returns
returns c = record {
  made = c.from_be_bytes.ensures
      ∙ (λ i. from_be_bytes w64 (c.byte_at.ensures i ∷ c.byte_at-2.ensures i ∷ c.byte_at-3.ensures i ∷ c.byte_at-4.ensures i ∷ c.byte_at-5.ensures i ∷ c.byte_at-6.ensures i ∷ c.byte_at-7.ensures i ∷ c.byte_at-8.ensures i ∷ []))
      ∙ padded c.args.bytes.now;
  bytes = λ i. omega (arith, c.type_inv.bytes i);
}
