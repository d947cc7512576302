use Rattle.std.proofs.Common.{◌++◌, take, ap, refl, arith, ◌∙◌}
use Rattle.std.specs.Int.{w32, w64, to_be_bytes}
use Rattle.abs_codec.proofs.Words.{cut}
use Rattle.abs_codec.proofs.text.write_word.Goals as goal

pub returns-clause-appended : goal.returns-clause-appended
returns-clause-appended c =
    let kept = c.args.out.now.items in
    let all = c.in_ok-extend_from_slice.ensures.items ∙ ap (λ w. kept ++ w) c.length_and_word.ensures in
    c.truncate.ensures.items ∙ ap (take _) all
    ∙ cut kept (to_be_bytes w32 c.args.len) (to_be_bytes w64 c.args.first) _ c.args.len refl (omega (arith, c.len.ensures))

pub returns-clause-keeps : goal.returns-clause-keeps
returns-clause-keeps c =
    let kept = c.args.out.now.items in
    let all = c.in_ok-extend_from_slice.ensures.items ∙ ap (λ w. kept ++ w) c.length_and_word.ensures in (
      _,
      c.truncate.ensures.items ∙ ap (take _) all
          ∙ cut kept (to_be_bytes w32 c.args.len) (to_be_bytes w64 c.args.first) _ c.args.len refl (omega (arith, c.len.ensures)),
    )
