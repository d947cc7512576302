use Rattle.std.proofs.Common.{◌∙◌, ap, sym}
use Rattle.std.specs.Ordering.{is_eq}
use Rattle.std.specs.Cmp.Lexicographic.{texts_ties}
use Rattle.abs_codec.proofs.text.TextPartialEq.eq.Goals as goal

-- Texts are equal where their order says so.
pub returns : goal.returns
returns c =
    c.is_eq.ensures ∙ ap is_eq c.cmp.ensures ∙ sym (texts_ties c.args.self.now c.args.other.now)
