use Rattle.std.proofs.Common.{◌∙◌, ◌+◌, ◌≤◌, rules, arith, ap, length}
use Rattle.std.specs.Io.BufRead.{take_through}
use Rattle.line_parts.proofs.Through.{len_within, cut_ends}
use Rattle.line_parts.proofs.reading.cut.Goals as goal

pub overflow_add-at : goal.overflow_add-at
overflow_add-at c =
    let within : c.args.at + c.line_len.result ≤ length c.args.text.now = omega (arith, c.line_len.ensures, len_within c.split_at.result.1.now, c.split_at.ensures.back_len) in
    search rules

pub split_at-requires-2 : goal.split_at-requires-2
split_at-requires-2 c = omega (arith, c.line_len.ensures, len_within c.split_at.result.1.now, c.split_at.ensures.back_len)

pub returns-clause-end : goal.returns-clause-end
returns-clause-end c = λ behind some.
    let cut = c.split_at-2.ensures in
    cut_ends c.args.text.now _ _ c.args.at c.line_len.result c.requires (c.line_len.ensures ∙ ap (λ l. length (take_through 10 l)) c.split_at.ensures.back) cut.front cut.back_len behind
