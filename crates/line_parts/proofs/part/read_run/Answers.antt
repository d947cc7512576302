use Rattle.std.proofs.Common.{◌≡◌, ◌∙◌, ◌<◌, length, drop, take, ap, subst, arith, rules}
use Rattle.std.specs.Io.BufRead.{take_through, drop_through}
use Rattle.line_parts.proofs.Through.{len_within, some_line, take_line, drop_line}
use Rattle.line_parts.proofs.Joining.{one_more}
use Rattle.line_parts.proofs.part.read_run.Goals as goal

pub split_at-requires : goal.split_at-requires
split_at-requires g c = omega (arith, len_within c.loop-rest.rest.now, c.line_len.ensures)

pub loop-rest-smaller : goal.loop-rest-smaller
loop-rest-smaller g c =
    let some : 0 < length c.loop-rest.rest.now = search rules in
    omega (arith, some_line c.loop-rest.rest.now some, c.line_len.ensures, c.split_at.ensures.back_len)

pub loop-rest-preserved : goal.loop-rest-preserved
loop-rest-preserved g c =
    let (lines, bound) = c.loop-rest.invariant in
    let (item, has, same) = c.in_default.ensures.ok in
    let rest = c.loop-rest.rest.now in
    let some : 0 < length rest = search rules in
    let line : c.split_at.result.0.now ≡ take_through 10 rest = c.split_at.ensures.front ∙ ap (λ k. take k rest) c.line_len.ensures ∙ take_line rest in
    let behind : c.split_at.result.1.now ≡ drop_through 10 rest = c.split_at.ensures.back ∙ ap (λ k. drop k rest) c.line_len.ensures ∙ drop_line rest in
    let more = one_more (g.L.LineReader.HasItem c.args.reader.now) c.loop-rest.lines c.args.text.now rest c.loop-rest.items.items item lines some (subst (λ l. g.L.LineReader.HasItem c.args.reader.now l item) line has) in (
      rw (same, behind) more,
      omega (arith, bound, some_line rest some, c.line_len.ensures, c.split_at.ensures.back_len),
    )
