use Rattle.std.proofs.Common.{rules, ◌≡◌, refl, subst, arith}
use Rattle.text_parts.specs.Lines.{WritesLines}
use Rattle.text_parts.proofs.Joining.{none_written, more_written}
use Rattle.text_parts.proofs.writing.write_lines.Goals as goal

pub loop-done-init : goal.loop-done-init
loop-done-init g c =
    (omega arith, none_written (g.L.Lines.IsLine c.args.lines.now) 0 0 (g.W.Write.contents c.args.out.now) refl)

pub loop-done-preserved : goal.loop-done-preserved
loop-done-preserved g c =
    let (within, written) = c.loop-done.invariant in
    let round = c.in_ok-write_round.ensures in
    let next = c.min-next.ensures in
    let made = c.new.ensures in
    let less = c.loop-done-test.true in (
      search rules,
      more_written (g.L.Lines.IsLine c.args.lines.now) 0 c.loop-done.done c.new.result.first c.new.result.count _ _ _ _ written (search rules) round (search rules),
    )

pub returns : goal.returns
returns g c =
    let (within, written) = c.loop-done.invariant in
    let past = c.loop-done-test.false in
    let all : c.loop-done.done ≡ c.args.count = omega (arith, within, past) in
    subst (λ n. WritesLines (g.L.Lines.IsLine c.args.lines.now) 0 n (g.W.Write.contents c.args.out.now) (g.W.Write.contents c.loop-done.out)) all written
