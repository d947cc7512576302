use Rattle.std.proofs.Common.{List, ℕ, ◌≡◌, ◌∙◌, ◌+◌, ◌++◌, refl, ap, arith, append_assoc}
use Rattle.text_parts.proofs.Joining.{joined}
use Rattle.text_parts.proofs.parts.append_lines.Goals as goal

behind : (old bytes more mid new : List ℕ) → new ≡ mid ++ more → mid ≡ old ++ bytes → new ≡ old ++ (bytes ++ more)
behind old bytes more mid new after before = after ∙ ap (λ b. b ++ more) before ∙ append_assoc old bytes more

pub loop-done-preserved : goal.loop-done-preserved
loop-done-preserved g c =
    let (within, (bytes, lines, text)) = c.loop-done.invariant in
    let (more, next, last) = c.in-Ok.ensures.lines in
    let most = c.in-Ok.ensures.most in
    let less = c.loop-done-test.true in (
      omega (arith, most, less),
      (
        bytes ++ more,
        joined (g.L.Lines.IsLine c.args.lines.now) c.args.first c.loop-done.done (c.args.first + c.loop-done.done) c.in-Ok.put _ bytes more lines refl next refl,
        behind c.args.text.now.items bytes more _ _ last text,
      ),
    )
