use Rattle.std.proofs.Common.{rules, ◌<◌, ◌≤◌, arith, slice_index_or}
use Rattle.job_input.proofs.Digits.{next_digit}
use Rattle.job_input.proofs.number.short_natural.Goals.{then-n-eq0, else-n-eq0}
use Rattle.job_input.proofs.number.short_natural.Goals as goal

pub loop-i-preserved : goal.loop-i-preserved
loop-i-preserved c =
    let before = c.loop-i.invariant in
    let byte = slice_index_or c.args.text.now c.loop-i.i 0 in
    let low : 48 ≤ byte = search rules in
    let high : byte ≤ 57 = search rules in
    let some : 0 < c.loop-i.i → 0 < c.loop-i.n = λ more. elim c.if-n-eq0.branch [ then-n-eq0 w ↦ (let none : c.loop-i.i ≤ 0 = search rules in omega (arith, none, more)) | else-n-eq0 w ↦ omega (arith, w.if-n-eq0.false) ] in (
      search rules,
      omega (arith, low, high, c.if-n-ge-ROOM.false),
      (λ none. absurd (omega arith)),
      λ more. next_digit c.args.text.now c.loop-i.i c.loop-i.n c.loop-i-test.true low high (omega (arith, c.if-n-ge-ROOM.false)) before.2 before.3 some,
    )
