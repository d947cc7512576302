use Rattle.std.proofs.Common.{eqb-true, eq-eqb, arith, sym, zero-le}
use Rattle.line_parts.proofs.Through.{len_with_end, len_with_none}
use Rattle.line_parts.proofs.part.line_len.Goals as goal

pub returns-in-Some : goal.returns-in-Some
returns-in-Some c =
    let (before, here) = c.in-Some.ensures in
    let len = len_with_end c.args.text.now c.in-Some.at before.high (eqb-true _ 10 here) (λ j less is. before.before j zero-le less (eq-eqb _ 10 is)) in
    omega (arith, len)

pub returns-in-None : goal.returns-in-None
returns-in-None c =
    sym (len_with_none c.args.text.now (λ j less is. c.in-None.ensures j zero-le less (eq-eqb _ 10 is)))
