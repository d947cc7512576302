use Rattle.std.proofs.Common.{◌≡◌, ◌∙◌, arith, sym, ap, true≢false, decimal}
use Rattle.std.proofs.lemmas.Fmt.{parse-decimal}
use Rattle.std.proofs.lemmas.Slice.Eq.{bytes_eq-Decides}
use Rattle.script_file.proofs.number.printed.Goals as goal

pub returns-in_default-clause-none : goal.returns-in_default-clause-none
returns-in_default-clause-none c = λ n small e. c.in_default.not-Ok n (parse-decimal 32 n c.args.text.now c.parse.result small (omega arith) e c.parse.ensures.value.0)

pub returns-else-eq-clause-none : goal.returns-else-eq-clause-none
returns-else-eq-clause-none c = λ n small e.
    let r = parse-decimal 32 n c.args.text.now c.parse.result small (omega arith) e c.parse.ensures.value.0 in
    let same : n ≡ c.in-Ok.n = cc in
    let spelt : c.format.result.now ≡ c.args.text.now = c.format.ensures.text ∙ ap decimal (sym same) ∙ sym e in
    absurd (true≢false (sym ((bytes_eq-Decides c.format.result.now c.args.text.now).1 spelt) ∙ sym c.eq.ensures ∙ c.if-eq.false))
