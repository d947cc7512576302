use Rattle.std.proofs.Common.{◌≡◌, ◌∙◌, FitsSigned, subst, sym, ap, true≢false}
use Rattle.std.specs.Fmt.{signed_decimal}
use Rattle.std.specs.Int.{w64}
use Rattle.std.proofs.lemmas.Int.{to_z-of_z}
use Rattle.std.proofs.lemmas.Fmt.{parse-signed_decimal}
use Rattle.std.proofs.lemmas.Slice.Eq.{bytes_eq-Decides}
use Rattle.script_file.proofs.number.signed_printed.Goals as goal

pub returns-in_default-clause-none : goal.returns-in_default-clause-none
returns-in_default-clause-none c = λ z fits e. c.in_default.not-Ok z (parse-signed_decimal w64 z c.args.text.now c.parse.result fits fits.sfits e c.parse.ensures.value.0)

pub returns-else-eq-clause-none : goal.returns-else-eq-clause-none
returns-else-eq-clause-none c = λ z fits e.
    let r = parse-signed_decimal w64 z c.args.text.now c.parse.result fits fits.sfits e c.parse.ensures.value.0 in
    let same : z ≡ c.in-Ok.n = cc in
    let spelt : c.format.result.now ≡ c.args.text.now = c.format.ensures.text ∙ ap signed_decimal (to_z-of_z w64 c.in-Ok.n (subst (FitsSigned w64) same fits) ∙ sym same) ∙ sym e in
    absurd (true≢false (sym ((bytes_eq-Decides c.format.result.now c.args.text.now).1 spelt) ∙ sym c.eq.ensures ∙ c.if-eq.false))
