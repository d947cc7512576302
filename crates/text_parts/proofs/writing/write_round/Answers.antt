use Rattle.std.proofs.Common.{◌≡◌, Option, None, IfNone, Result, Ok, Err, OnOk, subst}
use Rattle.text_parts.proofs.Joining.{whole_round}
use Rattle.text_parts.proofs.writing.write_round.Goals as goal

both_ok : {A E : Type 0} (r : Result A E) (P Q R : Type 0) → (P → Q → R) → OnOk r P → OnOk r Q → OnOk r R
both_ok (Ok x) P Q R f p q = f p q
both_ok (Err e) P Q R f p q = tt

if_none : {A : Type 0} (o : Option A) (P : Type 0) → IfNone o P → o ≡ None → P
if_none o P h none = subst (λ o. IfNone o P) none h

pub returns : goal.returns
returns g c =
    let parts = c.in_ok-parts.ensures in
    let round = c.args.round in
    both_ok c.write_parts.result _ _ _
    (λ whole written. (
      _,
      whole_round (g.L.Lines.IsLine c.args.lines.now) round.first round.count round.size (λ part. part.text.items) (λ part. part.fault ≡ None) round.parts c.in_ok-parts.parts.items parts.len round.covered
          (λ k d less. if_none _ _ (parts.each k d less)) whole,
      written,
    ))
    c.write_parts.ensures.whole c.write_parts.ensures.bytes
