use Rattle.std.proofs.Common.{◌≡◌, ◌≤◌, ◌+◌, ◌-◌, ◌++◌, length, length-append, take, ap, sym, refl, arith, ◌∙◌}
use Rattle.std.specs.Int.{w32, w64, to_be_bytes}
use Rattle.std.proofs.lemmas.List.{take-take, length-take-le}
use Rattle.abs_codec.proofs.Words.{cut}
use Rattle.abs_codec.proofs.text.put_word.Goals as goal

pub returns-clause-written : goal.returns-clause-written
returns-clause-written c =
    let kept = take c.args.at c.args.bytes.now in
    let new = c.put_over.new.bytes in
    let end = c.in_ok-end.end in
    let len = c.args.len in
    let head = to_be_bytes w32 len in
    let word = to_be_bytes w64 c.args.first in
    let put : take end new ≡ kept ++ (head ++ word) = c.in_ok-end.ensures.written.2 ∙ ap (λ w. kept ++ w) c.length_and_word.ensures in
    let whole : end ≡ length kept + 12 =
    sym (length-take-le end new c.in_ok-end.ensures.written.1) ∙ ap length put ∙ length-append kept (head ++ word) in
    let short : length (take len word) ≡ len = length-take-le len word (omega (arith, c.requires)) in (
      omega (arith, c.in_ok-end.ensures.written.0, c.requires, short),
      omega (arith, c.in_ok-end.ensures.written.1),
      sym (take-take (end - (8 - len)) end new (omega arith)) ∙ ap (take (end - (8 - len))) put
          ∙ cut kept head word (end - (8 - len)) len refl (omega (arith, whole, c.requires)),
    )
