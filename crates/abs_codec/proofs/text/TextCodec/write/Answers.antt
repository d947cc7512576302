use Rattle.std.proofs.Common.{rules, ◌≤◌, ℕ, List, length, ap, subst, arith}
use Rattle.abs_codec.specs.Words.{IsFirstWord}
use Rattle.abs_codec.proofs.Words.{word_bytes}
use Rattle.abs_codec.proofs.text.TextCodec.write.Goals as goal

pub returns-then-text-le-WORD-clause-appended : goal.returns-then-text-le-WORD-clause-appended
returns-then-text-le-WORD-clause-appended c =
    let first = subst (λ (bytes : List ℕ). IsFirstWord bytes c.self.inside.first) c.self.view_is c.self.invariant in
    let same = ap (λ (bytes : List ℕ). length bytes) c.as_str.ensures.value in
    let as_bytes = ap (λ (bytes : List ℕ). length bytes) c.as_bytes-text.ensures.value in
    let short : length c.args.self.now ≤ 8 = omega (arith, c.if-text-le-WORD.true, same, as_bytes) in
    let is_word = word_bytes c.args.self.now c.self.inside.first first short in
    search (rules, is_word, short)
