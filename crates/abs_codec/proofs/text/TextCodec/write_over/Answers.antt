use Rattle.std.proofs.Common.{◌≤◌, ◌++◌, ◌∙◌, ℕ, List, length, take, ap, subst, arith}
use Rattle.std.specs.Int.{w32, w64, to_be_bytes}
use Rattle.abs_codec.specs.Words.{IsFirstWord}
use Rattle.abs_codec.specs.Spelling.{IsWrittenAt}
use Rattle.abs_codec.proofs.Words.{answered, word_bytes}
use Rattle.abs_codec.proofs.text.TextCodec.write_over.Goals as goal

pub returns-then-text-le-WORD-clause-written : goal.returns-then-text-le-WORD-clause-written
returns-then-text-le-WORD-clause-written c =
    let text = c.args.self.now in
    let first = c.self.inside.first in
    let is_first = subst (λ (bytes : List ℕ). IsFirstWord bytes first) c.self.view_is c.self.invariant in
    let bytes = c.as_bytes-text.ensures.value ∙ c.as_str.ensures.value in
    let len = ap (λ (bytes : List ℕ). length bytes) bytes in
    let short : length text ≤ 8 = omega (arith, c.if-text-le-WORD.true, len) in
    let same = ap (λ n. to_be_bytes w32 n ++ take n (to_be_bytes w64 first)) len
    ∙ ap (λ w. to_be_bytes w32 (length text) ++ w) (word_bytes text first is_first short) in
    answered c.put_word.result
    (λ end h. (
      (omega (arith, short), c.as_str.ensures.utf8),
      subst (λ spelled. IsWrittenAt c.args.bytes.now c.put_word.new.bytes c.args.at spelled end) same h,
    ))
    c.put_word.ensures.written
