use Rattle.std.proofs.Common.{◌∙◌, ◌≤◌, ap₂, subst, arith, List, ℕ, length}
use Rattle.std.specs.Ordering.{nat_cmp}
use Rattle.abs_codec.specs.Words.{IsFirstWord}
use Rattle.abs_codec.proofs.Words.{by_words, short_texts}
use Rattle.abs_codec.proofs.text.TextOrd.cmp.Goals as goal

pub returns-then-self-other : goal.returns-then-self-other
returns-then-self-other c =
    let x = c.self.inside.first in
    let y = c.other.inside.first in
    let of_x = subst (λ (text : List ℕ). IsFirstWord text x) c.self.view_is c.self.invariant in
    let of_y = subst (λ (text : List ℕ). IsFirstWord text y) c.other.view_is c.other.invariant in
    c.cmp.ensures ∙ by_words c.args.self.now c.args.other.now x y of_x of_y c.if-self-other.true

pub returns-then-len-le-WORD-2 : goal.returns-then-len-le-WORD-2
returns-then-len-le-WORD-2 c =
    let x = c.self.inside.first in
    let y = c.other.inside.first in
    let of_x = subst (λ (text : List ℕ). IsFirstWord text x) c.self.view_is c.self.invariant in
    let of_y = subst (λ (text : List ℕ). IsFirstWord text y) c.other.view_is c.other.invariant in
    let short : length c.args.self.now ≤ 8 = omega (arith, c.len.ensures, c.if-len-le-WORD.true) in
    let short' : length c.args.other.now ≤ 8 = omega (arith, c.len-then-len-le-WORD.ensures, c.if-len-le-WORD-2.true) in
    c.cmp-then-len-le-WORD-2.ensures ∙ ap₂ nat_cmp c.len-then-len-le-WORD-2.ensures c.len-then-len-le-WORD-2-2.ensures
    ∙ short_texts c.args.self.now c.args.other.now x y of_x of_y c.if-self-other.false short short'
