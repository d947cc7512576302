use Rattle.std.proofs.Common.{◌≡◌, ◌<◌, ◌++◌, List, take, Some, None, IfSome, cond, ap, subst, ◌∙◌, arith}
use Rattle.std.proofs.lemmas.List.{take_all}
use Rattle.operator_state.specs.Handed.{IsSheetOf}
use Rattle.operator_state.proofs.Copying.{both_begin, joined, on_joined, on_taken}
use Rattle.operator_state.proofs.operator_state.OperatorState.take_spelled.Goals as goal

pub invariant_of-self-then-self-eq0 : goal.invariant_of-self-then-self-eq0
invariant_of-self-then-self-eq0 g c =
    let piece = c.in-Some-Written.piece in
    let bytes = c.put_behind.new.self in
    let before = take c.self.inside.end c.self.inside.bytes in
    let kept = take c.in-Some-put_behind.end bytes in
    let all : kept ≡ before ++ piece.bytes.items = take_all c.in-Some-put_behind.end bytes (omega (arith, c.in-Some-put_behind.ensures.end)) ∙ c.in-Some-put_behind.ensures.put in
    let goes = subst (λ sheet. IsSheetOf g.K.Ord.cmp g.K.Codec.HasSpelling g.K.Codec.spelling g.S.Codec.HasSpelling g.S.Codec.spelling c.in-Some.side sheet) c.in-Some-Written.field-0-is c.in-Some-Written.ensures.sheet in
    let frozen = subst (λ o. IfSome o (λ side. c.self.inside.states.frozen ≡ Some side)) c.in-Some.is c.self.invariant.0.1 in
    let front = joined g.K.Ord.cmp g.met.K.Ord.total g.K.Codec.HasSpelling g.K.Codec.spelling g.K.Codec.reading g.met.K.Codec.code g.S.Codec.HasSpelling g.S.Codec.spelling g.S.Codec.reading g.met.S.Codec.code c.self.inside.states.frozen c.self.inside.has_copied c.self.inside.last piece.last c.self.inside.left piece.before piece.left before piece.bytes.items kept piece.begun c.in-Some.side c.self.invariant.1 frozen goes (both_begin piece.begun c.is_some.result c.if-piece-is_some.false ∙ c.is_some.ensures) c.if-piece-self.false all in
    let held = on_taken g.K.Ord.cmp g.met.K.Ord.total g.K.Codec.HasSpelling g.K.Codec.spelling g.K.Codec.reading g.met.K.Codec.code g.S.Codec.HasSpelling g.S.Codec.spelling g.S.Codec.reading g.met.S.Codec.code c.self.inside.states.frozen c.thaw.new.self.frozen c.self.inside.has_copied c.self.inside.last piece.last c.self.inside.left piece.left before kept c.in-Some.side c.self.invariant.1 frozen front c.if-self-eq0.true (ap (λ m. m.frozen) c.thaw.ensures) in
    ((omega (arith, c.in-Some-put_behind.ensures.end), tt), held.1)

pub invariant_of-self-else-self-eq0 : goal.invariant_of-self-else-self-eq0
invariant_of-self-else-self-eq0 g c =
    let piece = c.in-Some-Written.piece in
    let bytes = c.put_behind.new.self in
    let before = take c.self.inside.end c.self.inside.bytes in
    let kept = take c.in-Some-put_behind.end bytes in
    let all : kept ≡ before ++ piece.bytes.items = take_all c.in-Some-put_behind.end bytes (omega (arith, c.in-Some-put_behind.ensures.end)) ∙ c.in-Some-put_behind.ensures.put in
    let goes = subst (λ sheet. IsSheetOf g.K.Ord.cmp g.K.Codec.HasSpelling g.K.Codec.spelling g.S.Codec.HasSpelling g.S.Codec.spelling c.in-Some.side sheet) c.in-Some-Written.field-0-is c.in-Some-Written.ensures.sheet in
    let frozen = subst (λ o. IfSome o (λ side. c.self.inside.states.frozen ≡ Some side)) c.in-Some.is c.self.invariant.0.1 in
    let front = joined g.K.Ord.cmp g.met.K.Ord.total g.K.Codec.HasSpelling g.K.Codec.spelling g.K.Codec.reading g.met.K.Codec.code g.S.Codec.HasSpelling g.S.Codec.spelling g.S.Codec.reading g.met.S.Codec.code c.self.inside.states.frozen c.self.inside.has_copied c.self.inside.last piece.last c.self.inside.left piece.before piece.left before piece.bytes.items kept piece.begun c.in-Some.side c.self.invariant.1 frozen goes (both_begin piece.begun c.is_some.result c.if-piece-is_some.false ∙ c.is_some.ensures) c.if-piece-self.false all in
    let less : piece.left < c.self.inside.left = omega (arith, goes.fewer, c.if-piece-self.false) in
    let held = on_joined g.K.Ord.cmp g.met.K.Ord.total g.K.Codec.HasSpelling g.K.Codec.spelling g.K.Codec.reading g.met.K.Codec.code g.S.Codec.HasSpelling g.S.Codec.spelling g.S.Codec.reading g.met.S.Codec.code c.self.inside.states.frozen c.self.inside.has_copied c.self.inside.last piece.last c.self.inside.left piece.left before kept c.in-Some.side c.self.invariant.1 frozen front less (omega (arith, c.if-self-eq0.false)) in
    ((omega (arith, c.in-Some-put_behind.ensures.end), tt), held.1)

pub returns-then-self-eq0-clause-stays : goal.returns-then-self-eq0-clause-stays
returns-then-self-eq0-clause-stays g c =
    let piece = c.in-Some-Written.piece in
    let bytes = c.put_behind.new.self in
    let before = take c.self.inside.end c.self.inside.bytes in
    let kept = take c.in-Some-put_behind.end bytes in
    let all : kept ≡ before ++ piece.bytes.items = take_all c.in-Some-put_behind.end bytes (omega (arith, c.in-Some-put_behind.ensures.end)) ∙ c.in-Some-put_behind.ensures.put in
    let goes = subst (λ sheet. IsSheetOf g.K.Ord.cmp g.K.Codec.HasSpelling g.K.Codec.spelling g.S.Codec.HasSpelling g.S.Codec.spelling c.in-Some.side sheet) c.in-Some-Written.field-0-is c.in-Some-Written.ensures.sheet in
    let frozen = subst (λ o. IfSome o (λ side. c.self.inside.states.frozen ≡ Some side)) c.in-Some.is c.self.invariant.0.1 in
    let front = joined g.K.Ord.cmp g.met.K.Ord.total g.K.Codec.HasSpelling g.K.Codec.spelling g.K.Codec.reading g.met.K.Codec.code g.S.Codec.HasSpelling g.S.Codec.spelling g.S.Codec.reading g.met.S.Codec.code c.self.inside.states.frozen c.self.inside.has_copied c.self.inside.last piece.last c.self.inside.left piece.before piece.left before piece.bytes.items kept piece.begun c.in-Some.side c.self.invariant.1 frozen goes (both_begin piece.begun c.is_some.result c.if-piece-is_some.false ∙ c.is_some.ensures) c.if-piece-self.false all in
    let held = on_taken g.K.Ord.cmp g.met.K.Ord.total g.K.Codec.HasSpelling g.K.Codec.spelling g.K.Codec.reading g.met.K.Codec.code g.S.Codec.HasSpelling g.S.Codec.spelling g.S.Codec.reading g.met.S.Codec.code c.self.inside.states.frozen c.thaw.new.self.frozen c.self.inside.has_copied c.self.inside.last piece.last c.self.inside.left piece.left before kept c.in-Some.side c.self.invariant.1 frozen front c.if-self-eq0.true (ap (λ m. m.frozen) c.thaw.ensures) in
    let seen = c.self.view_is in
    let entries : c.thaw.new.self.entries ≡ c.args.self.now.entries = ap (λ m. m.entries) c.thaw.ensures ∙ ap (λ o. o.entries) seen in
    let copy = ap (λ (es : List _). cond c.self.inside.has_copied (Some es) None) held.0 ∙ ap (λ o. o.copy) seen in
    let unmerged : c.thaw.new.self.unmerged ≡ c.args.self.now.unmerged = ap (λ m. m.unmerged) c.thaw.ensures ∙ ap (λ o. o.unmerged) seen in
    λ i. record { entries = entries i; copy = copy i; unspelled = piece.left; unmerged = unmerged i; part = bytes }
