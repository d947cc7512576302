use Rattle.std.proofs.Common.{refl, ◌≡◌, ◌<◌, ◌≤◌, ◌-◌, List, length, take, Some, None, cond, ap, ◌∙◌, arith}
use Rattle.std.proofs.lemmas.List.{take_all}
use Rattle.operator_state.proofs.Copying.{spelled_on, on_frozen, on_thawed}
use Rattle.operator_state.proofs.operator_state.OperatorState.spell_some.Goals as goal

pub invariant_of-self-then-self-eq0 : goal.invariant_of-self-then-self-eq0
invariant_of-self-then-self-eq0 g c =
    let some : 0 < c.min-count.result = omega (arith, c.if-count-eq0.false) in
    let le : c.min-count.result ≤ c.self.inside.left = omega (arith, c.min-count.ensures) in
    let done = c.in_ok-self-inside.ensures in
    let front = spelled_on g.K.Ord.cmp g.met.K.Ord.total g.K.Codec.HasSpelling g.K.Codec.spelling g.K.Codec.reading g.met.K.Codec.code g.S.Codec.HasSpelling g.S.Codec.spelling g.S.Codec.reading g.met.S.Codec.code c.self.inside.states.frozen c.self.inside.has_copied c.self.inside.last c.in_ok-self-inside.field-0 c.self.inside.left c.min-count.result (take c.self.inside.end c.self.inside.bytes) done.appended.0 c.spell_next-spelled.new.out.items c.self.invariant.1 some le c.in_ok-bytes.bytes.items _ c.in_ok-bytes.ensures.ok refl done.appended.1 done.appended.2 done.spelled done.others in
    let all : take c.len-end.result c.from_vec.result ≡ c.spell_next-spelled.new.out.items = take_all c.len-end.result c.from_vec.result (omega (arith, c.len-end.ensures, ap length c.from_vec.ensures)) ∙ c.from_vec.ensures in
    let held = on_thawed g.K.Ord.cmp g.met.K.Ord.total g.K.Codec.HasSpelling g.K.Codec.spelling g.K.Codec.reading g.met.K.Codec.code g.S.Codec.HasSpelling g.S.Codec.spelling g.S.Codec.reading g.met.S.Codec.code c.self.inside.states.frozen c.self.inside.has_copied c.self.inside.last c.in_ok-self-inside.field-0 c.self.inside.left c.min-count.result (take c.self.inside.end c.self.inside.bytes) done.appended.0 c.spell_next-spelled.new.out.items c.self.invariant.1 some le front (take c.len-end.result c.from_vec.result) all c.thaw.new.self.frozen (ap (λ m. m.frozen) c.thaw.ensures) c.if-self-eq0.true in
    ((omega (arith, c.len-end.ensures, ap length c.from_vec.ensures), tt), held.1)

pub invariant_of-self-else-self-eq0 : goal.invariant_of-self-else-self-eq0
invariant_of-self-else-self-eq0 g c =
    let some : 0 < c.min-count.result = omega (arith, c.if-count-eq0.false) in
    let le : c.min-count.result ≤ c.self.inside.left = omega (arith, c.min-count.ensures) in
    let done = c.in_ok-self-inside.ensures in
    let front = spelled_on g.K.Ord.cmp g.met.K.Ord.total g.K.Codec.HasSpelling g.K.Codec.spelling g.K.Codec.reading g.met.K.Codec.code g.S.Codec.HasSpelling g.S.Codec.spelling g.S.Codec.reading g.met.S.Codec.code c.self.inside.states.frozen c.self.inside.has_copied c.self.inside.last c.in_ok-self-inside.field-0 c.self.inside.left c.min-count.result (take c.self.inside.end c.self.inside.bytes) done.appended.0 c.spell_next-spelled.new.out.items c.self.invariant.1 some le c.in_ok-bytes.bytes.items _ c.in_ok-bytes.ensures.ok refl done.appended.1 done.appended.2 done.spelled done.others in
    let all : take c.len-end.result c.from_vec.result ≡ c.spell_next-spelled.new.out.items = take_all c.len-end.result c.from_vec.result (omega (arith, c.len-end.ensures, ap length c.from_vec.ensures)) ∙ c.from_vec.ensures in
    let held = on_frozen g.K.Ord.cmp g.met.K.Ord.total g.K.Codec.HasSpelling g.K.Codec.spelling g.K.Codec.reading g.met.K.Codec.code g.S.Codec.HasSpelling g.S.Codec.spelling g.S.Codec.reading g.met.S.Codec.code c.self.inside.states.frozen c.self.inside.has_copied c.self.inside.last c.in_ok-self-inside.field-0 c.self.inside.left c.min-count.result (take c.self.inside.end c.self.inside.bytes) done.appended.0 c.spell_next-spelled.new.out.items c.self.invariant.1 some le front (take c.len-end.result c.from_vec.result) all (omega (arith, c.if-self-eq0.false)) in
    ((omega (arith, c.len-end.ensures, ap length c.from_vec.ensures), c.self.invariant.0.1), held.1)

pub returns-then-self-eq0-clause-ok : goal.returns-then-self-eq0-clause-ok
returns-then-self-eq0-clause-ok g c =
    let some : 0 < c.min-count.result = omega (arith, c.if-count-eq0.false) in
    let le : c.min-count.result ≤ c.self.inside.left = omega (arith, c.min-count.ensures) in
    let done = c.in_ok-self-inside.ensures in
    let front = spelled_on g.K.Ord.cmp g.met.K.Ord.total g.K.Codec.HasSpelling g.K.Codec.spelling g.K.Codec.reading g.met.K.Codec.code g.S.Codec.HasSpelling g.S.Codec.spelling g.S.Codec.reading g.met.S.Codec.code c.self.inside.states.frozen c.self.inside.has_copied c.self.inside.last c.in_ok-self-inside.field-0 c.self.inside.left c.min-count.result (take c.self.inside.end c.self.inside.bytes) done.appended.0 c.spell_next-spelled.new.out.items c.self.invariant.1 some le c.in_ok-bytes.bytes.items _ c.in_ok-bytes.ensures.ok refl done.appended.1 done.appended.2 done.spelled done.others in
    let all : take c.len-end.result c.from_vec.result ≡ c.spell_next-spelled.new.out.items = take_all c.len-end.result c.from_vec.result (omega (arith, c.len-end.ensures, ap length c.from_vec.ensures)) ∙ c.from_vec.ensures in
    let held = on_thawed g.K.Ord.cmp g.met.K.Ord.total g.K.Codec.HasSpelling g.K.Codec.spelling g.K.Codec.reading g.met.K.Codec.code g.S.Codec.HasSpelling g.S.Codec.spelling g.S.Codec.reading g.met.S.Codec.code c.self.inside.states.frozen c.self.inside.has_copied c.self.inside.last c.in_ok-self-inside.field-0 c.self.inside.left c.min-count.result (take c.self.inside.end c.self.inside.bytes) done.appended.0 c.spell_next-spelled.new.out.items c.self.invariant.1 some le front (take c.len-end.result c.from_vec.result) all c.thaw.new.self.frozen (ap (λ m. m.frozen) c.thaw.ensures) c.if-self-eq0.true in
    let seen = c.self.view_is in
    let entries : c.thaw.new.self.entries ≡ c.args.self.now.entries = ap (λ m. m.entries) c.thaw.ensures ∙ ap (λ o. o.entries) seen in
    let copy = ap (λ (es : List _). cond c.self.inside.has_copied (Some es) None) held.0 ∙ ap (λ o. o.copy) seen in
    let unspelled : c.self.inside.left - c.min-count.result ≡ c.args.self.now.unspelled - c.args.most = omega (arith, c.min-count.ensures, ap (λ o. o.unspelled) seen) in
    let unmerged : c.thaw.new.self.unmerged ≡ c.args.self.now.unmerged = ap (λ m. m.unmerged) c.thaw.ensures ∙ ap (λ o. o.unmerged) seen in
    λ i. record { entries = entries i; copy = copy i; unspelled = unspelled i; unmerged = unmerged i; part = c.from_vec.result }
