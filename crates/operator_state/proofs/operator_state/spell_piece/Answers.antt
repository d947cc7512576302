use Rattle.std.proofs.Common.{◌≡◌, ◌≤◌, ◌-◌, ◌++◌, take, drop, length, sym, ap, subst, ◌∙◌}
use Rattle.std.specs.List.{All, flat_map}
use Rattle.abs_codec.specs.Spelling.{pair_spelling, PairIsSpelled}
use Rattle.keyed_state.specs.KeyedMap.{entries_above, frozen_entries}
use Rattle.operator_state.specs.Spelled.{Begins, GoesOn}
use Rattle.operator_state.proofs.Copying.{goes_on, there_are}
use Rattle.operator_state.proofs.operator_state.spell_piece.Goals.{then-is_none, else-is_none}
use Rattle.operator_state.proofs.operator_state.spell_piece.Goals as goal

pub spell_next-requires : goal.spell_next-requires
spell_next-requires g c =
    let is : frozen_entries c.freeze.new.self ≡ c.args.lent = ap frozen_entries c.in_ok-freeze.ensures.ok ∙ ap (λ m. m.entries) c.from_lent-states.ensures in
    subst (λ l. c.args.count ≤ length (entries_above g.K.Ord.cmp c.args.last.now l)) (sym is) (there_are g.K.Ord.cmp g.met.K.Ord.total g.K.Codec.HasSpelling g.K.Codec.spelling g.K.Codec.reading g.met.K.Codec.code g.S.Codec.HasSpelling g.S.Codec.spelling g.S.Codec.reading g.met.S.Codec.code c.args.last.now c.args.left c.args.count c.args.lent c.requires)

pub returns : goal.returns
returns g c =
    let is : frozen_entries c.freeze.new.self ≡ c.args.lent = ap frozen_entries c.in_ok-freeze.ensures.ok ∙ ap (λ m. m.entries) c.from_lent-states.ensures in
    let done = c.in_ok-next.ensures in
    let kept : c.if-is_none.bytes.items ≡ c.spell_next.new.out.items = elim c.if-is_none.branch [ then-is_none w ↦ ap (λ v. v.items) w.bytes-is ∙ w.take_room.ensures | else-is_none w ↦ ap (λ v. v.items) w.bytes-is ] in
    let goes = goes_on g.K.Ord.cmp g.met.K.Ord.total g.K.Codec.HasSpelling g.K.Codec.spelling g.K.Codec.reading g.met.K.Codec.code g.S.Codec.HasSpelling g.S.Codec.spelling g.S.Codec.reading g.met.S.Codec.code c.args.last.now c.in_ok-next.next c.args.left c.args.count c.args.lent done.appended.0 c.if-is_none.bytes.items c.requires
    (subst (λ t. Begins c.args.last.now c.args.left t done.appended.0) c.new-bytes.ensures.items done.appended.1)
    (kept ∙ done.appended.2 ∙ ap (λ l. done.appended.0 ++ flat_map (pair_spelling g.K.Codec.spelling g.S.Codec.spelling) (take c.args.count (entries_above g.K.Ord.cmp c.args.last.now l))) is)
    (subst (λ l. All (PairIsSpelled g.K.Codec.HasSpelling g.S.Codec.HasSpelling) (take c.args.count (entries_above g.K.Ord.cmp c.args.last.now l))) is done.spelled)
    (subst (λ l. entries_above g.K.Ord.cmp c.in_ok-next.next l ≡ drop c.args.count (entries_above g.K.Ord.cmp c.args.last.now l)) is done.others) in
    subst (λ b. GoesOn g.K.Ord.cmp g.K.Codec.HasSpelling g.K.Codec.spelling g.S.Codec.HasSpelling g.S.Codec.spelling c.args.lent b c.args.left c.in_ok-next.next (c.args.left - c.args.count) c.if-is_none.bytes.items) (sym c.is_some.ensures) goes
