use Rattle.std.proofs.Common.{◌≡◌, ◌+◌, ◌++◌, ℕ, suc, length, take, drop, List, Some, slice_get, ap, ap₂, sym, subst, ◌∙◌, arith}
use Rattle.std.specs.Option.{option_copied}
use Rattle.std.specs.List.{All, flat_map}
use Rattle.std.proofs.lemmas.List.Elements.{All-push}
use Rattle.std.proofs.lemmas.List.{take-append-drop}
use Rattle.abs_codec.specs.Spelling.{pair_spelling, PairIsSpelled}
use Rattle.keyed_state.specs.KeyedMap.{entries_above, frozen_entries}
use Rattle.operator_state.proofs.Copying.{one_on, text_on, since, none_left, drop_on}
use Rattle.operator_state.proofs.operator_state.write_next.Goals as goal
use Rattle.operator_state.proofs.operator_state.write_next.Goals.{in-Some-next+in_ok-end, in_default-next}

pub returns-in_err-end-clause-keeps : goal.returns-in_err-end-clause-keeps
returns-in_err-end-clause-keeps g c =
    let new = c.write_entry_at.new.out.items in
    let done = flat_map (pair_spelling g.K.Codec.spelling g.S.Codec.spelling) (take c.loop.counter (entries_above g.K.Ord.cmp (option_copied c.args.last) (frozen_entries c.args.states.now))) in
    since (take c.args.at c.args.out.now.items) (take c.loop.end new) new done (drop c.loop.end new) (c.write_entry_at.ensures.keeps ∙ c.loop.invariant.text) (sym (take-append-drop c.loop.end new))

pub loop-preserved : goal.loop-preserved
loop-preserved g c =
    let frozen = frozen_entries c.args.states.now in
    let left = entries_above g.K.Ord.cmp (option_copied c.args.last) frozen in
    let here = take c.loop.counter left in
    let further = take (c.loop.counter + 1) left in
    elim c.match-next.branch [
      | in-Some-next+in_ok-end w ↦
          let e : g.row.K.Denot × g.row.S.Denot = (w.in-Some-next.key.now, w.in-Some-next.state.now) in
          let steps = w.in-Some-next.ensures.steps in
          let first : Some e ≡ slice_get (entries_above g.K.Ord.cmp (option_copied c.loop.next) frozen) 0 = ap (λ (l : List (g.row.K.Denot × g.row.S.Denot)). slice_get l 0) (sym steps ∙ c.loop.invariant.rest ∙ sym c.loop.invariant.others) in
          let on = one_on g.met.K.Ord.total (option_copied c.loop.next) frozen left c.loop.counter e c.in-Some.ensures.ordered c.loop.invariant.others first in
          let done = w.in_ok-end.ensures.written in
          let next : c.loop.counter + 1 ≡ suc c.loop.counter = omega arith in
          record {
            within = omega (arith, done.1.1, w.end-is, ap (λ o. length o.items) w.out-is);
            text = ap₂ (λ (n : ℕ) o. take n o.items) w.end-is w.out-is ∙ text_on (pair_spelling g.K.Codec.spelling g.S.Codec.spelling) (take c.args.at c.args.out.now.items) (take c.loop.end c.loop.out.items) (take w.in_ok-end.end w.write_entry_at.new.out.items) here further e c.loop.invariant.text done.1.2 on.1;
            each = subst (All (PairIsSpelled g.K.Codec.HasSpelling g.S.Codec.HasSpelling)) (sym on.1) (All-push (PairIsSpelled g.K.Codec.HasSpelling g.S.Codec.HasSpelling) here e c.loop.invariant.each done.0);
            rest = sym (drop_on c.loop.counter left e c.next.new.self (sym c.loop.invariant.rest ∙ steps)) ∙ ap (λ n. drop n left) (sym next);
            others = ap (λ n. entries_above g.K.Ord.cmp (option_copied n) frozen) w.next-is ∙ on.0;
          }
      | in_default-next w ↦ absurd (none_left c.loop.entries left c.loop.counter c.args.count c.loop.invariant.rest (sym (ap (λ (l : List (g.row.K.Denot × g.row.S.Denot)). slice_get l 0) w.in_default-next.ensures.steps)) c.loop-test.true c.requires.count)
    ]

pub returns-in_ok-copied-in-Some-next-2-clause-appended : goal.returns-in_ok-copied-in-Some-next-2-clause-appended
returns-in_ok-copied-in-Some-next-2-clause-appended g c =
    let cmp = g.K.Ord.cmp in
    let frozen = frozen_entries c.args.states.now in
    let left = entries_above cmp (option_copied c.args.last) frozen in
    let full : c.loop.counter ≡ c.args.count = omega (arith, c.loop.auto.counter-end, c.loop-test.false) in
    c.truncate-2.ensures.items ∙ c.loop.invariant.text ∙ ap (λ (n : ℕ). take c.args.at c.args.out.now.items ++ flat_map (pair_spelling g.K.Codec.spelling g.S.Codec.spelling) (take n left)) full

pub returns-in_ok-copied-in-Some-next-2-clause-spelled : goal.returns-in_ok-copied-in-Some-next-2-clause-spelled
returns-in_ok-copied-in-Some-next-2-clause-spelled g c =
    let cmp = g.K.Ord.cmp in
    let frozen = frozen_entries c.args.states.now in
    let left = entries_above cmp (option_copied c.args.last) frozen in
    let full : c.loop.counter ≡ c.args.count = omega (arith, c.loop.auto.counter-end, c.loop-test.false) in
    subst (λ (n : ℕ). All (PairIsSpelled g.K.Codec.HasSpelling g.S.Codec.HasSpelling) (take n left)) full c.loop.invariant.each

pub returns-in_ok-copied-in-Some-next-2-clause-others : goal.returns-in_ok-copied-in-Some-next-2-clause-others
returns-in_ok-copied-in-Some-next-2-clause-others g c =
    let cmp = g.K.Ord.cmp in
    let frozen = frozen_entries c.args.states.now in
    let left = entries_above cmp (option_copied c.args.last) frozen in
    let full : c.loop.counter ≡ c.args.count = omega (arith, c.loop.auto.counter-end, c.loop-test.false) in
    ap (λ k. entries_above cmp (Some k) frozen) c.in_ok-copied-in-Some-next-2.ensures ∙ ap (λ o. entries_above cmp (option_copied o) frozen) (sym c.in-Some-next-2.is) ∙ c.loop.invariant.others ∙ ap (λ (n : ℕ). drop n left) full

pub returns-in-None-clause-appended : goal.returns-in-None-clause-appended
returns-in-None-clause-appended g c =
    let cmp = g.K.Ord.cmp in
    let frozen = frozen_entries c.args.states.now in
    let left = entries_above cmp (option_copied c.args.last) frozen in
    let full : c.loop.counter ≡ c.args.count = omega (arith, c.loop.auto.counter-end, c.loop-test.false) in
    c.truncate-2.ensures.items ∙ c.loop.invariant.text ∙ ap (λ (n : ℕ). take c.args.at c.args.out.now.items ++ flat_map (pair_spelling g.K.Codec.spelling g.S.Codec.spelling) (take n left)) full

pub returns-in-None-clause-spelled : goal.returns-in-None-clause-spelled
returns-in-None-clause-spelled g c =
    let cmp = g.K.Ord.cmp in
    let frozen = frozen_entries c.args.states.now in
    let left = entries_above cmp (option_copied c.args.last) frozen in
    let full : c.loop.counter ≡ c.args.count = omega (arith, c.loop.auto.counter-end, c.loop-test.false) in
    subst (λ (n : ℕ). All (PairIsSpelled g.K.Codec.HasSpelling g.S.Codec.HasSpelling) (take n left)) full c.loop.invariant.each

pub returns-in-None-clause-others : goal.returns-in-None-clause-others
returns-in-None-clause-others g c =
    let cmp = g.K.Ord.cmp in
    let frozen = frozen_entries c.args.states.now in
    let left = entries_above cmp (option_copied c.args.last) frozen in
    let full : c.loop.counter ≡ c.args.count = omega (arith, c.loop.auto.counter-end, c.loop-test.false) in
    ap (λ o. entries_above cmp (option_copied o) frozen) (sym c.in-None.is) ∙ c.loop.invariant.others ∙ ap (λ (n : ℕ). drop n left) full
