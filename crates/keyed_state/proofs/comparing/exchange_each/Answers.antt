use Rattle.std.proofs.Common.{◌≡◌, ◌↔◌, ◌∷◌, ◌+◌, ◌<◌, arith, List, Option, length, drop, get_or, Err, slice_get, Some, sym, ap, subst, ◌∙◌}
use Rattle.std.specs.List.Sorted.{IsStrictlySortedBy}
use Rattle.std.specs.Map.{keys_of}
use Rattle.std.proofs.lemmas.Option.{slice_get-get_or}
use Rattle.keyed_state.specs.Comparing.{HaveStates}
use Rattle.keyed_state.specs.Overlay.{put_over}
use Rattle.keyed_state.proofs.Compared.{one_differs, one_exchanged, others_rise}
use Rattle.keyed_state.proofs.Exchanged.{dropped, at_first, exchanged_undone, rest_stays}
use Rattle.keyed_state.proofs.comparing.exchange_each.Goals as goal

pub loop-index-preserved : goal.loop-index-preserved
loop-index-preserved g c =
    let cmp = g.K.Ord.cmp in
    let i = c.loop-index.index in
    let es = c.loop-index.table in
    let whole = c.args.entries.now in
    let entries = c.loop-index.entries in
    let entry : g.row.K.Denot × g.row.S.Denot = get_or entries i c.index-entries-index.result in
    let first = c.in-Some.first.now in
    let less : i < length entries = omega (arith, c.loop-index.auto.entries, c.loop-index-test.true) in
    let at = slice_get-get_or entries i c.index-entries-index.result less in
    let there = at_first whole i entry (drop (i + 1) entries) (sym c.loop-index.invariant.rest ∙ dropped entries i entry at) in
    let rest = drop (i + 1) whole in
    let turn = dropped whole i entry there in
    let expects : slice_get c.args.expected.now i ≡ Some first = sym c.in-Some.ensures in
    let states = dropped c.args.expected.now i first expects in
    let rises = subst (λ l. IsStrictlySortedBy cmp (keys_of l)) turn c.loop-index.invariant.rising in
    let Whole = HaveStates cmp c.args.table.now (keys_of whole) c.args.expected.now in
    let was = subst (λ (l : List (Option g.row.S.Denot)). HaveStates cmp es (keys_of (entry ∷ rest)) l ↔ Whole) states (subst (λ l. HaveStates cmp es (keys_of l) (drop i c.args.expected.now) ↔ Whole) turn c.loop-index.invariant.same) in
    let has = c.in_default-exchange_one.ensures.expected in
    let noted = c.in_default-exchange_one.ensures.noted in
    let is = c.in_default-exchange_one.ensures.put in
    record {
      rest = rest_stays entries whole i entry c.exchange_one.new.entry at c.loop-index.invariant.rest;
      put = ap (λ l. put_over cmp l rest) is ∙ sym (ap (put_over cmp es) turn) ∙ c.loop-index.invariant.put;
      rising = others_rise cmp entry rest rises;
      same = one_exchanged g.met.K.Ord.total es c.exchange_one.new.table entry rest first (drop (i + 1) c.args.expected.now) Whole rises has is was;
      undone = exchanged_undone g.met.K.Ord.total es c.exchange_one.new.table entries i entry c.exchange_one.new.entry c.args.expected.now first c.args.table.now c.in_default-exchange_one.ensures.ordered at expects has noted is c.loop-index.invariant.undone;
    }

pub returns-in-Err-clause-changed : goal.returns-in-Err-clause-changed
returns-in-Err-clause-changed g c =
    let cmp = g.K.Ord.cmp in
    let i = c.loop-index.index in
    let es = c.loop-index.table in
    let whole = c.args.entries.now in
    let entries = c.loop-index.entries in
    let entry : g.row.K.Denot × g.row.S.Denot = get_or entries i c.index-entries-index.result in
    let first = c.in-Some.first.now in
    let less : i < length entries = omega (arith, c.loop-index.auto.entries, c.loop-index-test.true) in
    let at = slice_get-get_or entries i c.index-entries-index.result less in
    let there = at_first whole i entry (drop (i + 1) entries) (sym c.loop-index.invariant.rest ∙ dropped entries i entry at) in
    let rest = drop (i + 1) whole in
    let turn = dropped whole i entry there in
    let expects : slice_get c.args.expected.now i ≡ Some first = sym c.in-Some.ensures in
    let states = dropped c.args.expected.now i first expects in
    let Whole = HaveStates cmp c.args.table.now (keys_of whole) c.args.expected.now in
    let was = subst (λ (l : List (Option g.row.S.Denot)). HaveStates cmp es (keys_of (entry ∷ rest)) l ↔ Whole) states (subst (λ l. HaveStates cmp es (keys_of l) (drop i c.args.expected.now) ↔ Whole) turn c.loop-index.invariant.same) in
    λ is same. one_differs cmp es entry.0 (keys_of rest) first (drop (i + 1) c.args.expected.now) Whole (λ has. c.exchange_one.ensures.changed (c.in-Err.is ∙ ap Err is) has) was same
