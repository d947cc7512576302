use Rattle.std.proofs.Common.{◌∙◌}
use Rattle.keyed_state.proofs.Several.{handed_back, set_out, swapped_back}
use Rattle.keyed_state.proofs.comparing.swap_expected.Goals as goal

pub returns-then-is_expected-clause-put : goal.returns-then-is_expected-clause-put
returns-then-is_expected-clause-put g c =
    let there = c.swap_near.ensures.there c.if-not-swap_near.false in
    λ _. there.1 ∙ set_out g.met.K.Ord.total c.args.table.now c.args.key.now c.swap_near.new.state c.args.state.now c.swap_near.ensures.ordered there.0

pub returns-clause-stays : goal.returns-clause-stays
returns-clause-stays g c =
    let there = c.swap_near.ensures.there c.if-not-swap_near.false in
    let put = there.1 ∙ set_out g.met.K.Ord.total c.args.table.now c.args.key.now c.swap_near.new.state c.args.state.now c.swap_near.ensures.ordered there.0 in
    λ _. (
      swapped_back g.met.K.Ord.total c.args.table.now c.swap_near.new.self c.swap_near-2.new.self c.args.key.now c.args.state.now c.swap_near.new.state c.swap_near-2.result _ _ c.swap_near.ensures.ordered there.0 put c.swap_near-2.ensures.there c.swap_near-2.ensures.none,
      handed_back g.met.K.Ord.total c.args.table.now c.swap_near.new.self c.args.key.now c.args.state.now c.swap_near-2.new.state c.swap_near-2.result _ _ _ put c.swap_near-2.ensures.there c.swap_near-2.ensures.none,
    )
