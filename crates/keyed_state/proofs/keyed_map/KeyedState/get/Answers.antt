use Rattle.std.proofs.Common.{ap, sym, ◌∙◌}
use Rattle.abs_codec.specs.Entries.{value_at}
use Rattle.keyed_state.proofs.Laid.{shadowed, value_at-put_over}
use Rattle.keyed_state.proofs.keyed_map.KeyedState.get.Goals as goal

pub returns-in-Some : goal.returns-in-Some
returns-in-Some g c =
    let under = value_at g.K.Ord.cmp c.self.inside.base c.args.key.now in
    rw (← c.self.view_is) (ap (λ found. shadowed found under) c.in-Some.ensures.value ∙ sym (value_at-put_over g.met.K.Ord.total c.self.inside.base c.self.inside.overlay.entries c.args.key.now c.self.invariant.overlay_rises))

pub returns-in-None : goal.returns-in-None
returns-in-None g c =
    let under = value_at g.K.Ord.cmp c.self.inside.base c.args.key.now in
    rw (← c.self.view_is) (c.get-in-None.ensures ∙ ap (λ base. value_at g.K.Ord.cmp base c.args.key.now) c.value.ensures ∙ ap (λ found. shadowed found under) c.in-None.ensures.value ∙ sym (value_at-put_over g.met.K.Ord.total c.self.inside.base c.self.inside.overlay.entries c.args.key.now c.self.invariant.overlay_rises))
