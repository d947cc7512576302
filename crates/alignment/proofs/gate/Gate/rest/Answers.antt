use Rattle.std.proofs.Common.{◌≡◌, ◌∙◌, ap, sym, length}
use Rattle.std.proofs.lemmas.List.{length-map, with_items_is}
use Rattle.alignment.specs.Inputs.{fresh, without_barriers}
use Rattle.alignment.proofs.Counts.{counted_without}
use Rattle.alignment.proofs.gate.Gate.rest.Goals as goal

pub invariant_of-self : goal.invariant_of-self
invariant_of-self c =
    let inputs = c.self.inside.inputs in
    let now : c.forget_barriers.new.inputs ≡ without_barriers inputs.items = c.forget_barriers.ensures ∙ ap without_barriers c.deref_mut.ensures.value in
    let long : length c.forget_barriers.new.inputs ≡ inputs.len =
    rw c.forget_barriers.ensures (length-map c.deref_mut.result.now (λ input. fresh input.is_marked) ∙ c.deref_mut.ensures.len) in
    rw (with_items_is inputs c.forget_barriers.new.inputs long, now, c.len.ensures) (counted_without inputs.items c.self.inside.marked inputs.len c.self.invariant.all_marked (sym c.deref_mut.ensures.len ∙ ap length c.deref_mut.ensures.value))
