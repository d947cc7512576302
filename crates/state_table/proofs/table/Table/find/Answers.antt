use Rattle.std.proofs.Common.{ap, sym, ◌∙◌}
use Rattle.std.specs.BTreeMap.{is_at}
use Rattle.std.specs.Map.{lookup}
use Rattle.state_table.specs.Slots.{state_in}
use Rattle.state_table.proofs.Places.{lookup-entries_in, state_under}
use Rattle.state_table.proofs.table.Table.find.Goals as goal

pub returns-in-Some : goal.returns-in-Some
returns-in-Some g c =
    let slots = c.self.inside.slots.items in
    let test = is_at (g.K.Ord.cmp c.args.key.now) in
    c.placed.ensures ∙ c.state_at.ensures ∙ ap (λ xs. state_in xs c.in-Some.place.now) c.deref.ensures.value ∙ ap (state_under slots) c.in-Some.ensures.value ∙ sym (lookup-entries_in test slots c.self.inside.places c.self.invariant.0.there) ∙ ap (lookup test) c.self.view_is

pub returns-in-None : goal.returns-in-None
returns-in-None g c =
    let slots = c.self.inside.slots.items in
    let test = is_at (g.K.Ord.cmp c.args.key.now) in
    ap (state_under slots) c.in-None.ensures.value ∙ sym (lookup-entries_in test slots c.self.inside.places c.self.invariant.0.there) ∙ ap (lookup test) c.self.view_is
