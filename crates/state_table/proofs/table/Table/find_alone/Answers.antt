use Rattle.std.proofs.Common.{ap, slice_get, sym, ◌∙◌}
use Rattle.std.specs.BTreeMap.{is_at}
use Rattle.std.specs.Map.{lookup}
use Rattle.state_table.proofs.Places.{lookup-entries_in, passes_at, state_of_slot, state_under}
use Rattle.state_table.proofs.table.Table.find_alone.Goals as goal

pub returns-in-Some : goal.returns-in-Some
returns-in-Some g c =
    let slots = c.self.inside.slots.items in
    let places = c.self.inside.places in
    let test = is_at (g.K.Ord.cmp c.args.key.now) in
    let all = c.self.invariant.0.there in
    let k = passes_at test slots places c.in-Some.place.now all (sym c.in-Some.ensures.value) in
    c.placed.ensures
    ∙ c.state_of.ensures k.0 k.1.0 (ap (λ xs. slice_get xs c.in-Some.place.now) c.deref.ensures.value ∙ k.1.1) k.2
    ∙ sym (state_of_slot slots (k.0, c.in-Some.place.now) k.1)
    ∙ ap (state_under slots) c.in-Some.ensures.value ∙ sym (lookup-entries_in test slots places all) ∙ ap (lookup test) c.self.view_is

pub returns-in-None : goal.returns-in-None
returns-in-None g c =
    let slots = c.self.inside.slots.items in
    let test = is_at (g.K.Ord.cmp c.args.key.now) in
    ap (state_under slots) c.in-None.ensures.value ∙ sym (lookup-entries_in test slots c.self.inside.places c.self.invariant.0.there) ∙ ap (lookup test) c.self.view_is
