use Rattle.std.proofs.Common.{Some, ap, sym, subst, refl, ◌∙◌}
use Rattle.std.specs.BTreeMap.{is_at}
use Rattle.std.specs.List.Sorted.{IsStrictlySortedBy}
use Rattle.std.specs.Map.{keys_of, lookup, set_value}
use Rattle.state_table.proofs.Places.{lookup-entries_in, keys-entries_in, state_under, passes_at, state_of_slot}
use Rattle.state_table.proofs.Changed.{none_is, swapped, swapped_entries}
use Rattle.state_table.proofs.table.Table.swap_near.Goals as goal

pub invariant_of-self : goal.invariant_of-self
invariant_of-self g c =
    let slots = c.self.inside.slots.items in
    let test = is_at (g.K.Ord.cmp c.args.key.now) in
    let k = passes_at test slots c.self.inside.places c.in-Some.place c.self.invariant.0.there (sym c.in-Some.ensures) in
    let there = c.swap_in.ensures.there k.0 k.1.0 k.1.1 in
    (swapped g.met.K.Ord.total slots c.swap_in.new.slots.items c.in-Some.place c.swap_in.ensures.others k.0 k.1.0 c.args.state.now k.1.1 there.1 c.self.inside.places c.self.invariant.0, c.self.invariant.1)

pub returns-clause-there : goal.returns-clause-there
returns-clause-there g c = λ _.
    let slots = c.self.inside.slots.items in
    let places = c.self.inside.places in
    let test = is_at (g.K.Ord.cmp c.args.key.now) in
    let found = sym c.in-Some.ensures in
    let k = passes_at test slots places c.in-Some.place c.self.invariant.0.there found in
    let there = c.swap_in.ensures.there k.0 k.1.0 k.1.1 in
    let was = state_of_slot slots (k.0, c.in-Some.place) k.1 in (
      ap (lookup test) (sym c.self.view_is) ∙ lookup-entries_in test slots places c.self.invariant.0.there ∙ ap (state_under slots) found ∙ was ∙ ap Some (sym there.0),
      swapped_entries g.met.K.Ord.total slots c.swap_in.new.slots.items c.in-Some.place c.swap_in.ensures.others k.0 k.1.0 c.args.state.now k.1.1 there.1 c.args.key.now places c.self.invariant.1 c.self.invariant.0 found
          ∙ ap (λ l. set_value test l c.args.state.now) c.self.view_is,
    )

pub returns-clause-ordered : goal.returns-clause-ordered
returns-clause-ordered g c =
    subst (IsStrictlySortedBy g.K.Ord.cmp) (sym (keys-entries_in c.self.inside.slots.items c.self.inside.places c.self.invariant.0.there) ∙ ap keys_of c.self.view_is) c.self.invariant.1

pub returns-in_default-clause-none : goal.returns-in_default-clause-none
returns-in_default-clause-none g c = λ _.
    let slots = c.self.inside.slots.items in
    let places = c.self.inside.places in
    let test = is_at (g.K.Ord.cmp c.args.key.now) in
    (ap (lookup test) (sym c.self.view_is) ∙ lookup-entries_in test slots places c.self.invariant.0.there ∙ ap (state_under slots) (sym c.place_near.ensures ∙ none_is c.place_near.result c.in_default.not-Some), refl, refl)

pub returns-in_default-clause-ordered : goal.returns-in_default-clause-ordered
returns-in_default-clause-ordered g c =
    subst (IsStrictlySortedBy g.K.Ord.cmp) (sym (keys-entries_in c.self.inside.slots.items c.self.inside.places c.self.invariant.0.there) ∙ ap keys_of c.self.view_is) c.self.invariant.1
