use Rattle.std.proofs.Common.{ap, sym, subst, ◌∙◌}
use Rattle.std.specs.BTreeMap.{is_at}
use Rattle.std.specs.Map.{lookup, remove_entry}
use Rattle.state_table.specs.Slots.{ArePlaces, entries_in}
use Rattle.state_table.proofs.Places.{lookup-entries_in, state_under}
use Rattle.state_table.proofs.Changed.{none_is, none_removed, removed, removed_entries}
use Rattle.state_table.proofs.table.Table.remove.Goals as goal

pub invariant_of-self : goal.invariant_of-self
invariant_of-self g c =
    let slots = c.self.inside.slots.items in
    let places = c.self.inside.places in
    let found = sym c.in-Some.ensures.value in
    let are = removed g.met.K.Ord.total slots c.clear_in.new.slots.items c.in-Some.place c.clear_in.ensures.others c.args.key.now c.clear_in.ensures.none places c.self.invariant.1 c.self.invariant.0 found (λ key. ap (λ l. lookup (is_at (g.K.Ord.cmp key)) l) (sym c.remove.ensures.entries) ∙ c.remove.ensures.values key) in
    (subst (ArePlaces g.K.Ord.cmp c.clear_in.new.slots.items) (sym c.remove.ensures.entries) are, c.remove.ensures.ordered)

pub returns-in-Some : goal.returns-in-Some
returns-in-Some g c =
    let slots = c.self.inside.slots.items in
    let places = c.self.inside.places in
    ap (entries_in c.clear_in.new.slots.items) c.remove.ensures.entries
    ∙ removed_entries g.met.K.Ord.total slots c.clear_in.new.slots.items c.in-Some.place c.clear_in.ensures.others c.args.key.now c.clear_in.ensures.none places c.self.invariant.1 c.self.invariant.0 (sym c.in-Some.ensures.value)
    ∙ ap (remove_entry (is_at (g.K.Ord.cmp c.args.key.now))) c.self.view_is

pub invariant_of-self-in_default : goal.invariant_of-self-in_default
invariant_of-self-in_default g c =
    let places = c.self.inside.places in
    let test = is_at (g.K.Ord.cmp c.args.key.now) in
    let none = sym c.remove.ensures.value ∙ none_is c.remove.result c.in_default.not-Some in
    (subst (ArePlaces g.K.Ord.cmp c.self.inside.slots.items) (sym (c.remove.ensures.entries ∙ none_removed test places none)) c.self.invariant.0, c.remove.ensures.ordered)

pub returns-in_default : goal.returns-in_default
returns-in_default g c =
    let slots = c.self.inside.slots.items in
    let places = c.self.inside.places in
    let test = is_at (g.K.Ord.cmp c.args.key.now) in
    let none = sym c.remove.ensures.value ∙ none_is c.remove.result c.in_default.not-Some in
    ap (entries_in slots) (c.remove.ensures.entries ∙ none_removed test places none) ∙ c.self.view_is
    ∙ sym (none_removed test c.args.self.now (ap (lookup test) (sym c.self.view_is) ∙ lookup-entries_in test slots places c.self.invariant.0.there ∙ ap (state_under slots) none))
