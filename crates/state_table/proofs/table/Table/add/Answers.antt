use Rattle.std.proofs.Common.{Some, [], ◌∷◌, ◌++◌, ap, ◌∙◌}
use Rattle.std.specs.BTreeMap.{insert_entry, is_at}
use Rattle.std.specs.Map.{lookup}
use Rattle.state_table.proofs.Places.{none_under}
use Rattle.state_table.proofs.Changed.{are_added}
use Rattle.state_table.proofs.table.Table.add.Goals as goal

pub invariant_of-self-2 : goal.invariant_of-self-2
invariant_of-self-2 g c =
    let slots = c.self.inside.slots.items in
    let places = c.self.inside.places in
    let key = c.args.key in
    let none = none_under (is_at (g.K.Ord.cmp key)) slots places c.self.invariant.0.there (ap (lookup (is_at (g.K.Ord.cmp key))) c.self.view_is ∙ c.requires) in
    let are = are_added g.met.K.Ord.total slots c.push_reserved.new.self.items places c.insert.new.self c.in_ok-own.own key c.args.state c.in-Ok.place c.self.invariant.0 none c.in_ok-own.ensures (c.in-Ok.ensures.1 ∙ c.len.ensures ∙ c.self.inside.slots.ok.0)
    (c.push_reserved.ensures.items ∙ ap (λ l. l ++ record { key = key; state = Some c.args.state } ∷ []) c.reserve.ensures.items) c.in_ok-insert.ensures.entries c.in_ok-insert.ensures.values in
    (are.0, c.insert.ensures.ordered)

pub returns-clause-ok : goal.returns-clause-ok
returns-clause-ok g c =
    let slots = c.self.inside.slots.items in
    let places = c.self.inside.places in
    let key = c.args.key in
    let none = none_under (is_at (g.K.Ord.cmp key)) slots places c.self.invariant.0.there (ap (lookup (is_at (g.K.Ord.cmp key))) c.self.view_is ∙ c.requires) in
    let are = are_added g.met.K.Ord.total slots c.push_reserved.new.self.items places c.insert.new.self c.in_ok-own.own key c.args.state c.in-Ok.place c.self.invariant.0 none c.in_ok-own.ensures (c.in-Ok.ensures.1 ∙ c.len.ensures ∙ c.self.inside.slots.ok.0)
    (c.push_reserved.ensures.items ∙ ap (λ l. l ++ record { key = key; state = Some c.args.state } ∷ []) c.reserve.ensures.items) c.in_ok-insert.ensures.entries c.in_ok-insert.ensures.values in
    are.1 ∙ ap (λ l. insert_entry g.K.Ord.cmp l key c.args.state) c.self.view_is
