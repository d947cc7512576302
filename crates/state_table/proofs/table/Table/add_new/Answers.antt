use Rattle.std.proofs.Common.{Some, [], ◌∷◌, ◌++◌, sym, ap, subst, ◌∙◌}
use Rattle.std.specs.Prelude.{is_some}
use Rattle.std.specs.BTreeMap.{insert_entry, is_at}
use Rattle.std.specs.List.Sorted.{IsStrictlySortedBy}
use Rattle.std.specs.Map.{keys_of, lookup}
use Rattle.std.proofs.lemmas.Bool.{false≢true}
use Rattle.state_table.specs.Slots.{ArePlaces, entries_in}
use Rattle.state_table.proofs.Places.{none_under, keys-entries_in, lookup-entries_in, state_under}
use Rattle.state_table.proofs.Changed.{are_added, none_is, put_back}
use Rattle.state_table.proofs.table.Table.add_new.Goals as goal

pub invariant_of-self-in-Some : goal.invariant_of-self-in-Some
invariant_of-self-in-Some g c =
    let cmp = g.K.Ord.cmp in
    let places = c.self.inside.places in
    let key = c.args.key in
    let own = c.in_ok-own.ensures in
    let found = sym (ap (λ k. lookup (is_at (cmp k)) places) own) ∙ sym c.in_ok-former.ensures.old ∙ c.in-Some.is in
    let back = c.in_ok-insert.ensures.entries ∙ ap (λ m. insert_entry cmp m key c.in-Some.former) (c.in_ok-former.ensures.entries ∙ ap (λ k. insert_entry cmp places k c.in-Ok.place) own) ∙ put_back g.met.K.Ord.total places key c.in-Some.former c.in-Ok.place c.self.invariant.1 found in
    (subst (λ s. ArePlaces cmp s c.insert-in-Some.new.self) (sym c.reserve.ensures.items) (subst (ArePlaces cmp c.self.inside.slots.items) (sym back) c.self.invariant.0), c.insert-in-Some.ensures.ordered)

pub returns-in-Some-clause-there : goal.returns-in-Some-clause-there
returns-in-Some-clause-there g c is =
    let cmp = g.K.Ord.cmp in
    let slots = c.self.inside.slots.items in
    let places = c.self.inside.places in
    let key = c.args.key in
    let own = c.in_ok-own.ensures in
    let found = sym (ap (λ k. lookup (is_at (cmp k)) places) own) ∙ sym c.in_ok-former.ensures.old ∙ c.in-Some.is in
    let back = c.in_ok-insert.ensures.entries ∙ ap (λ m. insert_entry cmp m key c.in-Some.former) (c.in_ok-former.ensures.entries ∙ ap (λ k. insert_entry cmp places k c.in-Ok.place) own) ∙ put_back g.met.K.Ord.total places key c.in-Some.former c.in-Ok.place c.self.invariant.1 found in (
      λ none. absurd (false≢true (ap is_some (sym (none_under (is_at (cmp key)) slots places c.self.invariant.0.there (ap (lookup (is_at (cmp key))) c.self.view_is ∙ none)) ∙ found))),
      ap (λ s. entries_in s c.insert-in-Some.new.self) c.reserve.ensures.items ∙ ap (entries_in slots) back ∙ c.self.view_is,
    )

pub invariant_of-self-2 : goal.invariant_of-self-2
invariant_of-self-2 g c =
    let cmp = g.K.Ord.cmp in
    let slots = c.self.inside.slots.items in
    let places = c.self.inside.places in
    let key = c.args.key in
    let none = sym (ap (λ k. lookup (is_at (cmp k)) places) c.in_ok-own.ensures) ∙ sym c.in_ok-former.ensures.old ∙ none_is c.in_ok-former.field-0 c.in_default-2.not-Some in
    let are = are_added g.met.K.Ord.total slots c.push_reserved.new.self.items places c.insert.new.self c.in_ok-own.own key c.args.state c.in-Ok.place c.self.invariant.0 none c.in_ok-own.ensures (c.in-Ok.ensures.1 ∙ c.len.ensures ∙ c.self.inside.slots.ok.0)
    (c.push_reserved.ensures.items ∙ ap (λ l. l ++ record { key = key; state = Some c.args.state } ∷ []) c.reserve.ensures.items) c.in_ok-former.ensures.entries c.in_ok-former.ensures.values in
    (are.0, c.insert.ensures.ordered)

pub returns-clause-added : goal.returns-clause-added
returns-clause-added g c is =
    let cmp = g.K.Ord.cmp in
    let slots = c.self.inside.slots.items in
    let places = c.self.inside.places in
    let key = c.args.key in
    let none = sym (ap (λ k. lookup (is_at (cmp k)) places) c.in_ok-own.ensures) ∙ sym c.in_ok-former.ensures.old ∙ none_is c.in_ok-former.field-0 c.in_default-2.not-Some in
    let are = are_added g.met.K.Ord.total slots c.push_reserved.new.self.items places c.insert.new.self c.in_ok-own.own key c.args.state c.in-Ok.place c.self.invariant.0 none c.in_ok-own.ensures (c.in-Ok.ensures.1 ∙ c.len.ensures ∙ c.self.inside.slots.ok.0)
    (c.push_reserved.ensures.items ∙ ap (λ l. l ++ record { key = key; state = Some c.args.state } ∷ []) c.reserve.ensures.items) c.in_ok-former.ensures.entries c.in_ok-former.ensures.values in (
      sym (ap (lookup (is_at (cmp key))) c.self.view_is) ∙ lookup-entries_in (is_at (cmp key)) slots places c.self.invariant.0.there ∙ ap (state_under slots) none,
      are.1 ∙ ap (λ l. insert_entry cmp l key c.args.state) c.self.view_is,
    )

pub returns-in_default-clause-ordered : goal.returns-in_default-clause-ordered
returns-in_default-clause-ordered g c =
    subst (IsStrictlySortedBy g.K.Ord.cmp) (sym (keys-entries_in c.self.inside.slots.items c.self.inside.places c.self.invariant.0.there) ∙ ap keys_of c.self.view_is) c.self.invariant.1

pub returns-in_err-own-clause-ordered : goal.returns-in_err-own-clause-ordered
returns-in_err-own-clause-ordered g c =
    subst (IsStrictlySortedBy g.K.Ord.cmp) (sym (keys-entries_in c.self.inside.slots.items c.self.inside.places c.self.invariant.0.there) ∙ ap keys_of c.self.view_is) c.self.invariant.1

pub returns-in_err-reserve-clause-ordered : goal.returns-in_err-reserve-clause-ordered
returns-in_err-reserve-clause-ordered g c =
    subst (IsStrictlySortedBy g.K.Ord.cmp) (sym (keys-entries_in c.self.inside.slots.items c.self.inside.places c.self.invariant.0.there) ∙ ap keys_of c.self.view_is) c.self.invariant.1

pub returns-in_err-former-clause-ordered : goal.returns-in_err-former-clause-ordered
returns-in_err-former-clause-ordered g c =
    subst (IsStrictlySortedBy g.K.Ord.cmp) (sym (keys-entries_in c.self.inside.slots.items c.self.inside.places c.self.invariant.0.there) ∙ ap keys_of c.self.view_is) c.self.invariant.1

pub returns-in-Some-clause-ordered : goal.returns-in-Some-clause-ordered
returns-in-Some-clause-ordered g c =
    subst (IsStrictlySortedBy g.K.Ord.cmp) (sym (keys-entries_in c.self.inside.slots.items c.self.inside.places c.self.invariant.0.there) ∙ ap keys_of c.self.view_is) c.self.invariant.1

pub returns-clause-ordered : goal.returns-clause-ordered
returns-clause-ordered g c =
    subst (IsStrictlySortedBy g.K.Ord.cmp) (sym (keys-entries_in c.self.inside.slots.items c.self.inside.places c.self.invariant.0.there) ∙ ap keys_of c.self.view_is) c.self.invariant.1
