use Rattle.std.proofs.Common.{sym, ap, subst, ◌∙◌}
use Rattle.std.specs.FinMap as fin
use Rattle.std.specs.List.Sorted.{IsStrictlySortedBy}
use Rattle.std.specs.Map.{keys_of}
use Rattle.snapshot_store.specs.Placed.{Fits}
use Rattle.snapshot_store.specs.Store.{key_cmp}
use Rattle.snapshot_store.specs.Memory.{parts_of}
use Rattle.snapshot_store.proofs.Held.{Entries, key_of, parts_put, sorted_put, there_at}
use Rattle.snapshot_store.proofs.parts.Parts.put.Goals as goal

fit : (c : goal.In_ok-insert) → Fits key_cmp key_of (c.args.number, c.args.task) c.self.inside.entries.items c.in-Err.place
fit c = subst (λ (es : Entries). Fits key_cmp key_of (c.args.number, c.args.task) es c.in-Err.place) c.deref.ensures.value c.in-Err.ensures.absent

pub invariant_of-self : goal.invariant_of-self
invariant_of-self c = subst (λ es. IsStrictlySortedBy key_cmp (keys_of es)) (sym c.in_ok-insert.ensures.items)
    (sorted_put c.self.inside.entries.items (c.args.number, c.args.task) c.self.invariant c.in-Err.place c.args.part (fit c))

pub returns-in_ok-insert-clause-ok : goal.returns-in_ok-insert-clause-ok
returns-in_ok-insert-clause-ok c = ap parts_of c.in_ok-insert.ensures.items
    ∙ parts_put c.self.inside.entries.items (c.args.number, c.args.task) c.self.invariant c.in-Err.place c.args.part (fit c)
    ∙ ap (λ parts. fin.insert parts (c.args.number, c.args.task) c.args.part) c.self.view_is

-- the part was not there
pub returns-in_default-clause-ok : goal.returns-in_default-clause-ok
returns-in_default-clause-ok c =
    let rises = subst (λ es. IsStrictlySortedBy key_cmp (keys_of es)) (sym c.deref.ensures.value) c.self.invariant in
    absurd (there_at c.deref.result.now (c.args.number, c.args.task) rises c.in_default.field-0 c.in_default.ensures.found
    (ap (λ parts. fin.get parts (c.args.number, c.args.task)) (ap parts_of c.deref.ensures.value ∙ c.self.view_is) ∙ c.requires))
