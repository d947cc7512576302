use Rattle.std.proofs.Common.{sym, ap, subst, ◌∙◌}
use Rattle.std.specs.Prelude.{is_some}
use Rattle.std.specs.FinMap as fin
use Rattle.std.specs.List.Sorted.{IsStrictlySortedBy}
use Rattle.std.specs.Map.{keys_of}
use Rattle.snapshot_store.specs.Store.{key_cmp}
use Rattle.snapshot_store.specs.Memory.{parts_of}
use Rattle.snapshot_store.proofs.Held.{tells}
use Rattle.snapshot_store.proofs.parts.Parts.has.Goals as goal

pub returns : goal.returns
returns c =
    let rises = subst (λ es. IsStrictlySortedBy key_cmp (keys_of es)) (sym c.deref.ensures.value) c.self.invariant in
    c.is_ok.ensures.value
    ∙ tells c.deref.result.now (c.args.number, c.args.task) rises c.place_of.result c.place_of.ensures.found c.place_of.ensures.absent
    ∙ ap (λ es. is_some (fin.get (parts_of es) (c.args.number, c.args.task))) c.deref.ensures.value
    ∙ ap (λ parts. is_some (fin.get parts (c.args.number, c.args.task))) c.self.view_is
