use Rattle.std.proofs.Common.{Some, ◌≡◌, sym, ap, subst, refl, length, ◌<◌, ◌∙◌}
use Rattle.std.specs.Prelude.{slice_get}
use Rattle.std.specs.FinMap as fin
use Rattle.std.specs.Map.{keys_of}
use Rattle.std.specs.List.Sorted.{IsStrictlySortedBy}
use Rattle.std.proofs.lemmas.Option.{slice_get_read}
use Rattle.snapshot_store.specs.Store.{key_cmp}
use Rattle.snapshot_store.specs.Memory.{parts_of}
use Rattle.snapshot_store.proofs.Held.{Entries, get_found, none_at}
use Rattle.snapshot_store.proofs.parts.Parts.get.Goals as goal

pub returns-in-Ok : goal.returns-in-Ok
returns-in-Ok c =
    let within = subst (λ (es : Entries). c.in-Ok.place < length es) c.deref.ensures.value c.in-Ok.ensures.within in
    let there = subst (λ (es : Entries). slice_get (keys_of es) c.in-Ok.place ≡ Some (c.args.number, c.args.task)) c.deref.ensures.value c.in-Ok.ensures.found in
    let item = slice_get_read c.self.inside.entries.items (length c.self.inside.entries.items) c.in-Ok.place c.index.result.now refl within c.index.ensures in
    ap Some c.as_slice.ensures
    ∙ get_found c.self.inside.entries.items (c.args.number, c.args.task) c.self.invariant c.in-Ok.place c.index.result.now item there
    ∙ ap (λ parts. fin.get parts (c.args.number, c.args.task)) c.self.view_is

pub returns-in-Err : goal.returns-in-Err
returns-in-Err c =
    let rises = subst (λ (es : Entries). IsStrictlySortedBy key_cmp (keys_of es)) (sym c.deref.ensures.value) c.self.invariant in
    none_at c.deref.result.now (c.args.number, c.args.task) rises c.in-Err.field-0 c.in-Err.ensures.absent
    ∙ ap (λ (es : Entries). fin.get (parts_of es) (c.args.number, c.args.task)) c.deref.ensures.value
    ∙ ap (λ parts. fin.get parts (c.args.number, c.args.task)) c.self.view_is
