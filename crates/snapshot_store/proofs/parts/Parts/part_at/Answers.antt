use Rattle.std.proofs.Common.{ℕ, List, Some, sym, ap, refl, length, ◌∙◌}
use Rattle.std.specs.Prelude.{slice_get}
use Rattle.std.specs.Option.{option_map}
use Rattle.std.specs.FinMap as fin
use Rattle.std.proofs.lemmas.Option.{slice_get_past, slice_get_read}
use Rattle.snapshot_store.proofs.Held.{listed}
use Rattle.snapshot_store.proofs.parts.Parts.part_at.Goals as goal

pub returns-in_err-entry : goal.returns-in_err-entry
returns-in_err-entry c =
    ap (option_map (λ part. ((part.0, part.1), part.2.now))) c.from_residual.ensures
    ∙ sym (slice_get_past c.deref.result.now c.args.index c.in_err-entry.ensures.lookup.3)
    ∙ ap (λ es. slice_get es c.args.index) c.deref.ensures.value
    ∙ sym (listed c.self.inside.entries.items (0, 0) c.self.invariant c.args.index)
    ∙ ap (λ parts. slice_get (fin.entries parts) c.args.index) c.self.view_is

pub returns : goal.returns
returns c =
    ap (λ (bytes : List ℕ). Some ((c.in_ok-entry.entry.now.0.0, c.in_ok-entry.entry.now.0.1), bytes)) c.as_slice.ensures
    ∙ sym (slice_get_read c.deref.result.now (length c.deref.result.now) c.args.index c.in_ok-entry.entry.now refl c.in_ok-entry.ensures.lookup.3.0 c.in_ok-entry.ensures.lookup.1)
    ∙ ap (λ es. slice_get es c.args.index) c.deref.ensures.value
    ∙ sym (listed c.self.inside.entries.items (0, 0) c.self.invariant c.args.index)
    ∙ ap (λ parts. slice_get (fin.entries parts) c.args.index) c.self.view_is
