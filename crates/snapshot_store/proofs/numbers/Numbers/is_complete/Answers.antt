use Rattle.std.proofs.Common.{sym, ap, subst, ◌∙◌}
use Rattle.std.specs.FinSet as set
use Rattle.std.specs.List.Sorted.{IsStrictlySortedBy}
use Rattle.std.specs.Ordering.{nat_cmp}
use Rattle.snapshot_store.specs.Memory.{complete_of}
use Rattle.snapshot_store.proofs.Noted.{tells}
use Rattle.snapshot_store.proofs.numbers.Numbers.is_complete.Goals as goal

pub returns : goal.returns
returns c =
    c.is_ok.ensures.value
    ∙ tells c.deref.result.now c.args.number c.place_of.result (subst (IsStrictlySortedBy nat_cmp) (sym c.deref.ensures.value) c.self.invariant.0) c.place_of.ensures.found c.place_of.ensures.absent
    ∙ ap (λ ks. set.contains (set.from_list {R = nat_cmp} ks) c.args.number) c.deref.ensures.value
    ∙ ap (λ numbers. set.contains (complete_of numbers) c.args.number) c.self.view_is
