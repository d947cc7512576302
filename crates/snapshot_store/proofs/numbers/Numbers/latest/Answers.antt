use Rattle.std.proofs.Common.{sym, ap, subst, ◌∙◌, ◌-◌, length}
use Rattle.std.specs.Prelude.{slice_get}
use Rattle.std.specs.FinSet as set
use Rattle.snapshot_store.specs.Store.{IsGreatest}
use Rattle.snapshot_store.specs.Memory.{complete_of}
use Rattle.snapshot_store.proofs.Noted.{last_greatest}
use Rattle.snapshot_store.proofs.numbers.Numbers.latest.Goals as goal

pub returns : goal.returns
returns c =
    let last = c.copied.ensures ∙ c.last.ensures.value ∙ ap (λ ks. slice_get ks (length ks - 1)) c.deref.ensures.value in
    subst (λ numbers. IsGreatest (complete_of numbers) c.copied.result) c.self.view_is
    (subst (IsGreatest (set.from_list c.self.inside.complete.items)) (sym last) (last_greatest c.self.inside.complete.items c.self.invariant.0))
