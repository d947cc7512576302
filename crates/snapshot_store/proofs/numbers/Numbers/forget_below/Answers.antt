use Rattle.std.proofs.Common.{rules, refl}
use Rattle.std.specs.Prelude.{not, nat_lt}
use Rattle.std.proofs.lemmas.Fn.{filter_same}
use Rattle.snapshot_store.proofs.Noted.{same_noted}
use Rattle.snapshot_store.proofs.numbers.Numbers.forget_below.Goals as goal

pub returns : goal.returns
returns c = rw (← c.self.view_is) (same_noted _ _ refl (filter_same _ (λ n. not (nat_lt n c.args.number)) _ (λ n b f' t. search rules) _ _ c.retain.ensures.filtered))
