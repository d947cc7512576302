use Rattle.std.proofs.Common.{rules, sym, ap, subst, ◌≡◌, ◌∙◌}
use Rattle.std.specs.Prelude.{filter, not, nat_lt}
use Rattle.std.specs.FinMap as fin
use Rattle.std.specs.List.Sorted.{IsStrictlySortedBy}
use Rattle.std.specs.Map.{keys_of}
use Rattle.std.proofs.lemmas.Fn.{filter_same}
use Rattle.snapshot_store.specs.Store.{key_cmp}
use Rattle.snapshot_store.specs.Memory.{parts_of}
use Rattle.snapshot_store.proofs.Held.{parts_of-filter, sorted-filter}
use Rattle.snapshot_store.proofs.parts.Parts.drop_below.Goals as goal

kept : (c : goal.After-retain) → c.retain.new.self.items ≡ filter (λ e. not (nat_lt e.0.0 c.args.number)) c.self.inside.entries.items
kept c = filter_same _ (λ e. not (nat_lt e.0.0 c.args.number)) _ (λ e b f' t. search rules) _ _ c.retain.ensures.filtered

pub invariant_of-self : goal.invariant_of-self
invariant_of-self c = subst (λ es. IsStrictlySortedBy key_cmp (keys_of es)) (sym (kept c)) (sorted-filter (λ k. not (nat_lt k.0 c.args.number)) c.self.inside.entries.items c.self.invariant)

pub returns : goal.returns
returns c = ap parts_of (kept c) ∙ parts_of-filter c.self.inside.entries.items (λ k. not (nat_lt k.0 c.args.number)) ∙ ap (λ parts. fin.retain_keys parts (λ k. not (nat_lt k.0 c.args.number))) c.self.view_is
