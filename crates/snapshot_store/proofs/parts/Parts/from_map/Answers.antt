use Rattle.std.proofs.Common.{sym, ap, subst, ◌∙◌, ◌≡◌, ◌++◌}
use Rattle.std.specs.List.Sorted.{IsStrictlySortedBy}
use Rattle.std.specs.Map.{keys_of}
use Rattle.std.proofs.lemmas.List.{append-nil}
use Rattle.snapshot_store.specs.Store.{key_cmp}
use Rattle.snapshot_store.specs.Memory.{parts_of}
use Rattle.snapshot_store.proofs.Held.{Entries}
use Rattle.snapshot_store.proofs.parts.Parts.from_map.Goals as goal

all : (c : goal.After-drop-key-iterator-2) → c.loop-key.entries.items ≡ c.args.map.entries
all c = sym (append-nil c.loop-key.entries.items) ∙ ap (λ (es : Entries). c.loop-key.entries.items ++ es) (sym c.in-None.ensures.steps.0) ∙ c.loop-key.invariant

pub invariant_of-result : goal.invariant_of-result
invariant_of-result c = subst (λ es. IsStrictlySortedBy key_cmp (keys_of es)) (sym (all c)) c.into_iter-key-iterator.ensures.into_iter_gives.5

pub returns-clause-parts : goal.returns-clause-parts
returns-clause-parts c = ap parts_of (all c)
