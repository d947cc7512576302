use Rattle.std.proofs.Common.{ap, sym, ◌∙◌, subst, ⊎_elim}
use Rattle.std.specs.Prelude.{IsSome, is_some}
use Rattle.std.specs.Map.{lookup}
use Rattle.std.specs.BTreeMap.{is_at}
use Rattle.std.specs.Map.Iter.{deref_pair}
use Rattle.std.proofs.lemmas.Map.Iter.{rest_all}
use Rattle.snapshot_store.specs.Store.{key_cmp}
use Rattle.snapshot_store.proofs.Held.{get-parts_of}
use Rattle.snapshot_store.proofs.lists.note_numbers.Goals as goal

pub returns-clause-noted : goal.returns-clause-noted
returns-clause-noted c = λ n t there.
    let ends = rest_all deref_pair c.loop-key.key-iterator c.next.new.self c.next.result c.in-None.is c.next.ensures.steps in
    ⊎_elim (λ noted. noted) (λ left. absurd (cc (subst (λ es. IsSome (lookup (is_at (key_cmp (n, t))) es)) ends left)))
    (c.loop-key.invariant.noted (n, t) (sym (ap is_some (get-parts_of c.args.parts.now.entries (n, t))) ∙ there))
