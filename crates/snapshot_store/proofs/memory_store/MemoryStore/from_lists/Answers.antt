use Rattle.std.proofs.Common.{ap, sym, subst, ◌∙◌}
use Rattle.std.specs.List.{All}
use Rattle.std.specs.FinMap as fin
use Rattle.snapshot_store.specs.Lists.{MayBePut}
use Rattle.snapshot_store.specs.StoreLaws.{key_cmp_total}
use Rattle.snapshot_store.specs.Memory.{IsKept, Noted}
use Rattle.snapshot_store.proofs.Held.{entries-from_entries}
use Rattle.snapshot_store.proofs.Listed.{kept_lists, lists_again}
use Rattle.snapshot_store.proofs.memory_store.MemoryStore.from_lists.Goals as goal

pub invariant_of-result : goal.invariant_of-result
invariant_of-result c =
    let are = c.note_numbers.ensures.same ∙ ap (λ (numbers : Noted). numbers.complete) c.from_complete-numbers.ensures ∙ c.into_vec.ensures in
    record {
      kept = subst (λ parts. IsKept c.args.tasks c.args.next parts c.note_numbers.new.numbers) (sym c.in_ok-from_map.ensures.parts)
          (kept_lists c.args.tasks c.args.next c.into_btree_map-parts.result.entries c.note_numbers.new.numbers c.args.completes c.requires.tasks c.requires.next c.requires.completes
          (subst (All (MayBePut c.args.tasks c.args.next)) (sym c.into_btree_map-parts.ensures) c.requires.parts) are c.in_ok-note_numbers.ensures.noted);
    }

pub returns-clause-completes : goal.returns-clause-completes
returns-clause-completes c = lists_again c.args.tasks c.args.next c.in_ok-from_map.field-0 c.note_numbers.new.numbers c.args.completes c.requires.completes c.requires.rising
    (c.note_numbers.ensures.same ∙ ap (λ (numbers : Noted). numbers.complete) c.from_complete-numbers.ensures ∙ c.into_vec.ensures)

pub returns-clause-parts : goal.returns-clause-parts
returns-clause-parts c = ap fin.entries c.in_ok-from_map.ensures.parts ∙ entries-from_entries key_cmp_total c.into_btree_map-parts.result.entries c.in_ok-from_map.ensures.rising ∙ c.into_btree_map-parts.ensures
