use Rattle.std.proofs.Common.{◌≡◌, ◌⊎◌, ℕ}
use Rattle.std.specs.Map.{lookup}
use Rattle.std.specs.BTreeMap.{is_at}
use Rattle.std.specs.Prelude.{IsSome}
use Rattle.snapshot_store.specs.Store.{key_cmp}
use Rattle.snapshot_store.specs.Memory.{IsNoted}
use Rattle.snapshot_store.proofs.lists.note_numbers.Given as goal

-- the number of each part that is not left is noted
abbrev pub invariant-loop-key : goal.invariant-loop-key
invariant-loop-key l = record {
  same : l.numbers.complete ≡ l.fn.numbers.complete;
  noted : (q : ℕ × ℕ) → IsSome (lookup (is_at (key_cmp q)) l.parts.entries) → IsNoted l.numbers q.0 ⊎ IsSome (lookup (is_at (key_cmp q)) l.key-iterator);
}
