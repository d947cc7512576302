use Rattle.std.proofs.Common.{◌≡◌, ◌++◌}
use Rattle.snapshot_store.proofs.parts.Parts.from_map.Given as goal

-- the parts so far, and those that are left
abbrev pub invariant-loop-key : goal.invariant-loop-key
invariant-loop-key l = l.entries.items ++ l.key-iterator ≡ l.fn.map.entries
