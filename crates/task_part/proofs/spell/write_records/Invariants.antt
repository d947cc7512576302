use Rattle.std.proofs.Common.{◌≡◌, ◌++◌, length, take}
use Rattle.std.specs.Int.{w32, to_be_bytes}
use Rattle.std.specs.List.{flat_map, All}
use Rattle.task_part.proofs.spell.write_records.Given as goal

abbrev pub invariant-loop-row : goal.invariant-loop-row
invariant-loop-row g l = record {
  text : l.out.items ≡ l.fn.out.items ++ (to_be_bytes w32 (length l.records) ++ flat_map g.R.Codec.spelling (take l.row-index l.records));
  each : All g.R.Codec.HasSpelling (take l.row-index l.records);
}
