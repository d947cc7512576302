use Rattle.std.proofs.Common.{◌≡◌, ◌≤◌, ◌+◌, ◌++◌, length, take}
use Rattle.std.specs.Int.{w32, to_be_bytes}
use Rattle.std.specs.List.{flat_map, All}
use Rattle.abs_codec.proofs.items.ItemsCodec.write_over.Given as goal

abbrev pub invariant-loop-item : goal.invariant-loop-item
invariant-loop-item g l = record {
  len : length l.bytes ≡ length l.fn.bytes;
  within : l.end ≤ length l.bytes;
  ends : l.fn.at + (4 + length (flat_map g.T.Codec.spelling (take l.item-index l.item-items))) ≡ l.end;
  kept : take l.fn.at l.bytes ≡ take l.fn.at l.fn.bytes;
  text : take l.end l.bytes ≡ take l.fn.at l.fn.bytes ++ (to_be_bytes w32 (length l.item-items) ++ flat_map g.T.Codec.spelling (take l.item-index l.item-items));
  each : All g.T.Codec.HasSpelling (take l.item-index l.item-items);
}
