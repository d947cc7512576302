use Rattle.std.proofs.Common.{◌≡◌, ◌≤◌, ◌++◌, length, take, drop}
use Rattle.std.specs.Option.{option_copied}
use Rattle.std.specs.List.{flat_map, All}
use Rattle.abs_codec.specs.Spelling.{pair_spelling, PairIsSpelled}
use Rattle.keyed_state.specs.KeyedMap.{entries_above, frozen_entries}
use Rattle.operator_state.proofs.operator_state.write_next.Given as goal

abbrev pub invariant-loop : goal.invariant-loop
invariant-loop g l = let left = entries_above g.K.Ord.cmp (option_copied l.initial.next) (frozen_entries l.states) in record {
  within : l.end ≤ length l.out.items;
  text : take l.end l.out.items ≡ take l.initial.end l.initial.out.items ++ flat_map (pair_spelling g.K.Codec.spelling g.S.Codec.spelling) (take l.counter left);
  each : All (PairIsSpelled g.K.Codec.HasSpelling g.S.Codec.HasSpelling) (take l.counter left);
  rest : l.entries ≡ drop l.counter left;
  others : entries_above g.K.Ord.cmp (option_copied l.next) (frozen_entries l.states) ≡ drop l.counter left;
}
