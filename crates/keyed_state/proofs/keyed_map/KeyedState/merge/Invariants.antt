use Rattle.std.proofs.Common.{◌≡◌, ◌-◌, None}
use Rattle.keyed_state.proofs.keyed_map.KeyedState.merge.Given as goal

abbrev pub invariant-loop : goal.invariant-loop
invariant-loop g l = record {
  thawed : l.initial.self.frozen ≡ None;
  moved : l.self ≡ record l.initial.self { unmerged = l.initial.self.unmerged - l.counter };
}
