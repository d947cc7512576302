use Rattle.std.proofs.Common.{◌≡◌, ◌≤◌, ◌+◌, ◌++◌, map, length}
use Rattle.channels.specs.declared.item.Item.TheVariants.{Record}
use Rattle.job_state.proofs.openings.fill.Given as goal

-- the records met so far are put, and there is room for the others
abbrev pub invariant-loop-record : goal.invariant-loop-record
invariant-loop-record g l = record {
  sent : l.channel.items ≡ l.fn.channel.items ++ map Record l.yielded;
  room : length l.fn.records ≤ l.channel.room + length l.yielded;
}
