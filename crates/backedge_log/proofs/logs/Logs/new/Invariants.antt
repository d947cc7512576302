use Rattle.std.proofs.Common.{◌≡◌, vec_len, vec_capacity}
use Rattle.backedge_log.specs.Recorded.{AllClosed}
use Rattle.backedge_log.proofs.logs.Logs.new.Given as goal

-- so many closed logs, and room for the others
abbrev pub invariant-loop : goal.invariant-loop
invariant-loop g l = record {
  count : vec_len l.logs ≡ l.counter;
  room : vec_capacity l.logs ≡ l.channels;
  closed : AllClosed l.logs.items;
}
