use Rattle.std.proofs.Common.{◌≡◌, ◌+◌, ◌≤◌, vec_len, vec_capacity}
use Rattle.thread_runner.proofs.crew.run_crew.Given as goal

abbrev pub invariant-loop : goal.invariant-loop
invariant-loop g l = record {
  parts : l.all.parts + l.counter ≡ 65;
  amount : l.all.amount ≡ l.fn.all.amount;
  count : vec_len l.crew ≡ l.counter;
  room : vec_capacity l.crew ≡ l.workers;
  few : l.workers ≤ 64;
}
