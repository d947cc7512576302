use Rattle.std.proofs.Common.{◌≡◌, ◌≤◌, ◌+◌, length, map, vec_len, vec_capacity}
use Rattle.std.specs.Vec.Iter.{into_iter_items}
use Rattle.job_input.proofs.job.numbered.Given as goal

-- those that were taken, in their order, and room for those that are left
abbrev pub invariant-loop-input : goal.invariant-loop-input
invariant-loop-input g l = record {
  taken : map (λ pair. pair.1) l.pairs.items ≡ l.yielded;
  room : vec_len l.pairs + length (into_iter_items l.input-iterator) ≤ vec_capacity l.pairs;
}
