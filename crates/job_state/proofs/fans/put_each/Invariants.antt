use Rattle.std.proofs.Common.{◌≡◌, ◌≤◌, ◌+◌, ◌-◌, ◌++◌, length, map, take}
use Rattle.std.specs.Prelude.{vec_len, vec_capacity}
use Rattle.channels.specs.declared.item.Item.TheVariants.{Record}
use Rattle.job_state.specs.Sending.{as_puts}
use Rattle.job_state.proofs.fans.put_each.Given as goal

-- copies are put with the channels so far, and there is room for the others
abbrev pub invariant-loop-place : goal.invariant-loop-place
invariant-loop-place g l = record {
  puts : as_puts l.rows.items ≡ as_puts l.fn.rows.items ++ map (λ n. (n, Record l.fn.row)) (take (l.place - 1) l.fn.numbers);
  room : vec_len l.rows + length l.fn.numbers ≤ vec_capacity l.rows + (l.place - 1);
}
