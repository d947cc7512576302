use Rattle.std.proofs.Common.{◌≡◌, ◌++◌, length, take}
use Rattle.std.specs.Int.{w32, to_be_bytes}
use Rattle.std.specs.List.{flat_map, All}
use Rattle.task_part.specs.Spelling.{log_now, log_spelling, LogIsSpelled}
use Rattle.task_part.proofs.spell.write_logs.Given as goal

abbrev pub invariant-loop-log : goal.invariant-loop-log
invariant-loop-log g l = record {
  text : l.out.items ≡ l.fn.out.items ++ (to_be_bytes w32 (length l.logs) ++ flat_map (λ log. log_spelling g.R.Codec.spelling (log_now log)) (take l.log-index l.logs));
  each : All (λ log. LogIsSpelled g.R.Codec.HasSpelling (log_now log)) (take l.log-index l.logs);
}
