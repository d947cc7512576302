use Rattle.std.proofs.Common.{◌+◌, ◌*◌}
use Rattle.line_parts.proofs.reading.+threads.Given as goal

abbrev pub decreases-first : goal.decreases-first
decreases-first g l = 2 * l.others + 2

abbrev pub decreases-read_lines : goal.decreases-read_lines
decreases-read_lines g l = 2 * l.threads + 1
