use Rattle.engine_lines.proofs.LineJobs.{line_expands}
use Rattle.engine_lines.proofs.line_jobs_expand_to_lines.Goals as goal

pub returns : goal.returns
returns c = λ job graph is expands. line_expands job graph is expands
