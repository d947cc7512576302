use Rattle.std.proofs.Common.{All, sym, subst}
use Rattle.abs_codec.specs.Spelling.{Fits}
use Rattle.line_parts.specs.Lines.{in_runs}
use Rattle.operators.specs.RowSpelling.{RowIsSpelled, row_spelling}
use Rattle.job_input.proofs.rounds.put_pending.Goals as goal

pub append_runs-requires : goal.append_runs-requires
append_runs-requires c = subst (λ runs. All (Fits RowIsSpelled row_spelling) (in_runs runs.items)) (sym c.replace-runs.ensures.value) c.requires
