use Rattle.std.proofs.Common.{All, sym, subst}
use Rattle.abs_codec.specs.Spelling.{Fits}
use Rattle.line_parts.specs.Lines.{in_runs}
use Rattle.operators.specs.RowSpelling.{RowIsSpelled, row_spelling}
use Rattle.job_input.proofs.rounds.fn.put_and_fill.put.Goals as goal

pub put_taken-requires-after_bounds : goal.put_taken-requires-after_bounds
put_taken-requires-after_bounds g c κs within = subst (λ runs. All (Fits RowIsSpelled row_spelling) (in_runs runs.items)) (sym c.replace.ensures.value) c.requires.fits
