use Rattle.std.proofs.Common.{◌≡◌, ℕ, ℤ, List, Option, None, Some, IfSome, Bor}
use Rattle.job_input.specs.Lines.{row_of_line}
use Rattle.job_input.specs.Plain.{IsPlainLine}
use Rattle.script_file.specs.Rows.{row_with}
use Rattle.job_input.proofs.PlainLines.{row_of_plain_line}
use Rattle.job_input.proofs.plain.plain_row.Goals as goal

rows_of : (line : List ℕ) (r : Option (Bor (List ℕ) × ℤ)) → IfSome r (λ row. IsPlainLine line row.0.now row.1) → IfSome r (λ row. row_of_line line ≡ row_with row.0.now row.1)
rows_of line None h = tt
rows_of line (Some row) h = row_of_plain_line line row.0.now row.1 h

pub returns : goal.returns
returns c = rows_of c.args.line.now c.parts_of_line.result c.parts_of_line.ensures
