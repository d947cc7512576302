-- The language of row operators.
use Rattle.std.specs.Prelude.{ℕ, ◌-◌, ◌^◌, List}
use Rattle.std.specs.Cmp.Lexicographic.{slice_cmp}
use Rattle.std.specs.Ordering.{nat_cmp}
use Rattle.abs_codec.specs.Reading.{text_within}
use Rattle.engine_model.specs.Language.{Language, language}
use Rattle.operators.specs.RowMeaning.{row_meaning}
use Rattle.operators.specs.RowSpelling.{row_spelling, row_at, state_at}
use Rattle.operators.specs.declared.row.Row.{Row}
use Rattle.operators.specs.declared.row_op.RowOp.{RowOp}
use Rattle.operators.specs.declared.row_state.RowState.{RowState}

-- what row operators mean, and how rows, their keys, which are texts, and states are spelled
abbrev pub row_language : Language Row (List ℕ) RowState RowOp
row_language = language row_meaning (slice_cmp nat_cmp) row_spelling row_at (text_within (2 ^ 32 - 1)) state_at
