-- The table of the row operators.
use Rattle.std.specs.Prelude.{ℕ, List, [], ◌∷◌, Bool, true, false, Option, find, codes}
use Rattle.std.specs.Str.{bytes_eq}
use Rattle.operators.specs.Parameters.{Parameter, nothing, number, key, size}
use Rattle.operators.specs.declared.parameters.ParameterForm.{ParameterForm}
use Rattle.operators.specs.declared.parameters.ParameterForm.TheVariants as forms
use Rattle.operators.specs.declared.row_op.RowOp.{RowOp}
use Rattle.operators.specs.declared.row_op.RowOp.TheVariants as ops
use Rattle.operators.specs.declared.row_table.RowKind.{RowKind}
use Rattle.operators.specs.declared.row_table.RowKind.TheVariants.{Add, Rekey, FilterGe, FilterLt, Split, Count, Sum, Window, LoopDown}

-- what a kind of operator is: its word in job files, its number in the spelling of a graph, the form of its parameter, how many ports it sends on, and
-- whether it keeps a state for each key
pub record TableRow : Type 0 where
  pub word : List ℕ
  pub number : ℕ
  pub form : ParameterForm
  pub ports : ℕ
  pub is_keyed : Bool

-- each has a word and a number of its own; 0 and 1 are the numbers of sources and sinks
abbrev pub row_of : RowKind → TableRow
row_of Add = record { word = codes "add"; number = 2; form = forms.Number; ports = 1; is_keyed = false }
row_of Rekey = record { word = codes "rekey"; number = 3; form = forms.Key; ports = 1; is_keyed = false }
row_of FilterGe = record { word = codes "filter_ge"; number = 4; form = forms.Number; ports = 1; is_keyed = false }
row_of FilterLt = record { word = codes "filter_lt"; number = 5; form = forms.Number; ports = 1; is_keyed = false }
row_of Split = record { word = codes "split"; number = 6; form = forms.Number; ports = 2; is_keyed = false }
row_of Count = record { word = codes "count"; number = 7; form = forms.Nothing; ports = 1; is_keyed = true }
row_of Sum = record { word = codes "sum"; number = 8; form = forms.Nothing; ports = 1; is_keyed = true }
row_of Window = record { word = codes "window"; number = 9; form = forms.Size; ports = 1; is_keyed = true }
row_of LoopDown = record { word = codes "loop_down"; number = 10; form = forms.Nothing; ports = 2; is_keyed = false }

abbrev pub row_kinds : List RowKind
row_kinds = Add ∷ Rekey ∷ FilterGe ∷ FilterLt ∷ Split ∷ Count ∷ Sum ∷ Window ∷ LoopDown ∷ []

-- the kind that a word names
abbrev pub kind_named : List ℕ → Option RowKind
kind_named word = find (λ kind. bytes_eq word (row_of kind).word) row_kinds

-- ---- an operator's kind and its parameter

abbrev pub op_kind : RowOp → RowKind
op_kind (ops.Add n) = Add
op_kind (ops.Rekey k) = Rekey
op_kind (ops.FilterGe n) = FilterGe
op_kind (ops.FilterLt n) = FilterLt
op_kind (ops.Split n) = Split
op_kind ops.Count = Count
op_kind ops.Sum = Sum
op_kind (ops.Window n) = Window
op_kind ops.LoopDown = LoopDown

abbrev pub op_parameter : RowOp → Parameter
op_parameter (ops.Add n) = number n
op_parameter (ops.Rekey k) = key k.text
op_parameter (ops.FilterGe n) = number n
op_parameter (ops.FilterLt n) = number n
op_parameter (ops.Split n) = number n
op_parameter ops.Count = nothing
op_parameter ops.Sum = nothing
op_parameter (ops.Window n) = size n.n
op_parameter ops.LoopDown = nothing

abbrev pub op_row : RowOp → TableRow
op_row op = row_of (op_kind op)
