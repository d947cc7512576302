-- What the row operators mean.
use Rattle.std.specs.Prelude.{◌<◌, ◌+ℤ◌, ◌-ℤ◌, ℕ, ℤ, pos, List, [], ◌∷◌, ◌++◌, length, fold, Option, Some, None, int_lt, nat_lt, if◌then◌else◌}
use Rattle.std.specs.Int.{saturate_signed, w64}
use Rattle.std.specs.Cmp.Lexicographic.{slice_cmp}
use Rattle.std.specs.Ordering.{nat_cmp, is_eq}
use Rattle.dataflow_model.specs.Graph.{Meaning, Outcome}
use Rattle.operators.specs.Lanes.{lane_of}
use Rattle.operators.specs.RowTable.{op_row}
use Rattle.operators.specs.declared.row.Row.{Row}
use Rattle.operators.specs.declared.row_state.RowState.{RowState}
use Rattle.operators.specs.declared.row_state.RowState.TheVariants.{Plain, Number, Numbers}
use Rattle.operators.specs.declared.row_op.RowOp.{RowOp}
use Rattle.operators.specs.declared.row_op.RowOp.TheVariants.{Add, Rekey, FilterGe, FilterLt, Split, Count, Sum, Window, LoopDown}

-- sums and differences, at most the greatest and at least the least number of 64 bits
infixl 60 ◌⊞◌ ◌⊟◌
abbrev pub ◌⊞◌ : ℤ → ℤ → ℤ
a ⊞ b = saturate_signed w64 (a +ℤ b)

abbrev pub ◌⊟◌ : ℤ → ℤ → ℤ
a ⊟ b = saturate_signed w64 (a -ℤ b)

-- from the left, starting at 0
abbrev pub sum_of : List ℤ → ℤ
sum_of values = fold ◌⊞◌ (pos 0) values

-- ---- states

-- what a state holds: a number, 0 if it holds none, or a list of numbers, empty if it holds none
abbrev pub number_in : RowState → ℤ
number_in Plain = pos 0
number_in (Number n) = n
number_in (Numbers values) = pos 0

abbrev pub numbers_in : RowState → List ℤ
numbers_in Plain = []
numbers_in (Number n) = []
numbers_in (Numbers values) = values

abbrev pub IsPlain : RowState → Type 0
IsPlain Plain = Unit {0}
IsPlain (Number n) = ⊥
IsPlain (Numbers values) = ⊥

abbrev pub IsNumber : RowState → Type 0
IsNumber Plain = ⊥
IsNumber (Number n) = Unit {0}
IsNumber (Numbers values) = ⊥

abbrev pub HasFewerThan : ℕ → RowState → Type 0
HasFewerThan n Plain = ⊥
HasFewerThan n (Number m) = ⊥
HasFewerThan n (Numbers values) = length values < n

-- the states of an operator: count and sum keep a number, a window keeps fewer numbers than it takes, the others keep nothing
abbrev pub RowSuits : RowOp → RowState → Type 0
RowSuits (Add n) state = IsPlain state
RowSuits (Rekey key) state = IsPlain state
RowSuits (FilterGe n) state = IsPlain state
RowSuits (FilterLt n) state = IsPlain state
RowSuits (Split n) state = IsPlain state
RowSuits Count state = IsNumber state
RowSuits Sum state = IsNumber state
RowSuits (Window size) state = HasFewerThan size.n state
RowSuits LoopDown state = IsPlain state

abbrev pub row_fresh : RowOp → RowState
row_fresh (Add n) = Plain
row_fresh (Rekey key) = Plain
row_fresh (FilterGe n) = Plain
row_fresh (FilterLt n) = Plain
row_fresh (Split n) = Plain
row_fresh Count = Number (pos 0)
row_fresh Sum = Number (pos 0)
row_fresh (Window size) = Numbers []
row_fresh LoopDown = Plain

-- one that is keyed keeps a state for each key
abbrev pub row_key : RowOp → Row → Option (List ℕ)
row_key op row = if (op_row op).is_keyed then Some row.k else None

-- ---- what is sent

-- the state is kept, and nothing is sent
abbrev pub keep : RowState → Outcome Row RowState
keep state = record { state = state; sent = [] }

-- the state is kept, and one row is sent on a port
abbrev pub send : RowState → ℕ → Row → Outcome Row RowState
send state port row = record { state = state; sent = (port, row) ∷ [] }

-- the row with another value, or with another key
abbrev pub with_value : Row → ℤ → Row
with_value row v = record row { v = v }

abbrev pub with_key : Row → List ℕ → Row
with_key row k = record row { k = k }

-- the number is kept, and sent as the row's value
abbrev pub tell : Row → ℤ → Outcome Row RowState
tell row n = send (Number n) 0 (with_value row n)

-- a full window sends the sum of its values and is empty again
abbrev pub collect : ℕ → Row → List ℤ → Outcome Row RowState
collect size row values = if nat_lt (length values) size then keep (Numbers values) else send (Numbers []) 0 (with_value row (sum_of values))

-- what an operator makes of a row in the state of the row's key
abbrev pub row_outcome : RowOp → RowState → Row → Outcome Row RowState
row_outcome (Add n) state row = send state 0 (with_value row (row.v ⊞ n))
row_outcome (Rekey key) state row = send state 0 (with_key row key.text)
row_outcome (FilterGe n) state row = if int_lt row.v n then keep state else send state 0 row
row_outcome (FilterLt n) state row = if int_lt row.v n then send state 0 row else keep state
row_outcome (Split n) state row = if int_lt row.v n then send state 1 row else send state 0 row
row_outcome Count state row = tell row (number_in state ⊞ pos 1)
row_outcome Sum state row = tell row (number_in state ⊞ row.v)
row_outcome (Window size) state row = collect size.n row (numbers_in state ++ row.v ∷ [])
row_outcome LoopDown state row = if int_lt (pos 0) row.v then send state 1 (with_value row (row.v ⊟ pos 1)) else send state 0 row

abbrev pub row_meaning : Meaning Row (List ℕ) RowState RowOp
row_meaning = record {
  same_key = λ a b. is_eq (slice_cmp nat_cmp a b);
  lane = λ row. lane_of row.k;
  key = row_key;
  ports = λ op. (op_row op).ports;
  fresh = row_fresh;
  apply = row_outcome;
}
