-- The spelling of rows and of the states of row operators, and how they are read.
use Rattle.std.specs.Prelude.{ℕ, zero, suc, List, [], ◌∷◌, ◌++◌, Ok, Err}
use Rattle.std.specs.Int.{w64}
use Rattle.std.specs.Int.RustNames.{FitsSigned}
use Rattle.abs_codec.specs.declared.fault.CodecFault.TheVariants.{Short, BadTag}
use Rattle.abs_codec.specs.Reading.{Reading, ◌>>=◌, signed_at, text_within, pair_at, list_at}
use Rattle.abs_codec.specs.Spelling.{bytes_spelling, signed_spelling, list_spelling, IsTextWithin, AreSpelled}
use Rattle.operators.specs.declared.row.Row.{Row}
use Rattle.operators.specs.declared.row_state.RowState.{RowState}
use Rattle.operators.specs.declared.row_state.RowState.TheVariants.{Plain, Number, Numbers}

-- a key of at most 1,024 bytes, then the value
abbrev pub row_spelling : Row → List ℕ
row_spelling row = bytes_spelling row.k ++ signed_spelling w64 row.v

abbrev pub RowIsSpelled : Row → Type 0
RowIsSpelled row = IsTextWithin 1024 row.k × FitsSigned w64 row.v

abbrev pub row_at : List ℕ → Reading Row
row_at bytes = pair_at (text_within 1024) (signed_at w64) bytes >>= λ x. Ok (record { k = x.0.0; v = x.0.1 }, x.1)

-- a tag, and what the state holds
abbrev pub state_spelling : RowState → List ℕ
state_spelling Plain = 0 ∷ []
state_spelling (Number n) = 1 ∷ signed_spelling w64 n
state_spelling (Numbers ns) = 2 ∷ list_spelling (signed_spelling w64) ns

abbrev pub StateIsSpelled : RowState → Type 0
StateIsSpelled Plain = Unit {0}
StateIsSpelled (Number n) = FitsSigned w64 n
StateIsSpelled (Numbers ns) = AreSpelled (FitsSigned w64) ns

unfoldable pub state_at : List ℕ → Reading RowState
state_at [] = Err Short
state_at (zero ∷ rest) = Ok (Plain, rest)
state_at (suc zero ∷ rest) = signed_at w64 rest >>= λ n. Ok (Number n.0, n.1)
state_at (suc (suc zero) ∷ rest) = list_at (signed_at w64) rest >>= λ ns. Ok (Numbers ns.0, ns.1)
state_at (suc (suc (suc tag)) ∷ rest) = Err BadTag
