-- The parameters of row operators, and how they are spelled.
use Rattle.std.specs.Prelude.{ℕ, ℤ, List, []}
use Rattle.std.specs.Int.{to_be_bytes, w32, w64}
use Rattle.abs_codec.specs.Spelling.{signed_spelling, bytes_spelling}
use Rattle.operators.specs.declared.parameters.Parameter as code
use Rattle.operators.specs.declared.parameters.Parameter.TheVariants as parameters
use Rattle.operators.specs.declared.parameters.ParameterForm.{ParameterForm}
use Rattle.operators.specs.declared.parameters.ParameterForm.TheVariants as forms

-- nothing, any number of 64 bits, a row's key, or a window's size
pub data Parameter : Type 0 where
  nothing : Parameter
  number : ℤ → Parameter
  key : List ℕ → Parameter
  size : ℕ → Parameter

abbrev pub form_of : Parameter → ParameterForm
form_of nothing = forms.Nothing
form_of (number n) = forms.Number
form_of (key text) = forms.Key
form_of (size n) = forms.Size

abbrev pub parameter_view : code.Parameter → Parameter
parameter_view parameters.Nothing = nothing
parameter_view (parameters.Number n) = number n
parameter_view (parameters.Key k) = key k.text
parameter_view (parameters.Size n) = size n.n

abbrev pub parameter_spelling : Parameter → List ℕ
parameter_spelling nothing = []
parameter_spelling (number n) = signed_spelling w64 n
parameter_spelling (key text) = bytes_spelling text
parameter_spelling (size n) = to_be_bytes w32 n
