-- What a job file says, or the first fault of it.
use Rattle.std.specs.Prelude.{◌≡◌, ℕ, ◌&&◌, ◌||◌, ◌==◌, ℤ, pos, negsuc, List, [], ◌∷◌, ◌++◌, length, Bool, true, false, not, nat_lt, nat_le, if◌then◌else◌, Option, Some, None, option_map, option_and_then, position, slice_get, Result, Ok, Err, codes}
use Rattle.std.specs.Str.{bytes_eq}
use Rattle.std.specs.Char.{is_ascii_alphanumeric}
use Rattle.std.specs.List.{list_any, list_all}
use Rattle.serde_json.specs.Data.{Data, Items, no_items, item}
use Rattle.serde_json.specs.Events.{items_len}
use Rattle.serde_json.specs.Find.{get, as_str, as_bool, as_array}
use Rattle.json_members.specs.Json.{json_of}
use Rattle.json_members.specs.Members.{has_only, text_at, whole, whole_at}
use Rattle.job_spec.specs.declared.fault.JobFault.{JobFault}
use Rattle.job_spec.specs.declared.fault.JobFault.TheVariants as faults
use Rattle.operators.specs.declared.parameters.ParameterForm.{ParameterForm}
use Rattle.operators.specs.declared.parameters.ParameterForm.TheVariants as forms
use Rattle.operators.specs.Parameters.{Parameter}
use Rattle.operators.specs.Parameters as parameters
use Rattle.operators.specs.RowTable.{row_of, kind_named}
use Rattle.job_spec.specs.Job.{Kind, source, sink, operator, Vertex, Job, is_source, is_sink, is_keyed, ports, parameter_form}
use Rattle.job_spec.specs.declared.edge.EdgeSpec.{EdgeSpec}
use Rattle.job_spec.specs.declared.edge.EdgeRoute.{EdgeRoute}
use Rattle.job_spec.specs.declared.edge.EdgeRoute.TheVariants.{Forward, Hash, Broadcast}

infixl 10 ◌>>=◌
abbrev pub ◌>>=◌ : {A B : Type 0} → Result A JobFault → (A → Result B JobFault) → Result B JobFault
(Ok x) >>= f = f x
(Err e) >>= f = Err e

-- the value, or this fault where there is none
abbrev pub or_fault : {A : Type 0} → JobFault → Option A → Result A JobFault
or_fault e (Some x) = Ok x
or_fault e None = Err e

abbrev pub wanted : JobFault → Bool → Result Bool JobFault
wanted e b = if b then Ok true else Err e

-- What was answered, seen by view, is what reading gives, unless memory was refused.
abbrev pub Fails : {Y : Type 0} → JobFault → Result Y JobFault → Type 0
Fails faults.Memory read = Unit {0}
Fails e read = read ≡ Err e

abbrev pub Gives : {X Y : Type 0} → (X → Y) → Result X JobFault → Result Y JobFault → Type 0
Gives view (Ok x) read = read ≡ Ok (view x)
Gives view (Err e) read = Fails e read

-- ---- the text

unfoldable pub value_at : List ℕ → Result Data JobFault
value_at bytes = if nat_lt 16777216 (length bytes) then Err faults.TooMany else or_fault faults.BadJson (json_of bytes)

-- ---- the types of members

-- the value of a field, which must be there
abbrev pub field : {A : Type 0} → Option A → Result A JobFault
field o = or_fault faults.BadField o

abbrev pub member_at : List ℕ → Data → Result Data JobFault
member_at name d = field (get name d)

abbrev pub within : ℕ → ℕ → ℤ → Result ℕ JobFault
within low high (pos n) = if nat_le low n && nat_le n high then Ok n else Err faults.BadField
within low high (negsuc n) = Err faults.BadField

abbrev pub number : ℕ → ℕ → Data → Result ℕ JobFault
number low high d = field (whole d) >>= within low high

-- the member's value, or the one that stands for a member that is absent
abbrev pub optional : {A : Type 0} → (Data → Result A JobFault) → A → Option Data → Result A JobFault
optional f absent None = Ok absent
optional f absent (Some d) = f d

-- 1 to 64 letters, digits, underscores and dashes
abbrev pub is_name_byte : ℕ → Bool
is_name_byte b = is_ascii_alphanumeric b || b == 95 || b == 45

unfoldable pub is_name : List ℕ → Bool
is_name s = nat_le 1 (length s) && (nat_le (length s) 64 && list_all is_name_byte s)

unfoldable pub name_at : List ℕ → Data → Result (List ℕ) JobFault
name_at key d = do
  name ← field (text_at key d)
  if is_name name then Ok name else Err faults.BadField

-- ---- vertices

-- an operator's parameter: any number of 64 bits, a row's key, or a window's size
abbrev pub any_number : Data → Result ℤ JobFault
any_number d = field (whole_at (codes "n") d)

abbrev pub row_key : Data → Result (List ℕ) JobFault
row_key d = do
  key ← field (text_at (codes "k") d)
  if nat_le (length key) 1024 then Ok key else Err faults.BadField

abbrev pub window_size : Data → Result ℕ JobFault
window_size d = do
  found ← member_at (codes "n") d
  number 1 1024 found

abbrev pub made : {A : Type 0} → (A → Parameter) → Result A JobFault → Result Parameter JobFault
made parameter (Ok x) = Ok (parameter x)
made parameter (Err e) = Err e

abbrev pub parameter_at : ParameterForm → Data → Result Parameter JobFault
parameter_at forms.Nothing d = Ok parameters.nothing
parameter_at forms.Number d = made parameters.number (any_number d)
parameter_at forms.Key d = made parameters.key (row_key d)
parameter_at forms.Size d = made parameters.size (window_size d)

-- the operator that a word names, with its parameter
unfoldable pub operator_at : List ℕ → Data → Result Kind JobFault
operator_at word d = do
  kind ← field (kind_named word)
  parameter ← parameter_at (row_of kind).form d
  Ok (operator kind parameter)

unfoldable pub kind_at : List ℕ → Data → Result Kind JobFault
kind_at word d =
    if bytes_eq word (codes "source") then Ok source
    else (if bytes_eq word (codes "sink") then Ok sink
    else operator_at word d)

-- what the member is called that has a parameter of a form
abbrev pub parameter_names : ParameterForm → List (List ℕ)
parameter_names forms.Nothing = []
parameter_names forms.Number = codes "n" ∷ []
parameter_names forms.Key = codes "k" ∷ []
parameter_names forms.Size = codes "n" ∷ []

abbrev pub member_names : Kind → List (List ℕ)
member_names kind = codes "name" ∷ codes "kind" ∷ codes "parallelism" ∷ parameter_names (parameter_form kind)

unfoldable pub vertex_at : Data → Result Vertex JobFault
vertex_at d = do
  name ← name_at (codes "name") d
  word ← field (text_at (codes "kind") d)
  kind ← kind_at word d
  parallelism ← optional (number 1 32) 1 (get (codes "parallelism") d)
  if has_only (member_names kind) d then Ok (record { name = name; kind = kind; parallelism = parallelism }) else Err faults.BadField

abbrev pub is_named : List ℕ → List Vertex → Bool
is_named name vs = list_any (λ v. bytes_eq name v.name) vs

-- the vertices, behind those that were found before them
unfoldable pub vertices_after : List Vertex → Items → Result (List Vertex) JobFault
vertices_after found no_items = Ok found
vertices_after found (item d ds) = do
  v ← vertex_at d
  if is_named v.name found then Err faults.DuplicateName else vertices_after (found ++ v ∷ []) ds

-- ---- edges

abbrev pub route : Data → Result EdgeRoute JobFault
route d = do
  word ← field (as_str d)
  if bytes_eq word (codes "forward") then Ok Forward
      else (if bytes_eq word (codes "hash") then Ok Hash
      else (if bytes_eq word (codes "broadcast") then Ok Broadcast
      else Err faults.BadField))

-- the vertex of a name, behind its number in file order
abbrev pub numbered : List ℕ → List Vertex → Option (ℕ × Vertex)
numbered name vs = option_and_then (λ i. option_map (λ v. (i, v)) (slice_get vs i)) (position (λ v. bytes_eq name v.name) vs)

abbrev pub is_forward : EdgeRoute → Bool
is_forward Forward = true
is_forward _ = false

abbrev pub is_hash : EdgeRoute → Bool
is_hash Hash = true
is_hash _ = false

-- what stands against an edge from a vertex to a vertex
abbrev pub checked : Vertex → Vertex → EdgeSpec → Result EdgeSpec JobFault
checked from to e =
    if is_source to.kind then Err faults.EdgeIntoSource
    else (if is_sink from.kind then Err faults.EdgeFromSink
    else (if nat_le (ports from.kind) e.port then Err faults.BadPort
    else (if is_forward e.route && not (from.parallelism == to.parallelism) then Err faults.ForwardNeedsEqual
    else (if is_keyed to.kind && (nat_lt 1 to.parallelism && not (is_hash e.route)) then Err faults.KeyedNeedsHash
    else Ok e))))

abbrev pub edge_names : List (List ℕ)
edge_names = codes "from" ∷ codes "to" ∷ codes "route" ∷ codes "port" ∷ codes "back" ∷ []

unfoldable pub edge_at : List Vertex → Data → Result EdgeSpec JobFault
edge_at vs d = do
  from_name ← field (text_at (codes "from") d)
  to_name ← field (text_at (codes "to") d)
  way ← optional route Forward (get (codes "route") d)
  port ← optional (number 0 4294967295) 0 (get (codes "port") d)
  back ← optional (λ b. field (as_bool b)) false (get (codes "back") d)
  known ← wanted faults.BadField (has_only edge_names d)
  from ← or_fault faults.UnknownName (numbered from_name vs)
  to ← or_fault faults.UnknownName (numbered to_name vs)
  checked from.1 to.1 (record { from = from.0; to = to.0; port = port; route = way; back = back })

-- the edges, behind those that were found before them
unfoldable pub edges_after : List Vertex → List EdgeSpec → Items → Result (List EdgeSpec) JobFault
edges_after vs found no_items = Ok found
edges_after vs found (item d ds) = do
  e ← edge_at vs d
  edges_after vs (found ++ e ∷ []) ds

-- ---- the whole

abbrev pub list : ℕ → ℕ → Data → Result Items JobFault
list low high d = do
  ds ← field (as_array d)
  if nat_le low (items_len ds) && nat_le (items_len ds) high then Ok ds else Err faults.BadField

unfoldable pub lists_at : Data → Result (Items × Items) JobFault
lists_at d = do
  vertices ← member_at (codes "vertices") d
  vs ← list 1 256 vertices
  edges ← member_at (codes "edges") d
  es ← list 0 256 edges
  if has_only (codes "vertices" ∷ codes "edges" ∷ []) d then Ok (vs, es) else Err faults.BadField

-- what the value of a job file says, or the first fault of it
unfoldable pub job_at : Data → Result Job JobFault
job_at d = do
  lists ← lists_at d
  vs ← vertices_after [] lists.0
  es ← edges_after vs [] lists.1
  Ok (record { vertices = vs; edges = es })

-- what a job file says, or the first fault of it
unfoldable pub job_of : List ℕ → Result Job JobFault
job_of bytes = value_at bytes >>= job_at
