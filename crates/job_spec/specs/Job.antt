-- What a job file says.
use Rattle.std.specs.Prelude.{◌≡◌, ℕ, ◌<◌, ◌≤◌, List, [], length, map, Bool, true, false, Some, slice_get, string_bytes, String, All, replicate, if◌then◌else◌}
use Rattle.std.specs.List.{flat_map}
use Rattle.std.specs.declared.alloc.Global.{Global}
use Rattle.job_spec.specs.declared.vertex.Kind as code
use Rattle.job_spec.specs.declared.vertex.Kind.TheVariants as kinds
use Rattle.job_spec.specs.declared.vertex.VertexSpec.{VertexSpec}
use Rattle.operators.specs.declared.row_op.RowOp.{RowOp}
use Rattle.operators.specs.declared.row_table.RowKind.{RowKind}
use Rattle.operators.specs.declared.parameters.ParameterForm.{ParameterForm}
use Rattle.operators.specs.declared.parameters.ParameterForm.TheVariants as forms
use Rattle.operators.specs.Parameters.{Parameter}
use Rattle.operators.specs.RowTable.{row_of, op_kind, op_parameter}
use Rattle.job_spec.specs.declared.edge.EdgeRoute.TheVariants.{Forward, Hash}
use Rattle.job_spec.specs.declared.edge.EdgeSpec.{EdgeSpec}

-- what a vertex is, an operator with its parameter
pub data Kind : Type 0 where
  source : Kind
  sink : Kind
  operator : RowKind → Parameter → Kind

pub record Vertex : Type 0 where
  pub name : List ℕ
  pub kind : Kind
  pub parallelism : ℕ

-- the vertices in file order, and the edges between them
pub record Job : Type 0 where
  pub vertices : List Vertex
  pub edges : List EdgeSpec

abbrev pub operator_view : RowOp → Kind
operator_view op = operator (op_kind op) (op_parameter op)

abbrev pub kind_view : code.Kind → Kind
kind_view kinds.Source = source
kind_view kinds.Sink = sink
kind_view (kinds.Operator op) = operator_view op

abbrev pub vertex_view : String Global × VertexSpec → Vertex
vertex_view e = record { name = string_bytes e.0; kind = kind_view e.1.kind; parallelism = e.1.parallelism }

abbrev pub vertices_view : List (String Global × VertexSpec) → List Vertex
vertices_view es = map vertex_view es

-- ---- what a kind is

abbrev pub is_source : Kind → Bool
is_source source = true
is_source _ = false

abbrev pub is_sink : Kind → Bool
is_sink sink = true
is_sink _ = false

abbrev pub is_operator : Kind → Bool
is_operator (operator kind parameter) = true
is_operator _ = false

-- it keeps a state for each key
abbrev pub is_keyed : Kind → Bool
is_keyed (operator kind parameter) = (row_of kind).is_keyed
is_keyed _ = false

abbrev pub ports : Kind → ℕ
ports source = 1
ports sink = 0
ports (operator kind parameter) = (row_of kind).ports

-- the form of its parameter
abbrev pub parameter_form : Kind → ParameterForm
parameter_form (operator kind parameter) = (row_of kind).form
parameter_form _ = forms.Nothing

-- ---- what each job keeps

pub record IsVertex (vertex : Vertex) : Type 0 where
  pub name : length vertex.name ≤ 64
  pub at_least : 1 ≤ vertex.parallelism
  pub at_most : vertex.parallelism ≤ 32

-- An edge leads from no sink and into no source, on a port of its sender. It is forward only between equal parallelisms,
-- and hashed where its receiver keeps states for keys in more than one subtask.
pub record IsEdge (vertices : List Vertex) (edge : EdgeSpec) : Type 0 where
  pub sender : Vertex
  pub receiver : Vertex
  pub from : slice_get vertices edge.from ≡ Some sender
  pub to : slice_get vertices edge.to ≡ Some receiver
  pub takes : is_source receiver.kind ≡ false
  pub sends : is_sink sender.kind ≡ false
  pub port : edge.port < ports sender.kind
  pub forward : edge.route ≡ Forward → sender.parallelism ≡ receiver.parallelism
  pub keyed : is_keyed receiver.kind ≡ true → 1 < receiver.parallelism → edge.route ≡ Hash

pub record IsJob (job : Job) : Type 0 where
  pub few_vertices : length job.vertices ≤ 256
  pub few_edges : length job.edges ≤ 256
  pub vertices : All IsVertex job.vertices
  pub edges : All (IsEdge job.vertices) job.edges

-- ---- operators

-- the operators of a vertex, one a subtask
abbrev pub operators_in : Vertex → List Kind
operators_in vertex = if is_operator vertex.kind then replicate vertex.parallelism vertex.kind else []

-- an operator for each operator task
abbrev pub operators_of : Job → List Kind
operators_of job = flat_map operators_in job.vertices
