-- A job's spelling: its vertices, then its edges.
use Rattle.std.specs.Prelude.{ℕ, List, [], ◌∷◌, ◌++◌, Bool, true, false}
use Rattle.std.specs.Int.{to_be_bytes, w32}
use Rattle.abs_codec.specs.Spelling.{bytes_spelling, list_spelling}
use Rattle.job_spec.specs.declared.edge.EdgeRoute.{EdgeRoute}
use Rattle.job_spec.specs.declared.edge.EdgeRoute.TheVariants.{Forward, Hash, Broadcast}
use Rattle.job_spec.specs.declared.edge.EdgeSpec.{EdgeSpec}
use Rattle.job_spec.specs.Job.{Kind, source, sink, operator, Vertex, Job}
use Rattle.operators.specs.Parameters.{parameter_spelling}
use Rattle.operators.specs.RowTable.{row_of}

-- the kind's number, and its parameter
abbrev pub kind_spelling : Kind → List ℕ
kind_spelling source = 0 ∷ []
kind_spelling sink = 1 ∷ []
kind_spelling (operator kind parameter) = (row_of kind).number ∷ parameter_spelling parameter

abbrev pub vertex_spelling : Vertex → List ℕ
vertex_spelling vertex = bytes_spelling vertex.name ++ kind_spelling vertex.kind ++ to_be_bytes w32 vertex.parallelism

abbrev pub route_number : EdgeRoute → ℕ
route_number Forward = 0
route_number Hash = 1
route_number Broadcast = 2

abbrev pub back_number : Bool → ℕ
back_number false = 0
back_number true = 1

abbrev pub edge_spelling : EdgeSpec → List ℕ
edge_spelling edge = to_be_bytes w32 edge.from ++ to_be_bytes w32 edge.to ++ to_be_bytes w32 edge.port ++ (route_number edge.route ∷ back_number edge.back ∷ [])

abbrev pub spelling_of : Job → List ℕ
spelling_of job = list_spelling vertex_spelling job.vertices ++ list_spelling edge_spelling job.edges
