-- A line of tasks, the engine that runs it, and what its sink has committed.
use Rattle.std.specs.Prelude.{◌≡◌, ℕ, ◌+◌, ◌≤◌, true, false, List, [], ◌∷◌, length, map, take, slice_get, Some, None, Ok}
use Rattle.abs_codec.specs.Reading.{whole_of}
use Rattle.commit_sink.specs.Ledger.{committed_rows}
use Rattle.dataflow_model.specs.Graph.{Route}
use Rattle.job_graph.specs.Expanded.{Expanded}
use Rattle.job_graph.specs.declared.role.Role.TheVariants.{Source, Operator, Sink}
use Rattle.job_spec.specs.Job.{Kind, source, sink, Vertex, Job, is_operator}
use Rattle.job_spec.specs.declared.edge.EdgeRoute.{EdgeRoute}
use Rattle.job_spec.specs.declared.edge.EdgeSpec.{EdgeSpec}
use Rattle.engine_lines.specs.Line.{line_channel, TakesAll}
use Rattle.snapshot_store.specs.Store.{part_of}
use Rattle.source_log.specs.Partitions.{records_at}
use Rattle.task_part.specs.declared.part.Part.TheVariants as part
use Rattle.engine_model.specs.AllRules.{AllRules}
use Rattle.engine_model.specs.Keeps.{Keeps}
use Rattle.engine_model.specs.Language.{Language}
use Rattle.engine_model.specs.LastCommitted.{last_committed}
use Rattle.engine_model.specs.State.{State}

-- a vertex of one subtask, and an edge from a vertex to the next
abbrev pub only_subtask : List ℕ → Kind → Vertex
only_subtask name kind = record { name = name; kind = kind; parallelism = 1 }

abbrev pub edge_on : ℕ → EdgeRoute → EdgeSpec
edge_on from route = record { from = from; to = from + 1; port = 0; route = route; back = false }

-- a source, an operator and a sink, with a channel from each to the next that takes every record
pub record IsLine (graph : Expanded) : Type 0 where
  pub tasks : graph.tasks ≡ Source 0 ∷ Operator 0 ∷ Sink 0 ∷ []
  pub first : Route
  pub second : Route
  pub channels : graph.channels ≡ line_channel 0 first ∷ line_channel 1 second ∷ []
  pub first_takes : TakesAll first
  pub second_takes : TakesAll second

-- A job of three vertices, a source, an operator and a sink, each of one subtask, and of two edges that join them, by whatever routes.
pub record IsLineJob (job : Job) : Type 0 where
  pub source_name : List ℕ
  pub operator_name : List ℕ
  pub sink_name : List ℕ
  pub kind : Kind
  pub is_operator_kind : is_operator kind ≡ true
  pub vertices : job.vertices ≡ only_subtask source_name source ∷ only_subtask operator_name kind ∷ only_subtask sink_name sink ∷ []
  pub first : EdgeRoute
  pub second : EdgeRoute
  pub edges : job.edges ≡ edge_on 0 first ∷ edge_on 1 second ∷ []

module _ {R K S O : Type 0} where
  -- An engine that runs a line of this operator, over devices that were new when it was opened.
  pub record RunsLine (rules : AllRules R K S O) (operator : O) (s : State O R K S) : Type 0 where
    pub keeps : Keeps rules s
    pub fresh : s.is_fresh ≡ true
    pub line : IsLine s.graph
    pub operator_is : slice_get s.operators 0 ≡ Some operator

  -- The committed rows spell what is made of the first rows of the partition. Where no checkpoint was committed that is of none of them. Where the
  -- store still has the source's part of the last committed checkpoint, it is of as many as that part's offset.
  pub record CommitsABeginning (lang : Language R K S O) (s : State O R K S) (made_of : List R → List R) : Type 0 where
    pub offset : ℕ
    pub within : offset ≤ length (records_at s.partitions 0)
    pub committed : committed_rows s.ledger 0 ≡ map lang.spelling (made_of (take offset (records_at s.partitions 0)))
    pub from_none : last_committed s.stored s.ledger 0 ≡ None → offset ≡ 0
    pub from_part : (n start : ℕ) (bytes : List ℕ) → last_committed s.stored s.ledger 0 ≡ Some n → part_of s.stored n 0 ≡ Some bytes → whole_of lang.read_part bytes ≡ Ok (part.Source start) → offset ≡ start
