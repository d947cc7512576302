-- A job of a source, an operator and a sink expands to a line.
use Rattle.std.proofs.Common.{◌≡◌, ◌%◌, ◌++◌, slice_get, map, flat_map, ℕ, true, List, [], ◌∷◌, refl, ap, ap₂, ◌∙◌, subst, arith}
use Rattle.std.proofs.lemmas.Bool.{eq-eqb, false≢true}
use Rattle.std.proofs.lemmas.Option.{same_Some}
use Rattle.dataflow_model.specs.Graph.{Channel, Route, Every, Lanes}
use Rattle.job_graph.specs.Expanded.{Expanded, IsNumbered, task_kind}
use Rattle.job_graph.specs.Expansion.{Expands, kind_of, subtasks_of, parallelisms_of, edge_channels}
use Rattle.job_graph.specs.declared.role.Role.{Role}
use Rattle.job_graph.specs.declared.role.Role.TheVariants.{Source, Operator, Sink}
use Rattle.job_spec.specs.Job.{Kind, source, sink, operator, Vertex, Job, is_operator}
use Rattle.job_spec.specs.declared.edge.EdgeRoute.{EdgeRoute}
use Rattle.job_spec.specs.declared.edge.EdgeRoute.TheVariants.{Forward, Hash, Broadcast}
use Rattle.job_spec.specs.declared.edge.EdgeSpec.{EdgeSpec}
use Rattle.engine_lines.specs.Line.{line_channel, TakesAll}
use Rattle.engine_lines.specs.Lines.{edge_on, IsLine, IsLineJob}

-- ---- tasks

operator_kind : (kind : Kind) → is_operator kind ≡ true → kind_of kind ≡ task_kind (Operator 0)
operator_kind source e = absurd (false≢true e)
operator_kind sink e = absurd (false≢true e)
operator_kind (operator kind parameter) e = refl

source_of : (r : Role) → task_kind r ≡ kind_of source → (p : ℕ) × (r ≡ Source p)
source_of (Source p) e = (p, refl)
source_of (Operator n) e = absurd cc
source_of (Sink k) e = absurd cc

operator_of : (r : Role) → task_kind r ≡ task_kind (Operator 0) → (n : ℕ) × (r ≡ Operator n)
operator_of (Source p) e = absurd cc
operator_of (Operator n) e = (n, refl)
operator_of (Sink k) e = absurd cc

sink_of : (r : Role) → task_kind r ≡ kind_of sink → (k : ℕ) × (r ≡ Sink k)
sink_of (Source p) e = absurd cc
sink_of (Operator n) e = absurd cc
sink_of (Sink k) e = (k, refl)

roles_numbered : (p n k : ℕ) → IsNumbered (Source p ∷ Operator n ∷ Sink k ∷ []) → Source p ∷ Operator n ∷ Sink k ∷ [] ≡ Source 0 ∷ Operator 0 ∷ Sink 0 ∷ []
roles_numbered p n k numbered =
    let first : p ≡ 0 = numbered.each 0 (Source p) refl in
    let second : n ≡ 0 = numbered.each 1 (Operator n) refl in
    let third : k ≡ 0 = numbered.each 2 (Sink k) refl in
    λ i. Source (first i) ∷ Operator (second i) ∷ Sink (third i) ∷ []

roles_of : (roles : List Role) → map task_kind roles ≡ kind_of source ∷ task_kind (Operator 0) ∷ kind_of sink ∷ [] → IsNumbered roles → roles ≡ Source 0 ∷ Operator 0 ∷ Sink 0 ∷ []
roles_of [] e numbered = absurd cc
roles_of (a ∷ []) e numbered = absurd cc
roles_of (a ∷ b ∷ []) e numbered = absurd cc
roles_of (a ∷ b ∷ c ∷ d ∷ rest) e numbered = absurd cc
roles_of (a ∷ b ∷ c ∷ []) e numbered =
    let one = source_of a (same_Some (task_kind a) (kind_of source) (ap (λ l. slice_get l 0) e)) in
    let two = operator_of b (same_Some (task_kind b) (task_kind (Operator 0)) (ap (λ l. slice_get l 1) e)) in
    let three = sink_of c (same_Some (task_kind c) (kind_of sink) (ap (λ l. slice_get l 2) e)) in
    let same : a ∷ b ∷ c ∷ [] ≡ Source one.0 ∷ Operator two.0 ∷ Sink three.0 ∷ [] = λ i. one.1 i ∷ two.1 i ∷ three.1 i ∷ [] in
    same ∙ roles_numbered one.0 two.0 three.0 (subst IsNumbered same numbered)

-- ---- channels

abbrev route_of : EdgeRoute → Route
route_of Forward = Every
route_of Hash = Lanes 1 0
route_of Broadcast = Every

all_lanes : (route : EdgeRoute) → TakesAll (route_of route)
all_lanes Forward lane = refl
all_lanes Hash lane = let none : lane % 1 ≡ 0 = omega arith in eq-eqb (lane % 1) 0 none
all_lanes Broadcast lane = refl

abbrev ones : List ℕ
ones = 1 ∷ 1 ∷ 1 ∷ []

first_channel : (route : EdgeRoute) → edge_channels ones (edge_on 0 route) ≡ line_channel 0 (route_of route) ∷ []
first_channel Forward = refl
first_channel Hash = refl
first_channel Broadcast = refl

second_channel : (route : EdgeRoute) → edge_channels ones (edge_on 1 route) ≡ line_channel 1 (route_of route) ∷ []
second_channel Forward = refl
second_channel Hash = refl
second_channel Broadcast = refl

pub line_expands : (job : Job) (graph : Expanded) → IsLineJob job → Expands job graph → IsLine graph
line_expands job graph is expands = record {
  tasks =
      roles_of graph.tasks
      (expands.tasks ∙ ap (λ (vs : List Vertex). flat_map subtasks_of vs) is.vertices ∙ ap (λ k. kind_of source ∷ k ∷ kind_of sink ∷ []) (operator_kind is.kind is.is_operator_kind))
      expands.numbered;
  first = route_of is.first;
  second = route_of is.second;
  channels =
      expands.channels ∙ ap₂ (λ (vs : List Vertex) (es : List EdgeSpec). flat_map (edge_channels (parallelisms_of vs)) es) is.vertices is.edges
      ∙ ap₂ (λ (a b : List Channel). a ++ (b ++ [])) (first_channel is.first) (second_channel is.second);
  first_takes = all_lanes is.first;
  second_takes = all_lanes is.second;
}
