-- The vertices of edges and orders.
use Rattle.std.proofs.Common.{◌≡◌, ℕ, ◌^◌, ◌<◌, ◌≤◌, ltb, List, length, get_or, sum, All, ap, subst, arith}
use Rattle.std.proofs.lemmas.Bool.{ltb-true, and_parts}
use Rattle.std.proofs.lemmas.Option.{slice_get_within, get_or_from_slice_get, slice_get-get_or}
use Rattle.job_spec.specs.Job.{Job, IsJob, Vertex}
use Rattle.job_spec.specs.declared.edge.EdgeSpec.{EdgeSpec}
use Rattle.std.specs.List.{flat_map}
use Rattle.job_graph.specs.Expansion.{parallelisms_of, subtasks_of}
use Rattle.job_graph.specs.Order.{IsInOrder}
use Rattle.job_graph.proofs.TaskLemmas.{length-subtasks}

-- the ends of edges are vertices
pub ends_within : (job : Job) (n : ℕ) → IsJob job → length job.vertices ≤ n → All (λ (e : EdgeSpec). (e.from < n) × (e.to < n)) job.edges
ends_within job n is_job few = λ k d within.
    let edge = is_job.edges k d within in
    let from = slice_get_within job.vertices (get_or job.edges k d).from edge.sender edge.from in
    let to = slice_get_within job.vertices (get_or job.edges k d).to edge.receiver edge.to in
    (omega arith, omega arith)

pub order_within : (n : ℕ) (es : List EdgeSpec) (order : List ℕ) → IsInOrder n es order → All (λ u. u < n) order
order_within n es order in_order = λ k d within.
    let next = in_order k within in
    let left = and_parts _ _ next.ready in
    let below = ltb-true (get_or order k 0) n (and_parts (ltb (get_or order k 0) n) _ left.0).0 in
    let same : get_or order k 0 ≡ get_or order k d = get_or_from_slice_get order k (get_or order k d) 0 (slice_get-get_or order k d within) in
    subst (λ u. u < n) same below

-- few tasks have a small sum of parallelisms
pub sum_small : (vs : List Vertex) (ps : List ℕ) → ps ≡ parallelisms_of vs → length (flat_map subtasks_of vs) ≤ 256 → sum ps < 2 ^ 31
sum_small vs ps same few =
    let sums = ap sum same in
    let len = length-subtasks vs in
    let small : sum ps ≤ 256 = omega arith in
    omega arith
