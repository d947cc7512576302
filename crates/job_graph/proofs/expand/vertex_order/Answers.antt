use Rattle.std.proofs.Common.{◌≡◌, ℕ, length, false}
use Rattle.job_graph.specs.Order.{at, AreLeft}
use Rattle.job_graph.proofs.LeftVertices.{acyclic_unless_left}
use Rattle.job_graph.proofs.Ends.{order_within}
use Rattle.job_graph.proofs.Wholes.{whole_at_end}
use Rattle.job_graph.proofs.expand.vertex_order.Goals as goal

pub returns-clause-acyclic : goal.returns-clause-acyclic
returns-clause-acyclic c =
    let left = c.in_ok-order.left.items in
    let are : AreLeft (length c.args.job.now.vertices) c.args.job.now.edges (at left) = rw (← c.vertices.ensures.count, ← c.edges.ensures.value) c.in_ok-order.ensures.left in
    let none : (v : ℕ) → at left v ≡ false = rw (← c.deref.ensures.value) c.if-any_left.ensures in
    acyclic_unless_left (length c.args.job.now.vertices) c.args.job.now.edges left are none

pub returns-clause-whole : goal.returns-clause-whole
returns-clause-whole c = λ f.
    let none : (v : ℕ) → at c.in_ok-order.left.items v ≡ false = rw (← c.deref.ensures.value) c.if-any_left.ensures in
    rw (← c.vertices.ensures.count) (whole_at_end f c.vertices.result c.in_ok-order.left.items c.in_ok-order.order.items none (c.in_ok-order.ensures.whole f))

pub returns-clause-within : goal.returns-clause-within
returns-clause-within c = rw (← c.vertices.ensures.count) (order_within c.vertices.result c.edges.result.now c.in_ok-order.order.items c.in_ok-order.ensures.order)
