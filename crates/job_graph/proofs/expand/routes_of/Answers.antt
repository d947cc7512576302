use Rattle.std.proofs.Common.{◌≤◌, length, ap, arith}
use Rattle.std.proofs.lemmas.List.{length-map}
use Rattle.job_spec.specs.Job.{Vertex}
use Rattle.job_graph.proofs.Ends.{ends_within}
use Rattle.job_graph.proofs.expand.routes_of.Goals as goal

pub channels-requires-clause-ends : goal.channels-requires-clause-ends
channels-requires-clause-ends c =
    let few : length c.args.job.now.vertices ≤ length c.args.parallelisms.now = omega (arith, ap length c.requires.parallelisms, length-map c.args.job.now.vertices (λ (v : Vertex). v.parallelism)) in
    rw c.edges-edges.ensures.value (ends_within c.args.job.now (length c.args.parallelisms.now) c.edges-edges.ensures.job few)
