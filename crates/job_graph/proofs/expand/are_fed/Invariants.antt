use Rattle.std.proofs.Common.{◌≡◌, ℕ, ◌<◌, true}
use Rattle.job_graph.specs.Expansion.{is_fed}
use Rattle.job_graph.proofs.expand.are_fed.Given as goal

abbrev pub invariant-loop-vertex : goal.invariant-loop-vertex
invariant-loop-vertex l = (i : ℕ) → i < l.vertex → is_fed l.job i ≡ true
