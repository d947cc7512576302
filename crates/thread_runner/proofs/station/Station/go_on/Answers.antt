use Rattle.std.proofs.Common.{rules}
use Rattle.row_publishing.proofs.Shown.{shows_kept}
use Rattle.thread_runner.proofs.station.Station.go_on.Goals as goal

pub invariant_of-self : goal.invariant_of-self
invariant_of-self g c = (search rules, shows_kept _ _ _ _ c.claim_on.ensures.step c.self.invariant.1)
