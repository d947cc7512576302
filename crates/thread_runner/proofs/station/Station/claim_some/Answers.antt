use Rattle.dataflow_core.specs.declared.held.Claim.{Claim}
use Rattle.thread_runner.proofs.Keeping.{claim_kept}
use Rattle.thread_runner.proofs.station.Station.claim_some.Goals as goal

pub invariant_of-self : goal.invariant_of-self
invariant_of-self g c =
    let claim : Claim = record { serial = c.self.inside.core.serials; task = c.args.task; input = c.args.input } in
    claim_kept _ _ _ _ claim c.claim_some.result c.claim_some.ensures.ok c.claim_some.ensures.err (λ job held. held.3) (λ fault held. held.1) c.self.invariant
