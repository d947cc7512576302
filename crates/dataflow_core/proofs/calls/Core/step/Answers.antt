use Rattle.std.proofs.Common.{refl}
use Rattle.dataflow_core.proofs.calls.Core.step.Goals as goal

pub returns-in-Claim-clause-ends : goal.returns-in-Claim-clause-ends
returns-in-Claim-clause-ends g c = rw c.in-Claim.is c.claim_at.ensures.ends

pub claim_at-requires-in-ClaimSome : goal.claim_at-requires-in-ClaimSome
claim_at-requires-in-ClaimSome g c = rw c.in-ClaimSome.is at c.requires

pub returns-in-ClaimSome-clause-ends : goal.returns-in-ClaimSome-clause-ends
returns-in-ClaimSome-clause-ends g c = rw c.in-ClaimSome.is c.claim_at-in-ClaimSome.ensures.ends

pub returns-in-Barrier-clause-ends : goal.returns-in-Barrier-clause-ends
returns-in-Barrier-clause-ends g c =
    rw c.in-Barrier.is (((c.take_barrier.result, c.copied.ensures, (c.take_barrier.ensures.ends, c.take_barrier.ensures.counted)), refl), c.take_barrier.ensures.claims)

pub returns-in-Append-clause-ends : goal.returns-in-Append-clause-ends
returns-in-Append-clause-ends g c = rw c.in-Append.is (c.append_copy.ensures.ends.0, refl)
