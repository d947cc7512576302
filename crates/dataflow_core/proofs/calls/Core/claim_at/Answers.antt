use Rattle.std.proofs.Common.{rules, inl, inr, refl, ◌∙◌}
use Rattle.dataflow_core.proofs.calls.Core.claim_at.Goals.{in-Ok, in-Err}
use Rattle.dataflow_core.proofs.calls.Core.claim_at.Goals as goal

pub returns-clause-ends : goal.returns-clause-ends
returns-clause-ends g c = elim c.match-claim_some.branch [
  | in-Ok w ↦ rw (w.result-is, w.desk-inside-is) (inl (w.in-Ok.job, search rules, w.in-Ok.ensures.ok, search rules))
  | in-Err w ↦ rw (w.result-is, w.desk-inside-is) (inr (w.in-Err.fault, refl, w.in-Err.ensures.err.0, w.in-Err.ensures.err.1, (c.reserve.ensures.items ∙ c.desk.view_is)))
]
