use Rattle.std.proofs.Common.{length, ap, length-append, arith}
use Rattle.job_graph.proofs.RoleLemmas.{numbered_push, kinds_push}
use Rattle.job_graph.proofs.tasks.roles.Goals as goal

pub loop-kind-preserved : goal.loop-kind-preserved
loop-kind-preserved c = record {
  len = omega (arith, simp length-append at (ap length c.in_ok-push.ensures.items));
  kinds = rw c.in_ok-push.ensures.items (kinds_push c.loop-kind.roles.items c.next_role-role.result c.args.kinds.now c.loop-kind.kind-index _ c.loop-kind-test.true c.next_role-role.ensures.kind c.loop-kind.invariant.kinds);
  numbered = rw c.in_ok-push.ensures.items (numbered_push c.loop-kind.roles.items c.next_role-role.result c.loop-kind.invariant.numbered (rw (← c.deref.ensures.value) c.next_role-role.ensures.number));
}
