use Rattle.std.proofs.Common.{refl}
use Rattle.job_graph.specs.declared.role.Role.TheVariants as role
use Rattle.engine_model.proofs.Numbers.{channel_in}
use Rattle.claims.proofs.Dues.{within_gates}
use Rattle.claims.proofs.Serving.{holds_sink}
use Rattle.claims.proofs.accepts.accept_row.Goals as goal

-- the record is not due
pub returns-in_default-clause-ends : goal.returns-in_default-clause-ends
returns-in_default-clause-ends g c = λ operators. (λ due. c.in_default.ensures.none due.0 due.1, refl, refl)

pub put_bytes-requires-clause-within : goal.put_bytes-requires-clause-within
put_bytes-requires-clause-within g c =
    let due = c.in-Some.ensures.some in
    within_gates c.args.graph.now c.args.attempt.now c.requires.serves.1.shape.gate_fits c.args.task c.args.input c.in-Some.channel (role.Sink due.subtask) due.is_sink due.leads

pub put_bytes-requires-clause-logs : goal.put_bytes-requires-clause-logs
put_bytes-requires-clause-logs g c = channel_in c.args.graph.now c.args.task c.args.input c.in-Some.channel c.args.attempt.now.logs c.in-Some.ensures.some.leads c.requires.serves.1.shape.logs

pub put_bytes-requires-clause-holds : goal.put_bytes-requires-clause-holds
put_bytes-requires-clause-holds g c = holds_sink _ _ _ _ _ c.requires.serves.1 c.args.task c.in-Some.ensures.some.subtask c.in-Some.ensures.some.is_sink
