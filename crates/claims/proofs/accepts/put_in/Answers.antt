use Rattle.std.proofs.Common.{◌<◌, length, sym, subst}
use Rattle.alignment.specs.Table.{is_logged}
use Rattle.job_state.specs.Held.{gate_at}
use Rattle.claims.proofs.Holdings.{memory_leaves, logged_length}
use Rattle.claims.proofs.accepts.put_in.Goals as goal

-- a record that is logged changes no gate, and not how many logs there are
pub unlog-requires-clause-within : goal.unlog-requires-clause-within
unlog-requires-clause-within g c =
    let logged = c.in_ok-log_head.ensures.ok c.requires.first.0 c.requires.first.1.1 in
    subst (λ h. c.args.input < length (gate_at h c.args.task).inputs) (sym logged) c.requires.within

pub unlog-requires-clause-logs : goal.unlog-requires-clause-logs
unlog-requires-clause-logs g c =
    let before = c.args.attempt.now in
    let logged = c.in_ok-log_head.ensures.ok c.requires.first.0 c.requires.first.1.1 in
    subst (λ h. c.args.channel < length h.logs) (sym logged) (subst (λ n. c.args.channel < n) (sym (logged_length (is_logged (gate_at before c.args.task) c.args.input) c.args.channel c.requires.first.0 before.logs)) c.requires.logs)

-- the record is not logged again
pub returns-in-Err-Memory-clause-ends : goal.returns-in-Err-Memory-clause-ends
returns-in-Err-Memory-clause-ends g c =
    let row = c.requires.first.0 in
    let first = c.requires.first.1 in
    (row, first, c.unlog.ensures c.args.attempt.now row (c.in_ok-log_head.ensures.ok row first.1), memory_leaves _ _ _ _ c.in-Err-Memory.field-0 c.in-Err-Memory.field-0-is c.in-Err-Memory.ensures.ends)
