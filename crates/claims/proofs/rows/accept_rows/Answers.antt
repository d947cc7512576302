use Rattle.std.proofs.Common.{◌≡◌, ℕ, None, inl, sym, ap, subst, ◌∙◌}
use Rattle.commit_sink.specs.Ledger.{open_refusal}
use Rattle.commit_sink.specs.Sink.{Sinking}
use Rattle.job_graph.specs.declared.role.Role.TheVariants as role
use Rattle.engine_model.proofs.Numbers.{channel_in}
use Rattle.claims.proofs.Dues.{within_gates}
use Rattle.claims.proofs.Serving.{holds_sink}
use Rattle.claims.proofs.SinkRows.{same_sink}
use Rattle.claims.proofs.rows.accept_rows.Goals as goal

pub logs_input-requires : goal.logs_input-requires
logs_input-requires g c =
    let at = c.in-Some.ensures.some in
    within_gates c.args.graph.now c.args.attempt.now (c.requires.serves.1).shape.gate_fits c.args.task c.args.input c.in-Some.place.0 (role.Sink (at.0).subtask) (at.0).is_sink (at.0).leads

pub take_each-requires-clause-within : goal.take_each-requires-clause-within
take_each-requires-clause-within g c =
    let at = c.in-Some.ensures.some in
    within_gates c.args.graph.now c.args.attempt.now (c.requires.serves.1).shape.gate_fits c.args.task c.args.input c.in-Some.place.0 (role.Sink (at.0).subtask) (at.0).is_sink (at.0).leads

pub take_each-requires-clause-logs : goal.take_each-requires-clause-logs
take_each-requires-clause-logs g c =
    let at = c.in-Some.ensures.some in
    channel_in c.args.graph.now c.args.task c.args.input c.in-Some.place.0 c.args.attempt.now.logs (at.0).leads (c.requires.serves.1).shape.logs

-- the sink's transaction is open
pub take_each-requires-clause-is_open : goal.take_each-requires-clause-is_open
take_each-requires-clause-is_open g c =
    let at = c.in-Some.ensures.some in
    let held = holds_sink _ _ _ _ _ c.requires.serves.1 c.args.task (at.0).subtask (at.0).is_sink in
    let one = ap (λ (s : Sinking). s.open_one) (same_sink held.0 (at.0).sink (sym held.1 ∙ (at.0).was)) ∙ at.1 in
    subst (λ (n : ℕ). open_refusal (g.X.Transactions.state c.args.transactions.now) n ≡ None) one held.2

pub put_all-count-requires-clause-unlogged : goal.put_all-count-requires-clause-unlogged
put_all-count-requires-clause-unlogged g c = sym c.logs_input.ensures ∙ c.if-logs_input.false

pub put_all-count-requires-clause-is_open : goal.put_all-count-requires-clause-is_open
put_all-count-requires-clause-is_open g c =
    let at = c.in-Some.ensures.some in
    let held = holds_sink _ _ _ _ _ c.requires.serves.1 c.args.task (at.0).subtask (at.0).is_sink in
    let one = ap (λ (s : Sinking). s.open_one) (same_sink held.0 (at.0).sink (sym held.1 ∙ (at.0).was)) ∙ at.1 in
    subst (λ (n : ℕ). open_refusal (g.X.Transactions.state c.args.transactions.now) n ≡ None) one held.2

pub returns-then-logs_input-clause-ends : goal.returns-then-logs_input-clause-ends
returns-then-logs_input-clause-ends g c = λ operators. inl (c.in-Some.place.0, (c.in-Some.ensures.some).0, c.take_each.ensures.ends operators)
