use Rattle.std.proofs.Common.{length, sym, ap, ◌∙◌, arith}
use Rattle.alignment.specs.Table.{is_logged}
use Rattle.job_state.specs.Inside.{gate_in}
use Rattle.job_state.proofs.Holds.{unlogged}
use Rattle.job_state.proofs.attempt.Attempt.unlog.Goals as goal

pub returns-then-is_logged : goal.returns-then-is_logged
returns-then-is_logged g c = λ before row is.
    let logs_it = ap (λ gates. is_logged (gate_in gates c.args.task) c.args.input) (sym c.deref.ensures.value) ∙ sym c.is_logged.ensures ∙ c.if-is_logged.true in
    unlogged c.args.task c.args.input c.args.channel row _ c.args.self.now before _ _ c.self.view_is is logs_it (omega (arith, c.requires.logs, ap (λ h. length h.logs) c.self.view_is)) c.drop_last.ensures.came c.drop_last.ensures.logged
