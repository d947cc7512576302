use Rattle.std.proofs.Common.{◌≡◌, Bool, true, false, Some, sym, ap, ◌∙◌}
use Rattle.engine_model.specs.Calls.{IsBlocked}
use Rattle.job_graph.specs.declared.role.Role.TheVariants as role
use Rattle.claims.proofs.Dues.{within_gates}
use Rattle.claims.proofs.rows.place_of_sink.Goals as goal

pub is_blocked-requires : goal.is_blocked-requires
is_blocked-requires g c =
    let at = sym c.role.ensures ∙ (c.in-Some-Sink.is ∙ ap Some c.in-Some-Sink.field-0-is) in
    within_gates c.args.graph.now c.args.attempt.now c.requires.gates c.args.task c.args.input c.in_ok-channel.channel (role.Sink c.in-Some-Sink.field-0-0) at (sym c.input_of.ensures ∙ c.in_ok-channel.was)

pub returns-clause-some : goal.returns-clause-some
returns-clause-some g c =
    let at = sym c.role.ensures ∙ (c.in-Some-Sink.is ∙ ap Some c.in-Some-Sink.field-0-is) in
    let free : ¬ IsBlocked c.args.task c.args.input c.args.attempt.now = λ blocked. (let told : ◌≡◌ {A = Bool} true false = sym blocked ∙ sym c.is_blocked.ensures ∙ c.if-is_blocked.false in let none : ⊥ = cc in none) in
    (record { subtask = c.in-Some-Sink.field-0-0; sink = c.in_ok-sink.sink.now; is_sink = at; leads = sym c.input_of.ensures ∙ c.in_ok-channel.was; was = c.in_ok-sink.ensures.some; free = free }, sym c.open.ensures)
