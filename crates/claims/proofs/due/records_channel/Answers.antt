use Rattle.std.proofs.Common.{Some, sym, ap, subst, ◌∙◌}
use Rattle.std.proofs.lemmas.Bool.{false≢true}
use Rattle.job_graph.specs.declared.role.Role.TheVariants as role
use Rattle.job_state.specs.Batch.{StandFirst}
use Rattle.claims.proofs.Dues.{within_gates}
use Rattle.claims.proofs.due.records_channel.Goals as goal

pub returns-then-has_records-clause-some : goal.returns-then-has_records-clause-some
returns-then-has_records-clause-some g c =
    let at = (sym c.role.ensures ∙ (c.in-Some-Operator.is ∙ ap Some c.in-Some-Operator.field-0-is)) in
    let held = c.requires.shape.forms c.args.task (role.Operator c.in-Some-Operator.number) at in (
      held.0,
      record {
        number = c.in-Some-Operator.number;
        is_operator = at;
        same_operator = c.is_operator.ensures.0 c.if-is_operator.true;
        leads = sym c.input_of.ensures ∙ c.in-Some.is;
        first = (λ blocked. false≢true (sym c.if-not-is_blocked.true ∙ c.is_blocked.ensures ∙ blocked), subst (λ rows. StandFirst c.in-Some.channel rows c.args.attempt.now) c.deref.ensures.value (c.has_records.ensures.0 c.if-has_records.true));
        was = held.1;
      },
    )

pub is_blocked-requires : goal.is_blocked-requires
is_blocked-requires g c =
    within_gates c.args.graph.now c.args.attempt.now c.requires.shape.gate_fits c.args.task c.args.input c.in-Some.channel (role.Operator c.in-Some-Operator.number) (sym c.role.ensures ∙ (c.in-Some-Operator.is ∙ ap Some c.in-Some-Operator.field-0-is)) (sym c.input_of.ensures ∙ c.in-Some.is)
