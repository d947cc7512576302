use Rattle.std.proofs.Common.{Err, slice_get, refl, sym, ap, ◌∙◌}
use Rattle.std.proofs.lemmas.Bool.{false≢true}
use Rattle.claims.proofs.Dues.{takes_outcomes}
use Rattle.engine_model.proofs.RulesOf.{rules_of}
use Rattle.claims.proofs.accepts.accept_outcomes.Goals as goal

-- the work is not due
pub returns-in_default-clause-ends : goal.returns-in_default-clause-ends
returns-in_default-clause-ends g c = λ ledger. (λ due. c.in_default.ensures.none due.0 due.1, refl, refl)

pub operate-requires : goal.operate-requires
operate-requires g c = λ lifetimes lives.
    let on = c.in-Some.ensures.some in
    (lives.0, (lives.1.0, (lives.1.1.0, (lives.1.1.1, ((c.args.operators.now, on.0, c.requires.serves.1.shape, on.1), (c.requires.operand, (c.requires.outcomes, refl)))))))

pub returns-in-Ok-clause-ends : goal.returns-in-Ok-clause-ends
returns-in-Ok-clause-ends g c = λ ledger.
    let on = c.in-Some.ensures.some.1 in
    takes_outcomes (rules_of g.O.Operator g.O.Key.Ord g.O.Record.Codec g.O.Key.Codec g.O.State.Codec) c.args.graph.now c.args.operators.now c.args.task c.args.input c.args.attempt.now c.in-Some.channel _ ledger c.args.operand.now
    (record {
      number = on.number;
      entries = c.in-Some.ensures.some.0;
      is_operator = on.is_operator;
      same_operator = on.same_operator;
      leads = on.leads;
      first = on.first;
      was = on.was;
      same_states = c.in-Ok.ensures.same c.in-Some.ensures.some.0 on.was;
    })
    c.requires.operand c.in-Ok.ensures.ok tt

-- the task has other states
pub returns-in-Err-Changed-clause-ends : goal.returns-in-Err-Changed-clause-ends
returns-in-Err-Changed-clause-ends g c = λ ledger.
    (λ due. c.in-Err-Changed.ensures.changed due.1.entries due.1.was (ap (λ f. Err f) c.in-Err-Changed.field-0-is) due.1.same_states, c.in-Err-Changed.ensures.err, refl)

-- memory is refused
pub returns-then-has_states-clause-ends : goal.returns-then-has_states-clause-ends
returns-then-has_states-clause-ends g c = λ ledger.
    let on = c.in-Some.ensures.some.1 in
    let held = ap (λ h. slice_get h.tasks c.args.task) c.in-Err-Memory.ensures.err ∙ on.was in (
      (
        c.in-Some.channel,
        record {
          number = on.number;
          entries = c.in-Some.ensures.some.0;
          is_operator = on.is_operator;
          same_operator = on.same_operator;
          leads = on.leads;
          first = on.first;
          was = on.was;
          same_states = (c.has_states.ensures c.in-Some.ensures.some.0 held).0 c.if-has_states.true;
        },
      ),
      c.in-Err-Memory.ensures.err,
      refl,
    )

pub returns-else-has_states-clause-ends : goal.returns-else-has_states-clause-ends
returns-else-has_states-clause-ends g c = λ ledger.
    let err = c.in-Err-Memory.ensures.err in (
      λ due. false≢true (sym c.if-has_states.false ∙ (c.has_states.ensures due.1.entries (ap (λ h. slice_get h.tasks c.args.task) err ∙ due.1.was)).1 due.1.same_states),
      err,
      refl,
    )
