use Rattle.std.proofs.Common.{sym, ◌∙◌}
use Rattle.std.proofs.lemmas.Bool.{false≢true}
use Rattle.claims.proofs.due.operand_channel.Goals as goal

pub returns-then-has_states-clause-some : goal.returns-then-has_states-clause-some
returns-then-has_states-clause-some g c =
    let entries = c.in-Some.ensures.some.0 in
    let on = c.in-Some.ensures.some.1 in
    record {
      number = on.number;
      entries = entries;
      is_operator = on.is_operator;
      same_operator = on.same_operator;
      leads = on.leads;
      first = on.first;
      was = on.was;
      same_states = (c.has_states.ensures entries on.was).0 c.if-has_states.true;
    }

pub returns-else-has_states-clause-none : goal.returns-else-has_states-clause-none
returns-else-has_states-clause-none g c = λ channel due.
    false≢true (sym c.if-has_states.false ∙ (c.has_states.ensures due.entries due.was).1 due.same_states)

pub returns-in_default-clause-none : goal.returns-in_default-clause-none
returns-in_default-clause-none g c = c.in_default.ensures.none
