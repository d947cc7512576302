use Rattle.claims.proofs.accepts.accept.Goals as goal

pub returns-in-Operator-clause-ends : goal.returns-in-Operator-clause-ends
returns-in-Operator-clause-ends g c =
    rw (← c.worked.view_is, c.in-Operator.is, ← c.in-Operator.solved-is, ← c.solved.view_is, ← c.deref_mut-sheet.ensures.value)
    (c.accept_outcomes-end.ensures.ends (g.X.Transactions.state c.args.transactions.now))

pub returns-in-Sink-clause-ends : goal.returns-in-Sink-clause-ends
returns-in-Sink-clause-ends g c = rw (← c.worked.view_is, c.in-Sink.is, ← c.in-Sink.row-is) (c.accept_row.ensures.ends c.args.operators.now)
