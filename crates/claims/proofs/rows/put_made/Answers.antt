use Rattle.std.proofs.Common.{Err, subst}
use Rattle.engine_model.specs.Language.{language}
use Rattle.claims.specs.Due.{EndsRefused}
use Rattle.claims.specs.Rows.{with_taken}
use Rattle.claims.specs.declared.parts.Given.{Given}
use Rattle.claims.proofs.rows.put_made.Goals as goal

pub returns-in-Sink-clause-ends : goal.returns-in-Sink-clause-ends
returns-in-Sink-clause-ends g c = rw (← c.worked.view_is, c.in-Sink.is, ← c.in-Sink.row-is) (λ operators. c.put_row.ensures.ends operators)

pub returns-clause-ends : goal.returns-clause-ends
returns-clause-ends g c =
    let lang = language g.O.Operator.meaning g.O.Key.Ord.cmp g.O.Record.Codec.spelling g.O.Record.Codec.reading g.O.Key.Codec.reading g.O.State.Codec.reading in
    let ledger = g.X.Transactions.state c.args.transactions.now in
    let off = with_taken c.args.attempt.now c.args.place.0 c.args.index in
    rw (← c.worked.view_is, c.in-Refused.is)
    (λ operators. subst (λ (x : Given g.row.O.Denot g.row.O-Key.Denot g.row.O-State.Denot g.row.O-Record.Denot). EndsRefused lang c.args.graph.now operators c.args.task c.args.input off off ledger ledger x (Err c.refused_behind.result)) c.in-Refused.given-is (c.refused_behind.ensures.ends operators ledger))
