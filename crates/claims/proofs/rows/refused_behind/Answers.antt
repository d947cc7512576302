use Rattle.std.proofs.Common.{Err, refl, sym, subst, ◌∙◌}
use Rattle.std.proofs.lemmas.Bool.{false≢true}
use Rattle.engine_model.specs.Language.{language}
use Rattle.engine_model.specs.declared.fault.CoreFault.TheVariants.{Memory, WrongResult}
use Rattle.claims.specs.Due.{EndsRefused}
use Rattle.claims.specs.Rows.{with_taken}
use Rattle.claims.specs.declared.parts.Given.{Given}
use Rattle.claims.proofs.RowsBehind.{due_there, other_not_due}
use Rattle.claims.proofs.rows.refused_behind.Goals as goal

pub returns-then-is_record-clause-ends : goal.returns-then-is_record-clause-ends
returns-then-is_record-clause-ends g c = λ operators ledger.
    let lang = language g.O.Operator.meaning g.O.Key.Ord.cmp g.O.Record.Codec.spelling g.O.Record.Codec.reading g.O.Key.Codec.reading g.O.State.Codec.reading in
    let off = with_taken c.args.attempt.now c.args.channel c.args.index in
    let leads = c.is_record.ensures.0 c.if-is_record.true in
    subst (λ (x : Given g.row.O.Denot g.row.O-Key.Denot g.row.O-State.Denot g.row.O-Record.Denot). EndsRefused lang c.args.graph.now operators c.args.task c.args.input off off ledger ledger x (Err Memory)) (sym c.in-Sink.is)
    (due_there lang c.args.graph.now operators c.args.task c.args.input c.args.channel c.args.attempt.now c.args.index c.requires.sinks c.in-Sink.row leads, refl, refl)

pub returns-else-is_record-clause-ends : goal.returns-else-is_record-clause-ends
returns-else-is_record-clause-ends g c = λ operators ledger.
    let lang = language g.O.Operator.meaning g.O.Key.Ord.cmp g.O.Record.Codec.spelling g.O.Record.Codec.reading g.O.Key.Codec.reading g.O.State.Codec.reading in
    let off = with_taken c.args.attempt.now c.args.channel c.args.index in
    subst (λ (x : Given g.row.O.Denot g.row.O-Key.Denot g.row.O-State.Denot g.row.O-Record.Denot). EndsRefused lang c.args.graph.now operators c.args.task c.args.input off off ledger ledger x (Err WrongResult)) (sym c.in-Sink.is)
    (other_not_due lang c.args.graph.now operators c.args.task c.args.input c.args.channel c.args.attempt.now c.args.index c.requires.sinks c.in-Sink.row c.requires.within (λ is. false≢true (sym c.if-is_record.false ∙ c.is_record.ensures.1 is)), refl, refl)
