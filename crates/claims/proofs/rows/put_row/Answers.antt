use Rattle.std.proofs.Common.{◌≡◌, ◌⊎◌, inl, inr, sym, ap, ◌∙◌, refl}
use Rattle.std.proofs.lemmas.Bool.{false≢true}
use Rattle.commit_sink.specs.Ledger.{appended}
use Rattle.engine_model.specs.Language.{language}
use Rattle.claims.proofs.Holdings.{memory_leaves}
use Rattle.claims.proofs.RowsBehind.{due_there, other_not_due, row_taken, row_failed, device_failed}
use Rattle.claims.proofs.rows.put_row.Goals as goal

-- another record stands at the place
pub returns-then-not-is_record-clause-ends : goal.returns-then-not-is_record-clause-ends
returns-then-not-is_record-clause-ends g c = λ operators.
    let lang = language g.O.Operator.meaning g.O.Key.Ord.cmp g.O.Record.Codec.spelling g.O.Record.Codec.reading g.O.Key.Codec.reading g.O.State.Codec.reading in
    (other_not_due lang c.args.graph.now operators c.args.task c.args.input c.args.place.0 c.args.attempt.now c.args.index c.requires.sinks.0 c.args.row.now c.requires.within (λ is. false≢true (sym c.if-not-is_record.true ∙ c.is_record.ensures.1 is)), refl, refl)

pub returns-in-Ok-clause-ends : goal.returns-in-Ok-clause-ends
returns-in-Ok-clause-ends g c = λ operators.
    let lang = language g.O.Operator.meaning g.O.Key.Ord.cmp g.O.Record.Codec.spelling g.O.Record.Codec.reading g.O.Key.Codec.reading g.O.State.Codec.reading in
    let at = c.requires.sinks in
    let leads = c.is_record.ensures.0 c.if-not-is_record.false in
    let old = g.X.Transactions.state c.args.transactions.now in
    let new = g.X.Transactions.state c.append.new.self in
    let one = ((at.0).sink).open_one in
    let told = c.in-Ok.ensures.ends.1 in
    let appends : new ≡ appended old one (lang.spelling c.args.row.now) = told ∙ ap (λ n. appended old n c.args.bytes.items) (sym at.1) ∙ ap (appended old one) c.requires.spelled in
    row_taken lang c.args.graph.now operators c.args.task c.args.input c.args.place.0 c.args.attempt.now c.args.index at.0 c.args.row.now leads old new c.requires.unlogged appends

pub returns-in-Err-Memory-clause-ends : goal.returns-in-Err-Memory-clause-ends
returns-in-Err-Memory-clause-ends g c = λ operators.
    let lang = language g.O.Operator.meaning g.O.Key.Ord.cmp g.O.Record.Codec.spelling g.O.Record.Codec.reading g.O.Key.Codec.reading g.O.State.Codec.reading in
    let leads = c.is_record.ensures.0 c.if-not-is_record.false in
    (due_there lang c.args.graph.now operators c.args.task c.args.input c.args.place.0 c.args.attempt.now c.args.index c.requires.sinks.0 c.args.row.now leads, refl, memory_leaves _ _ _ _ c.in-Err-Memory.field-0 c.in-Err-Memory.field-0-is c.in-Err-Memory.ensures.ends)

pub returns-in-Err-clause-ends : goal.returns-in-Err-clause-ends
returns-in-Err-clause-ends g c = λ operators.
    let lang = language g.O.Operator.meaning g.O.Key.Ord.cmp g.O.Record.Codec.spelling g.O.Record.Codec.reading g.O.Key.Codec.reading g.O.State.Codec.reading in
    let at = c.requires.sinks in
    let leads = c.is_record.ensures.0 c.if-not-is_record.false in
    let old = g.X.Transactions.state c.args.transactions.now in
    let new = g.X.Transactions.state c.append.new.self in
    let one = ((at.0).sink).open_one in
    let told = device_failed _ _ _ _ c.in-Err.field-0 c.requires.is_open c.in-Err.ensures.ends in
    let either : (new ≡ old) ⊎ (new ≡ appended old one (lang.spelling c.args.row.now)) = elim told [
      | inl same ↦ inl same
      | inr done ↦ inr (done ∙ ap (λ n. appended old n c.args.bytes.items) (sym at.1) ∙ ap (appended old one) c.requires.spelled)
    ] in
    row_failed lang c.args.graph.now operators c.args.task c.args.input c.args.place.0 c.args.attempt.now c.args.index at.0 c.args.row.now leads old new either
