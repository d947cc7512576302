use Rattle.std.proofs.Common.{◌≡◌, Some, length, refl, sym, subst, ◌∙◌}
use Rattle.abs_codec.specs.Entries.{value_at}
use Rattle.abs_codec.specs.Spelling.{Fits}
use Rattle.operators.specs.Operator.{IsGoodState}
use Rattle.std.proofs.lemmas.Bool.{false≢true}
use Rattle.std.proofs.lemmas.Option.{slice_get_read}
use Rattle.engine_model.specs.Keeps.{LogsSuit}
use Rattle.recovery.proofs.Starting.{one_operator}
use Rattle.recovery.proofs.starts.operator_start.Goals.{else-are_good-via-then-are_good+else-logs_suit, else-are_good-via-else-are_good}
use Rattle.recovery.proofs.starts.operator_start.Goals as goal

pub returns-then-logs_suit-clause-some : goal.returns-then-logs_suit-clause-some
returns-then-logs_suit-clause-some g c =
    let at = slice_get_read c.args.operators.now (length c.args.operators.now) c.in-Operator.number c.in_ok-operator-in-Operator.operator.now refl (c.in_ok-operator-in-Operator.ensures.lookup.3.0) (c.in_ok-operator-in-Operator.ensures.lookup.1) in
    (refl, λ partitions. rw c.in-Operator.is (c.in_ok-operator-in-Operator.operator.now, at, c.are_good.ensures.0 c.if-are_good.true, subst (LogsSuit (Fits g.O.Record.Codec.HasSpelling g.O.Record.Codec.spelling) c.args.graph.now c.args.task) c.as_slice.ensures (c.logs_suit.ensures.0 c.if-logs_suit.true)))

pub returns-else-are_good-clause-none : goal.returns-else-are_good-clause-none
returns-else-are_good-clause-none g c = λ partitions.
    let at = slice_get_read c.args.operators.now (length c.args.operators.now) c.in-Operator.number c.in_ok-operator-in-Operator.operator.now refl (c.in_ok-operator-in-Operator.ensures.lookup.3.0) (c.in_ok-operator-in-Operator.ensures.lookup.1) in
    rw c.in-Operator.is (λ suits. elim c.else-are_good.branch [
      | else-are_good-via-then-are_good+else-logs_suit w ↦ false≢true (sym w.if-logs_suit.false ∙ w.logs_suit.ensures.1 (subst (LogsSuit (Fits g.O.Record.Codec.HasSpelling g.O.Record.Codec.spelling) c.args.graph.now c.args.task) (sym w.as_slice.ensures) suits.3))
      | else-are_good-via-else-are_good w ↦
          false≢true (sym w.if-are_good.false ∙ c.are_good.ensures.1 (one_operator c.args.operators.now c.in-Operator.number c.in_ok-operator-in-Operator.operator.now suits.0 at suits.1
          (λ (o : g.row.O.Denot). (key : g.row.O-Key.Denot) (state : g.row.O-State.Denot) → value_at g.O.Key.Ord.cmp c.args.states key ≡ Some state → Fits g.O.Key.Codec.HasSpelling g.O.Key.Codec.spelling key × IsGoodState (Fits g.O.State.Codec.HasSpelling g.O.State.Codec.spelling) g.O.Operator.Suits o state) suits.2))
    ])
