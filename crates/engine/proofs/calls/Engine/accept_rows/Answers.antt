use Rattle.std.proofs.Common.{◌+◌, [], refl, sym, arith, append-nil}
use Rattle.commit_sink.specs.Ledger.{committed_rows}
use Rattle.engine_model.proofs.Calls.Operates.{goes_on_of}
use Rattle.engine_model.specs.Language.{language}
use Rattle.engine.proofs.TakingRows.{rows_kept, rows_move, rows_counted}
use Rattle.engine.proofs.Plain.{withdraws}
use Rattle.engine_model.proofs.Sounds.{keeps_as_fresh, sound_as_fresh}
use Rattle.engine.proofs.calls.Engine.accept_rows.Goals as goal

pub invariant_of-self-2 : goal.invariant_of-self-2
invariant_of-self-2 g c =
    rw c.leave-end.ensures.left
    (rows_kept _ c.args.task c.args.input (λ operator. goes_on_of _ g.met.O.Operator.fresh_is_good g.met.O.Operator.state_stays_good g.met.O.Operator.sent_fits operator) _ c.args.ahead.items _ c.self.invariant c.in-Some.attempt c.accept_rows-count.new.attempt c.in-Some.is (g.X.Transactions.state c.accept_rows-count.new.transactions) _ _ (c.accept_rows-count.ensures.ends c.self.inside.operators.items) (g.met.X.Transactions.ordered c.accept_rows-count.new.transactions)).0

pub returns-in_default-clause-goes : goal.returns-in_default-clause-goes
returns-in_default-clause-goes g c = rw (← c.self.view_is) ([], refl)

pub returns-in_default-clause-begins : goal.returns-in_default-clause-begins
returns-in_default-clause-begins g c =
    rw (← c.self.view_is)
    (λ task subtask at. ([], sym (append-nil (committed_rows (g.X.Transactions.state c.self.inside.transactions) subtask))))

pub returns-clause-ends : goal.returns-clause-ends
returns-clause-ends g c =
    rw (← c.self.view_is, c.in-Some.is, c.leave-end.ensures.left, c.leave-end.ensures.answer)
    ((c.accept_rows-count.new.attempt, (c.accept_rows-count.ensures.ends c.self.inside.operators.items), refl), λ none. absurd cc)

pub returns-clause-goes : goal.returns-clause-goes
returns-clause-goes g c =
    rw (← c.self.view_is, c.leave-end.ensures.left)
    (rows_kept _ c.args.task c.args.input (λ operator. goes_on_of _ g.met.O.Operator.fresh_is_good g.met.O.Operator.state_stays_good g.met.O.Operator.sent_fits operator) 0 c.args.ahead.items _ c.self.invariant c.in-Some.attempt c.accept_rows-count.new.attempt c.in-Some.is (g.X.Transactions.state c.accept_rows-count.new.transactions) _ _ (c.accept_rows-count.ensures.ends c.self.inside.operators.items) (g.met.X.Transactions.ordered c.accept_rows-count.new.transactions)).1

pub returns-clause-sound : goal.returns-clause-sound
returns-clause-sound g c =
    rw (← c.self.view_is, c.leave-end.ensures.left)
    (λ sound. sound_as_fresh _ _ (rows_kept _ c.args.task c.args.input (λ operator. goes_on_of _ g.met.O.Operator.fresh_is_good g.met.O.Operator.state_stays_good g.met.O.Operator.sent_fits operator) _ c.args.ahead.items _ (keeps_as_fresh _ _ c.self.invariant sound) c.in-Some.attempt c.accept_rows-count.new.attempt c.in-Some.is (g.X.Transactions.state c.accept_rows-count.new.transactions) _ _ (c.accept_rows-count.ensures.ends c.self.inside.operators.items) (g.met.X.Transactions.ordered c.accept_rows-count.new.transactions)).0)

pub returns-clause-begins : goal.returns-clause-begins
returns-clause-begins g c =
    rw (← c.self.view_is)
    (withdraws _ _ c.self.invariant (g.X.Transactions.state c.accept_rows-count.new.transactions) _ 0 (g.met.X.Transactions.ordered c.accept_rows-count.new.transactions) (rows_kept _ c.args.task c.args.input (λ operator. goes_on_of _ g.met.O.Operator.fresh_is_good g.met.O.Operator.state_stays_good g.met.O.Operator.sent_fits operator) 0 c.args.ahead.items _ c.self.invariant c.in-Some.attempt c.accept_rows-count.new.attempt c.in-Some.is (g.X.Transactions.state c.accept_rows-count.new.transactions) _ _ (c.accept_rows-count.ensures.ends c.self.inside.operators.items) (g.met.X.Transactions.ordered c.accept_rows-count.new.transactions)).1)

pub returns-clause-plain : goal.returns-clause-plain
returns-clause-plain g c =
    rw (← c.self.view_is, c.leave-end.ensures.left)
    (rows_move _ c.args.task c.args.input (λ operator. goes_on_of _ g.met.O.Operator.fresh_is_good g.met.O.Operator.state_stays_good g.met.O.Operator.sent_fits operator) 0 c.args.ahead.items _ c.self.invariant c.in-Some.attempt c.accept_rows-count.new.attempt c.in-Some.is (g.X.Transactions.state c.accept_rows-count.new.transactions) _ _ (c.accept_rows-count.ensures.ends c.self.inside.operators.items))

pub returns-clause-counted : goal.returns-clause-counted
returns-clause-counted g c =
    let P = g.P.Partitions in
    let S = g.S.SnapshotStore in
    let X = g.X.Transactions in
    let s = c.self.inside in
    let new = c.accept_rows-count.new in
    rw (← c.self.view_is, c.leave-end.ensures.answer)
    (rows_counted (language g.O.Operator.meaning g.O.Key.Ord.cmp g.O.Record.Codec.spelling g.O.Record.Codec.reading g.O.Key.Codec.reading g.O.State.Codec.reading) s.graph s.operators.items c.args.task c.args.input (P.fault_count s.log + S.fault_count s.store + X.fault_count s.transactions) (P.fault_count s.log + S.fault_count s.store + X.fault_count new.transactions) c.args.ahead.items c.in-Some.attempt new.attempt (X.state s.transactions) (X.state new.transactions) _ _ (c.accept_rows-count.ensures.ends c.self.inside.operators.items)
    (λ is. omega (arith, c.accept_rows-count.ensures.counted is)) (λ other. omega (arith, c.accept_rows-count.ensures.told other)))
