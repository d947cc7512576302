use Rattle.std.proofs.Common.{◌+◌, [], sym, arith, append-nil}
use Rattle.commit_sink.specs.Ledger.{committed_rows}
use Rattle.engine_model.proofs.Calls.Operates.{goes_on_of}
use Rattle.engine_model.specs.Language.{language}
use Rattle.engine.proofs.Accepting.{accept_kept, accept_is_plain, accept_counted}
use Rattle.engine.proofs.Plain.{withdraws}
use Rattle.engine_model.proofs.Sounds.{keeps_as_fresh, sound_as_fresh}
use Rattle.engine.proofs.calls.Engine.accept.Goals as goal

pub invariant_of-self-2 : goal.invariant_of-self-2
invariant_of-self-2 g c =
    rw c.leave.ensures.left
    (accept_kept _ _ c.self.invariant c.in-Some.attempt c.accept-outcome.new.attempt c.in-Some.is (g.X.Transactions.state c.accept-outcome.new.transactions) c.args.task c.args.input c.args.worked c.accept-outcome.result (λ operator. goes_on_of _ g.met.O.Operator.fresh_is_good g.met.O.Operator.state_stays_good g.met.O.Operator.sent_fits operator) _ (rw (← c.deref.ensures.value) c.accept-outcome.ensures.ends) (g.met.X.Transactions.ordered c.accept-outcome.new.transactions)).0

pub returns-clause-goes : goal.returns-clause-goes
returns-clause-goes g c =
    rw (← c.self.view_is, c.leave.ensures.left)
    (accept_kept _ _ c.self.invariant c.in-Some.attempt c.accept-outcome.new.attempt c.in-Some.is (g.X.Transactions.state c.accept-outcome.new.transactions) c.args.task c.args.input c.args.worked c.accept-outcome.result (λ operator. goes_on_of _ g.met.O.Operator.fresh_is_good g.met.O.Operator.state_stays_good g.met.O.Operator.sent_fits operator) 0 (rw (← c.deref.ensures.value) c.accept-outcome.ensures.ends) (g.met.X.Transactions.ordered c.accept-outcome.new.transactions)).1

pub returns-clause-plain : goal.returns-clause-plain
returns-clause-plain g c =
    rw (← c.self.view_is, c.leave.ensures.left, c.leave.ensures.answer)
    (accept_is_plain _ _ c.self.invariant c.in-Some.attempt c.accept-outcome.new.attempt c.in-Some.is (g.X.Transactions.state c.accept-outcome.new.transactions) c.args.task c.args.input c.args.worked c.accept-outcome.result (λ operator. goes_on_of _ g.met.O.Operator.fresh_is_good g.met.O.Operator.state_stays_good g.met.O.Operator.sent_fits operator) _ (rw (← c.deref.ensures.value) c.accept-outcome.ensures.ends))

pub returns-clause-begins : goal.returns-clause-begins
returns-clause-begins g c =
    rw (← c.self.view_is)
    (withdraws _ _ c.self.invariant (g.X.Transactions.state c.accept-outcome.new.transactions) _ 0 (g.met.X.Transactions.ordered c.accept-outcome.new.transactions) (accept_kept _ _ c.self.invariant c.in-Some.attempt c.accept-outcome.new.attempt c.in-Some.is (g.X.Transactions.state c.accept-outcome.new.transactions) c.args.task c.args.input c.args.worked c.accept-outcome.result (λ operator. goes_on_of _ g.met.O.Operator.fresh_is_good g.met.O.Operator.state_stays_good g.met.O.Operator.sent_fits operator) 0 (rw (← c.deref.ensures.value) c.accept-outcome.ensures.ends) (g.met.X.Transactions.ordered c.accept-outcome.new.transactions)).1)

pub returns-in_default-clause-begins : goal.returns-in_default-clause-begins
returns-in_default-clause-begins g c =
    rw (← c.self.view_is)
    (λ task subtask at. ([], sym (append-nil (committed_rows (g.X.Transactions.state c.self.inside.transactions) subtask))))

pub returns-clause-sound : goal.returns-clause-sound
returns-clause-sound g c =
    rw (← c.self.view_is, c.leave.ensures.left)
    (λ sound. sound_as_fresh _ _ (accept_kept _ _ (keeps_as_fresh _ _ c.self.invariant sound) c.in-Some.attempt c.accept-outcome.new.attempt c.in-Some.is (g.X.Transactions.state c.accept-outcome.new.transactions) c.args.task c.args.input c.args.worked c.accept-outcome.result (λ operator. goes_on_of _ g.met.O.Operator.fresh_is_good g.met.O.Operator.state_stays_good g.met.O.Operator.sent_fits operator) _ (rw (← c.deref.ensures.value) c.accept-outcome.ensures.ends) (g.met.X.Transactions.ordered c.accept-outcome.new.transactions)).0)

pub returns-clause-counted : goal.returns-clause-counted
returns-clause-counted g c =
    let P = g.P.Partitions in
    let S = g.S.SnapshotStore in
    let X = g.X.Transactions in
    let s = c.self.inside in
    let new = c.accept-outcome.new in
    rw (← c.self.view_is, c.leave.ensures.answer)
    (accept_counted (language g.O.Operator.meaning g.O.Key.Ord.cmp g.O.Record.Codec.spelling g.O.Record.Codec.reading g.O.Key.Codec.reading g.O.State.Codec.reading) s.graph s.operators.items c.args.task c.args.input c.in-Some.attempt new.attempt (X.state s.transactions) (X.state new.transactions) (P.fault_count s.log + S.fault_count s.store + X.fault_count s.transactions) (P.fault_count s.log + S.fault_count s.store + X.fault_count new.transactions) c.args.worked c.accept-outcome.result (rw (← c.deref.ensures.value) c.accept-outcome.ensures.ends)
    (λ is. omega (arith, c.accept-outcome.ensures.counted is)) (λ other. omega (arith, c.accept-outcome.ensures.told other)))
