use Rattle.std.proofs.Common.{◌<◌, ◌+◌, arith, sym, subst, ◌∙◌}
use Rattle.engine_model.proofs.Numbers.{sink_within}
use Rattle.engine_model.proofs.Calls.Restarts.{restart_withdraws}
use Rattle.engine_model.specs.RestartLaws.{OperatorsAreLawful}
use Rattle.engine.proofs.Raising.{none_is, raised_by, number_bad, restart_kept, restart_sound, restart_goes_on, cut_by, not_bad}
use Rattle.engine.proofs.Counting.{restart_counted}
use Rattle.engine_model.proofs.RulesOf.{rules_of}
use Rattle.engine.proofs.calls.Engine.restart.Goals as goal

pub restarted-outcome-requires : goal.restarted-outcome-requires
restarted-outcome-requires g c = record {
  sinks = λ task subtask at. subst (λ n. subtask < n) (sym c.self.invariant.subtasks) (sink_within c.self.inside.graph c.self.invariant.expanded task subtask at);
}

pub invariant_of-self : goal.invariant_of-self
invariant_of-self g c =
    let down = none_is c.self.inside.attempt (sym c.is_some.ensures ∙ c.if-is_some.false) in
    let ledger = g.X.Transactions.state c.restarted-outcome.new.transactions in
    rw (c.restarted-outcome.ensures.same, c.raise.ensures.holds, raised_by c.restarted-outcome.result c.self.inside.attempt down)
    (restart_kept (rules_of g.O.Operator g.O.Key.Ord g.O.Record.Codec g.O.Key.Codec g.O.State.Codec) _ c.self.invariant down ledger _ _ c.restarted-outcome.result (rw (← c.deref.ensures.value) c.restarted-outcome.ensures.ends))

pub returns-clause-sound : goal.returns-clause-sound
returns-clause-sound g c =
    let down = none_is c.self.inside.attempt (sym c.is_some.ensures ∙ c.if-is_some.false) in
    let ledger = g.X.Transactions.state c.restarted-outcome.new.transactions in
    rw (← c.self.view_is, c.restarted-outcome.ensures.same, c.raise.ensures.holds, raised_by c.restarted-outcome.result c.self.inside.attempt down)
    (λ sound. restart_sound (rules_of g.O.Operator g.O.Key.Ord g.O.Record.Codec g.O.Key.Codec g.O.State.Codec) _ c.self.invariant down ledger _ _ sound c.restarted-outcome.result (rw (← c.deref.ensures.value) c.restarted-outcome.ensures.ends))

pub returns-clause-goes : goal.returns-clause-goes
returns-clause-goes g c =
    let down = none_is c.self.inside.attempt (sym c.is_some.ensures ∙ c.if-is_some.false) in
    let ledger = g.X.Transactions.state c.restarted-outcome.new.transactions in
    rw (← c.self.view_is, c.restarted-outcome.ensures.same, c.raise.ensures.holds, raised_by c.restarted-outcome.result c.self.inside.attempt down)
    (λ sound. restart_goes_on (rules_of g.O.Operator g.O.Key.Ord g.O.Record.Codec g.O.Key.Codec g.O.State.Codec) _ c.self.invariant down ledger 0 0 sound c.restarted-outcome.result (rw (← c.deref.ensures.value) c.restarted-outcome.ensures.ends))

pub returns-clause-begins : goal.returns-clause-begins
returns-clause-begins g c = λ subtask.
    rw (← c.self.view_is)
    (restart_withdraws (rules_of g.O.Operator g.O.Key.Ord g.O.Record.Codec g.O.Key.Codec g.O.State.Codec) _ c.self.invariant (g.X.Transactions.state c.restarted-outcome.new.transactions) c.restarted-outcome.result subtask (rw (← c.deref.ensures.value) c.restarted-outcome.ensures.ends))

pub returns-clause-cut : goal.returns-clause-cut
returns-clause-cut g c =
    let down = none_is c.self.inside.attempt (sym c.is_some.ensures ∙ c.if-is_some.false) in
    let ledger = g.X.Transactions.state c.restarted-outcome.new.transactions in
    rw (← c.self.view_is, c.restarted-outcome.ensures.same, c.raise.ensures.number, c.raise.ensures.holds, raised_by c.restarted-outcome.result c.self.inside.attempt down)
    (λ sound. cut_by (rules_of g.O.Operator g.O.Key.Ord g.O.Record.Codec g.O.Key.Codec g.O.State.Codec) _ c.self.invariant down ledger _ _ sound c.restarted-outcome.result (rw (← c.deref.ensures.value) c.restarted-outcome.ensures.ends))

pub returns-clause-good : goal.returns-clause-good
returns-clause-good g c =
    let down = none_is c.self.inside.attempt (sym c.is_some.ensures ∙ c.if-is_some.false) in
    let ledger = g.X.Transactions.state c.restarted-outcome.new.transactions in
    let o = g.met.O.Operator in
    let laws : OperatorsAreLawful (rules_of g.O.Operator g.O.Key.Ord g.O.Record.Codec g.O.Key.Codec g.O.State.Codec) =
    record { same_key = o.same_key; exact = o.key_is_exact; keys = o.key_fits; fresh = o.fresh_is_good; states = o.state_stays_good; sent = o.sent_fits } in
    rw (← c.self.view_is, c.raise.ensures.number)
    (λ sound. number_bad c.restarted-outcome.result
    (not_bad (rules_of g.O.Operator g.O.Key.Ord g.O.Record.Codec g.O.Key.Codec g.O.State.Codec) _ c.self.invariant down sound laws c.count.ensures.fit ledger c.restarted-outcome.result (rw (← c.deref.ensures.value) c.restarted-outcome.ensures.ends)))

pub returns-clause-counted : goal.returns-clause-counted
returns-clause-counted g c =
    let P = g.P.Partitions in
    let S = g.S.SnapshotStore in
    let X = g.X.Transactions in
    let s = c.self.inside in
    let new = c.restarted-outcome.new in
    rw (← c.self.view_is, c.raise.ensures.number)
    (restart_counted (rules_of g.O.Operator g.O.Key.Ord g.O.Record.Codec g.O.Key.Codec g.O.State.Codec) s.graph s.operators.items (P.records s.log) (S.state s.store) (X.state s.transactions) (X.state new.transactions)
    (P.fault_count s.log + S.fault_count s.store + X.fault_count s.transactions) (P.fault_count s.log + S.fault_count new.store + X.fault_count new.transactions) c.restarted-outcome.result (rw (← c.deref.ensures.value) c.restarted-outcome.ensures.ends)
    (λ is. omega (arith, c.restarted-outcome.ensures.counted is)) (λ other. (let told = c.restarted-outcome.ensures.told other in omega (arith, told.0, told.1))))
