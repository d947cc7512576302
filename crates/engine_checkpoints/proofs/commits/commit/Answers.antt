use Rattle.std.proofs.Common.{[], ◌∷◌, ◌++◌, refl, rules, arith}
use Rattle.engine_model.proofs.Ledger.Sinks.{commit_not_refused}
use Rattle.engine_model.proofs.Numbers.{sink_within}
use Rattle.engine_checkpoints.proofs.Rounds.{one_round, each_more, sinks_kept, fewer, ends_failed}
use Rattle.engine_checkpoints.proofs.commits.commit.Goals as goal

-- a subtask that is past the last is no task's
pub returns-in_default-clause-ends : goal.returns-in_default-clause-ends
returns-in_default-clause-ends g c =
    (λ task at. (let less = sink_within c.args.graph.now c.requires.expanded task c.args.subtask at in omega (arith, less, c.in_default.ensures.none)), refl, refl)

-- the next one is pre-committed
pub commit_oldest-requires : goal.commit_oldest-requires
commit_oldest-requires g c = λ sink p next. commit_not_refused (g.X.Transactions.state c.rounds.transactions) c.args.subtask sink p (c.rounds.invariant.sinks sink next.was) next.oldest

pub rounds-smaller : goal.rounds-smaller
rounds-smaller g c =
    let old = g.X.Transactions.state c.rounds.transactions in
    let new = g.X.Transactions.state c.commit_oldest.new.transactions in
    fewer c.in-Some.task c.rounds.attempt c.commit_oldest.new.attempt old new (one_round c.in-Some.task c.rounds.attempt c.commit_oldest.new.attempt old new c.in-Ok-true.field-0 c.in-Ok-true.field-0-test c.in-Ok-true.ensures.ends)

pub rounds-preserved : goal.rounds-preserved
rounds-preserved g c =
    let old = g.X.Transactions.state c.rounds.transactions in
    let new = g.X.Transactions.state c.commit_oldest.new.transactions in
    let one = one_round c.in-Some.task c.rounds.attempt c.commit_oldest.new.attempt old new c.in-Ok-true.field-0 c.in-Ok-true.field-0-test c.in-Ok-true.ensures.ends in
    let made = c.rounds.invariant.rounds in
    record {
      rounds = (made.0 ++ (c.commit_oldest.new.attempt, new) ∷ [], each_more c.in-Some.task c.args.attempt.now c.rounds.attempt (g.X.Transactions.state c.args.transactions.now) old made.0 c.commit_oldest.new.attempt new made.1 one);
      sinks = sinks_kept c.in-Some.task c.args.subtask c.rounds.attempt c.commit_oldest.new.attempt old new (g.met.X.Transactions.ordered c.rounds.transactions) one c.rounds.invariant.sinks;
      counted = search rules;
    }

pub returns-in-Err-clause-ends : goal.returns-in-Err-clause-ends
returns-in-Err-clause-ends g c =
    let made = c.rounds.invariant.rounds in
    ends_failed c.in-Some.task c.args.graph.now c.args.subtask c.in-Some.ensures.found c.args.attempt.now c.rounds.attempt (g.X.Transactions.state c.args.transactions.now) (g.X.Transactions.state c.rounds.transactions) made.0 made.1
    c.commit_oldest.new.attempt (g.X.Transactions.state c.commit_oldest.new.transactions) c.in-Err.fault c.in-Err.ensures.ends
