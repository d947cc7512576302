use Rattle.std.proofs.Common.{◌≡◌, rules, arith, ap, length, drop, [], ◌∷◌, ◌++◌, ◌+◌, ◌∙◌}
use Rattle.std.proofs.lemmas.List.{length-append}
use Rattle.std.proofs.lemmas.Iterator.Adapters.{YieldsList-from_vec}
use Rattle.std.proofs.lemmas.Iterator.Consumers.{YieldsList-turn, YieldsList-so_far}
use Rattle.recovery.proofs.Taking.{met_so_far, take_next, logs_next, take_stops, push_stops}
use Rattle.recovery.proofs.settle.settle_transactions.Goals as goal

pub loop-start-preserved : goal.loop-start-preserved
loop-start-preserved g c =
    let X = g.X.Transactions in
    let all = c.restored.inside.starts.items in
    let met = c.loop-start.yielded in
    let st = c.in-Some.start in
    let b = c.into_iter-start-iterator.ensures.into_iter_gives in
    let each = YieldsList-from_vec {s = c.into_iter-start-iterator.result} all b.0 (b.1 ∙ c.restored.inside.starts.ok.0) in
    let t = YieldsList-turn each met c.loop-start.start-iterator c.loop-start.yielded_by c.next.result c.next.new.self st c.in-Some.is c.next.ensures.steps in
    let are = met_so_far all met st (YieldsList-so_far each met c.loop-start.start-iterator c.loop-start.yielded_by) t.0 t.1 in
    record {
      turns = rw c.in_ok-push.ensures.items (take_next all met (drop (length met + 1) all) st (X.state c.args.transactions.now) (X.state c.loop-start.transactions) (X.state c.take.new.transactions) c.loop-start.tasks.items are c.loop-start.invariant.turns c.len-task.result (c.in_ok-holding.holding, c.in_ok-holding.logs) c.in_ok-holding.ensures.ends);
      logs = c.in_ok-append.ensures.items ∙ ap (λ more. c.loop-start.openings.items ++ more) c.into_vec.ensures ∙ logs_next all met (drop (length met + 1) all) st (X.state c.args.transactions.now) (X.state c.loop-start.transactions) (X.state c.take.new.transactions) c.loop-start.tasks.items are c.loop-start.invariant.turns c.len-task.result (c.in_ok-holding.holding, c.in_ok-holding.logs) c.loop-start.openings.items c.in_ok-holding.ensures.ends c.loop-start.invariant.logs;
      len = omega (arith, ap length c.in_ok-push.ensures.items, length-append c.loop-start.tasks.items (c.in_ok-holding.holding ∷ []), length-append met (st ∷ []), c.loop-start.invariant.len);
      same = search rules;
      counted = search rules;
    }

pub returns-in_err-holding-clause-ends : goal.returns-in_err-holding-clause-ends
returns-in_err-holding-clause-ends g c =
    let X = g.X.Transactions in
    let all = c.restored.inside.starts.items in
    let met = c.loop-start.yielded in
    let st = c.in-Some.start in
    let b = c.into_iter-start-iterator.ensures.into_iter_gives in
    let each = YieldsList-from_vec {s = c.into_iter-start-iterator.result} all b.0 (b.1 ∙ c.restored.inside.starts.ok.0) in
    let t = YieldsList-turn each met c.loop-start.start-iterator c.loop-start.yielded_by c.next.result c.next.new.self st c.in-Some.is c.next.ensures.steps in
    let are = met_so_far all met st (YieldsList-so_far each met c.loop-start.start-iterator c.loop-start.yielded_by) t.0 t.1 in
    let number : c.len-task.result ≡ length met = omega (arith, c.len-task.ensures, c.loop-start.tasks.ok.0, c.loop-start.invariant.len) in
    let stops = take_stops all met (drop (length met + 1) all) st (X.state c.args.transactions.now) (X.state c.loop-start.transactions) (X.state c.take.new.transactions) c.loop-start.tasks.items are c.loop-start.invariant.turns c.len-task.result c.in_err-holding.field-0.0 number c.in_err-holding.ensures.ends in
    search (rules, stops)

pub returns-in_err-append-clause-ends : goal.returns-in_err-append-clause-ends
returns-in_err-append-clause-ends g c =
    let X = g.X.Transactions in
    let all = c.restored.inside.starts.items in
    let met = c.loop-start.yielded in
    let st = c.in-Some.start in
    let b = c.into_iter-start-iterator.ensures.into_iter_gives in
    let each = YieldsList-from_vec {s = c.into_iter-start-iterator.result} all b.0 (b.1 ∙ c.restored.inside.starts.ok.0) in
    let t = YieldsList-turn each met c.loop-start.start-iterator c.loop-start.yielded_by c.next.result c.next.new.self st c.in-Some.is c.next.ensures.steps in
    let are = met_so_far all met st (YieldsList-so_far each met c.loop-start.start-iterator c.loop-start.yielded_by) t.0 t.1 in
    let stops = push_stops all met (drop (length met + 1) all) st (X.state c.args.transactions.now) (X.state c.loop-start.transactions) (X.state c.take.new.transactions) c.loop-start.tasks.items are c.loop-start.invariant.turns c.len-task.result (c.in_ok-holding.holding, c.in_ok-holding.logs) c.in_ok-holding.ensures.ends in
    search (rules, stops)

pub returns-in_err-push-clause-ends : goal.returns-in_err-push-clause-ends
returns-in_err-push-clause-ends g c =
    let X = g.X.Transactions in
    let all = c.restored.inside.starts.items in
    let met = c.loop-start.yielded in
    let st = c.in-Some.start in
    let b = c.into_iter-start-iterator.ensures.into_iter_gives in
    let each = YieldsList-from_vec {s = c.into_iter-start-iterator.result} all b.0 (b.1 ∙ c.restored.inside.starts.ok.0) in
    let t = YieldsList-turn each met c.loop-start.start-iterator c.loop-start.yielded_by c.next.result c.next.new.self st c.in-Some.is c.next.ensures.steps in
    let are = met_so_far all met st (YieldsList-so_far each met c.loop-start.start-iterator c.loop-start.yielded_by) t.0 t.1 in
    let stops = push_stops all met (drop (length met + 1) all) st (X.state c.args.transactions.now) (X.state c.loop-start.transactions) (X.state c.take.new.transactions) c.loop-start.tasks.items are c.loop-start.invariant.turns c.len-task.result (c.in_ok-holding.holding, c.in_ok-holding.logs) c.in_ok-holding.ensures.ends in
    search (rules, stops)
