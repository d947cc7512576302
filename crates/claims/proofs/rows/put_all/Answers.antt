use Rattle.std.proofs.Common.{◌+◌, ◌++◌, ◌∷◌, [], ℕ, List, Ok, Err, length, drop, suc, refl, sym, ap, subst, ◌∙◌, arith}
use Rattle.std.proofs.lemmas.Iterator.Adapters.{YieldsList-from_vec}
use Rattle.std.proofs.lemmas.Iterator.Consumers.{YieldsList-so_far, YieldsList-turn, YieldsList-end}
use Rattle.std.proofs.lemmas.List.{length-append}
use Rattle.engine_model.specs.Language.{language}
use Rattle.job_state.proofs.AtOnce.{taken_none}
use Rattle.claims.specs.Rows.{AcceptsInTurn, with_taken}
use Rattle.claims.proofs.RowsBehind.{still_open_there}
use Rattle.claims.proofs.SinkRows.{no_fault, one_more, then_refused, split_at, map_same}
use Rattle.claims.proofs.rows.put_all.Goals as goal

pub loop-worked-init : goal.loop-worked-init
loop-worked-init g c = record {
  within = omega arith;
  is_open = c.requires.is_open;
  count = refl;
  taken = λ operators. (refl, refl, ap (λ cs. record c.args.attempt.now { channels = cs }) (sym (taken_none c.args.attempt.now.channels c.args.attempt.now.channels c.args.place.0 refl)), refl);
  told = refl;
}

pub loop-worked-preserved : goal.loop-worked-preserved
loop-worked-preserved g c =
    let X = g.X.Transactions in
    let lang = language g.O.Operator.meaning g.O.Key.Ord.cmp g.O.Record.Codec.spelling g.O.Record.Codec.reading g.O.Key.Codec.reading g.O.State.Codec.reading in
    let was = c.loop-worked.invariant in
    let now = c.in_default.ensures in
    let before = c.loop-worked in
    let after = c.put_made.new in
    let made = c.in-Some.worked in
    let h = c.args.attempt.now in
    let at = c.requires.sinks in
    let off = λ (n : ℕ). with_taken h c.args.place.0 n in
    record {
      within = omega (arith, now.more);
      is_open = still_open_there lang c.args.graph.now [] c.args.task c.args.input c.args.place.0 h before.count at.0 made (off (before.count + 1)) (X.state before.transactions) (X.state after.transactions) c.args.place.1 (now.ends []) at.1 was.is_open;
      count = omega (arith, was.count, length-append before.yielded (made ∷ []));
      taken = λ operators.
          subst (λ (n : ℕ). AcceptsInTurn lang c.args.graph.now operators c.args.task c.args.input (before.yielded ++ made ∷ []) h (off (before.count + 1)) (X.state c.args.transactions.now) (X.state after.transactions) n (Ok tt)) (ap (λ (n : ℕ). before.count + n) now.one)
          (one_more lang c.args.graph.now operators c.args.task c.args.input before.yielded made h (off before.count) (off (before.count + 1)) (X.state c.args.transactions.now) (X.state before.transactions) (X.state after.transactions) before.count (was.taken operators) (g.met.X.Transactions.ordered after.transactions) (now.ends operators));
      told = now.told (λ e. no_fault _ e) ∙ was.told;
    }

pub returns-in-Err-clause-ends : goal.returns-in-Err-clause-ends
returns-in-Err-clause-ends g c = λ operators.
    let X = g.X.Transactions in
    let lang = language g.O.Operator.meaning g.O.Key.Ord.cmp g.O.Record.Codec.spelling g.O.Record.Codec.reading g.O.Key.Codec.reading g.O.State.Codec.reading in
    let before = c.loop-worked in
    let after = c.put_made.new in
    let made = c.in-Some.worked in
    let items = c.args.ahead.items in
    let h = c.args.attempt.now in
    let off = with_taken h c.args.place.0 before.count in
    let b = c.into_iter-worked-iterator.ensures.into_iter_gives in
    let y = YieldsList-from_vec {s = c.into_iter-worked-iterator.result} items b.0 (b.1 ∙ c.args.ahead.ok.0) in
    let t = YieldsList-turn y before.yielded before.worked-iterator before.yielded_by c.next.result c.next.new.self made c.in-Some.is c.next.ensures.steps in
    let so_far = sym (map_same before.yielded) ∙ YieldsList-so_far y before.yielded before.worked-iterator before.yielded_by in
    let rest = drop (suc (length before.yielded)) items in
    subst (λ (l : List _). AcceptsInTurn lang c.args.graph.now operators c.args.task c.args.input l h off (X.state c.args.transactions.now) (X.state after.transactions) before.count (Err c.in-Err.fault)) (sym (split_at before.yielded items made so_far t.0 t.1))
    (then_refused lang c.args.graph.now operators c.args.task c.args.input before.yielded made rest h off off (X.state c.args.transactions.now) (X.state before.transactions) (X.state after.transactions) before.count c.in-Err.fault (before.invariant.taken operators) (c.in-Err.ensures.ends operators))

pub returns-clause-ends : goal.returns-clause-ends
returns-clause-ends g c = λ operators.
    let X = g.X.Transactions in
    let lang = language g.O.Operator.meaning g.O.Key.Ord.cmp g.O.Record.Codec.spelling g.O.Record.Codec.reading g.O.Key.Codec.reading g.O.State.Codec.reading in
    let before = c.loop-worked in
    let items = c.args.ahead.items in
    let h = c.args.attempt.now in
    let b = c.into_iter-worked-iterator.ensures.into_iter_gives in
    let y = YieldsList-from_vec {s = c.into_iter-worked-iterator.result} items b.0 (b.1 ∙ c.args.ahead.ok.0) in
    let all = (YieldsList-end y before.yielded before.worked-iterator before.yielded_by c.next.result c.next.new.self c.in-None.is c.next.ensures.steps).0 in
    subst (λ (l : List _). AcceptsInTurn lang c.args.graph.now operators c.args.task c.args.input l h (with_taken h c.args.place.0 before.count) (X.state c.args.transactions.now) (X.state before.transactions) before.count (Ok tt)) (sym (map_same before.yielded) ∙ all) (before.invariant.taken operators)
