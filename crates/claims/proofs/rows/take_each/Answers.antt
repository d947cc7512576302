use Rattle.std.proofs.Common.{◌+◌, ◌++◌, ◌∷◌, [], ℕ, List, Ok, Err, length, drop, suc, refl, sym, ap, subst, ◌∙◌, arith}
use Rattle.std.proofs.lemmas.Iterator.Adapters.{YieldsList-from_vec}
use Rattle.std.proofs.lemmas.Iterator.Consumers.{YieldsList-so_far, YieldsList-turn, YieldsList-end}
use Rattle.std.proofs.lemmas.List.{length-append}
use Rattle.engine_model.specs.Language.{language}
use Rattle.claims.specs.Rows.{AcceptsInTurn}
use Rattle.claims.proofs.SinkRows.{no_fault, still_sinks, one_more, then_refused, split_at, map_same}
use Rattle.claims.proofs.rows.take_each.Goals as goal

pub loop-worked-init : goal.loop-worked-init
loop-worked-init g c = record {
  sinks = c.requires.sinks;
  within = c.requires.within;
  logs = c.requires.logs;
  is_open = c.requires.is_open;
  count = refl;
  taken = λ operators. (refl, refl, refl, refl);
  told = refl;
}

pub loop-worked-preserved : goal.loop-worked-preserved
loop-worked-preserved g c =
    let X = g.X.Transactions in
    let lang = language g.O.Operator.meaning g.O.Key.Ord.cmp g.O.Record.Codec.spelling g.O.Record.Codec.reading g.O.Key.Codec.reading g.O.State.Codec.reading in
    let was = c.loop-worked.invariant in
    let now = c.in_default.ensures in
    let before = c.loop-worked in
    let after = c.take_made.new in
    let made = c.in-Some.worked in
    let still = still_sinks lang c.args.graph.now [] c.args.task c.args.input c.args.place.0 before.attempt after.attempt (X.state before.transactions) (X.state after.transactions) made c.args.place.1 (now.ends []) was.sinks was.within was.logs was.is_open in
    record {
      sinks = still.0;
      within = still.1;
      logs = still.2;
      is_open = still.3;
      count = omega (arith, was.count, length-append before.yielded (made ∷ []));
      taken = λ operators.
          subst (λ (n : ℕ). AcceptsInTurn lang c.args.graph.now operators c.args.task c.args.input (before.yielded ++ made ∷ []) c.args.attempt.now after.attempt (X.state c.args.transactions.now) (X.state after.transactions) n (Ok tt)) (ap (λ (n : ℕ). before.count + n) now.one)
          (one_more lang c.args.graph.now operators c.args.task c.args.input before.yielded made c.args.attempt.now before.attempt after.attempt (X.state c.args.transactions.now) (X.state before.transactions) (X.state after.transactions) before.count (was.taken operators) (g.met.X.Transactions.ordered after.transactions) (now.ends operators));
      told = now.told (λ e. no_fault _ e) ∙ was.told;
    }

pub returns-in-Err-clause-ends : goal.returns-in-Err-clause-ends
returns-in-Err-clause-ends g c = λ operators.
    let X = g.X.Transactions in
    let lang = language g.O.Operator.meaning g.O.Key.Ord.cmp g.O.Record.Codec.spelling g.O.Record.Codec.reading g.O.Key.Codec.reading g.O.State.Codec.reading in
    let before = c.loop-worked in
    let after = c.take_made.new in
    let made = c.in-Some.worked in
    let items = c.args.ahead.items in
    let b = c.into_iter-worked-iterator.ensures.into_iter_gives in
    let y = YieldsList-from_vec {s = c.into_iter-worked-iterator.result} items b.0 (b.1 ∙ c.args.ahead.ok.0) in
    let t = YieldsList-turn y before.yielded before.worked-iterator before.yielded_by c.next.result c.next.new.self made c.in-Some.is c.next.ensures.steps in
    let so_far = sym (map_same before.yielded) ∙ YieldsList-so_far y before.yielded before.worked-iterator before.yielded_by in
    let rest = drop (suc (length before.yielded)) items in
    subst (λ (l : List _). AcceptsInTurn lang c.args.graph.now operators c.args.task c.args.input l c.args.attempt.now after.attempt (X.state c.args.transactions.now) (X.state after.transactions) before.count (Err c.in-Err.fault)) (sym (split_at before.yielded items made so_far t.0 t.1))
    (then_refused lang c.args.graph.now operators c.args.task c.args.input before.yielded made rest c.args.attempt.now before.attempt after.attempt (X.state c.args.transactions.now) (X.state before.transactions) (X.state after.transactions) before.count c.in-Err.fault (before.invariant.taken operators) (c.in-Err.ensures.ends operators))

pub returns-clause-ends : goal.returns-clause-ends
returns-clause-ends g c = λ operators.
    let X = g.X.Transactions in
    let lang = language g.O.Operator.meaning g.O.Key.Ord.cmp g.O.Record.Codec.spelling g.O.Record.Codec.reading g.O.Key.Codec.reading g.O.State.Codec.reading in
    let before = c.loop-worked in
    let items = c.args.ahead.items in
    let b = c.into_iter-worked-iterator.ensures.into_iter_gives in
    let y = YieldsList-from_vec {s = c.into_iter-worked-iterator.result} items b.0 (b.1 ∙ c.args.ahead.ok.0) in
    let all = (YieldsList-end y before.yielded before.worked-iterator before.yielded_by c.next.result c.next.new.self c.in-None.is c.next.ensures.steps).0 in
    subst (λ (l : List _). AcceptsInTurn lang c.args.graph.now operators c.args.task c.args.input l c.args.attempt.now before.attempt (X.state c.args.transactions.now) (X.state before.transactions) before.count (Ok tt)) (sym (map_same before.yielded) ∙ all) (before.invariant.taken operators)
