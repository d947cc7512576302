use Rattle.std.proofs.Common.{arith}
use Rattle.claims.proofs.Copies.{among_moved, few_rise}
use Rattle.claims.proofs.states.put_in_order.Goals as goal

pub returns-then-len-lt2-clause-rising : goal.returns-then-len-lt2-clause-rising
returns-then-len-lt2-clause-rising g c = few_rise g.K.Ord.cmp c.args.keys.items (omega (arith, c.if-len-lt2.true, c.len.ensures))

pub returns-clause-same : goal.returns-clause-same
returns-clause-same g c = λ exact q.
    let once = c.sort_once.ensures.same exact q in
    let moved = among_moved c.args.keys.items _ c.with_guesses-keys.ensures.moved q in
    (λ among. moved.0 (once.0 among), λ among. once.1 (moved.1 among))
