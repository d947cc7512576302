use Rattle.std.proofs.Common.{◌≡◌, ◌+◌, length, arith, sym, ap, ◌∙◌}
use Rattle.std.specs.Vec.Iter.{into_iter_items}
use Rattle.keyed_state.specs.Overlay.{put_over}
use Rattle.keyed_state.proofs.Several.{taken_first}
use Rattle.keyed_state.proofs.putting.put_noting.Goals as goal

pub loop-key-preserved : goal.loop-key-preserved
loop-key-preserved g c =
    let turn = taken_first c.loop-key.key-iterator c.next.new.self c.next.result (c.in-Some.key, c.in-Some.state) c.in-Some.is c.next.ensures.steps in
    let rest = into_iter_items c.next.new.self in
    let is = c.in_ok-put_one.ensures.entries in
    let more : length (into_iter_items c.loop-key.key-iterator) ≡ length rest + 1 = ap length turn ∙ omega arith in
    record {
      put = ap (λ es. put_over g.K.Ord.cmp es rest) is ∙ sym (ap (put_over g.K.Ord.cmp (g.M.StateMap.entries c.loop-key.map)) turn) ∙ c.loop-key.invariant.put;
      undone = c.put_one.ensures.undone ∙ c.loop-key.invariant.undone;
      room = omega (arith, c.loop-key.invariant.room, more, c.in_ok-put_one.ensures.len, c.put_one.ensures.room);
    }
