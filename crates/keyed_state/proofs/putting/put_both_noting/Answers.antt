use Rattle.std.proofs.Common.{◌≡◌, ◌+◌, cond, length, arith, refl, sym, ap, ◌∙◌}
use Rattle.std.specs.Vec.Iter.{into_iter_items}
use Rattle.keyed_state.specs.Overlay.{put_over}
use Rattle.keyed_state.proofs.Laid.{seen_above, seen_below, length-insert_entry}
use Rattle.keyed_state.proofs.Several.{taken_first}
use Rattle.keyed_state.proofs.putting.put_both_noting.Goals as goal

-- into the overlay
pub loop-key-preserved-in-Continue-branch-3 : goal.loop-key-preserved-in-Continue-branch-3
loop-key-preserved-in-Continue-branch-3 g c =
    let turn = taken_first c.loop-key.key-iterator c.next.new.self c.next.result (c.in-Some.key, c.in-Some.state) c.in-Some.is c.next.ensures.steps in
    let rest = into_iter_items c.next.new.self in
    let more : length (into_iter_items c.loop-key.key-iterator) ≡ length rest + 1 = ap length turn ∙ omega arith in
    let base = c.loop-key.base in
    let over = c.loop-key.overlay.entries in
    let seen = put_over g.K.Ord.cmp base over in
    let rises = c.loop-key.invariant.overlay_rises in
    let is = c.in_ok-put_one.ensures.entries in
    let same : length over + 0 ≡ length over = omega arith in
    record {
      put = ap (λ es. put_over g.K.Ord.cmp es rest) (seen_above g.met.K.Ord.total base over seen c.in-Some.key c.in-Some.state refl c.put_one.new.map.entries rises is) ∙ sym (ap (put_over g.K.Ord.cmp seen) turn) ∙ c.loop-key.invariant.put;
      base_rises = c.loop-key.invariant.base_rises;
      overlay_rises = c.put_one.ensures.ordered;
      overlay_grows_not =
          ap length is ∙ length-insert_entry g.met.K.Ord.total over c.in-Some.key c.in-Some.state rises ∙ ap (λ b. length over + cond b 0 1) (sym c.contains_key.ensures ∙ c.if-contains_key.true) ∙ same ∙ c.loop-key.invariant.overlay_grows_not;
      base_undone = c.loop-key.invariant.base_undone;
      overlay_undone = c.put_one.ensures.undone ∙ c.loop-key.invariant.overlay_undone;
      below_room = omega (arith, c.loop-key.invariant.below_room, more);
      above_room = omega (arith, c.loop-key.invariant.above_room, more, c.in_ok-put_one.ensures.len, c.put_one.ensures.room);
    }

-- into the base
pub loop-key-preserved : goal.loop-key-preserved
loop-key-preserved g c =
    let turn = taken_first c.loop-key.key-iterator c.next.new.self c.next.result (c.in-Some.key, c.in-Some.state) c.in-Some.is c.next.ensures.steps in
    let rest = into_iter_items c.next.new.self in
    let more : length (into_iter_items c.loop-key.key-iterator) ≡ length rest + 1 = ap length turn ∙ omega arith in
    let base = c.loop-key.base in
    let over = c.loop-key.overlay.entries in
    let seen = put_over g.K.Ord.cmp base over in
    let absent = sym c.contains_key.ensures ∙ c.if-contains_key.false in
    record {
      put = ap (λ es. put_over g.K.Ord.cmp es rest) (seen_below g.met.K.Ord.total base over seen c.in-Some.key c.in-Some.state refl c.put_one-else-contains_key.new.map absent c.in_ok-put_one-2.ensures.entries) ∙ sym (ap (put_over g.K.Ord.cmp seen) turn) ∙ c.loop-key.invariant.put;
      base_rises = c.put_one-else-contains_key.ensures.ordered;
      overlay_rises = c.loop-key.invariant.overlay_rises;
      overlay_grows_not = c.loop-key.invariant.overlay_grows_not;
      base_undone = c.put_one-else-contains_key.ensures.undone ∙ c.loop-key.invariant.base_undone;
      overlay_undone = c.loop-key.invariant.overlay_undone;
      below_room = omega (arith, c.loop-key.invariant.below_room, more, c.in_ok-put_one-2.ensures.len, c.put_one-else-contains_key.ensures.room);
      above_room = omega (arith, c.loop-key.invariant.above_room, more);
    }
