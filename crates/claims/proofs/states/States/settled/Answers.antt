use Rattle.std.proofs.Common.{rules, ◌≡◌, ◌↔◌, length, map, sym, ap, subst, ◌∙◌}
use Rattle.std.specs.List.{IsAmong}
use Rattle.abs_codec.specs.Entries.{value_at}
use Rattle.claims.specs.Keys.{states_kept, states_under}
use Rattle.claims.proofs.Copies.{copied, copies_rise, under_same}
use Rattle.claims.proofs.states.States.settled.Goals.{in-Ok, in-Err}
use Rattle.claims.proofs.states.States.settled.Goals as goal

pub invariant_of-result : goal.invariant_of-result
invariant_of-result g c = copies_rise g.K.Ord.cmp c.put_in_order-rising.result.0.items c.in-Ok.states.items (c.in-Ok.ensures.long ∙ ap length c.deref.ensures.value) c.put_in_order-rising.ensures.rising

-- the keys are the same ones in another order
pub returns-after-copied_states : goal.returns-after-copied_states
returns-after-copied_states g c = λ exact.
    let keys = c.in-Lent.keys in
    let rising = c.put_in_order-rising.result.0.items in
    let lent = c.in-Lent.lent in
    let order = g.met.K.Ord.total in
    let same : (q : g.row.K.Denot) → IsAmong rising q ↔ IsAmong keys.items q = subst (λ ks. (q : g.row.K.Denot) → IsAmong rising q ↔ IsAmong ks.items q) c.in-Lent.keys-is (c.put_in_order-rising.ensures.same exact) in
    let was : states_under g.K.Ord.cmp lent keys.items ≡ c.args.self = ap (states_kept g.K.Ord.cmp) (sym c.in-Lent.is) ∙ c.self.view_is in
    elim c.match-copied_states.branch [
      | in-Ok w ↦ ap (states_kept g.K.Ord.cmp) w.result-is ∙ copied order exact lent rising keys.items w.in-Ok.states.items c.put_in_order-rising.ensures.rising same (w.in-Ok.ensures.states lent (search rules) ∙ ap (map (value_at g.K.Ord.cmp lent)) c.deref.ensures.value) ∙ was
      | in-Err w ↦ let turned : states_under g.K.Ord.cmp lent rising ≡ c.args.self = under_same order exact lent rising keys.items c.put_in_order-rising.ensures.rising same ∙ was in
          search rules
    ]
