use Rattle.std.proofs.Common.{length, map, sym, ap, ◌∙◌}
use Rattle.abs_codec.specs.Entries.{value_at}
use Rattle.claims.specs.Keys.{states_kept, states_under}
use Rattle.claims.proofs.Copies.{copied, copies_rise}
use Rattle.claims.proofs.InTurn.{same_entries}
use Rattle.claims.proofs.states.lent_or_copied.Goals.{in-Some, in-None+in_ok-states-in-None}
use Rattle.claims.proofs.states.lent_or_copied.Goals as goal

pub invariant_of-kept : goal.invariant_of-kept
invariant_of-kept g c =
    let made = c.in_ok-states-in-None in
    copies_rise g.O.Key.Ord.cmp c.put_in_order-rising.result.0.items made.states.items (made.ensures.long ∙ ap length c.deref.ensures.value) c.put_in_order-rising.ensures.rising

pub returns : goal.returns
returns g c = λ entries held.
    let keys = c.args.keys.items in
    let exact = g.met.O.Operator.key_is_exact in
    elim c.match-lend.branch [
      | in-Some w ↦ ap (states_kept g.O.Key.Ord.cmp) w.kept-is ∙ ap (λ es. states_under g.O.Key.Ord.cmp es keys) (same_entries w.in-Some.lent entries (sym w.in-Some.ensures ∙ held))
      | in-None+in_ok-states-in-None w ↦ let rising = w.put_in_order-rising.result.0.items in
          let made = w.in_ok-states-in-None in
          ap (states_kept g.O.Key.Ord.cmp) w.kept-is ∙ copied g.met.O.Key.Ord.total exact entries rising keys made.states.items w.put_in_order-rising.ensures.rising (w.put_in_order-rising.ensures.same exact) (made.ensures.states entries held ∙ ap (map (value_at g.O.Key.Ord.cmp entries)) w.deref.ensures.value)
    ]
