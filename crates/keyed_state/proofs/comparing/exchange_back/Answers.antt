use Rattle.std.proofs.Common.{◌≡◌, List, Some, None, slice_get, length, arith, ap, sym, ◌∙◌}
use Rattle.keyed_state.specs.Putting.{note_of, notes_of, undone, with_former}
use Rattle.keyed_state.proofs.Exchanged.{notes_last, notes_beyond}
use Rattle.keyed_state.proofs.Several.{last_undone}
use Rattle.keyed_state.proofs.comparing.exchange_back.Goals.{in-Some-expected_at, in_default-expected_at}
use Rattle.keyed_state.proofs.comparing.exchange_back.Goals as goal

pub loop-key-preserved : goal.loop-key-preserved
loop-key-preserved g c =
    let cmp = g.K.Ord.cmp in
    let es = c.loop-key.table in
    let rest = c.pop.new.self.items in
    let entry : g.row.K.Denot × g.row.S.Denot = (c.in-Some.key, c.in-Some.state) in
    let xs = c.args.expected.now in
    let popped = ap (λ (l : List (g.row.K.Denot × g.row.S.Denot)). notes_of l xs) c.in-Some.ensures.items in
    let whole = undone cmp (notes_of c.args.entries.now.items xs) c.args.table.now in
    let count : c.len.result ≡ length rest = omega (arith, c.len.ensures) in
    elim c.match-expected_at.branch [
      | in-Some-expected_at w ↦
          let first = w.in-Some-expected_at.first.now in
          let at : slice_get xs (length rest) ≡ Some first = ap (slice_get xs) (sym count) ∙ sym w.in-Some-expected_at.ensures in
          ap (λ m. undone cmp (notes_of rest xs) m) w.table-is
          ∙ last_undone g.met.K.Ord.total (notes_of c.loop-key.entries.items xs) (notes_of rest xs) es w.put_back.new.map whole (note_of entry first) (popped ∙ notes_last rest entry xs first at) (w.put_back.ensures ∙ ap (with_former cmp es entry.0) w.former_of.ensures) c.loop-key.invariant
      | in_default-expected_at w ↦
          let at : slice_get xs (length rest) ≡ None = ap (slice_get xs) (sym count) ∙ sym w.in_default-expected_at.ensures in
          ap (λ m. undone cmp (notes_of rest xs) m) w.table-is ∙ ap (λ ns. undone cmp ns es) (sym (popped ∙ notes_beyond rest entry xs at)) ∙ c.loop-key.invariant
    ]
