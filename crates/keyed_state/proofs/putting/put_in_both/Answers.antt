use Rattle.std.proofs.Common.{◌≡◌, length, false, ap, sym, ◌∙◌}
use Rattle.std.specs.Prelude.{Result, Ok, Err, OnOk, is_err}
use Rattle.std.proofs.lemmas.Bool.{false≢true}
use Rattle.keyed_state.specs.Putting.{undone}
use Rattle.keyed_state.proofs.putting.put_in_both.Goals.{then-is_err, else-is_err}
use Rattle.keyed_state.proofs.putting.put_in_both.Goals as goal

-- what holds on success, where memory was not refused
on_success : {F P : Type 0} (result : Result (Unit {0}) F) → is_err result ≡ false → OnOk result P → P
on_success (Ok u) h p = p
on_success (Err f) h p = absurd (false≢true (sym h))

pub returns-clause-overlay_grows_not : goal.returns-clause-overlay_grows_not
returns-clause-overlay_grows_not g c = elim c.if-is_err.branch [
  | then-is_err w ↦ ap (λ m. length m.entries) w.overlay-is ∙ ap length (w.undo-then-is_err.ensures ∙ c.put_both_noting-done.ensures.overlay_undone ∙ ap (λ ns. undone g.K.Ord.cmp ns c.args.overlay.now.entries) c.new-above.ensures.items)
  | else-is_err w ↦ ap (λ m. length m.entries) w.overlay-is ∙ on_success c.put_both_noting-done.result (sym c.is_err.ensures.value ∙ w.if-is_err.false) c.put_both_noting-done.ensures.overlay_grows_not
]
