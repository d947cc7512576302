use Rattle.std.proofs.Common.{◌≡◌, ◌<◌, ℕ, zero, suc, length, get_or, slice_set, refl, ap, ◌∙◌, arith, inl, inr}
use Rattle.std.specs.Option.{option_map_or}
use Rattle.std.proofs.lemmas.Bool.Decides.{eqb_tells}
use Rattle.std.proofs.lemmas.Option.{slice_get-get_or}
use Rattle.job_state.specs.Sending.{room_at}
use Rattle.job_state.proofs.Places.{get_set_same, get_set_other}
use Rattle.job_state.proofs.Putting.{items_kept, room_here, room_within}
use Rattle.job_state.proofs.sending.release_all.Goals as goal

pub loop-number-preserved : goal.loop-number-preserved
loop-number-preserved g c =
    let channels = c.loop-number.channels in
    let n = c.loop-number.number in
    let new = c.release.new.self in
    let within : n < length channels = omega arith in
    let was = get_or channels n c.index-channels-number.result in
    record {
      room = λ k below.
          elim (eqb_tells k n) [
            | inl h ↦ ap (room_at (slice_set channels n new)) h.1 ∙ room_here (slice_set channels n new) n new (get_set_same channels n new within) ∙ ap (λ r. r.room) c.release.ensures
            | inr h ↦ ap (λ o. option_map_or (λ r. r.room) o 0) (get_set_other channels n k new h.1) ∙ c.loop-number.invariant.room k (omega (arith, below, h.1))
          ];
      same = items_kept channels n was new (slice_get-get_or channels n c.index-channels-number.result within) (ap (λ r. r.items) c.release.ensures) ∙ c.loop-number.invariant.same;
    }

pub returns-clause-room : goal.returns-clause-room
returns-clause-room g c number = none (room_at c.loop-number.channels number) refl
  where
    none : (room : ℕ) → room_at c.loop-number.channels number ≡ room → room_at c.loop-number.channels number ≡ 0
    none zero is = is
    none (suc r) is = c.loop-number.invariant.room number (omega (arith, room_within c.loop-number.channels number (omega (arith, is))))
