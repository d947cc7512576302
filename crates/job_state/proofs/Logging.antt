-- The logs as they are seen: of each channel, whether its barrier has come, and what is logged.
use Rattle.std.proofs.Common.{◌≡◌, ◌<◌, ◌++◌, ◌∷◌, [], ◌-◌, ℕ, zero, suc, true, false, not, List, length, replicate, take, Some, slice_get, slice_set, unwrap_or, refl, sym, ap, ◌∙◌, arith}
use Rattle.std.specs.Option.{option_map}
use Rattle.std.specs.List.{AllByRecursion}
use Rattle.std.proofs.Math.Seq.{take-append_seam}
use Rattle.std.proofs.lemmas.List.{map-set, length-append}
use Rattle.std.proofs.lemmas.List.Elements.{recursion_from_All}
use Rattle.std.proofs.lemmas.Option.{slice_get-get_or, slice_get-map}
use Rattle.backedge_log.specs.Recorded.{Recorded, log_at, IsFresh, AllFresh, without_last}
use Rattle.channels.specs.declared.item.Item.TheVariants.{Record}
use Rattle.job_state.specs.Held.{log_with}
use Rattle.job_state.specs.Inside.{came_of, records_of}
use Rattle.job_state.proofs.Places.{set_same}

module _ {R : Type 0} where
  all_open : (logs : List (Recorded R)) → AllByRecursion IsFresh logs → came_of logs ≡ replicate (length logs) false
  all_open [] all = refl
  all_open (log ∷ logs) all = ap (λ b. not b ∷ came_of logs) all.0.opened ∙ ap (λ l. false ∷ l) (all_open logs all.1)

  all_empty : (logs : List (Recorded R)) → AllByRecursion IsFresh logs → records_of logs ≡ replicate (length logs) []
  all_empty [] all = refl
  all_empty (log ∷ logs) all = ap (λ l. l ∷ records_of logs) all.0.empty ∙ ap (λ l. [] ∷ l) (all_empty logs all.1)

  -- no barrier has come, and nothing is logged, where every log is open and empty
  pub came_reopened : (logs : List (Recorded R)) (count : ℕ) → AllFresh logs → length logs ≡ count → came_of logs ≡ replicate count false
  came_reopened logs count all many = all_open logs (recursion_from_All IsFresh logs all) ∙ ap (λ n. replicate n false) many

  pub records_reopened : (logs : List (Recorded R)) (count : ℕ) → AllFresh logs → length logs ≡ count → records_of logs ≡ replicate count []
  records_reopened logs count all many = all_empty logs (recursion_from_All IsFresh logs all) ∙ ap (λ n. replicate n []) many

-- one log is put in the place of another
module _ {R : Type 0} (logs : List (Recorded R)) (channel : ℕ) (within : channel < length logs) where
  here : slice_get logs channel ≡ Some (log_at logs channel)
  here = slice_get-get_or logs channel _ within

  came_here : slice_get (came_of logs) channel ≡ Some (not (log_at logs channel).is_open)
  came_here = slice_get-map (λ l. not l.is_open) logs channel ∙ ap (option_map (λ l. not l.is_open)) here

  records_here : slice_get (records_of logs) channel ≡ Some (log_at logs channel).records
  records_here = slice_get-map (λ l. l.records) logs channel ∙ ap (option_map (λ l. l.records)) here

  pub came_set : (new : List (Recorded R)) (log : Recorded R) → new ≡ slice_set logs channel log → came_of new ≡ slice_set (came_of logs) channel (not log.is_open)
  came_set new log is = ap came_of is ∙ map-set (λ l. not l.is_open) logs channel log

  pub came_kept : (new : List (Recorded R)) (log : Recorded R) → new ≡ slice_set logs channel log → log.is_open ≡ (log_at logs channel).is_open → came_of new ≡ came_of logs
  came_kept new log is same = came_set new log is ∙ ap (λ b. slice_set (came_of logs) channel (not b)) same ∙ set_same (came_of logs) channel _ came_here

  pub records_set : (new : List (Recorded R)) (log : Recorded R) → new ≡ slice_set logs channel log → records_of new ≡ slice_set (records_of logs) channel log.records
  records_set new log is = ap records_of is ∙ map-set (λ l. l.records) logs channel log

  pub records_kept : (new : List (Recorded R)) (log : Recorded R) → new ≡ slice_set logs channel log → log.records ≡ (log_at logs channel).records → records_of new ≡ records_of logs
  records_kept new log is same = records_set new log is ∙ ap (slice_set (records_of logs) channel) same ∙ set_same (records_of logs) channel _ records_here

  pub records_at : (log_at logs channel).records ≡ unwrap_or (slice_get (records_of logs) channel) []
  records_at = sym (ap (λ o. unwrap_or o []) records_here)

  -- a record is logged
  pub records_pushed : (row : R) (new : List (Recorded R)) (log : Recorded R) → new ≡ slice_set logs channel log → log.records ≡ (log_at logs channel).records ++ row ∷ [] → records_of new ≡ log_with true channel row (records_of logs)
  records_pushed row new log is pushed = records_set new log is ∙ ap (slice_set (records_of logs) channel) (pushed ∙ ap (λ l. l ++ row ∷ []) records_at)

  -- a record is taken out of the log again
  pub records_dropped : (new : List (Recorded R)) (log : Recorded R) → new ≡ slice_set logs channel log → log.records ≡ without_last (log_at logs channel).records → records_of new ≡ slice_set (records_of logs) channel (without_last (unwrap_or (slice_get (records_of logs) channel) []))
  records_dropped new log is dropped = records_set new log is ∙ ap (slice_set (records_of logs) channel) (dropped ∙ ap (λ l. without_last l) records_at)

pub same_record : {R : Type 0} {a b : R} → Some (Record a) ≡ Some (Record b) → a ≡ b
same_record e = cc

last_dropped : {R : Type 0} (rows : List R) (row : R) → without_last (rows ++ row ∷ []) ≡ rows
last_dropped rows row = let one : length (rows ++ row ∷ []) - 1 ≡ length rows = omega (arith, length-append rows (row ∷ [])) in ap (λ n. take n (rows ++ row ∷ [])) one ∙ take-append_seam rows (row ∷ [])

-- a record that was put last into a log is taken out of it
pub logged_dropped : {R : Type 0} (logs : List (List R)) (channel : ℕ) (row : R) → channel < length logs →
    slice_set (log_with true channel row logs) channel (without_last (unwrap_or (slice_get (log_with true channel row logs) channel) [])) ≡ logs
logged_dropped [] channel row within = absurd (omega (arith, within))
logged_dropped (log ∷ logs) zero row within = ap (λ l. l ∷ logs) (last_dropped log row)
logged_dropped (log ∷ logs) (suc channel) row within = ap (λ l. log ∷ l) (logged_dropped logs channel row (omega (arith, within)))
