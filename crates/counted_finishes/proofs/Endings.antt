-- A claim ends where its result is taken.
use Rattle.std.proofs.Common.{◌≡◌, ◌⊎◌, inl, inr, ◌<◌, ◌≤◌, ◌+◌, ◌^◌, ℕ, List, Option, Some, None, Result, Ok, Err, MatchResult, MatchOption, slice_get, length, refl, ap, sym, subst, arith}
use Rattle.std.proofs.lemmas.List.Edits.{length-remove}
use Rattle.std.proofs.lemmas.Option.{slice_get_within}
use Rattle.claims.specs.declared.parts.Made.{Made}
use Rattle.engine_model.specs.Language.{Language}
use Rattle.engine_model.specs.declared.fault.CoreFault.{CoreFault}
use Rattle.engine_model.specs.declared.fault.CoreFault.TheVariants.{NotRunning, NoSuchTask, NotReady, ChannelBlocked, Busy, Stale, WrongResult, CheckpointPending, NoCheckpoint, NotAllAcked, Memory, Device, CommitFault, NumbersSpent, BadSnapshot}
use Rattle.job_state.specs.Held.{Held}
use Rattle.dataflow_core.specs.Claims.{IsHeldAt, IsFreshTicket, EndsClaimed, EndsFinish, EndsAccepting, EndsAcceptingRows, claims_left}
use Rattle.dataflow_core.specs.CoreState.{CoreState}
use Rattle.dataflow_core.specs.declared.held.Claim.{Claim}
use Rattle.counted_finishes.specs.Counting.{EndsAClaim, UsesASerial, SpendsASerial}

-- one claim less where the result is taken, and else no more
abbrev Fewer : Result Unit CoreFault → List Claim → List Claim → Type 0
Fewer result new old = MatchResult result (λ _. length new + 1 ≡ length old) (λ _. length new ≤ length old)

shorter : (claims : List Claim) (at : ℕ) → at < length claims → length (claims_left at (Err NotRunning) claims) ≤ length claims
shorter claims at within = let e = length-remove claims at within in omega arith

left_fewer : (result : Result Unit CoreFault) (claims : List Claim) (at : ℕ) → at < length claims → Fewer result (claims_left at result claims) claims
left_fewer (Ok u) claims at within = length-remove claims at within
left_fewer (Err WrongResult) claims at within = omega arith
left_fewer (Err NotRunning) claims at within = shorter claims at within
left_fewer (Err NoSuchTask) claims at within = shorter claims at within
left_fewer (Err NotReady) claims at within = shorter claims at within
left_fewer (Err ChannelBlocked) claims at within = shorter claims at within
left_fewer (Err Busy) claims at within = shorter claims at within
left_fewer (Err Stale) claims at within = shorter claims at within
left_fewer (Err CheckpointPending) claims at within = shorter claims at within
left_fewer (Err NoCheckpoint) claims at within = shorter claims at within
left_fewer (Err NotAllAcked) claims at within = shorter claims at within
left_fewer (Err Memory) claims at within = shorter claims at within
left_fewer (Err Device) claims at within = shorter claims at within
left_fewer (Err CommitFault) claims at within = shorter claims at within
left_fewer (Err NumbersSpent) claims at within = shorter claims at within
left_fewer (Err BadSnapshot) claims at within = shorter claims at within

module _ {R K S O : Type 0} (old : CoreState O R K S) (lang : Language R K S O) (new : CoreState O R K S) (attempt serial : ℕ) (made : Made O K S R) (result : Result Unit CoreFault) where
  -- a result that is refused at once changes nothing
  refused : (fault : CoreFault) → result ≡ Err fault → new ≡ old → EndsAClaim old new result
  refused fault is same =
      (subst (λ r. Fewer r new.claims old.claims) (sym is) (subst (λ (s : CoreState O R K S). length s.claims ≤ length old.claims) (sym same) (omega arith)), ap (λ (s : CoreState O R K S). s.serials) same)

  taken : (at : ℕ) (claim : Claim) → IsHeldAt old attempt serial at claim → EndsClaimed old lang new attempt serial at claim made result → EndsAClaim old new result
  taken at claim held ends =
      (subst (λ claims. Fewer result claims old.claims) (sym (ap (λ (s : CoreState O R K S). s.claims) ends.1)) (left_fewer result old.claims at (slice_get_within old.claims at claim held.1.0)), ap (λ (s : CoreState O R K S). s.serials) ends.1)

  by_held : (held : Option (Held R K S))
      → MatchOption held ((result ≡ Err NotRunning) × (new ≡ old)) (λ h. ((result ≡ Err Stale) × ¬ IsFreshTicket old attempt serial × (new ≡ old)) ⊎ ((at : ℕ) × (claim : Claim) × IsHeldAt old attempt serial at claim × EndsClaimed old lang new attempt serial at claim made result))
      → EndsAClaim old new result
  by_held None ends = refused NotRunning ends.0 ends.1
  by_held (Some h) (inl stale) = refused Stale stale.0 stale.2
  by_held (Some h) (inr ends) = taken ends.0 ends.1 ends.2 ends.3

  pub finish_ends : EndsFinish old lang new attempt serial made result → EndsAClaim old new result
  finish_ends ends = by_held old.engine.held ends

used : (result : Result Unit CoreFault) (now was : ℕ) → now ≡ was + 1 → MatchResult result (λ _. now ≡ was + 1) (λ _. was ≤ now)
used (Ok u) now was e = e
used (Err fault) now was e = omega (arith, e)

module _ {R K S O : Type 0} (old : CoreState O R K S) (lang : Language R K S O) (new : CoreState O R K S) (task input : ℕ) (made : Made O K S R) (result : Result Unit CoreFault) where
  pub accept_uses : EndsAccepting old lang new task input made result → UsesASerial old new result
  accept_uses (inl ends) =
      (used result new.serials old.serials (ap (λ (s : CoreState O R K S). s.serials) ends.2), ap (λ (s : CoreState O R K S). s.claims) ends.2)
  accept_uses (inr refuses) =
      (subst (λ r. MatchResult r (λ _. new.serials ≡ old.serials + 1) (λ _. old.serials ≤ new.serials)) (sym refuses.1) (subst (λ (s : CoreState O R K S). old.serials ≤ s.serials) (sym refuses.3) (omega arith)), ap (λ (s : CoreState O R K S). s.claims) refuses.3)

module _ {R K S O : Type 0} (old : CoreState O R K S) (lang : Language R K S O) (new : CoreState O R K S) (task input : ℕ) (mades : List (Made O K S R)) (count : ℕ) (fits : count < 2 ^ 64) (result : Result Unit CoreFault) where
  pub rows_spend : EndsAcceptingRows old lang new task input mades count result → SpendsASerial old new count
  rows_spend (inl ends) = (omega (arith, fits, ap (λ (s : CoreState O R K S). s.serials) ends.2), ap (λ (s : CoreState O R K S). s.claims) ends.2)
  rows_spend (inr refuses) = (omega (arith, refuses.2, ap (λ (s : CoreState O R K S). s.serials) refuses.4), ap (λ (s : CoreState O R K S). s.claims) refuses.4)
