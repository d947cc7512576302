-- A plain run comes to the cut of a checkpoint that completes on a fresh engine.
use Rattle.std.proofs.Common.{◌≡◌, ◌≤◌, IfOk, MatchOption, Option, Some, Ok, Err, Result, ℕ, true, false, refl, ap, subst}
use Rattle.checkpoint_model.specs.Cuts.{IsReachedCut}
use Rattle.checkpoint_model.specs.PrunedLaws.{pruned_engine}
use Rattle.checkpoint_model.proofs.Cuts.{last_cuts}
use Rattle.job_state.specs.Held.{Held}
use Rattle.snapshot_store.specs.Store.{Stored, IsNumbered, is_complete}
use Rattle.engine_model.specs.AllRules.{AllRules}
use Rattle.engine_model.specs.Calls.{EndsComplete}
use Rattle.engine_model.specs.Keeps.{Keeps}
use Rattle.engine_model.specs.State.{State}
use Rattle.engine_model.specs.View.{job_of, is_logged_in, devices_of, engine_of}
use Rattle.engine_model.specs.declared.fault.CoreFault.{CoreFault}
use Rattle.engine_model.proofs.Calls.Completes.{keeps_complete}
use Rattle.engine_model.proofs.Calls.Goes.{runs_of}
use Rattle.engine_model.proofs.Store.View.{last_of_line}

module _ {R K S O : Type 0} (rules : AllRules R K S O) (s : State O R K S) (keeps : Keeps rules s) (fresh : s.is_fresh ≡ true) (h : Held R K S) (was : s.held ≡ Some h) (k : Held R K S)
    (stored : Stored) (numbered : IsNumbered stored) where
  abbrev now : State O R K S
  now = record s { held = Some k; stored = stored; faults = 0 }

  pub completes_reached : (n : ℕ) → EndsComplete h k s.stored stored (Ok n) → IsReachedCut (job_of rules.lang s) rules.lang.spelling (devices_of rules.lang (record s { stored = stored })) n
  completes_reached n ends =
      let kept : Keeps rules now = (keeps_complete rules s keeps h was k stored 0 numbered (Ok n) ends).0 in
      let IsLast : Option ℕ → Type 0 = λ o. MatchOption o ((m : ℕ) → is_complete stored m ≡ false) (λ last. (is_complete stored last ≡ true) × ((m : ℕ) → is_complete stored m ≡ true → m ≤ last)) in
      let last : IsLast (Some n) = subst IsLast (ap (λ (x : Held R K S). x.coordination.last_complete) ends.3) (runs_of rules now kept k refl).last_complete in
      let line = last_of_line stored n numbered last.0 last.1 in
      last_cuts (job_of rules.lang s) rules.lang.spelling (is_logged_in s) (pruned_engine (engine_of rules.lang now)) line.0 n (kept.fresh fresh) line.1

  -- and where the call is refused or fails, nothing is said
  pub reached_if_ok : (result : Result ℕ CoreFault) → EndsComplete h k s.stored stored result → IfOk result (λ n. IsReachedCut (job_of rules.lang s) rules.lang.spelling (devices_of rules.lang (record s { stored = stored })) n)
  reached_if_ok (Ok n) ends = completes_reached n ends
  reached_if_ok (Err fault) ends = tt
