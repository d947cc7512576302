-- A job that was down, after a restart.
use Rattle.std.proofs.Common.{ap, ◌≡◌, ◌≢◌, IfOk, MatchOption, Option, Some, None, is_some, Result, Ok, Err, slice_get, ℕ, false, refl}
use Rattle.job_state.specs.Held.{Held}
use Rattle.commit_sink.specs.Ledger.{Ledger}
use Rattle.engine_model.specs.AllRules.{AllRules}
use Rattle.engine_model.specs.ExactlyOnce.{IsExactlyOnce}
use Rattle.engine_model.specs.Keeps.{Keeps}
use Rattle.engine_model.specs.Restart.{EndsRestart}
use Rattle.engine_model.specs.RestartLaws.{held_by, restarted, GoesOnFromCut, OperatorsAreLawful}
use Rattle.engine_model.specs.Sound.{IsSound, AreLegal}
use Rattle.engine_model.proofs.Calls.Exact.{keeps_rows_exact}
use Rattle.engine_model.specs.State.{State}
use Rattle.engine_model.specs.declared.fault.CoreFault.{CoreFault}
use Rattle.engine_model.specs.declared.fault.CoreFault.TheVariants.{BadSnapshot}
use Rattle.engine_model.specs.Goes.{Goes}
use Rattle.engine_model.proofs.Calls.Fails.{keeps_fail}
use Rattle.engine_model.proofs.Calls.Restarts.{keeps_restart}
use Rattle.engine_model.proofs.Restart.Cut.{gives_cut}
use Rattle.engine_model.proofs.Restart.Parts.{never_bad}
use Rattle.engine_model.proofs.Restart.Steps.{restart_goes}
use Rattle.engine_model.proofs.Sounds.{as_fresh, keeps_as_fresh, sound_as_fresh, sound_is_legal, keeps_counted}
use Rattle.source_log.specs.Partitions.{records_at}
use Rattle.engine.specs.Running.{number_of, raised}

pub none_is : {A : Type 0} (a : Option A) → is_some a ≡ false → a ≡ None
none_is (Some x) e = absurd cc
none_is None e = refl

pub raised_by : {R K S : Type 0} (result : Result (Option ℕ × Held R K S) CoreFault) (a : Option (Held R K S)) → a ≡ None → raised result a ≡ held_by result
raised_by (Ok made) a none = refl
raised_by (Err fault) a none = none

-- a result that is not refused so says so too once it has its number alone
pub number_bad : {A : Type 0} (result : Result (Option ℕ × A) CoreFault) → result ≢ Err BadSnapshot → number_of result ≢ Err BadSnapshot
number_bad (Ok made) not_bad e = absurd cc
number_bad {A = A} (Err fault) not_bad e = not_bad (ap (λ (r : Result (Option ℕ) CoreFault). back r) e)
  where
    back : Result (Option ℕ) CoreFault → Result (Option ℕ × A) CoreFault
    back (Ok n) = Err BadSnapshot
    back (Err f) = Err f

module _ {R K S O : Type 0} (rules : AllRules R K S O) (s : State O R K S) (keeps : Keeps rules s) (down : s.held ≡ None) (ledger : Ledger) (n m : ℕ) where
  -- the engine after a restart, with its attempts
  abbrev Ends : Result (Option ℕ × Held R K S) CoreFault → Type 0
  Ends result = EndsRestart rules s.graph s.operators s.partitions s.stored s.ledger ledger result

  abbrev now : Result (Option ℕ × Held R K S) CoreFault → State O R K S
  now result = record (restarted s ledger n result) { attempts = m }

  pub restart_kept : (result : Result (Option ℕ × Held R K S) CoreFault) → Ends result → Keeps rules (now result)
  restart_kept result ends =
      keeps_counted rules (restarted s ledger n result) m
      (keeps_restart rules s keeps ledger n result ends (λ fresh. restart_goes rules s keeps down fresh ledger n result ends))

  module _ (sound : IsSound rules s) where
    abbrev like_fresh : State O R K S
    like_fresh = as_fresh rules s

    keeps_fresh : Keeps rules like_fresh
    keeps_fresh = keeps_as_fresh rules s keeps sound

    pub restart_goes_on : (result : Result (Option ℕ × Held R K S) CoreFault) → Ends result → Goes rules.lang s (now result)
    restart_goes_on result ends = restart_goes rules like_fresh keeps_fresh down refl ledger n result ends

    pub restart_sound : (result : Result (Option ℕ × Held R K S) CoreFault) → Ends result → IsSound rules (now result)
    restart_sound result ends =
        sound_as_fresh rules (now result)
        (keeps_counted rules (restarted like_fresh ledger n result) m
        (keeps_restart rules like_fresh keeps_fresh ledger n result ends (λ fresh. restart_goes_on result ends)))

    -- a restart at Ok goes on from the cut
    pub cut_by : (result : Result (Option ℕ × Held R K S) CoreFault) → Ends result → IfOk (number_of result) (λ last. MatchOption (held_by result) ⊥ (λ k. GoesOnFromCut rules.lang (now result) last k))
    cut_by (Ok made) ends =
        let cut = gives_cut rules like_fresh keeps_fresh down refl ledger n made.0 made.1 ends in
        record { moves = cut.moves; base = cut.base; reached = cut.reached; restored = cut.restored; outputs = cut.outputs; holds = cut.holds; latest = cut.latest; committed = cut.committed }
    cut_by (Err fault) ends = tt

module _ {R K S O : Type 0} (rules : AllRules R K S O) (s : State O R K S) (keeps : Keeps rules s) (down : s.held ≡ None)
    (sound : IsSound rules s) (laws : OperatorsAreLawful rules)
    (fit : (partition offset : ℕ) (r : R) → slice_get (records_at s.partitions partition) offset ≡ Some r → rules.RecordFits r) where
  -- and none is refused for what the devices hold
  pub not_bad : (ledger : Ledger) (result : Result (Option ℕ × Held R K S) CoreFault) → EndsRestart rules s.graph s.operators s.partitions s.stored s.ledger ledger result → result ≢ Err BadSnapshot
  not_bad ledger result ends =
      never_bad rules (as_fresh rules s) (keeps_as_fresh rules s keeps sound) down refl laws fit ledger result ends

-- a sound engine is exactly once
pub sound_exact : {R K S O : Type 0} (rules : AllRules R K S O) (s : State O R K S) → Keeps rules s → IsSound rules s → IsExactlyOnce rules.lang s
sound_exact rules s keeps sound =
    let e = keeps_rows_exact rules (as_fresh rules s) (keeps_as_fresh rules s keeps sound) refl in
    record { moves = e.moves; moments = e.moments; is_run = e.is_run; one_each = e.one_each; in_order = e.in_order; in_run = e.in_run; cuts = e.cuts; exactly = e.exactly }

-- the devices of a sound engine are legal
pub hands_out_legal : {R K S O : Type 0} (rules : AllRules R K S O) (s : State O R K S) → Keeps rules s → IsSound rules s
    → AreLegal rules s.graph s.operators s.partitions s.stored s.ledger
hands_out_legal rules s keeps sound =
    sound_is_legal rules s
    (sound_as_fresh rules (record s { held = None }) (keeps_fail rules (as_fresh rules s) (keeps_as_fresh rules s keeps sound) s.faults).0)
