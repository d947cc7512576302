-- Turns one after another.
use Rattle.std.proofs.Common.{◌≡◌, ◌≢◌, ◌⊎◌, inl, inr, ◌≤◌, ◌<◌, ◌+◌, Bool, true, false, Result, Ok, Err, ℕ, List, [], ◌++◌, None, length, refl, sym, subst, ◌∙◌, arith, length-append}
use Rattle.std.proofs.Math.Nat.{eq-or-lt_of_le}
use Rattle.dataflow_model.specs.Machine.{Move}
use Rattle.engine_model.specs.AllRules.{AllRules}
use Rattle.engine_model.specs.State.{State}
use Rattle.engine_model.specs.declared.fault.CoreFault.{CoreFault}
use Rattle.engine_model.specs.declared.fault.CoreFault.TheVariants.{NotRunning, Memory, Device}
use Rattle.engine_rounds.specs.Idle.{IsIdleIn}
use Rattle.engine_rounds.specs.Turns.{Stops, Made, EndsTurn, EndsWorkAt, EndsRound}
use Rattle.engine_rounds.specs.Works.{Works}
use Rattle.engine_rounds.proofs.Many.{works_none, works_both}

module _ {R K S O : Type 0} (rules : AllRules R K S O) where
  abbrev pub MadeBy : (old new : State O R K S) → List Move → Type 0
  MadeBy old new moves = Made rules old new moves

  -- as many plain steps as turns were taken
  abbrev pub Took : (old new : State O R K S) → (before after : ℕ) → Type 0
  Took old new before after = (moves : List Move) × (length moves + after ≡ before) × MadeBy old new moves

  pub took_none : (s : State O R K S) (n : ℕ) → s.held ≢ None → Took s s n n
  took_none s n running = ([], omega arith, (works_none rules s s refl, running))

  pub took_on : (old middle new : State O R K S) (before between after : ℕ) → Took old middle before between → Took middle new between after → Took old new before after
  took_on old middle new before between after one two = (
    one.0 ++ two.0,
    omega (arith, length-append one.0 two.0, one.1, two.1),
    (works_both rules one.0 two.0 old new middle one.2.0 two.2.0, two.2.1),
  )

  -- a turn that makes no step takes none
  pub idle_turn : (old new : State O R K S) (task left : ℕ) (made : Bool) → old.held ≢ None → made ≡ false → EndsTurn rules old new task (Ok made) → Took old new left left × (left ≡ left → IsIdleIn old task × (new ≡ old))
  idle_turn old new task left true running is ends = absurd cc
  idle_turn old new task left false running is ends = (subst (λ (s : State O R K S). Took old s left left) (sym ends.1) (took_none old left running), λ same. ends)

  -- a round in which a step was made
  pub took_round : (old new : State O R K S) (before after : ℕ) (more : Bool) → more ≡ true → EndsRound rules old new before after (Ok more) → Took old new before after
  took_round old new before after true is ends = (ends.0, ends.1, ends.3)
  took_round old new before after false is ends = absurd cc

  -- While no turn was taken nothing has changed, and no task so far has a step to make.
  abbrev pub IdleSoFar : (old new : State O R K S) → (tasks before after : ℕ) → Type 0
  IdleSoFar old new tasks before after = after ≡ before → (new ≡ old) × ((t : ℕ) → t < tasks → IsIdleIn old t)

  one_more : (old : State O R K S) (task : ℕ) → IsIdleIn old task → ((t : ℕ) → t < task → IsIdleIn old t) → (t : ℕ) → t < task + 1 → IsIdleIn old t
  one_more old task idle each t below = by (eq-or-lt_of_le (omega (arith, below)))
    where
      by : (t ≡ task) ⊎ (t < task) → IsIdleIn old t
      by (inl is) = subst (λ (n : ℕ). IsIdleIn old n) (sym is) idle
      by (inr less) = each t less

  pub idle_on : (old middle new : State O R K S) (task before between after : ℕ) → Took old middle before between → Took middle new between after → (after ≡ between → IsIdleIn middle task × (new ≡ middle))
      → IdleSoFar old middle task before between → IdleSoFar old new (task + 1) before after
  idle_on old middle new task before between after one two idle each same =
      let first : between ≡ before = omega (arith, one.1, two.1, same) in
      let then : after ≡ between = omega (arith, one.1, two.1, same) in
      let was = each first in
      let is = idle then in
      (is.1 ∙ was.0, one_more old task (subst (λ (s : State O R K S). IsIdleIn s task) was.0 is.0) was.1)

  -- why calls stop, after some that did not
  pub stops_on : (old middle new : State O R K S) (f : CoreFault) → middle.held ≢ None → Stops rules middle new f → Stops rules old new f
  stops_on old middle new NotRunning running e = absurd (running e.0)
  stops_on old middle new Memory running e = e
  stops_on old middle new Device running e = e
  stops_on old middle new other running e = absurd e

  -- a call that stops, after some that did not
  pub stopped_on : (old middle new : State O R K S) (before between : ℕ) (f : CoreFault) → Took old middle before between → (moves : List Move) → length moves ≤ between → Works rules moves middle new → Stops rules middle new f
      → (all : List Move) × (length all ≤ before) × Works rules all old new × Stops rules old new f
  stopped_on old middle new before between f one moves few works stops = (
    one.0 ++ moves,
    omega (arith, length-append one.0 moves, one.1, few),
    works_both rules one.0 moves old new middle one.2.0 works,
    stops_on old middle new f one.2.1 stops,
  )

-- work at one input is the task's turn
pub turn_of_work : {R K S O : Type 0} (rules : AllRules R K S O) (old new : State O R K S) (task input : ℕ) (r : Result Bool CoreFault) → (r ≢ Ok false) → EndsWorkAt rules old new task input r → EndsTurn rules old new task r
turn_of_work rules old new task input (Ok true) other e = e
turn_of_work rules old new task input (Ok false) other e = absurd (other refl)
turn_of_work rules old new task input (Err fault) other e = e
