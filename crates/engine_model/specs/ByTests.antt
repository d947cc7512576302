-- What a law asks of an engine and of its operators, with tests in the place of what operators ask of records and states.
use Rattle.std.specs.Prelude.{◌≡◌, ℕ, Bool, true, Some, slice_get}
use Rattle.job_graph.specs.declared.role.Role.TheVariants as role
use Rattle.job_state.specs.Held.{Held}
use Rattle.engine_model.specs.AllRules.{AllRules, all_rules}
use Rattle.engine_model.specs.Calls.{input_at}
use Rattle.engine_model.specs.Keeps.{Keeps}
use Rattle.engine_model.specs.Language.{Language}
use Rattle.engine_model.specs.State.{State}

-- a test that passes
abbrev pub Passes : {X : Type 0} → (X → Bool) → X → Type 0
Passes test x = test x ≡ true

-- tests of which records, keys and states fit, and which states suit an operator
pub record Tests (R K S O : Type 0) : Type 0 where
  pub fits : R → Bool
  pub key_fits : K → Bool
  pub state_fits : S → Bool
  pub suits : O → S → Bool

module _ {R K S O : Type 0} where
  -- the rules that these tests are
  abbrev pub rules_by : Language R K S O → Tests R K S O → AllRules R K S O
  rules_by lang tests = all_rules lang (Passes tests.fits) (Passes tests.key_fits) (Passes tests.state_fits) (λ o s. tests.suits o s ≡ true)

  -- an engine that runs, and holds this
  pub record RunsWith (rules : AllRules R K S O) (s : State O R K S) (h : Held R K S) : Type 0 where
    pub keeps : Keeps rules s
    pub holds : s.held ≡ Some h

  -- a task that is this operator, and its input, which is this channel
  pub record IsOperatorTask (s : State O R K S) (task input channel : ℕ) (operator : O) : Type 0 where
    pub number : ℕ
    pub at_task : slice_get s.graph.tasks task ≡ Some (role.Operator number)
    pub is : slice_get s.operators number ≡ Some operator
    pub leads : input_at s.graph task input ≡ Some channel

  -- a task that is this sink subtask, and its input, which is this channel
  pub record IsSinkTask (s : State O R K S) (task input channel subtask : ℕ) : Type 0 where
    pub at_task : slice_get s.graph.tasks task ≡ Some (role.Sink subtask)
    pub leads : input_at s.graph task input ≡ Some channel
