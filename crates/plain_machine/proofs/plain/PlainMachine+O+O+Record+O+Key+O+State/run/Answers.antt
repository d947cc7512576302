use Rattle.std.proofs.Common.{◌≡◌, ◌+◌, ◌<◌, ℕ, List, length, get_or, ◌++◌, ◌∷◌, [], Some, slice_get, refl, sym, ap, ◌∙◌, subst, take, take-suc, map, add-one, arith, Ordering}
use Rattle.std.proofs.lemmas.Option.{same_Some, slice_get-get_or, slice_get_within}
use Rattle.plain_machine.specs.declared.job.Configuration as code_configuration
use Rattle.plain_machine.specs.declared.job.Job as code_job
use Rattle.plain_machine.specs.declared.job.Move as code_move
use Rattle.plain_machine.specs.declared.job.Move.TheVariants as variants
use Rattle.dataflow_model.specs.Graph.{Meaning}
use Rattle.dataflow_model.specs.Machine.{Step, Reaches, IsPossible}
use Rattle.plain_machine.specs.Plain.{move_of, job_of, configuration_of, IsImpossible, GoesAlong, IsUnfit, HandsUnfit, StopsAtUnfit, StaysAt}
use Rattle.dataflow_model.proofs.Runs.{one_more}
use Rattle.plain_machine.proofs.Made.{no_value, passed_on}
use Rattle.plain_machine.proofs.plain.PlainMachine+O+O+Record+O+Key+O+State.run.Goals as goal

map_two : {A B : Type 0} (f : A → B) (xs ys : List A) → map f (xs ++ ys) ≡ map f xs ++ map f ys
map_two f [] ys = refl
map_two f (x ∷ xs) ys = ap (λ l. f x ∷ l) (map_two f xs ys)

map_take_more : {A B : Type 0} (f : A → B) (xs : List A) (i : ℕ) (d : A) → i < length xs → map f (take (i + 1) xs) ≡ map f (take i xs) ++ f (get_or xs i d) ∷ []
map_take_more f xs i d within =
    rw add-one (ap (map f) (take-suc xs i d within) ∙ map_two f (take i xs) (get_or xs i d ∷ []))

module _ {O R K S : Type 0} (meaning : Meaning R K S O) (compare : K → K → Ordering) (job before_job : code_job.Job O R) (old before new : code_configuration.Configuration R K S) (moves : List code_move.Move) (made : ℕ) (same : before_job ≡ job) (stays : StaysAt compare before new) where
  -- where a move left the configuration as it was
  gone : GoesAlong meaning compare job (take made moves) old before → GoesAlong meaning compare job (take made moves) old new
  gone along = subst (λ c. Reaches (job_of meaning job) (map move_of (take made moves)) (configuration_of compare old) c) (sym stays) along

  impossible_there : made < length moves → IsImpossible meaning compare before_job (move_of (get_or moves made (variants.Read 0))) before → (next : code_move.Move) → slice_get moves made ≡ Some next → IsImpossible meaning compare job (move_of next) new
  impossible_there within impossible next is possible =
      let here : get_or moves made (variants.Read 0) ≡ next = same_Some _ _ (sym (slice_get-get_or moves made (variants.Read 0) within) ∙ is) in
      subst (λ m. IsImpossible meaning compare before_job (move_of m) before) here impossible
      (subst (λ j. IsPossible (job_of meaning j) (move_of next) (configuration_of compare before)) (sym same)
      (subst (λ c. IsPossible (job_of meaning job) (move_of next) c) stays possible))

  unfit_there : (RecordFits : R → Type 0) (IsGood : O → S → Type 0) → made < length moves → HandsUnfit meaning compare RecordFits IsGood before_job (move_of (get_or moves made (variants.Read 0))) before → StopsAtUnfit meaning compare RecordFits IsGood job moves made new
  unfit_there RecordFits IsGood within unfit =
      let next = get_or moves made (variants.Read 0) in (
        next,
        slice_get-get_or moves made (variants.Read 0) within,
        subst (λ c. IsUnfit (job_of meaning job) RecordFits IsGood (move_of next) c) (sym stays) (subst (λ j. IsUnfit (job_of meaning j) RecordFits IsGood (move_of next) (configuration_of compare before)) same unfit),
      )

pub loop-made-preserved : goal.loop-made-preserved
loop-made-preserved g c =
    let before = configuration_of g.O.Key.Ord.cmp c.args.self.now.configuration in
    let middle = configuration_of g.O.Key.Ord.cmp c.loop-made.self.configuration in
    let after = configuration_of g.O.Key.Ord.cmp c.step.new.self.configuration in
    let next = move_of (get_or c.args.moves.now c.loop-made.made (variants.Read 0)) in
    let step = subst (λ p. Step (job_of g.O.Operator.meaning p) next middle after) c.loop-made.invariant.0 (c.in_ok-step.ensures.made c.if-not-branch.false) in
    let on = one_more (job_of g.O.Operator.meaning c.args.self.now.job) (map move_of (take c.loop-made.made c.args.moves.now)) next before middle after c.loop-made.invariant.1 step in (
      c.in_ok-step.ensures.job ∙ c.loop-made.invariant.0,
      subst (λ ms. Reaches (job_of g.O.Operator.meaning c.args.self.now.job) ms before after) (sym (map_take_more move_of c.args.moves.now c.loop-made.made (variants.Read 0) c.loop-made-test.true)) on,
    )

pub loop-made-init : goal.loop-made-init
loop-made-init g c = (refl, refl)

pub returns-in_err-step-clause-made : goal.returns-in_err-step-clause-made
returns-in_err-step-clause-made g c = no_value c.from_residual.result _ c.from_residual.ensures.0

pub returns-in_err-step-clause-stopped : goal.returns-in_err-step-clause-stopped
returns-in_err-step-clause-stopped g c = no_value c.from_residual.result _ c.from_residual.ensures.0

pub returns-in_err-step-clause-err : goal.returns-in_err-step-clause-err
returns-in_err-step-clause-err g c =
    passed_on c.from_residual.result c.in_err-step.field-0.0 _ c.from_residual.ensures.1 (
      c.loop-made.made,
      gone g.O.Operator.meaning g.O.Key.Ord.cmp c.args.self.now.job c.loop-made.self.job c.args.self.now.configuration c.loop-made.self.configuration c.step.new.self.configuration c.args.moves.now c.loop-made.made c.loop-made.invariant.0 c.in_err-step.ensures.err c.loop-made.invariant.1,
      λ unfit. unfit_there g.O.Operator.meaning g.O.Key.Ord.cmp c.args.self.now.job c.loop-made.self.job c.args.self.now.configuration c.loop-made.self.configuration c.step.new.self.configuration c.args.moves.now c.loop-made.made c.loop-made.invariant.0 c.in_err-step.ensures.err _ _ c.loop-made-test.true (c.in_err-step.ensures.unfit unfit),
    )

pub returns-in_err-step-clause-job : goal.returns-in_err-step-clause-job
returns-in_err-step-clause-job g c = c.step.ensures.job ∙ c.loop-made.invariant.0

pub returns-then-not-branch-clause-made : goal.returns-then-not-branch-clause-made
returns-then-not-branch-clause-made g c =
    let stays = ap (λ m. configuration_of g.O.Key.Ord.cmp m.configuration) (c.in_ok-step.ensures.not_made c.if-not-branch.true).1 in
    gone g.O.Operator.meaning g.O.Key.Ord.cmp c.args.self.now.job c.loop-made.self.job c.args.self.now.configuration c.loop-made.self.configuration c.step.new.self.configuration c.args.moves.now c.loop-made.made c.loop-made.invariant.0 stays c.loop-made.invariant.1

pub returns-then-not-branch-clause-stopped : goal.returns-then-not-branch-clause-stopped
returns-then-not-branch-clause-stopped g c =
    let none = c.in_ok-step.ensures.not_made c.if-not-branch.true in
    let stays = ap (λ m. configuration_of g.O.Key.Ord.cmp m.configuration) none.1 in
    impossible_there g.O.Operator.meaning g.O.Key.Ord.cmp c.args.self.now.job c.loop-made.self.job c.args.self.now.configuration c.loop-made.self.configuration c.step.new.self.configuration c.args.moves.now c.loop-made.made c.loop-made.invariant.0 stays c.loop-made-test.true none.0

pub returns-then-not-branch-clause-job : goal.returns-then-not-branch-clause-job
returns-then-not-branch-clause-job g c = c.step.ensures.job ∙ c.loop-made.invariant.0

pub returns-clause-made : goal.returns-clause-made
returns-clause-made g c =
    let all : c.loop-made.made ≡ length c.args.moves.now = omega (arith, c.loop-made-test.false, c.loop-made.auto.made-end) in
    subst (λ n. Reaches (job_of g.O.Operator.meaning c.args.self.now.job) (map move_of (take n c.args.moves.now)) (configuration_of g.O.Key.Ord.cmp c.args.self.now.configuration) (configuration_of g.O.Key.Ord.cmp c.loop-made.self.configuration)) all c.loop-made.invariant.1

pub returns-clause-stopped : goal.returns-clause-stopped
returns-clause-stopped g c = λ next is. absurd (omega (arith, slice_get_within c.args.moves.now (length c.args.moves.now) next is))

pub returns-clause-job : goal.returns-clause-job
returns-clause-job g c = c.loop-made.invariant.0
