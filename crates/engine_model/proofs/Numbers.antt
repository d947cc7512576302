-- Numbers of tasks and channels: how many there are, and what stands past the last.
use Rattle.std.proofs.Common.{◌≡◌, ◌<◌, ◌≤◌, cond, Option, Some, None, slice_get, take, length, count_by, ℕ, zero, suc, Bool, true, List, [], ◌∷◌, refl, sym, ap, subst, ◌∙◌, arith}
use Rattle.std.proofs.lemmas.List.Sums.{sum_by-cons}
use Rattle.std.proofs.lemmas.Option.{none-some, slice_get_within}
use Rattle.job_graph.specs.Expanded.{Expanded, IsExpanded, is_source, is_operator, is_sink}
use Rattle.job_graph.specs.declared.role.Role.{Role}
use Rattle.job_graph.specs.declared.role.Role.TheVariants as role
use Rattle.engine_model.specs.Calls.{input_at}
use Rattle.engine_model.proofs.Calls.Tasks.{LeadsTo, input_leads}

-- nothing stands at a place past the end alone
pub none_past : {A : Type 0} (xs : List A) (i : ℕ) → slice_get xs i ≡ None → length xs ≤ i
none_past [] i e = omega arith
none_past (x ∷ xs) zero e = absurd cc
none_past (x ∷ xs) (suc i) e = let less = none_past xs i e in omega (arith, less)

-- a task's input is a channel of the graph
pub channel_in : {A : Type 0} (graph : Expanded) (task input channel : ℕ) (xs : List A) → input_at graph task input ≡ Some channel → length xs ≡ length graph.channels → channel < length xs
channel_in graph task input channel xs leads same =
    let to : LeadsTo graph task channel = input_leads graph task input channel leads in
    subst (λ n. channel < n) (sym same) (slice_get_within graph.channels channel to.channel to.is)

-- a task that passes is counted behind the tasks before it
within : (is : Role → Bool) (tasks : List Role) (task : ℕ) (r : Role) → slice_get tasks task ≡ Some r → is r ≡ true → count_by is (take task tasks) < count_by is tasks
within is [] task r at passes = absurd (none-some r at)
within is (x ∷ tasks) zero r at passes =
    let one : cond (is x) 1 0 ≡ 1 = ap (λ (o : Option Role). (let n : ℕ = elim o [ None ↦ 0 | Some y ↦ cond (is y) 1 0 ] in n)) at ∙ ap (λ (b : Bool). cond b 1 0) passes in
    omega (arith, sum_by-cons (λ y. cond (is y) 1 0) x tasks, one)
within is (x ∷ tasks) (suc task) r at passes =
    let rest = within is tasks task r at passes in
    omega (arith, sum_by-cons (λ y. cond (is y) 1 0) x tasks, sum_by-cons (λ y. cond (is y) 1 0) x (take task tasks), rest)

module _ (graph : Expanded) (expanded : IsExpanded graph) (task number : ℕ) where
  -- sources, operators and sinks have numbers below how many there are
  pub source_within : slice_get graph.tasks task ≡ Some (role.Source number) → number < count_by is_source graph.tasks
  source_within at = subst (λ n. n < count_by is_source graph.tasks) (sym (expanded.numbered.each task (role.Source number) at)) (within is_source graph.tasks task (role.Source number) at refl)

  pub operator_within : slice_get graph.tasks task ≡ Some (role.Operator number) → number < count_by is_operator graph.tasks
  operator_within at = subst (λ n. n < count_by is_operator graph.tasks) (sym (expanded.numbered.each task (role.Operator number) at)) (within is_operator graph.tasks task (role.Operator number) at refl)

  pub sink_within : slice_get graph.tasks task ≡ Some (role.Sink number) → number < count_by is_sink graph.tasks
  sink_within at = subst (λ n. n < count_by is_sink graph.tasks) (sym (expanded.numbered.each task (role.Sink number) at)) (within is_sink graph.tasks task (role.Sink number) at refl)
