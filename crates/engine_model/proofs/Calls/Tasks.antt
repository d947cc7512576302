-- The tasks that calls are made on: their inputs, and their subtasks.
use Rattle.std.proofs.Common.{◌≡◌, ◌<◌, ◌+◌, inl, inr, cond, Option, Some, None, slice_get, take, length, count_by, ℕ, zero, suc, true, false, List, [], ◌∷◌, refl, subst, arith}
use Rattle.std.specs.List.{range_with_len}
use Rattle.std.specs.Option.{option_map_or}
use Rattle.std.proofs.lemmas.Bool.{eqb-true, false≢true, cases_lt}
use Rattle.std.proofs.lemmas.List.Elements.{filter_passes}
use Rattle.std.proofs.lemmas.List.Sums.{sum_by-cons}
use Rattle.std.proofs.lemmas.Option.{none-some, slice_get_within, get_or_from_slice_get}
use Rattle.dataflow_model.specs.Graph.{Channel}
use Rattle.job_graph.specs.Expanded.{Expanded, IsExpanded, is_sink, is_input, meets, inputs_of}
use Rattle.job_graph.specs.declared.role.Role.{Role}
use Rattle.job_graph.specs.declared.role.Role.TheVariants.{Source, Operator, Sink}
use Rattle.engine_model.specs.Calls.{input_at}

-- the channel leads to the task
pub record LeadsTo (graph : Expanded) (task number : ℕ) : Type 0 where
  pub channel : Channel
  pub is : slice_get graph.channels number ≡ Some channel
  pub to : channel.receiver ≡ task

leads_by : (task : ℕ) (o : Option Channel) → option_map_or (is_input task) o false ≡ true → (channel : Channel) × (o ≡ Some channel) × (channel.receiver ≡ task)
leads_by task None e = absurd (false≢true e)
leads_by task (Some channel) e = (channel, refl, eqb-true channel.receiver task e)

-- a task's input leads to it
pub input_leads : (graph : Expanded) (task input number : ℕ) → input_at graph task input ≡ Some number → LeadsTo graph task number
input_leads graph task input number at =
    let passes = filter_passes (meets (is_input task) graph.channels) (range_with_len 0 (length graph.channels)) input number (slice_get_within (inputs_of graph task) input number at) in
    let here : meets (is_input task) graph.channels number ≡ true = subst (λ n. meets (is_input task) graph.channels n ≡ true) (get_or_from_slice_get (inputs_of graph task) input number number at) passes in
    let l = leads_by task (slice_get graph.channels number) here in
    record { channel = l.0; is = l.1; to = l.2 }

count_sink : (s : ℕ) (tasks : List Role) → count_by is_sink (Sink s ∷ tasks) ≡ 1 + count_by is_sink tasks
count_sink s tasks = sum_by-cons (λ r. cond (is_sink r) 1 0) (Sink s) tasks

-- fewer sinks stand before an earlier one
behind_less : (tasks : List Role) (a b s : ℕ) → a < b → slice_get tasks a ≡ Some (Sink s) → count_by is_sink (take a tasks) < count_by is_sink (take b tasks)
behind_less [] a b s less is = absurd (none-some (Sink s) is)
behind_less (r ∷ tasks) a zero s less is = absurd (omega (arith, less))
behind_less (Source p ∷ tasks) zero (suc b) s less is = absurd cc
behind_less (Operator n ∷ tasks) zero (suc b) s less is = absurd cc
behind_less (Sink n ∷ tasks) zero (suc b) s less is = omega (arith, count_sink n (take b tasks))
behind_less (Source p ∷ tasks) (suc a) (suc b) s less is = behind_less tasks a b s (omega (arith, less)) is
behind_less (Operator n ∷ tasks) (suc a) (suc b) s less is = behind_less tasks a b s (omega (arith, less)) is
behind_less (Sink n ∷ tasks) (suc a) (suc b) s less is =
    let rest = behind_less tasks a b s (omega (arith, less)) is in
    omega (arith, count_sink n (take a tasks), count_sink n (take b tasks), rest)

-- a sink subtask is one task
pub one_subtask : (graph : Expanded) → IsExpanded graph → (a b subtask : ℕ) → slice_get graph.tasks a ≡ Some (Sink subtask) → slice_get graph.tasks b ≡ Some (Sink subtask) → a ≡ b
one_subtask graph expanded a b subtask one two =
    let first : subtask ≡ count_by is_sink (take a graph.tasks) = expanded.numbered.each a (Sink subtask) one in
    let second : subtask ≡ count_by is_sink (take b graph.tasks) = expanded.numbered.each b (Sink subtask) two in
    elim (cases_lt a b) [
      | inl less ↦ absurd (omega (arith, first, second, behind_less graph.tasks a b subtask less one))
      | inr more ↦ elim (cases_lt b a) [
        | inl less ↦ absurd (omega (arith, first, second, behind_less graph.tasks b a subtask less two))
        | inr same ↦ omega (arith, more, same)
      ]
    ]
