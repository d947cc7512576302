-- Where no channel meets a test.
use Rattle.std.proofs.Common.{◌≡◌, ℕ, zero, suc, ◌+◌, ◌≤◌, Bool, false, eqb, List, [], length, Option, Some, None, slice_get, refl, sym, subst, arith}
use Rattle.std.specs.List.{filter, range_with_len}
use Rattle.std.specs.Option.{option_map_or}
use Rattle.std.proofs.lemmas.Bool.{ne_eqb, and_left, and_right}
use Rattle.std.proofs.lemmas.Option.{slice_get_within}
use Rattle.dataflow_model.specs.Graph.{Channel}
use Rattle.job_graph.specs.Runs.{AreRuns}
use Rattle.job_graph.specs.Expanded.{Expanded, IsExpanded, meets, numbers_of, inputs_of, outputs_of, outlets_of}

filter_none : (p : ℕ → Bool) (a n : ℕ) → ((k : ℕ) → p k ≡ false) → filter p (range_with_len a n) ≡ []
filter_none p a zero none = refl
filter_none p a (suc n) none = rw (none a) (filter_none p (a + 1) n none)

numbers_none : (test : Channel → Bool) (channels : List Channel) → ((number : ℕ) (channel : Channel) → slice_get channels number ≡ Some channel → test channel ≡ false) → [] ≡ numbers_of test channels
numbers_none test channels none = sym (filter_none (meets test channels) 0 (length channels) (λ k. by k (slice_get channels k) refl))
  where
    by : (k : ℕ) (o : Option Channel) → slice_get channels k ≡ o → option_map_or test o false ≡ false
    by k None e = refl
    by k (Some c) e = none k c e

-- a task that is not there has no inputs
pub inputs_past : (graph : Expanded) (task : ℕ) → IsExpanded graph → length graph.tasks ≤ task → [] ≡ inputs_of graph task
inputs_past graph task expanded past =
    numbers_none _ _ (λ number channel is.
    let receiver = (expanded.joined number channel is).receiver in
    let within = slice_get_within graph.tasks channel.receiver receiver.role receiver.is in
    ne_eqb channel.receiver task (λ same. absurd (omega arith)))

sends_not : (graph : Expanded) (task : ℕ) → IsExpanded graph → length graph.tasks ≤ task → (number : ℕ) (channel : Channel) → slice_get graph.channels number ≡ Some channel → eqb channel.sender task ≡ false
sends_not graph task expanded past number channel is =
    let sender = (expanded.joined number channel is).sender in
    let within = slice_get_within graph.tasks channel.sender sender.role sender.is in
    ne_eqb channel.sender task (λ same. absurd (omega arith))

-- nor outputs
pub outputs_past : (graph : Expanded) (task : ℕ) → IsExpanded graph → length graph.tasks ≤ task → [] ≡ outputs_of graph task
outputs_past graph task expanded past = numbers_none _ _ (sends_not graph task expanded past)

pub outlets_past : (graph : Expanded) (task port : ℕ) → IsExpanded graph → length graph.tasks ≤ task → [] ≡ outlets_of graph task port
outlets_past graph task port expanded past =
    numbers_none _ _ (λ number channel is. and_left (eqb channel.sender task) (eqb channel.port port) (sends_not graph task expanded past number channel is))

-- no channel has a third port
pub outlets_above : (graph : Expanded) (task port : ℕ) → IsExpanded graph → 2 ≤ port → [] ≡ outlets_of graph task port
outlets_above graph task port expanded above =
    numbers_none _ _ (λ number channel is.
    let low = (expanded.joined number channel is).port in
    and_right (eqb channel.sender task) (eqb channel.port port) (ne_eqb channel.port port (λ same. absurd (omega arith))))

-- no channels have no runs
pub no_runs : (channels : List Channel) (numbers : List ℕ) → [] ≡ numbers → AreRuns channels numbers []
no_runs channels numbers none = subst (λ (l : List ℕ). AreRuns channels l []) none (record { len = refl; each = λ place lt. absurd (omega (arith, lt)) })
