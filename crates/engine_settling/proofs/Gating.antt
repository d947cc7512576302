-- What a gate and its channels say of the barriers that came and that are due.
use Rattle.std.proofs.Common.{◌≡◌, ◌≢◌, ◌<◌, ◌+◌, ◌&&◌, not, cond, inl, inr, Option, Some, None, slice_get, slice_index_or, is_some, length, count_by, ℕ, zero, suc, Bool, true, false, List, [], ◌∷◌, refl, sym, ap, subst, ◌∙◌, arith}
use Rattle.std.specs.Option.{option_map_or}
use Rattle.std.proofs.lemmas.Bool.{true≢false, false≢true, cases_Bool}
use Rattle.std.proofs.lemmas.List.Sums.{sum_by-cons}
use Rattle.std.proofs.lemmas.Option.{none-some, slice_get_within, slice_get-get_or}
use Rattle.alignment.specs.Inputs as gates
use Rattle.alignment.specs.Inputs.{fresh, misses_unmarked, misses_marked, missing_unmarked, missing_marked}
use Rattle.alignment.specs.Table.{IsKept, is_blocked}
use Rattle.alignment.specs.declared.input.Input.{Input}
use Rattle.alignment.specs.declared.input.Phase.{Phase}
use Rattle.alignment.specs.declared.input.Phase.TheVariants.{AtRest, Aligning, Copied}
use Rattle.channels.specs.declared.item.Item.{Item}
use Rattle.channels.specs.declared.item.Item.TheVariants.{Record, Barrier}
use Rattle.claims.specs.Due.{IsWorker, WorksFrom}
use Rattle.dataflow_model.specs.Graph.{Channel}
use Rattle.job_graph.specs.Expanded.{Expanded, IsExpanded, IsReceiver, is_source, is_marked, meets, inputs_of}
use Rattle.job_graph.specs.declared.role.Role.{Role}
use Rattle.job_graph.specs.declared.role.Role.TheVariants.{Source, Operator, Sink}
use Rattle.job_state.specs.Held.{Held, copy_at, came_at, gate_at}
use Rattle.job_state.specs.Sending.{items_at}
use Rattle.engine_model.specs.AllRules.{AllRules}
use Rattle.engine_model.specs.Calls.{IsBlocked, NoRecord, IsBarrierDue}
use Rattle.engine_model.specs.Keeps.{Shape, GateFits, StandsAs, NotesBarriers, barriers_in, barriers_due}
use Rattle.engine_model.proofs.Calls.Tasks.{LeadsTo, input_leads}
use Rattle.engine_model.proofs.Shape.Gates.{input_of_channel, some_copy}
use Rattle.engine_settling.specs.Advancing.{IsPending, HaveCopied, HaveCome, HaveAllCome}

-- ---- tasks and their inputs

-- a task's input is a channel that leads to it
pub input_channel : (graph : Expanded) (task input number : ℕ) → slice_get (inputs_of graph task) input ≡ Some number → (channel : Channel) × (slice_get graph.channels number ≡ Some channel) × (channel.receiver ≡ task)
input_channel graph task input number leads = let to : LeadsTo graph task number = input_leads graph task input number leads in (to.channel, to.is, to.to)

-- a channel is an input of its receiver
pub channel_input : (graph : Expanded) (number : ℕ) (channel : Channel) → slice_get graph.channels number ≡ Some channel → (input : ℕ) × (input < length (inputs_of graph channel.receiver)) × (slice_get (inputs_of graph channel.receiver) input ≡ Some number)
channel_input graph number channel is =
    let found = input_of_channel graph number channel is in
    (found.0, slice_get_within (inputs_of graph channel.receiver) found.0 number found.1, found.1)

works_as : (r : Role) → is_source r ≡ false → IsWorker (Some r)
works_as (Source partition) e = absurd (true≢false e)
works_as (Operator number) e = tt
works_as (Sink subtask) e = tt

-- a task that takes records is an operator or a sink,
pub worker_of : (graph : Expanded) (task : ℕ) → IsReceiver graph.tasks task → IsWorker (slice_get graph.tasks task)
worker_of graph task receiver = subst IsWorker (sym receiver.is) (works_as receiver.role receiver.takes)

-- and the other way round
pub receiver_of : (graph : Expanded) (task : ℕ) → IsWorker (slice_get graph.tasks task) → IsReceiver graph.tasks task
receiver_of graph task worker = of (slice_get graph.tasks task) refl worker
  where
    of : (o : Option Role) → slice_get graph.tasks task ≡ o → IsWorker o → IsReceiver graph.tasks task
    of None is w = absurd w
    of (Some (Source partition)) is w = absurd w
    of (Some (Operator number)) is w = record { role = Operator number; is = is; takes = refl }
    of (Some (Sink subtask)) is w = record { role = Sink subtask; is = is; takes = refl }

-- a task with an input works from it
pub works_from : (graph : Expanded) → IsExpanded graph → (task input number : ℕ) → slice_get (inputs_of graph task) input ≡ Some number → WorksFrom graph task input number
works_from graph expanded task input number leads =
    let to : LeadsTo graph task number = input_leads graph task input number leads in
    (worker_of graph task (subst (λ (t : ℕ). IsReceiver graph.tasks t) to.to (expanded.joined number to.channel to.is).receiver), leads)

-- ---- queues

-- where a barrier stands in a queue and no record stands first, the barrier does
pub barrier_first : {R : Type 0} (items : List (Item R)) (n : ℕ) → barriers_in items ≡ n ∷ [] → ((r : R) → slice_get items 0 ≢ Some (Record r)) → slice_get items 0 ≡ Some (Barrier n)
barrier_first [] n one none = absurd cc
barrier_first (Record r ∷ items) n one none = absurd (none r refl)
barrier_first (Barrier m ∷ items) n one none = let same : m ≡ n = cc in ap (λ (k : ℕ). Some (Barrier k)) same

due_one : {A : Type 0} (pending : Option ℕ) (copy : Option A) (came : Bool) (n : ℕ) → pending ≡ Some n → copy ≢ None → came ≡ false → barriers_due pending (is_some copy) came ≡ n ∷ []
due_one pending copy came n is copied awaited = rw (is, some_copy copy copied, awaited) refl

-- ---- counts

count_more : {A : Type 0} (p : A → Bool) (x : A) (xs : List A) → count_by p (x ∷ xs) ≡ cond (p x) 1 0 + count_by p xs
count_more p x xs = sum_by-cons (λ y. cond (p y) 1 0) x xs

one_or_more : (b : Bool) (n : ℕ) → b ≡ true → 0 < cond b 1 0 + n
one_or_more true n e = omega arith
one_or_more false n e = absurd (false≢true e)

one_or_none : (b : Bool) (n : ℕ) → b ≡ false → n ≡ 0 → cond b 1 0 + n ≡ 0
one_or_none true n e rest = absurd (true≢false e)
one_or_none false n e rest = omega (arith, rest)

-- what passes is counted
counted : {A : Type 0} (p : A → Bool) (xs : List A) (i : ℕ) (d : A) → i < length xs → p (slice_index_or xs i d) ≡ true → 0 < count_by p xs
counted p [] i d within passes = absurd (omega (arith, within))
counted p (x ∷ xs) zero d within passes = omega (arith, count_more p x xs, one_or_more (p x) (count_by p xs) passes)
counted p (x ∷ xs) (suc i) d within passes =
    let rest : 0 < count_by p xs = counted p xs i d (omega (arith, within)) passes in
    omega (arith, count_more p x xs, rest)

-- where none is counted, none passes
uncounted : {A : Type 0} (p : A → Bool) (xs : List A) (i : ℕ) (d : A) → count_by p xs ≡ 0 → i < length xs → p (slice_index_or xs i d) ≡ false
uncounted p xs i d none within =
    elim (cases_Bool (p (slice_index_or xs i d))) [
      | inl passes ↦ let some : 0 < count_by p xs = counted p xs i d within passes in absurd (omega (arith, some, none))
      | inr fails ↦ fails
    ]

-- where none passes, none is counted
none_counted : {A : Type 0} (p : A → Bool) (xs : List A) (d : A) → ((i : ℕ) → i < length xs → p (slice_index_or xs i d) ≡ false) → count_by p xs ≡ 0
none_counted p [] d fails = refl
none_counted p (x ∷ xs) d fails =
    count_more p x xs ∙ one_or_none (p x) (count_by p xs) (fails 0 (omega arith)) (none_counted p xs d (λ i within. fails (suc i) (omega (arith, within))))

-- ---- a gate and its inputs

came_unless : (mark came : Bool) → mark ≡ false → (not mark && not came) ≡ false → came ≡ true
came_unless mark true unmarked none = refl
came_unless true false unmarked none = absurd (true≢false unmarked)
came_unless false false unmarked none = absurd (true≢false none)

no_unmarked : (mark came : Bool) → (mark ≡ false → came ≡ true) → (not mark && not came) ≡ false
no_unmarked true came come = refl
no_unmarked false true come = refl
no_unmarked false false come = absurd (false≢true (come refl))

no_marked : (mark came : Bool) → came ≡ true → (mark && not came) ≡ false
no_marked true came come = rw come refl
no_marked false came come = refl

copy_of : {A : Type 0} (o : Option A) → is_some o ≡ true → o ≢ None
copy_of None some none = false≢true some
copy_of (Some a) some none = none-some a (sym none)

-- an input is marked as its channel is
pub marked_as : (graph : Expanded) (number : ℕ) (channel : Channel) → slice_get graph.channels number ≡ Some channel → meets is_marked graph.channels number ≡ channel.marked
marked_as graph number channel is = ap (λ (o : Option Channel). option_map_or is_marked o false) is

module _ {R K S : Type 0} (graph : Expanded) (h : Held R K S) (task : ℕ) where
  -- an input whose barrier did not come is not blocked
  free_as : (input number : ℕ) → slice_get (inputs_of graph task) input ≡ Some number → came_at h number ≡ false → (phase : Phase) (inputs : List Input) → StandsAs graph h task phase inputs
      → is_blocked (record { phase = phase; inputs = inputs }) input ≡ true → ⊥
  free_as input number leads awaited AtRest inputs stands blocked = false≢true blocked
  free_as input number leads awaited (Aligning n) inputs stands blocked = true≢false (sym blocked ∙ stands.2 input number leads ∙ awaited)
  free_as input number leads awaited (Copied n) inputs stands blocked = false≢true blocked

  -- a gate has an input for each channel
  at_input : (inputs : List Input) → length inputs ≡ length (inputs_of graph task) → (input : ℕ) → input < length inputs → (number : ℕ) × (slice_get (inputs_of graph task) input ≡ Some number)
  at_input inputs long input within = (slice_index_or (inputs_of graph task) input 0, slice_get-get_or (inputs_of graph task) input 0 (omega (arith, long, within)))

  module _ (inputs : List Input) (long : length inputs ≡ length (inputs_of graph task)) (marks : (input number : ℕ) → slice_get (inputs_of graph task) input ≡ Some number → (gates.input_at inputs input).is_marked ≡ meets is_marked graph.channels number) where
    -- where the unmarked barriers came, none is missing
    none_unmarked : NotesBarriers graph h task inputs → HaveCome graph h false task → missing_unmarked inputs ≡ 0
    none_unmarked notes come =
        none_counted misses_unmarked inputs (fresh false)
        (λ input within.
        let at = at_input inputs long input within in
        let to = input_channel graph task input at.0 at.1 in
        no_unmarked (gates.input_at inputs input).is_marked (gates.input_at inputs input).came
        (λ unmarked. notes input at.0 at.1 ∙ come at.0 to.0 to.1 to.2 (sym (marked_as graph at.0 to.0 to.1) ∙ sym (marks input at.0 at.1) ∙ unmarked)))

    -- where all barriers came, no marked one is missing
    none_marked : NotesBarriers graph h task inputs → HaveAllCome graph h → missing_marked inputs ≡ 0
    none_marked notes come =
        none_counted misses_marked inputs (fresh false)
        (λ input within.
        let at = at_input inputs long input within in
        let to = input_channel graph task input at.0 at.1 in
        no_marked (gates.input_at inputs input).is_marked (gates.input_at inputs input).came (notes input at.0 at.1 ∙ come at.0 to.0 to.1))

    -- an input, which is this channel
    module _ (input number : ℕ) (leads : slice_get (inputs_of graph task) input ≡ Some number) (unmarked : meets is_marked graph.channels number ≡ false) where
      within : input < length inputs
      within = subst (λ (n : ℕ). input < n) (sym long) (slice_get_within (inputs_of graph task) input number leads)

      -- a task with an unmarked input that has taken all the barriers of such has copied
      copied_as : (phase : Phase) → IsKept phase inputs → StandsAs graph h task phase inputs → HaveCome graph h false task → came_at h number ≡ true → copy_at h task ≢ None
      copied_as AtRest kept stands come here = copy_of (copy_at h task) (sym (stands input number leads) ∙ here)
      copied_as (Aligning n) kept stands come here =
          let some : 0 < count_by (λ (x : Input). not x.is_marked) inputs = counted (λ (x : Input). not x.is_marked) inputs input (fresh false) within (ap not (marks input number leads ∙ unmarked)) in
          let missing : 0 < missing_unmarked inputs = kept some in
          absurd (omega (arith, missing, none_unmarked stands.2 come))
      copied_as (Copied n) kept stands come here = stands.1

      -- a task that has copied has taken the barrier of an unmarked input
      came_as : (phase : Phase) → IsKept phase inputs → StandsAs graph h task phase inputs → copy_at h task ≢ None → came_at h number ≡ true
      came_as AtRest kept stands copied = stands input number leads ∙ some_copy (copy_at h task) copied
      came_as (Aligning n) kept stands copied = absurd (copied stands.1)
      came_as (Copied n) kept stands copied =
          sym (stands.2 input number leads)
          ∙ came_unless (gates.input_at inputs input).is_marked (gates.input_at inputs input).came (marks input number leads ∙ unmarked) (uncounted misses_unmarked inputs input (fresh false) kept.0 within)

    -- where all barriers came and the task has copied, the gate is at rest
    rests_as : (phase : Phase) → IsKept phase inputs → StandsAs graph h task phase inputs → copy_at h task ≢ None → HaveAllCome graph h → phase ≡ AtRest
    rests_as AtRest kept stands copied come = refl
    rests_as (Aligning n) kept stands copied come = absurd (copied stands.1)
    rests_as (Copied n) kept stands copied come = let missing : 0 < missing_marked inputs = kept.1 in absurd (omega (arith, missing, none_marked stands.2 come))

module _ {R K S O : Type 0} (rules : AllRules R K S O) (graph : Expanded) (operators : List O) (h : Held R K S) (expanded : IsExpanded graph) (shape : Shape rules graph operators h) where
  -- where the sender of a channel has copied and the barrier was not taken, the barrier of the pending checkpoint stands in the channel
  pub barrier_sent : (number n : ℕ) (channel : Channel) → slice_get graph.channels number ≡ Some channel → h.coordination.pending ≡ Some n → copy_at h channel.sender ≢ None → came_at h number ≡ false
      → barriers_in (items_at h.channels number) ≡ n ∷ []
  barrier_sent number n channel is pending copied awaited =
      shape.barriers number channel is ∙ due_one h.coordination.pending (copy_at h channel.sender) (came_at h number) n pending copied awaited

  task_within : (task input number : ℕ) → slice_get (inputs_of graph task) input ≡ Some number → task < length graph.tasks
  task_within task input number leads =
      let to = input_channel graph task input number leads in
      let receiver = (expanded.joined number to.0 to.1).receiver in
      subst (λ (t : ℕ). t < length graph.tasks) to.2 (slice_get_within graph.tasks to.0.receiver receiver.role receiver.is)

  -- an input whose barrier was not taken is not blocked
  pub is_free : (task input number : ℕ) → slice_get (inputs_of graph task) input ≡ Some number → came_at h number ≡ false → ¬ IsBlocked task input h
  is_free task input number leads awaited blocked =
      let fits : GateFits graph h task = shape.gate_fits task (task_within task input number leads) in
      free_as graph h task input number leads awaited (gate_at h task).phase (gate_at h task).inputs fits.stands blocked

  -- where, besides, no record stands first in it, its barrier is the next to take
  pub barrier_next : (task input number n : ℕ) (channel : Channel) → slice_get (inputs_of graph task) input ≡ Some number → slice_get graph.channels number ≡ Some channel → h.coordination.pending ≡ Some n
      → copy_at h channel.sender ≢ None → came_at h number ≡ false → NoRecord h number → IsBarrierDue task input h number n
  barrier_next task input number n channel leads is pending copied awaited none =
      (is_free task input number leads awaited, (barrier_first (items_at h.channels number) n (barrier_sent number n channel is pending copied awaited) none, pending, awaited))

  -- a task that has taken the barriers of all its unmarked inputs has copied,
  pub copied_by : (task : ℕ) → IsReceiver graph.tasks task → IsPending h → HaveCome graph h false task → copy_at h task ≢ None
  copied_by task receiver pending come =
      let plain = expanded.fed task receiver in
      let found = channel_input graph plain.number plain.channel plain.is in
      let leads : slice_get (inputs_of graph task) found.0 ≡ Some plain.number = subst (λ (t : ℕ). slice_get (inputs_of graph t) found.0 ≡ Some plain.number) plain.leads found.2 in
      let fits : GateFits graph h task = shape.gate_fits task (slice_get_within graph.tasks task receiver.role receiver.is) in
      copied_as graph h task (gate_at h task).inputs fits.one_each fits.marks found.0 plain.number leads (marked_as graph plain.number plain.channel plain.is ∙ plain.unmarked) (gate_at h task).phase fits.kept fits.stands come
      (come plain.number plain.channel plain.is plain.leads plain.unmarked)

  -- and one that has copied has taken them
  pub unmarked_came : (task : ℕ) → task < length graph.tasks → copy_at h task ≢ None → HaveCome graph h false task
  unmarked_came task within copied number channel is to unmarked =
      let found = channel_input graph number channel is in
      let leads : slice_get (inputs_of graph task) found.0 ≡ Some number = subst (λ (t : ℕ). slice_get (inputs_of graph t) found.0 ≡ Some number) to found.2 in
      let fits : GateFits graph h task = shape.gate_fits task within in
      came_as graph h task (gate_at h task).inputs fits.one_each fits.marks found.0 number leads (marked_as graph number channel is ∙ unmarked) (gate_at h task).phase fits.kept fits.stands copied

  -- where all tasks have copied and all barriers were taken, each gate is at rest
  pub gate_rests : HaveCopied graph h → HaveAllCome graph h → (task : ℕ) → task < length graph.tasks → (gate_at h task).phase ≡ AtRest
  gate_rests copied come task within =
      let fits : GateFits graph h task = shape.gate_fits task within in
      rests_as graph h task (gate_at h task).inputs fits.one_each fits.marks (gate_at h task).phase fits.kept fits.stands (copied task within) come
