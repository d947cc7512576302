-- A move that the plain program made is a step of the machine.
use Rattle.std.proofs.Common.{◌≡◌, ◌++◌, ◌+◌, ◌<◌, ◌^◌, ◌==◌, inl, inr, if◌then◌else◌, Option, Some, None, slice_get, slice_set, get_or, length, map, ℕ, zero, suc, Bool, true, false, List, [], ◌∷◌, refl, sym, ap, ◌∙◌, ap₂, subst, arith, Ordering, Vec, Global, Result, Ok, Err, OnErr, IfOk, IfErr, IsErr, IsErrAnd}
use Rattle.std.proofs.lemmas.Option.{none-some, same_Some, slice_get_within, slice_get_read, slice_get-map}
use Rattle.std.proofs.lemmas.Bool.Decides.{eqb_tells}
use Rattle.std.specs.Option.{option_map}
use mathlib.Core.Path.{fun_ext}
use Rattle.plain_machine.specs.declared.fault.PlainFault.{PlainFault}
use Rattle.plain_machine.specs.declared.fault.PlainFault.TheVariants.{Unfit, Memory}
use Rattle.plain_machine.specs.declared.job.TaskState as code_state
use Rattle.plain_machine.specs.declared.job.Job as code_job
use Rattle.plain_machine.specs.declared.job.Configuration as code_configuration
use Rattle.plain_machine.specs.declared.job.Task as code_task
use Rattle.plain_machine.specs.declared.job.Task.TheVariants.{Source, Operator, Sink}
use Rattle.operators.specs.declared.operator.Outcome as code_outcome
use Rattle.std.specs.BTreeMap as tree
use Rattle.dataflow_model.specs.Graph.{Outcome, Meaning, Task, SourceTask, OperatorTask, SinkTask, Channel}
use Rattle.dataflow_model.specs.Machine.{TaskState, Configuration, Move, Read, Work, mover, state_under, kept_under, handled, Step}
use Rattle.plain_machine.specs.Offered.{next_of, first_of, offered}
use Rattle.plain_machine.specs.Plain.{task_of, channel_of, records_of, state_of, job_of, configuration_of, IsQueueAfter, IsOperator, HandsUnfit}
use Rattle.plain_machine.proofs.Offered.{step_of, takes_offered}

get_set_same : {A : Type 0} (xs : List A) (i : ℕ) (a : A) → i < length xs → slice_get (slice_set xs i a) i ≡ Some a
get_set_same [] i a within = absurd (omega (arith, within))
get_set_same (x ∷ xs) zero a within = refl
get_set_same (x ∷ xs) (suc i) a within = get_set_same xs i a (omega (arith, within))

get_set_other : {A : Type 0} (xs : List A) (i k : ℕ) (a : A) → (k ≡ i → ⊥) → slice_get (slice_set xs i a) k ≡ slice_get xs k
get_set_other [] i k a apart = refl
get_set_other (x ∷ xs) zero zero a apart = absurd (apart refl)
get_set_other (x ∷ xs) zero (suc k) a apart = refl
get_set_other (x ∷ xs) (suc i) zero a apart = refl
get_set_other (x ∷ xs) (suc i) (suc k) a apart = get_set_other xs i k a (λ e. apart (ap suc e))

get_set : {A : Type 0} (xs : List A) (i k : ℕ) (a : A) → i < length xs → slice_get (slice_set xs i a) k ≡ (if k == i then Some a else slice_get xs k)
get_set xs i k a within =
    elim (eqb_tells k i) [
      | inl h ↦ rw h.0 (ap (slice_get (slice_set xs i a)) h.1 ∙ get_set_same xs i a within)
      | inr h ↦ rw h.0 (get_set_other xs i k a h.1)
    ]

map_length : {A B : Type 0} (f : A → B) (xs : List A) → length (map f xs) ≡ length xs
map_length f [] = refl
map_length f (x ∷ xs) = ap suc (map_length f xs)

if_of : {A B : Type 0} (f : A → B) (b : Bool) (x y : A) → f (if b then x else y) ≡ (if b then f x else f y)
if_of f true x y = refl
if_of f false x y = refl

module _ {R K S O : Type 0} (meaning : Meaning R K S O) (compare : K → K → Ordering) (job : code_job.Job O R) (old new : code_configuration.Configuration R K S) where
  pub made : (move : Move) (k : Task O) (r : R) (changed : code_state.TaskState R K S) →
      length old.tasks.items ≡ length job.tasks.items →
      slice_get (map task_of job.tasks.items) (mover move) ≡ Some k →
      offered (job_of meaning job) move (configuration_of compare old) ≡ Some r →
      new.tasks.items ≡ slice_set old.tasks.items (mover move) changed →
      state_of compare (Some changed) ≡ (handled meaning k (state_of compare (slice_get old.tasks.items (mover move))) r).held →
      ((number : ℕ) → IsQueueAfter meaning job old move (handled meaning k (state_of compare (slice_get old.tasks.items (mover move))) r).sent number (records_of (slice_get new.channels.items number))) →
      Step (job_of meaning job) move (configuration_of compare old) (configuration_of compare new)
  made move k r changed lengths is offers held state queues =
      let effect = handled meaning k (state_of compare (slice_get old.tasks.items (mover move))) r in
      let within : mover move < length old.tasks.items = omega (arith, lengths, map_length task_of job.tasks.items, slice_get_within (map task_of job.tasks.items) (mover move) k is) in
      let tasks : (task : ℕ) → state_of compare (slice_get new.tasks.items task) ≡ (if task == mover move then effect.held else state_of compare (slice_get old.tasks.items task)) =
      λ task.
      ap (λ l. state_of compare (slice_get l task)) held
      ∙ ap (state_of compare) (get_set old.tasks.items (mover move) task changed within)
      ∙ if_of (state_of compare) (task == mover move) (Some changed) (slice_get old.tasks.items task)
      ∙ ap (λ h. if task == mover move then h else state_of compare (slice_get old.tasks.items task)) state in
      let build : (ℕ → TaskState R K S) → (ℕ → List R) → Configuration R K S = λ a b. record { tasks = a; channels = b } in
      step_of (job_of meaning job) move k r (configuration_of compare old) (configuration_of compare new) is offers (ap₂ build (fun_ext tasks) (fun_ext queues))

  source_of : (partitions : ℕ → List R) (o : Option (Task O)) (offset : ℕ) (r : R) → next_of partitions o offset ≡ Some r → (partition : ℕ) × (o ≡ Some (SourceTask partition))
  source_of partitions None offset r e = absurd (none-some r e)
  source_of partitions (Some (SourceTask partition)) offset r e = (partition, refl)
  source_of partitions (Some (OperatorTask operator)) offset r e = absurd (none-some r e)
  source_of partitions (Some SinkTask) offset r e = absurd (none-some r e)

  pub reads_within : (task : ℕ) (next : R) → Some next ≡ offered (job_of meaning job) (Read task) (configuration_of compare old) → task < length job.tasks.items
  reads_within task next offers =
      let source = source_of (job_of meaning job).partitions (slice_get (map task_of job.tasks.items) task) _ next (sym offers) in
      omega (arith, map_length task_of job.tasks.items, slice_get_within (map task_of job.tasks.items) task (SourceTask source.0) source.1)

  -- a source's offset is a place in its partition
  pub offset_fits : (task : ℕ) (next : R) (current : code_state.TaskState R K S) →
      length old.tasks.items ≡ length job.tasks.items →
      Some next ≡ offered (job_of meaning job) (Read task) (configuration_of compare old) →
      current ≡ get_or old.tasks.items task current →
      current.offset + 1 < 2 ^ 64
  offset_fits task next current lengths offers now =
      let source = source_of (job_of meaning job).partitions (slice_get (map task_of job.tasks.items) task) _ next (sym offers) in
      let within : task < length old.tasks.items = omega (arith, lengths, reads_within task next offers) in
      let here : slice_get old.tasks.items task ≡ Some current = slice_get_read old.tasks.items (length old.tasks.items) task current refl within now in
      let at : slice_get (records_of (slice_get job.partitions.items source.0)) current.offset ≡ Some next =
      ap₂ (λ o h. next_of (job_of meaning job).partitions o (state_of compare h).offset) (sym source.1) (sym here) ∙ sym offers in
      few (slice_get job.partitions.items source.0) at
    where
      few : (rows : Option (Vec R Global)) → slice_get (records_of rows) current.offset ≡ Some next → current.offset + 1 < 2 ^ 64
      few None e = absurd (none-some next e)
      few (Some rows) e = omega (arith, slice_get_within rows.items current.offset next e, rows.ok.0, rows.ok.1, rows.small)

  pub read_made : (task : ℕ) (next copy : R) (sent : List (ℕ × R)) (current : code_state.TaskState R K S) →
      length old.tasks.items ≡ length job.tasks.items →
      Some next ≡ offered (job_of meaning job) (Read task) (configuration_of compare old) →
      copy ≡ next →
      sent ≡ (0, copy) ∷ [] →
      current ≡ get_or old.tasks.items task current →
      new.tasks.items ≡ slice_set old.tasks.items task (record { offset = current.offset + 1; states = current.states; output = current.output }) →
      ((number : ℕ) → IsQueueAfter meaning job old (Read task) sent number (records_of (slice_get new.channels.items number))) →
      Step (job_of meaning job) (Read task) (configuration_of compare old) (configuration_of compare new)
  read_made task next copy sent current lengths offers copied sends now held queues =
      let source = source_of (job_of meaning job).partitions (slice_get (map task_of job.tasks.items) task) _ next (sym offers) in
      let k : Task O = SourceTask source.0 in
      let within : task < length old.tasks.items = omega (arith, lengths, reads_within task next offers) in
      let here : slice_get old.tasks.items task ≡ Some current = slice_get_read old.tasks.items (length old.tasks.items) task current refl within now in
      let state = state_of compare (slice_get old.tasks.items task) in
      let same : sent ≡ (0, next) ∷ [] = sends ∙ ap (λ r. (0, r) ∷ []) copied in
      made (Read task) k next (record { offset = current.offset + 1; states = current.states; output = current.output }) lengths source.1 (sym offers) held
      (ap (λ h. (handled meaning k (state_of compare h) next).held) (sym here))
      (λ number. subst (λ s. IsQueueAfter meaning job old (Read task) s number (records_of (slice_get new.channels.items number))) same (queues number))

  pub sink_made : (task input : ℕ) (taken : R) (sent : List (ℕ × R)) (current changed : code_state.TaskState R K S) →
      length old.tasks.items ≡ length job.tasks.items →
      slice_get (map task_of job.tasks.items) task ≡ Some SinkTask →
      offered (job_of meaning job) (Work task input) (configuration_of compare old) ≡ Some taken →
      sent ≡ [] →
      current ≡ get_or old.tasks.items task current →
      changed.offset ≡ current.offset →
      changed.states ≡ current.states →
      changed.output.items ≡ current.output.items ++ taken ∷ [] →
      new.tasks.items ≡ slice_set old.tasks.items task changed →
      ((number : ℕ) → IsQueueAfter meaning job old (Work task input) sent number (records_of (slice_get new.channels.items number))) →
      Step (job_of meaning job) (Work task input) (configuration_of compare old) (configuration_of compare new)
  sink_made task input taken sent current changed lengths is offers none now offset states output held queues =
      let within : task < length old.tasks.items = omega (arith, lengths, map_length task_of job.tasks.items, slice_get_within (map task_of job.tasks.items) task SinkTask is) in
      let here : slice_get old.tasks.items task ≡ Some current = slice_get_read old.tasks.items (length old.tasks.items) task current refl within now in
      let build : ℕ → (K → Option S) → List R → TaskState R K S = λ a b d. record { offset = a; states = b; output = d } in
      let same : state_of compare (Some changed) ≡ (handled meaning SinkTask (state_of compare (Some current)) taken).held =
      rw (offset, states, output) refl in
      made (Work task input) SinkTask taken changed lengths is offers held
      (same ∙ ap (λ h. (handled meaning SinkTask (state_of compare h) taken).held) (sym here))
      (λ number. subst (λ s. IsQueueAfter meaning job old (Work task input) s number (records_of (slice_get new.channels.items number))) none (queues number))

  pub operator_within : (task : ℕ) → IsOperator (slice_get (map task_of job.tasks.items) task) → task < length job.tasks.items
  operator_within task is = go (slice_get (map task_of job.tasks.items) task) refl is
    where
      go : (o : Option (Task O)) → slice_get (map task_of job.tasks.items) task ≡ o → IsOperator o → task < length job.tasks.items
      go None e h = elim h [ ]
      go (Some k) e h = omega (arith, map_length task_of job.tasks.items, slice_get_within (map task_of job.tasks.items) task k e)

  pub found_at : (task : ℕ) (element : code_task.Task O) → task < length job.tasks.items → element ≡ get_or job.tasks.items task element → slice_get (map task_of job.tasks.items) task ≡ Some (task_of element)
  found_at task element inside element_is =
      slice_get-map task_of job.tasks.items task ∙ ap (option_map task_of) (slice_get_read job.tasks.items (length job.tasks.items) task element refl inside element_is)

  -- a task that works off a record
  pub works_within : (task input : ℕ) (taken : R) → offered (job_of meaning job) (Work task input) (configuration_of compare old) ≡ Some taken → task < length job.tasks.items
  works_within task input taken offers = go (slice_get (map task_of job.tasks.items) task) refl offers
    where
      go : (o : Option (Task O)) → slice_get (map task_of job.tasks.items) task ≡ o → first_of o (slice_get (map channel_of job.channels.items) input) task (records_of (slice_get old.channels.items input)) ≡ Some taken → task < length job.tasks.items
      go None e h = absurd (none-some taken h)
      go (Some k) e h = omega (arith, map_length task_of job.tasks.items, slice_get_within (map task_of job.tasks.items) task k e)

  pub works_at_operator : (task input : ℕ) (taken : R) (element : code_task.Task O) → offered (job_of meaning job) (Work task input) (configuration_of compare old) ≡ Some taken → element ≡ get_or job.tasks.items task element → (task_of element ≡ SinkTask → ⊥) → IsOperator (slice_get (map task_of job.tasks.items) task)
  works_at_operator task input taken element offers element_is apart =
      let at : slice_get (map task_of job.tasks.items) task ≡ Some (task_of element) = found_at task element (works_within task input taken offers) element_is in
      let channel = slice_get (map channel_of job.channels.items) input in
      let records = records_of (slice_get old.channels.items input) in
      subst IsOperator (sym at) (go element channel records (ap (λ o. first_of o channel task records) (sym at) ∙ offers) apart)
    where
      none_from : (partition : ℕ) (channel : Option Channel) (records : List R) → first_of {O = O} (Some (SourceTask partition)) channel task records ≡ Some taken → ⊥
      none_from partition None records h = none-some taken h
      none_from partition (Some channel) records h = none-some taken h

      go : (e : code_task.Task O) (channel : Option Channel) (records : List R) → first_of (Some (task_of e)) channel task records ≡ Some taken → (task_of e ≡ SinkTask → ⊥) → IsOperator (Some (task_of e))
      go (Source partition) channel records h f = none_from partition channel records h
      go (Operator operator) channel records h f = tt
      go Sink channel records h f = f refl

  -- what was found at the task is its operator
  pub not_other : (task : ℕ) (element : code_task.Task O) → IsOperator (slice_get (map task_of job.tasks.items) task) → element ≡ get_or job.tasks.items task element → ((operator : O) → element ≡ Operator operator → ⊥) → ⊥
  not_other task element is element_is apart = go element (subst IsOperator (found_at task element (operator_within task is) element_is) is) apart
    where
      go : (e : code_task.Task O) → IsOperator (Some (task_of e)) → ((operator : O) → e ≡ Operator operator → ⊥) → ⊥
      go (Source partition) h f = h
      go (Operator operator) h f = f operator refl
      go Sink h f = h

  pub hands_unfit : (RecordFits : R → Type 0) (IsGood : O → S → Type 0) (task input : ℕ) (taken : R) (element : code_task.Task O) (operator : O) (key : Option K) (looked : code_state.TaskState R K S) →
      length old.tasks.items ≡ length job.tasks.items →
      IsOperator (slice_get (map task_of job.tasks.items) task) →
      element ≡ get_or job.tasks.items task element →
      element ≡ Operator operator →
      offered (job_of meaning job) (Work task input) (configuration_of compare old) ≡ Some taken →
      key ≡ meaning.key operator taken →
      looked ≡ get_or old.tasks.items task looked →
      ¬ (RecordFits taken × IsGood operator (state_under key (meaning.fresh operator) (tree.get compare looked.states))) →
      HandsUnfit meaning compare RecordFits IsGood job (Work task input) old
  hands_unfit RecordFits IsGood task input taken element operator key looked lengths is element_is operator_is offers key_is looked_is refused =
      let inside : task < length job.tasks.items = operator_within task is in
      let within : task < length old.tasks.items = omega (arith, lengths, inside) in
      let at : slice_get (map task_of job.tasks.items) task ≡ Some (OperatorTask operator) = found_at task element inside element_is ∙ ap (λ e. Some (task_of e)) operator_is in
      let here : slice_get old.tasks.items task ≡ Some looked = slice_get_read old.tasks.items (length old.tasks.items) task looked refl within looked_is in
      let under : Option K → Option (code_state.TaskState R K S) → S = λ q h. state_under q (meaning.fresh operator) (state_of compare h).states in
      record {
        operator = operator;
        taken = taken;
        is_task = at;
        takes = takes_offered (job_of meaning job) (Work task input) (OperatorTask operator) taken (configuration_of compare old) at offers;
        refused = subst (λ s. ¬ (RecordFits taken × IsGood operator s)) (ap₂ under key_is (sym here)) refused;
      }

  pub operator_made : (task input : ℕ) (taken : R) (element : code_task.Task O) (operator : O) (key : Option K) (outcome : code_outcome.Outcome S R) (sent : List (ℕ × R)) (looked current changed : code_state.TaskState R K S) →
      length old.tasks.items ≡ length job.tasks.items →
      IsOperator (slice_get (map task_of job.tasks.items) task) →
      element ≡ get_or job.tasks.items task element →
      element ≡ Operator operator →
      offered (job_of meaning job) (Work task input) (configuration_of compare old) ≡ Some taken →
      key ≡ meaning.key operator taken →
      looked ≡ get_or old.tasks.items task looked →
      outcome.state ≡ (meaning.apply operator (state_under key (meaning.fresh operator) (tree.get compare looked.states)) taken).state →
      outcome.sent.items ≡ (meaning.apply operator (state_under key (meaning.fresh operator) (tree.get compare looked.states)) taken).sent →
      sent ≡ outcome.sent.items →
      current ≡ get_or old.tasks.items task current →
      changed.offset ≡ current.offset →
      ((other : K) → tree.get compare changed.states other ≡ kept_under meaning.same_key key outcome.state (tree.get compare current.states) other) →
      changed.output.items ≡ current.output.items →
      new.tasks.items ≡ slice_set old.tasks.items task changed →
      ((number : ℕ) → IsQueueAfter meaning job old (Work task input) sent number (records_of (slice_get new.channels.items number))) →
      Step (job_of meaning job) (Work task input) (configuration_of compare old) (configuration_of compare new)
  operator_made task input taken element operator key outcome sent looked current changed lengths is element_is operator_is offers key_is looked_is state_is sent_is sends now offset states output held queues =
      let inside : task < length job.tasks.items = operator_within task is in
      let within : task < length old.tasks.items = omega (arith, lengths, inside) in
      let k : Task O = OperatorTask operator in
      let at : slice_get (map task_of job.tasks.items) task ≡ Some k = slice_get-map task_of job.tasks.items task ∙ ap (option_map task_of) (slice_get_read job.tasks.items (length job.tasks.items) task element refl inside element_is ∙ ap Some operator_is) in
      let here : slice_get old.tasks.items task ≡ Some current = slice_get_read old.tasks.items (length old.tasks.items) task current refl within now in
      let also : slice_get old.tasks.items task ≡ Some looked = slice_get_read old.tasks.items (length old.tasks.items) task looked refl within looked_is in
      let one : looked ≡ current = same_Some looked current (sym also ∙ here) in
      let result : Option K → code_state.TaskState R K S → Outcome R S = λ q h. meaning.apply operator (state_under q (meaning.fresh operator) (tree.get compare h.states)) taken in
      let results : result key looked ≡ result (meaning.key operator taken) current = ap₂ result key_is one in
      let kept : (other : K) → tree.get compare changed.states other ≡ kept_under meaning.same_key (meaning.key operator taken) (result (meaning.key operator taken) current).state (tree.get compare current.states) other =
      λ other. states other ∙ ap₂ (λ q s. kept_under meaning.same_key q s (tree.get compare current.states) other) key_is (state_is ∙ ap (λ r. r.state) results) in
      let maps : tree.get compare changed.states ≡ kept_under meaning.same_key (meaning.key operator taken) (result (meaning.key operator taken) current).state (tree.get compare current.states) = fun_ext kept in
      let same : state_of compare (Some changed) ≡ (handled meaning k (state_of compare (Some current)) taken).held = rw (offset, maps, output) refl in
      let sending : sent ≡ (handled meaning k (state_of compare (Some current)) taken).sent = sends ∙ sent_is ∙ ap (λ r. r.sent) results in
      made (Work task input) k taken changed lengths at offers held
      (same ∙ ap (λ h. (handled meaning k (state_of compare h) taken).held) (sym here))
      (λ number. subst (λ s. IsQueueAfter meaning job old (Work task input) s number (records_of (slice_get new.channels.items number))) (sending ∙ ap (λ h. (handled meaning k (state_of compare h) taken).sent) (sym here)) (queues number))

  pub sink_within : (task : ℕ) → slice_get (map task_of job.tasks.items) task ≡ Some SinkTask → task < length job.tasks.items
  sink_within task is = omega (arith, map_length task_of job.tasks.items, slice_get_within (map task_of job.tasks.items) task SinkTask is)

  -- what a failed push or insertion leaves
  pub unmade : (task : ℕ) (current changed : code_state.TaskState R K S) →
      length old.tasks.items ≡ length job.tasks.items →
      task < length job.tasks.items →
      current ≡ get_or old.tasks.items task current →
      changed.offset ≡ current.offset →
      ((other : K) → tree.get compare changed.states other ≡ tree.get compare current.states other) →
      changed.output.items ≡ current.output.items →
      new.tasks.items ≡ slice_set old.tasks.items task changed →
      new.channels.items ≡ old.channels.items →
      configuration_of compare new ≡ configuration_of compare old
  unmade task current changed lengths inside now offset states output held queues =
      let within : task < length old.tasks.items = omega (arith, lengths, inside) in
      let here : slice_get old.tasks.items task ≡ Some current = slice_get_read old.tasks.items (length old.tasks.items) task current refl within now in
      let maps : tree.get compare changed.states ≡ tree.get compare current.states = fun_ext states in
      let same : state_of compare (Some changed) ≡ state_of compare (Some current) = rw (offset, maps, output) refl in
      let tasks : (u : ℕ) → state_of compare (slice_get new.tasks.items u) ≡ state_of compare (slice_get old.tasks.items u) =
      λ u.
      ap (λ l. state_of compare (slice_get l u)) held
      ∙ ap (state_of compare) (get_set old.tasks.items task u changed within)
      ∙ if_of (state_of compare) (u == task) (Some changed) (slice_get old.tasks.items u)
      ∙ elim (eqb_tells u task) [
        | inl h ↦ rw h.0 (same ∙ ap (state_of compare) (sym here) ∙ ap (λ v. state_of compare (slice_get old.tasks.items v)) (sym h.1))
        | inr h ↦ rw h.0 refl
      ] in
      let build : (ℕ → TaskState R K S) → (ℕ → List R) → Configuration R K S = λ a b. record { tasks = a; channels = b } in
      ap₂ build (fun_ext tasks) (ap (λ l number. records_of (slice_get l number)) queues)

pub on_err : {T E : Type 0} (r : Result T E) (P : Type 0) → P → OnErr r P
on_err (Ok x) P p = tt
on_err (Err e) P p = p

-- an error, of which nothing is to be said that is said of a value
pub no_value : {T E : Type 0} (r : Result T E) (P : T → Type 0) → IsErr r → IfOk r P
no_value (Ok x) P h = cc
no_value (Err e) P h = tt

pub not_both : (b : Bool) → b ≡ false → b ≡ true → ⊥
not_both b f t = cc

pub not_unfit : {T : Type 0} (r : Result T PlainFault) (P : Type 0) → IsErrAnd r (λ f. f ≡ Memory) → IfErr r (λ f. f ≡ Unfit → P)
not_unfit (Ok x) P h = absurd h
not_unfit (Err f) P h = λ e. cc

-- an error that was passed on
pub passed_on : {T E : Type 0} (r : Result T E) (was : E) (P : E → Type 0) → IsErrAnd r (λ e. e ≡ was) → P was → IfErr r P
passed_on (Ok x) was P h p = absurd h
passed_on (Err e) was P h p = subst P (sym h) p

pub on_error : {T E : Type 0} (r : Result T E) (P : E → Type 0) → IsErrAnd r P → IfErr r P
on_error (Ok x) P h = tt
on_error (Err e) P h = h

pub memory_passed : {T : Type 0} (r : Result T PlainFault) (was : PlainFault) → IsErrAnd r (λ f. f ≡ was) → was ≡ Memory → IsErrAnd r (λ f. f ≡ Memory)
memory_passed (Ok x) was h e = absurd h
memory_passed (Err f) was h e = h ∙ e

-- what holds of each place of a list, and of one more
pub each_pushed : {A B : Type 0} (f : Option A → B) (b : B) (xs : List A) (x : A) → ((k : ℕ) → f (slice_get xs k) ≡ b) → f (Some x) ≡ b → f None ≡ b → (k : ℕ) → f (slice_get (xs ++ x ∷ []) k) ≡ b
each_pushed f b [] x all one none zero = one
each_pushed f b [] x all one none (suc k) = none
each_pushed f b (y ∷ xs) x all one none zero = all zero
each_pushed f b (y ∷ xs) x all one none (suc k) = each_pushed f b xs x (λ i. all (suc i)) one none k
