-- What each accepted call does to the pending checkpoint, and to a job that is still.
use Rattle.std.proofs.Common.{◌≡◌, ◌≢◌, ◌<◌, ◌≤◌, ◌++◌, ◌&&◌, ◌+◌, inl, inr, Option, Some, None, Result, Ok, Err, is_some, unwrap_or, slice_get, slice_set, slice_index_or, length, drop, map, IsSome, ℕ, zero, suc, Bool, true, false, List, [], ◌∷◌, refl, sym, ap, subst, ◌∙◌, arith}
use Rattle.std.proofs.lemmas.Bool.{false≢true}
use Rattle.std.proofs.lemmas.Bool.Decides.{eqb_tells}
use Rattle.std.proofs.lemmas.List.{append-nil}
use Rattle.std.proofs.lemmas.Option.{none-some, slice_get_within}
use Rattle.alignment.specs.declared.input.Effect.{Effect}
use Rattle.alignment.specs.declared.input.Phase.TheVariants.{AtRest}
use Rattle.channels.specs.declared.item.Item.{Item}
use Rattle.channels.specs.declared.item.Item.TheVariants.{Record}
use Rattle.commit_sink.specs.Ledger.{Ledger}
use Rattle.coordinator.specs.Coordinator.{Coordination, has_acked}
use Rattle.abs_codec.specs.Entries.{value_at}
use Rattle.commit_sink.specs.Sink.{names_with_open, pre_committed_last}
use Rattle.dataflow_model.specs.Machine.{received, state_under}
use Rattle.job_graph.specs.Expanded.{Expanded, IsExpanded}
use Rattle.job_graph.specs.declared.role.Role.{Role}
use Rattle.job_graph.specs.declared.role.Role.TheVariants as role
use Rattle.job_state.specs.Held.{Held, copy_at, came_at, gate_at, logged_at}
use Rattle.job_state.specs.Sending.{items_at, without_head}
use Rattle.job_state.specs.declared.holding.Holding.TheVariants as holds
use Rattle.job_state.proofs.Places.{get_set_other}
use Rattle.snapshot_store.specs.Store.{Stored}
use Rattle.source_log.specs.Partitions.{records_at}
use Rattle.task_part.specs.declared.part.Part.{Part}
use Rattle.task_part.specs.declared.part.Part.TheVariants as part
use Rattle.engine_model.specs.AllRules.{AllRules}
use Rattle.engine_model.specs.Calls.{input_at, EndsInject, EndsPersist, EndsRead, EndsTrigger, EndsComplete, NotesBarrier, CopiesMap, CopiesSink, OperatesNext, PutsOut}
use Rattle.engine_model.specs.Commits.{CommitsOne, CommitsEach, EndsCommit}
use Rattle.engine_model.specs.Keeps.{Shape}
use Rattle.engine_model.specs.declared.fault.CoreFault.{CoreFault}
use Rattle.engine_model.specs.declared.fault.CoreFault.TheVariants.{NotReady, NoSuchTask, CommitFault}
use Rattle.engine_model.proofs.Calls.Tasks.{LeadsTo, input_leads}
use Rattle.claims.specs.Carried.{given_of, records_of}
use Rattle.claims.specs.Due.{EndsAccept}
use Rattle.claims.specs.Tasks.{TakesAs, EndsBarrier, WorksAs, EndsWork}
use Rattle.claims.specs.declared.parts.Made.{Made}
use Rattle.engine_rounds.proofs.One.{one_works}
use Rattle.engine_settling.specs.Advancing.{Advances}
use Rattle.engine_settling.specs.Resting.{IsStill}
use Rattle.engine_settling.proofs.Queues.{NoRecords, none_without, none_put, taken_from, index_set_here, index_set_beside, copy_here, copy_else, copies_grow, same_everywhere, came_here, came_grows}

-- what a task's barrier leaves, where the task is no source
record Takes {R K S : Type 0} (graph : Expanded) (h : Held R K S) (channel : ℕ) (k : Held R K S) : Type 0 where
  pub came : k.came ≡ slice_set h.came channel true
  pub coordination : k.coordination ≡ h.coordination
  pub logs : k.logs ≡ h.logs
  pub queues : (number : ℕ) → NoRecords (items_at h.channels number) → NoRecords (items_at k.channels number)
  pub copied : (t : ℕ) → copy_at h t ≢ None → copy_at k t ≢ None
  pub copies : (t partition : ℕ) → slice_get graph.tasks t ≡ Some (role.Source partition) → copy_at k t ≡ copy_at h t
  pub tasks : (t partition : ℕ) → slice_get graph.tasks t ≡ Some (role.Source partition) → slice_get k.tasks t ≡ slice_get h.tasks t

-- what a record that is worked leaves
record Works {R K S : Type 0} (h : Held R K S) (channel : ℕ) (k : Held R K S) : Type 0 where
  pub row : R
  pub head : slice_get (items_at h.channels channel) 0 ≡ Some (Record row)
  pub more : List (Item R)
  pub taken : items_at k.channels channel ≡ drop 1 (items_at h.channels channel) ++ more
  pub came : k.came ≡ h.came
  pub coordination : k.coordination ≡ h.coordination
  pub copies : k.copies ≡ h.copies

-- what is accepted is not refused
not_refused : {T : Type 0} {v : T} {f : CoreFault} → Ok v ≡ Err f → ⊥
not_refused e = cc

-- a task of the graph has a place
task_place : {A : Type 0} (xs : List A) (i : ℕ) → IsSome (slice_get xs i) → i < length xs
task_place [] i there = absurd (false≢true there)
task_place (x ∷ xs) zero there = omega arith
task_place (x ∷ xs) (suc i) there = let rest = task_place xs i there in omega (arith, rest)

-- an operator is no source
no_operator : (graph : Expanded) (task number t partition : ℕ) → slice_get graph.tasks task ≡ Some (role.Operator number) → slice_get graph.tasks t ≡ Some (role.Source partition) → t ≡ task → ⊥
no_operator graph task number t partition operator source same =
    let clash : Some (role.Operator number) ≡ Some (role.Source partition) = sym operator ∙ ap (slice_get graph.tasks) (sym same) ∙ source in
    cc

-- nor is a sink
no_sink : (graph : Expanded) (task subtask t partition : ℕ) → slice_get graph.tasks task ≡ Some (role.Sink subtask) → slice_get graph.tasks t ≡ Some (role.Source partition) → t ≡ task → ⊥
no_sink graph task subtask t partition sink source same =
    let clash : Some (role.Sink subtask) ≡ Some (role.Source partition) = sym sink ∙ ap (slice_get graph.tasks) (sym same) ∙ source in
    cc

-- ---- commits

module _ {R K S : Type 0} where
  -- what a commit leaves but for what tasks hold
  abbrev OnlyTasks : Held R K S → Held R K S → Type 0
  OnlyTasks h k = k ≡ record h { tasks = k.tasks }

  tasks_then : (h m k : Held R K S) → OnlyTasks h m → OnlyTasks m k → OnlyTasks h k
  tasks_then h m k one two = two ∙ ap (λ (x : Held R K S). record x { tasks = k.tasks }) one

  only_same : (h k : Held R K S) → k ≡ h → OnlyTasks h k
  only_same h k same = same ∙ ap (λ (x : Held R K S). record h { tasks = x.tasks }) (sym same)

  tasks_one : (task : ℕ) (h k : Held R K S) (old new : Ledger) → CommitsOne task h old k new → OnlyTasks h k
  tasks_one task h k old new c = c.ends ∙ ap (λ (x : Held R K S). record h { tasks = x.tasks }) (sym c.ends)

  -- a source's holding stays
  abbrev Beside : ℕ → Held R K S → Held R K S → Type 0
  Beside task h k = (t : ℕ) → (t ≡ task → ⊥) → slice_get k.tasks t ≡ slice_get h.tasks t

  beside_one : (task : ℕ) (h k : Held R K S) (old new : Ledger) → CommitsOne task h old k new → Beside task h k
  beside_one task h k old new c t apart = ap (λ (x : Held R K S). slice_get x.tasks t) c.ends ∙ get_set_other h.tasks task t (holds.Sink (record c.sink { pending = drop 1 c.sink.pending })) apart

  abbrev SourcesStay : Expanded → Held R K S → Held R K S → Type 0
  SourcesStay graph h k = (t partition : ℕ) → slice_get graph.tasks t ≡ Some (role.Source partition) → slice_get k.tasks t ≡ slice_get h.tasks t

  each_keeps : (task : ℕ) (h k : Held R K S) (old new : Ledger) (rounds : List (Held R K S × Ledger)) → CommitsEach task h old rounds k new → OnlyTasks h k × Beside task h k
  each_keeps task h k old new [] e = (only_same h k e.0, λ t apart. ap (λ (x : Held R K S). slice_get x.tasks t) e.0)
  each_keeps task h k old new (next ∷ rest) e =
      let later = each_keeps task next.0 k next.1 new rest e.1 in
      (tasks_then h next.0 k (tasks_one task h next.0 old next.1 e.0) later.0, λ t apart. later.1 t apart ∙ beside_one task h next.0 old next.1 e.0 t apart)

-- ---- the calls

module _ {R K S O : Type 0} (rules : AllRules R K S O) (graph : Expanded) (operators : List O) (partitions : List (List R)) (h k : Held R K S)
    (expanded : IsExpanded graph) (shape : Shape rules graph operators h) where
  copies_place : (task : ℕ) (r : Role) → slice_get graph.tasks task ≡ Some r → task < length h.copies
  copies_place task r is = subst (λ n. task < n) (sym shape.copies) (slice_get_within graph.tasks task r is)

  -- ---- a source copies

  module _ (task : ℕ) (e : EndsInject graph task h k (Ok tt)) where
    inject_place : task < length h.copies
    inject_place = copies_place task (role.Source e.2.0) e.2.1

    copy_now : (t : ℕ) → copy_at k t ≡ unwrap_or (slice_get (slice_set h.copies task (Some (part.Source e.1))) t) None
    copy_now t = ap (λ (x : Held R K S). copy_at x t) e.6.ends

    -- the pending checkpoint goes on
    pub inject_advances : Advances h k
    inject_advances = record {
      pending = ap (λ (x : Held R K S). x.coordination.pending) e.6.ends;
      copied = λ t some is. copies_grow h.copies task t (part.Source e.1) inject_place some (sym (copy_now t) ∙ is);
      came = λ number came. ap (λ (x : Held R K S). came_at x number) e.6.ends ∙ came;
      acked = λ t acked. ap (λ (x : Held R K S). has_acked x.coordination t) e.6.ends ∙ acked;
    }

    -- the source has copied
    pub inject_copies : copy_at k task ≢ None
    inject_copies is = none-some (part.Source e.1) (sym is ∙ copy_now task ∙ copy_here h.copies task (part.Source e.1) inject_place)

    -- a job that is still stays so
    pub inject_stays_still : IsStill graph partitions h → IsStill graph partitions k
    inject_stays_still still = record {
      queues = λ number. none_put e.0 task (λ n. slice_get graph.channels n) h.channels k.channels e.6.sent number (still.queues number);
      logs = λ number. ap (λ (x : Held R K S). logged_at x number) e.6.ends ∙ still.logs number;
      read = λ t partition offset is at. still.read t partition offset is (sym (ap (λ (x : Held R K S). slice_get x.tasks t) e.6.ends) ∙ at);
      copied = λ t partition offset is copy. of_copy t partition offset is (sym (copy_now t) ∙ copy);
    }
      where
        of_copy : (t partition offset : ℕ) → slice_get graph.tasks t ≡ Some (role.Source partition) → unwrap_or (slice_get (slice_set h.copies task (Some (part.Source e.1))) t) None ≡ Some (part.Source offset) → length (records_at partitions partition) ≤ offset
        of_copy t partition offset is copy =
            elim (eqb_tells t task) [
              | inl same ↦
                  let one : Some (part.Source e.1) ≡ Some (part.Source offset) = sym (copy_here h.copies task (part.Source e.1) inject_place) ∙ ap (λ (n : ℕ). unwrap_or (slice_get (slice_set h.copies task (Some (part.Source e.1))) n) None) (sym same.1) ∙ copy in
                  let offsets : e.1 ≡ offset = cc in
                  still.read t partition offset is (ap (slice_get h.tasks) same.1 ∙ e.5 ∙ ap (λ (o : ℕ). Some (holds.Source o)) offsets)
              | inr other ↦ still.copied t partition offset is (sym (copy_else h.copies task t (part.Source e.1) other.1) ∙ copy)
            ]

  -- it has, where it is not its turn
  pub inject_done : (task : ℕ) → EndsInject graph task h k (Err NotReady) → copy_at h task ≢ None
  inject_done task e = e.2

  -- ---- a barrier is taken

  module _ (task input channel : ℕ) (leads : input_at graph task input ≡ Some channel) (old new : Ledger) (effect : Effect) where
    came_place : channel < length h.came
    came_place =
        let to : LeadsTo graph task channel = input_leads graph task input channel leads in
        subst (λ n. channel < n) (sym shape.came) (slice_get_within graph.channels channel to.channel to.is)

    takes_note : NotesBarrier task input h k channel effect → Takes graph h channel k
    takes_note n = record {
      came = ap (λ (x : Held R K S). x.came) n.ends;
      coordination = ap (λ (x : Held R K S). x.coordination) n.ends;
      logs = ap (λ (x : Held R K S). x.logs) n.ends;
      queues = λ number none. subst (λ (x : Held R K S). NoRecords (items_at x.channels number)) (sym n.ends) (none_without h.channels channel number none);
      copied = λ t some is. some (sym (ap (λ (x : Held R K S). copy_at x t) n.ends) ∙ is);
      copies = λ t partition is. ap (λ (x : Held R K S). copy_at x t) n.ends;
      tasks = λ t partition is. ap (λ (x : Held R K S). slice_get x.tasks t) n.ends;
    }

    takes_map : (number : ℕ) → slice_get graph.tasks task ≡ Some (role.Operator number) → CopiesMap graph task h k input channel effect → Takes graph h channel k
    takes_map number operator m =
        let p : Part R K S = part.Operator m.copied.entries [] in
        record {
          came = ap (λ (x : Held R K S). x.came) m.copied.ends;
          coordination = ap (λ (x : Held R K S). x.coordination) m.copied.ends;
          logs = ap (λ (x : Held R K S). x.logs) m.copied.ends;
          queues = λ n none. none_put m.checkpoint task (λ c. slice_get graph.channels c) (without_head channel h.channels) k.channels m.copied.sent n (none_without h.channels channel n none);
          copied = λ t some is. copies_grow h.copies task t p (copies_place task (role.Operator number) operator) some (sym (ap (λ (x : Held R K S). copy_at x t) m.copied.ends) ∙ is);
          copies = λ t partition is. ap (λ (x : Held R K S). copy_at x t) m.copied.ends ∙ copy_else h.copies task t p (no_operator graph task number t partition operator is);
          tasks = λ t partition is. ap (λ (x : Held R K S). slice_get x.tasks t) m.copied.ends;
        }

    takes_names : (subtask : ℕ) → slice_get graph.tasks task ≡ Some (role.Sink subtask) → CopiesSink task input h k channel subtask old new effect → Takes graph h channel k
    takes_names subtask sink s =
        let p : Part R K S = part.Sink (names_with_open s.sink) [] in
        record {
          came = ap (λ (x : Held R K S). x.came) s.ends;
          coordination = ap (λ (x : Held R K S). x.coordination) s.ends;
          logs = ap (λ (x : Held R K S). x.logs) s.ends;
          queues = λ n none. subst (λ (x : Held R K S). NoRecords (items_at x.channels n)) (sym s.ends) (none_without h.channels channel n none);
          copied = λ t some is. copies_grow h.copies task t p (copies_place task (role.Sink subtask) sink) some (sym (ap (λ (x : Held R K S). copy_at x t) s.ends) ∙ is);
          copies = λ t partition is. ap (λ (x : Held R K S). copy_at x t) s.ends ∙ copy_else h.copies task t p (no_sink graph task subtask t partition sink is);
          tasks = λ t partition is.
              ap (λ (x : Held R K S). slice_get x.tasks t) s.ends
              ∙ get_set_other h.tasks task t (holds.Sink (record (pre_committed_last s.sink s.checkpoint) { open_one = length old.transactions + 1 })) (no_sink graph task subtask t partition sink is);
        }

    takes_as : (o : Option Role) → slice_get graph.tasks task ≡ o → TakesAs graph task input h k old new (Ok effect) o (Some channel) → Takes graph h channel k
    takes_as (Some (role.Operator number)) is e = elim e.0 [ inl notes ↦ takes_note notes | inr map ↦ takes_map number is map ]
    takes_as (Some (role.Sink subtask)) is e = elim e [ inl notes ↦ takes_note notes.0 | inr names ↦ takes_names subtask is names ]
    takes_as (Some (role.Source partition)) is e = absurd (not_refused e.0)
    takes_as None is e = absurd (not_refused e.0)

    module _ (e : EndsBarrier graph task input h k old new (Ok effect)) where
      takes : Takes graph h channel k
      takes = takes_as (slice_get graph.tasks task) refl (subst (λ (c : Option ℕ). TakesAs graph task input h k old new (Ok effect) (slice_get graph.tasks task) c) leads e)

      -- the pending checkpoint goes on
      pub barrier_advances : Advances h k
      barrier_advances = record {
        pending = ap (λ (c : Coordination). c.pending) takes.coordination;
        copied = takes.copied;
        came = λ number came. ap (λ (l : List Bool). unwrap_or (slice_get l number) false) takes.came ∙ came_grows h.came channel number came_place came;
        acked = λ t acked. ap (λ (c : Coordination). has_acked c t) takes.coordination ∙ acked;
      }

      -- the barrier was taken from the channel
      pub barrier_comes : came_at k channel ≡ true
      barrier_comes = ap (λ (l : List Bool). unwrap_or (slice_get l channel) false) takes.came ∙ came_here h.came channel came_place

      -- a job that is still stays so
      pub barrier_stays_still : IsStill graph partitions h → IsStill graph partitions k
      barrier_stays_still still = record {
        queues = λ number. takes.queues number (still.queues number);
        logs = λ number. ap (λ (l : List (List R)). unwrap_or (slice_get l number) []) takes.logs ∙ still.logs number;
        read = λ t partition offset is at. still.read t partition offset is (sym (takes.tasks t partition is) ∙ at);
        copied = λ t partition offset is copy. still.copied t partition offset is (sym (takes.copies t partition is) ∙ copy);
      }

  -- ---- a record is worked

  module _ (task input channel : ℕ) (leads : input_at graph task input ≡ Some channel) (old new : Ledger) (u : Unit {0}) where
    works_as : (o : Option Role) → WorksAs graph task input h k old new rules.lang operators (Ok u) o (Some channel) → Works h channel k
    works_as (Some (role.Operator number)) e =
        let w : OperatesNext graph task h k input channel rules.lang e.0 = e.2 in
        record {
          row = w.row;
          head = w.head;
          more = map Record (received rules.lang.meaning task (rules.lang.meaning.apply e.0 (state_under (rules.lang.meaning.key e.0 w.row) (rules.lang.meaning.fresh e.0) (value_at rules.lang.cmp w.entries)) w.row).sent (slice_get graph.channels channel));
          taken = w.operates.puts.each channel ∙ ap (λ (items : List (Item R)). items ++ map Record (received rules.lang.meaning task (rules.lang.meaning.apply e.0 (state_under (rules.lang.meaning.key e.0 w.row) (rules.lang.meaning.fresh e.0) (value_at rules.lang.cmp w.entries)) w.row).sent (slice_get graph.channels channel))) (taken_from h.channels channel);
          came = ap (λ (x : Held R K S). x.came) w.operates.ends;
          coordination = ap (λ (x : Held R K S). x.coordination) w.operates.ends;
          copies = ap (λ (x : Held R K S). x.copies) w.operates.ends;
        }
    works_as (Some (role.Sink subtask)) e =
        let w : PutsOut task input h k channel old new rules.lang.spelling = e in
        record {
          row = w.row;
          head = w.head;
          more = [];
          taken = ap (λ (x : Held R K S). items_at x.channels channel) w.ends ∙ taken_from h.channels channel ∙ sym (append-nil (drop 1 (items_at h.channels channel)));
          came = ap (λ (x : Held R K S). x.came) w.ends;
          coordination = ap (λ (x : Held R K S). x.coordination) w.ends;
          copies = ap (λ (x : Held R K S). x.copies) w.ends;
        }
    works_as (Some (role.Source partition)) e = absurd (not_refused e.0)
    works_as None e = absurd (not_refused e.0)

    works_of : EndsWork rules.lang graph operators task input h k old new (Ok u) → Works h channel k
    works_of e = works_as (slice_get graph.tasks task) (subst (λ (c : Option ℕ). WorksAs graph task input h k old new rules.lang operators (Ok u) (slice_get graph.tasks task) c) leads e)

    module _ (worked : Made O K S R) (one : records_of (given_of worked) ≡ 1) (e : EndsAccept rules.lang graph operators task input h k old new worked (Ok u)) where
      works : Works h channel k
      works = works_of (one_works rules.lang graph operators task input h k old new u worked one e)

      -- no copy is made or lost
      pub work_copies : (t : ℕ) → copy_at k t ≡ copy_at h t
      work_copies t = ap (λ (l : List (Option (Part R K S))). unwrap_or (slice_get l t) None) works.copies

      -- no barrier comes
      pub work_came : (number : ℕ) → came_at k number ≡ came_at h number
      work_came number = ap (λ (l : List Bool). unwrap_or (slice_get l number) false) works.came

      -- the pending checkpoint goes on
      pub work_advances : Advances h k
      work_advances = record {
        pending = ap (λ (c : Coordination). c.pending) works.coordination;
        copied = λ t some is. some (sym (work_copies t) ∙ is);
        came = λ number came. work_came number ∙ came;
        acked = λ t acked. ap (λ (c : Coordination). has_acked c t) works.coordination ∙ acked;
      }

      -- the record that stood first in the channel is taken from it; more may be put there
      pub work_head : (row : R) × (slice_get (items_at h.channels channel) 0 ≡ Some (Record row)) × (more : List (Item R)) × (items_at k.channels channel ≡ drop 1 (items_at h.channels channel) ++ more)
      work_head = (works.row, works.head, works.more, works.taken)

      -- a job in which a record is worked was not still
      pub work_not_still : IsStill graph partitions h → ⊥
      work_not_still still = still.queues channel 0 works.row works.head

  -- ---- a part is put

  module _ (task : ℕ) (old new : Stored) (spelling : Part R K S → List ℕ) where
    module _ (e : EndsPersist graph task h k old new spelling (Ok tt)) where
      acked_now : (t : ℕ) → has_acked k.coordination t ≡ (is_some h.coordination.pending && slice_index_or (slice_set h.coordination.acked task true) t false)
      acked_now t = ap (λ (x : Held R K S). has_acked x.coordination t) e.4

      -- the task has acknowledged
      pub persist_acks : has_acked k.coordination task ≡ true
      persist_acks =
          acked_now task
          ∙ rw (e.2.pending, index_set_here h.coordination.acked task true false (subst (λ n. task < n) (sym shape.acked) (task_place graph.tasks task e.2.is_task))) refl

      -- the pending checkpoint goes on
      pub persist_advances : Advances h k
      persist_advances = record {
        pending = ap (λ (x : Held R K S). x.coordination.pending) e.4;
        copied = λ t some is. some (sym (ap (λ (x : Held R K S). copy_at x t) e.4) ∙ is);
        came = λ number came. ap (λ (x : Held R K S). came_at x number) e.4 ∙ came;
        acked = λ t acked. elim (eqb_tells t task) [
          | inl same ↦ ap (has_acked k.coordination) same.1 ∙ persist_acks
          | inr other ↦ acked_now t ∙ ap (λ (b : Bool). is_some h.coordination.pending && b) (index_set_beside h.coordination.acked task t true false other.1) ∙ acked
        ];
      }

      -- a job that is still stays so
      pub persist_stays_still : IsStill graph partitions h → IsStill graph partitions k
      persist_stays_still still = record {
        queues = λ number. subst (λ (x : Held R K S). NoRecords (items_at x.channels number)) (sym e.4) (still.queues number);
        logs = λ number. ap (λ (x : Held R K S). logged_at x number) e.4 ∙ still.logs number;
        read = λ t partition offset is at. still.read t partition offset is (sym (ap (λ (x : Held R K S). slice_get x.tasks t) e.4) ∙ at);
        copied = λ t partition offset is copy. still.copied t partition offset is (sym (ap (λ (x : Held R K S). copy_at x t) e.4) ∙ copy);
      }

    -- where a part is not to be put, but its task has copied and its gate is at rest, it was put
    pub persist_done : EndsPersist graph task h k old new spelling (Err NotReady) → copy_at h task ≢ None → (gate_at h task).phase ≡ AtRest → has_acked h.coordination task ≡ true
    persist_done e some rest =
        elim e.2 [
          | inl not_yet ↦ elim not_yet [ inl none ↦ absurd (some none) | inr busy ↦ absurd (busy rest) ]
          | inr acked ↦ acked
        ]

  -- ---- a checkpoint begins, or is complete

  abbrev a_source : ℕ → Part R K S
  a_source offset = part.Source offset

  -- the number that is answered is pending
  pub trigger_pending : (old new : Stored) (n : ℕ) → EndsTrigger h k old new (Ok n) → k.coordination.pending ≡ Some n
  trigger_pending old new n e = ap (λ (x : Held R K S). x.coordination.pending) e.3 ∙ ap Some (sym e.1)

  -- a job that is still stays so
  pub trigger_stays_still : (old new : Stored) (n : ℕ) → EndsTrigger h k old new (Ok n) → IsStill graph partitions h → IsStill graph partitions k
  trigger_stays_still old new n e still = record {
    queues = λ number. subst (λ (x : Held R K S). NoRecords (items_at x.channels number)) (sym e.3) (still.queues number);
    logs = λ number. ap (λ (x : Held R K S). logged_at x number) e.3 ∙ same_everywhere {P = List R} (length h.logs) number [];
    read = λ t partition offset is at. still.read t partition offset is (sym (ap (λ (x : Held R K S). slice_get x.tasks t) e.3) ∙ at);
    copied = λ t partition offset is copy. absurd (none-some (a_source offset) (sym (same_everywhere {P = Option (Part R K S)} (length h.copies) t None) ∙ sym (ap (λ (x : Held R K S). copy_at x t) e.3) ∙ copy));
  }

  -- the number that is answered was pending, and none is now
  pub complete_pending : (old new : Stored) (n : ℕ) → EndsComplete h k old new (Ok n) → (h.coordination.pending ≡ Some n) × (k.coordination.pending ≡ None)
  complete_pending old new n e = (e.0, ap (λ (x : Held R K S). x.coordination.pending) e.3)

  -- a job that is still stays so
  pub complete_stays_still : (old new : Stored) (n : ℕ) → EndsComplete h k old new (Ok n) → IsStill graph partitions h → IsStill graph partitions k
  complete_stays_still old new n e still = record {
    queues = λ number. subst (λ (x : Held R K S). NoRecords (items_at x.channels number)) (sym e.3) (still.queues number);
    logs = λ number. ap (λ (x : Held R K S). logged_at x number) e.3 ∙ same_everywhere {P = List R} (length h.logs) number [];
    read = λ t partition offset is at. still.read t partition offset is (sym (ap (λ (x : Held R K S). slice_get x.tasks t) e.3) ∙ at);
    copied = λ t partition offset is copy. absurd (none-some (a_source offset) (sym (same_everywhere {P = Option (Part R K S)} (length h.copies) t None) ∙ sym (ap (λ (x : Held R K S). copy_at x t) e.3) ∙ copy));
  }

  -- ---- a sink commits

  module _ (subtask : ℕ) (old new : Ledger) where
    commit_leaves : (r : Result Unit CoreFault) → EndsCommit graph subtask h k old new r → OnlyTasks h k × SourcesStay graph h k
    commit_leaves (Ok u) e =
        let kept = each_keeps e.0 h k old new e.2.rounds e.2.each in
        (kept.0, λ t partition is. kept.1 t (λ same. no_sink graph e.0 subtask t partition e.1 is same))
    commit_leaves (Err NoSuchTask) e = (only_same h k e.1, λ t partition is. ap (λ (x : Held R K S). slice_get x.tasks t) e.1)
    commit_leaves (Err CommitFault) e =
        let kept = each_keeps e.0 h e.2.middle.0 old e.2.middle.1 e.2.rounds e.2.each in (
          tasks_then h e.2.middle.0 k kept.0 (only_same e.2.middle.0 k e.2.fails.ends),
          λ t partition is. ap (λ (x : Held R K S). slice_get x.tasks t) e.2.fails.ends ∙ kept.1 t (λ same. no_sink graph e.0 subtask t partition e.1 is same),
        )
    commit_leaves (Err other) e = absurd e

    module _ (r : Result Unit CoreFault) (e : EndsCommit graph subtask h k old new r) where
      -- but for what tasks hold nothing changes
      pub commit_only_tasks : k ≡ record h { tasks = k.tasks }
      commit_only_tasks = (commit_leaves r e).0

      -- what sources hold does not change either
      pub commit_sources : (t partition : ℕ) → slice_get graph.tasks t ≡ Some (role.Source partition) → slice_get k.tasks t ≡ slice_get h.tasks t
      commit_sources = (commit_leaves r e).1

      -- so: how far the pending checkpoint is,
      pub commit_coordination : k.coordination ≡ h.coordination
      commit_coordination = ap (λ (x : Held R K S). x.coordination) commit_only_tasks

      -- the copies,
      pub commit_copies : k.copies ≡ h.copies
      commit_copies = ap (λ (x : Held R K S). x.copies) commit_only_tasks

      -- the barriers that came,
      pub commit_came : k.came ≡ h.came
      commit_came = ap (λ (x : Held R K S). x.came) commit_only_tasks

      -- what stands in the channels,
      pub commit_channels : k.channels ≡ h.channels
      commit_channels = ap (λ (x : Held R K S). x.channels) commit_only_tasks

      -- what is logged,
      pub commit_logs : k.logs ≡ h.logs
      commit_logs = ap (λ (x : Held R K S). x.logs) commit_only_tasks

      -- and the gates stay
      pub commit_gates : k.gates ≡ h.gates
      commit_gates = ap (λ (x : Held R K S). x.gates) commit_only_tasks

      -- the pending checkpoint goes on
      pub commit_advances : Advances h k
      commit_advances = record {
        pending = ap (λ (c : Coordination). c.pending) commit_coordination;
        copied = λ t some is. some (sym (ap (λ (x : Held R K S). copy_at x t) commit_only_tasks) ∙ is);
        came = λ number came. ap (λ (x : Held R K S). came_at x number) commit_only_tasks ∙ came;
        acked = λ t acked. ap (λ (c : Coordination). has_acked c t) commit_coordination ∙ acked;
      }

      -- a job that is still stays so
      pub commit_stays_still : IsStill graph partitions h → IsStill graph partitions k
      commit_stays_still still = record {
        queues = λ number. subst (λ (x : List (List (Item R))). NoRecords (items_at x number)) (sym commit_channels) (still.queues number);
        logs = λ number. ap (λ (x : Held R K S). logged_at x number) commit_only_tasks ∙ still.logs number;
        read = λ t partition offset is at. still.read t partition offset is (sym (commit_sources t partition is) ∙ at);
        copied = λ t partition offset is copy. still.copied t partition offset is (sym (ap (λ (x : Held R K S). copy_at x t) commit_only_tasks) ∙ copy);
      }

  -- ---- a source reads

  module _ (task : ℕ) (e : EndsRead graph task h k rules.lang partitions (Ok tt)) where
    -- the pending checkpoint goes on
    pub read_advances : Advances h k
    read_advances = record {
      pending = ap (λ (x : Held R K S). x.coordination.pending) e.reads.ends;
      copied = λ t some is. some (sym (ap (λ (x : Held R K S). copy_at x t) e.reads.ends) ∙ is);
      came = λ number came. ap (λ (x : Held R K S). came_at x number) e.reads.ends ∙ came;
      acked = λ t acked. ap (λ (x : Held R K S). has_acked x.coordination t) e.reads.ends ∙ acked;
    }

    -- a job in which a source reads was not still
    pub read_not_still : IsStill graph partitions h → ⊥
    read_not_still still =
        omega (arith, still.read task e.partition e.offset e.is_source e.at, slice_get_within (records_at partitions e.partition) e.offset e.row e.next)
