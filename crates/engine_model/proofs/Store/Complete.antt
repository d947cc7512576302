-- The pending checkpoint is complete.
use Rattle.std.proofs.Common.{◌≡◌, ◌<◌, ◌≤◌, ◌==◌, ◌&&◌, ◌||◌, inl, inr, if◌then◌else◌, Option, Some, None, Ok, is_some, length, ℕ, zero, suc, Bool, true, false, List, [], ◌∷◌, refl, sym, ap, ap₂, ◌∙◌, arith}
use Rattle.std.specs.Prelude.{IsTrue, All}
use Rattle.std.specs.List.{list_all}
use Rattle.std.specs.Option.{option_map_or}
use Rattle.std.proofs.lemmas.Bool.Decides.{eqb_tells}
use Rattle.std.proofs.lemmas.List.Elements.{All-head, All-tail}
use Rattle.std.proofs.lemmas.Option.{slice_get_within}
use Rattle.abs_codec.specs.Reading.{whole_of}
use Rattle.checkpoint_model.specs.Durable as durable
use Rattle.checkpoint_model.specs.Durable.{HasParts}
use Rattle.coordinator.specs.Coordinator.{Coordination, has_acked, IsReady}
use Rattle.coordinator.specs.Coordinator as coordinator
use Rattle.dataflow_model.specs.Graph.{Job}
use Rattle.job_graph.specs.Expanded.{Expanded}
use Rattle.job_state.specs.Held.{Held, copy_at, logs_of, with_logs}
use Rattle.snapshot_store.specs.Store.{Stored, IsNumbered, is_complete, part_of, all_below, has_all_parts, complete_refusal, completed}
use Rattle.snapshot_store.specs.declared.store.StoreFault.TheVariants.{MissingPart}
use Rattle.snapshot_store.specs.StoreLaws.{is_complete-completed}
use Rattle.task_part.specs.declared.part.Part.{Part}
use Rattle.engine_model.specs.Language.{Language}
use Rattle.engine_model.specs.View.{part_in, part_view}
use Rattle.engine_model.specs.Keeps.{PendingIn}
use Rattle.engine_model.proofs.Store.Line.{passing_one_more}
use Rattle.engine_model.proofs.Store.View.{store_of, line_of}
use Rattle.engine_model.proofs.Store.Put.{same_number, part_in_reads, pending_reserved}

all_below_holds : (p : ℕ → Bool) (n : ℕ) → ((k : ℕ) → k < n → p k ≡ true) → all_below p n ≡ true
all_below_holds p zero each = refl
all_below_holds p (suc n) each = ap₂ (λ (a b : Bool). a && b) (each n (omega arith)) (all_below_holds p n (λ k lt. each k (omega (arith, lt))))

all_true : (bs : List Bool) → All IsTrue bs → list_all (λ b. b) bs ≡ true
all_true [] each = refl
all_true (b ∷ bs) each = ap₂ (λ (x y : Bool). x && y) (All-head IsTrue b bs each) (all_true bs (All-tail IsTrue b bs each))

some_of : {A : Type 0} (o : Option A) → is_some o ≡ true → (x : A) × (o ≡ Some x)
some_of None e = absurd (cc e)
some_of (Some x) e = (x, refl)

or_true : (b : Bool) → (b || true) ≡ true
or_true true = refl
or_true false = refl

-- every task has acknowledged
pub ready_acked : (c : Coordination) → IsReady c → (task : ℕ) → task < length c.acked → has_acked c task ≡ true
ready_acked c ready task within = ap₂ (λ (a b : Bool). a && b) ready.0 (ready.1 task false within)

-- the coordinator, too, takes it
pub coordinator_completes : (c : Coordination) (n : ℕ) → c.pending ≡ Some n → IsReady c → coordinator.complete_refusal c n ≡ None
coordinator_completes c n is ready =
    let pending : coordinator.is_pending c n ≡ true = ap (λ (o : Option ℕ). option_map_or (λ m. m == n) o false) is ∙ same_number n in
    rw (pending, all_true c.acked ready.1) refl

-- a number that is complete, as all were, and the greatest
pub still_complete : (stored : Stored) (n m : ℕ) → is_complete stored m ≡ true → is_complete (completed stored n) m ≡ true
still_complete stored n m is = is_complete-completed stored n m ∙ ap (λ (b : Bool). (m == n) || b) is ∙ or_true (m == n)

pub completed_complete : (stored : Stored) (n : ℕ) → is_complete (completed stored n) n ≡ true
completed_complete stored n = is_complete-completed stored n n ∙ ap (λ (b : Bool). b || is_complete stored n) (same_number n)

-- what is complete now was, or is the number
pub completed_cases : {P : Type 0} (stored : Stored) (n m : ℕ) → is_complete (completed stored n) m ≡ true → (m ≡ n → P) → (is_complete stored m ≡ true → P) → P
completed_cases stored n m e at_n before =
    elim (eqb_tells m n) [
      | inl same ↦ at_n same.1
      | inr other ↦ before (sym (ap (λ (b : Bool). b || is_complete stored m) other.0) ∙ sym (is_complete-completed stored n m) ∙ e)
    ]

pub numbered_completed : (stored : Stored) (n : ℕ) → IsNumbered stored → 1 ≤ n → n < stored.next → IsNumbered (completed stored n)
numbered_completed stored n numbered positive given = record {
  positive = numbered.positive;
  within = numbered.within;
  parts = numbered.parts;
  completes = λ m e. completed_cases stored n m e (λ same. (omega (arith, same, positive), omega (arith, same, given))) (numbered.completes m);
}

module _ {R K S O : Type 0} (lang : Language R K S O) (graph : Expanded) (stored : Stored) (h : Held R K S) (n : ℕ) (pending : PendingIn lang graph stored h n) where
  -- the line goes on with it
  pub store_completed : store_of lang (completed stored n) ≡ durable.with_complete n (store_of lang stored)
  store_completed =
      let line : line_of (completed stored n) ≡ (durable.with_complete n (store_of lang stored)).line =
      passing_one_more (is_complete stored) (is_complete (completed stored n)) n stored.next (is_complete-completed stored n) pending.above pending.given in
      λ i. record { next = stored.next; parts = (store_of lang stored).parts; line = line i }

  -- it is the greatest of the complete ones
  pub completed_last : (is_complete (completed stored n) n ≡ true) × ((m : ℕ) → is_complete (completed stored n) m ≡ true → m ≤ n)
  completed_last = (completed_complete stored n, λ m e. completed_cases stored n m e (λ same. omega (arith, same)) (λ before. let lower : m < n = pending.above m before in omega (arith, lower)))

  pub numbered_pending_completed : IsNumbered stored → IsNumbered (completed stored n)
  numbered_pending_completed numbered = numbered_completed stored n numbered pending.positive pending.given

  -- a task that has acknowledged has copied, and its part stands for its copy
  pub acked_part : (task : ℕ) → task < stored.tasks → has_acked h.coordination task ≡ true → (p : Part R K S) × (copy_at h task ≡ Some p) × (part_in lang (part_of stored n task) ≡ Some (part_view lang.cmp (with_logs (logs_of graph h task) p)))
  acked_part task within acked =
      let there : (bytes : List ℕ) × (part_of stored n task ≡ Some bytes) = some_of (part_of stored n task) (pending.parts task within ∙ acked) in
      let spelled : (p : Part R K S) × (copy_at h task ≡ Some p) × (whole_of lang.read_part there.0 ≡ Ok (with_logs (logs_of graph h task) p)) = pending.spelled task there.0 there.1 in
      (spelled.0, spelled.1, ap (part_in lang) there.1 ∙ part_in_reads lang there.0 (with_logs (logs_of graph h task) spelled.0) spelled.2)

  module _ (ready : IsReady h.coordination) (same_length : length h.coordination.acked ≡ stored.tasks) where
    all_acked : (task : ℕ) → task < stored.tasks → has_acked h.coordination task ≡ true
    all_acked task within = ready_acked h.coordination ready task (omega (arith, within, same_length))

    pub ready_parts : has_all_parts stored n ≡ true
    ready_parts = all_below_holds (λ t. is_some (part_of stored n t)) stored.tasks (λ t within. pending.parts t within ∙ all_acked t within)

    -- every task has copied
    pub ready_copied : (task : ℕ) → task < stored.tasks → (p : Part R K S) × (copy_at h task ≡ Some p)
    ready_copied task within = let there = acked_part task within (all_acked task within) in (there.0, there.1)

    -- the store takes it
    pub may_complete : complete_refusal stored n ≡ None
    may_complete = rw (pending_reserved lang graph stored h n pending, ready_parts) (ap (λ (b : Bool). if b then None else Some MissingPart) (or_true (is_complete stored n)))

    -- all the parts are there
    pub ready_has_parts : (job : Job R K S O) → length job.graph.tasks ≡ stored.tasks → HasParts job (store_of lang stored) n
    ready_has_parts job same task kind is =
        let inside : task < length job.graph.tasks = slice_get_within job.graph.tasks task kind is in
        let within : task < stored.tasks = omega (arith, inside, same) in
        let there = acked_part task within (all_acked task within) in
        (part_view lang.cmp (with_logs (logs_of graph h task) there.0), there.2)
