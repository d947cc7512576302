-- What a task's gate says of the barriers that were taken, of the task's copy, and of the records that are logged.
use Rattle.std.proofs.Common.{◌≡◌, ◌≢◌, ◌<◌, ◌+◌, ◌&&◌, not, inl, inr, cond, if◌then◌else◌, Option, Some, None, slice_get, slice_set, slice_index_or, unwrap_or, is_some, length, map, count_by, ℕ, zero, suc, Bool, true, false, List, [], ◌∷◌, ◌++◌, refl, sym, ap, subst, ◌∙◌, arith}
use Rattle.std.specs.List.{range_with_len, filter}
use Rattle.std.proofs.lemmas.Bool.{true≢false, false≢true, cases_Bool, eq-eqb}
use Rattle.std.proofs.lemmas.Bool.Decides.{eqb_tells}
use Rattle.std.proofs.lemmas.List.Sums.{sum_by-cons}
use Rattle.std.proofs.lemmas.Option.{same_Some, none-some, slice_get_within}
use Rattle.alignment.specs.Inputs as gates
use Rattle.alignment.specs.Inputs.{fresh, with_barrier, without_barriers, misses_unmarked, misses_marked, missing_unmarked, missing_marked}
use Rattle.alignment.specs.Table.{Alignment, IsFor, IsKept, has_copied, is_logged, is_blocked, at_unmarked, at_marked, effect_of, after}
use Rattle.alignment.specs.declared.input.Effect.{Effect}
use Rattle.alignment.specs.declared.input.Effect.TheVariants.{Blocked, Copy, Closed, CopyAndDone, Done}
use Rattle.alignment.specs.declared.input.Input.{Input}
use Rattle.alignment.specs.declared.input.Phase.{Phase}
use Rattle.alignment.specs.declared.input.Phase.TheVariants.{AtRest, Aligning, Copied}
use Rattle.alignment.proofs.Counts.{count-without}
use Rattle.coordinator.specs.Coordinator.{has_acked}
use Rattle.dataflow_model.specs.Graph.{Channel}
use Rattle.job_graph.specs.Expanded.{Expanded, meets, is_marked, is_input, inputs_of}
use Rattle.job_state.specs.Held.{Held, copy_at, came_at, gate_at, logged_at, logs_of, log_with, marked_inputs, record_taken, barrier_taken}
use Rattle.engine_model.specs.Calls.{input_at, IsBlocked, is_copy}
use Rattle.engine_model.specs.Keeps.{NotesBarriers, StandsAs, GateFits}
use Rattle.engine_model.proofs.Calls.Tasks.{LeadsTo, input_leads}
use Rattle.engine_model.proofs.Lists.{get_set_same, get_set_other, set_length}

-- ---- lists

head_none : (b : Bool) (n : ℕ) → cond b 1 0 + n ≡ 0 → (b ≡ false) × (n ≡ 0)
head_none true n e = absurd (omega (arith, e))
head_none false n e = (refl, omega (arith, e))

split_none : {A : Type 0} (p : A → Bool) (x : A) (xs : List A) → count_by p (x ∷ xs) ≡ 0 → (p x ≡ false) × (count_by p xs ≡ 0)
split_none p x xs none = head_none (p x) (count_by p xs) (sym (sum_by-cons (λ y. cond (p y) 1 0) x xs) ∙ none)

-- where none is counted, none passes
count_none : {A : Type 0} (p : A → Bool) (xs : List A) (i : ℕ) (d : A) → count_by p xs ≡ 0 → i < length xs → p (slice_index_or xs i d) ≡ false
count_none p [] i d none within = absurd (omega (arith, within))
count_none p (x ∷ xs) zero d none within = (split_none p x xs none).0
count_none p (x ∷ xs) (suc i) d none within = count_none p xs i d (split_none p x xs none).1 (omega (arith, within))

-- what a filter keeps has a place
filter_finds : {A : Type 0} (p : A → Bool) (xs : List A) (k : ℕ) (x : A) → slice_get xs k ≡ Some x → p x ≡ true → (i : ℕ) × (slice_get (filter p xs) i ≡ Some x)
filter_finds p [] k x is passes = absurd (none-some x is)
filter_finds p (y ∷ ys) zero x is passes = (0, rw (ap p (same_Some y x is) ∙ passes) is)
filter_finds {A} p (y ∷ ys) (suc k) x is passes = of (p y) (filter_finds p ys k x is passes)
  where
    of : (b : Bool) → (i : ℕ) × (slice_get (filter p ys) i ≡ Some x) → (i : ℕ) × (slice_get (cond b (y ∷ filter p ys) (filter p ys)) i ≡ Some x)
    of true rest = (suc rest.0, rest.1)
    of false rest = rest

-- the numbers of a range that pass rise
filter_above : (p : ℕ → Bool) (a n i x : ℕ) → slice_get (filter p (range_with_len a n)) i ≡ Some x → a < x + 1
filter_above p a zero i x is = absurd (none-some x is)
filter_above p a (suc n) i x is = of (p a) i (λ k. filter_above p (a + 1) n k x) is
  where
    of : (b : Bool) (k : ℕ) → ((m : ℕ) → slice_get (filter p (range_with_len (a + 1) n)) m ≡ Some x → a + 1 < x + 1) → slice_get (cond b (a ∷ filter p (range_with_len (a + 1) n)) (filter p (range_with_len (a + 1) n))) k ≡ Some x → a < x + 1
    of true zero later e = let same : a ≡ x = same_Some a x e in omega (arith, same)
    of true (suc k) later e = omega (arith, later k e)
    of false k later e = omega (arith, later k e)

-- so each has one place
filter_once : (p : ℕ → Bool) (a n i j x : ℕ) → slice_get (filter p (range_with_len a n)) i ≡ Some x → slice_get (filter p (range_with_len a n)) j ≡ Some x → i ≡ j
filter_once p a zero i j x is there = absurd (none-some x is)
filter_once p a (suc n) i j x is there = of (p a) i j (λ k m. filter_once p (a + 1) n k m x) is there
  where
    later : (k : ℕ) → slice_get (filter p (range_with_len (a + 1) n)) k ≡ Some x → a ≡ x → ⊥
    later k e same = let less : a + 1 < x + 1 = filter_above p (a + 1) n k x e in omega (arith, less, same)

    of : (b : Bool) (k m : ℕ) → ((k m : ℕ) → slice_get (filter p (range_with_len (a + 1) n)) k ≡ Some x → slice_get (filter p (range_with_len (a + 1) n)) m ≡ Some x → k ≡ m)
        → slice_get (cond b (a ∷ filter p (range_with_len (a + 1) n)) (filter p (range_with_len (a + 1) n))) k ≡ Some x
        → slice_get (cond b (a ∷ filter p (range_with_len (a + 1) n)) (filter p (range_with_len (a + 1) n))) m ≡ Some x → k ≡ m
    of true zero zero once e f = refl
    of true zero (suc m) once e f = absurd (later m f (same_Some a x e))
    of true (suc k) zero once e f = absurd (later k e (same_Some a x f))
    of true (suc k) (suc m) once e f = ap suc (once k m e f)
    of false k m once e f = once k m e f

range_has : (a n k : ℕ) → k < n → slice_get (range_with_len a n) k ≡ Some (a + k)
range_has a zero k within = absurd (omega (arith, within))
range_has a (suc n) zero within = ap Some (omega arith)
range_has a (suc n) (suc k) within = range_has (a + 1) n k (omega (arith, within)) ∙ ap Some (omega arith)

-- maps that agree on what is there
map_agree : {A B : Type 0} (f g : A → B) (xs : List A) → ((k : ℕ) (x : A) → slice_get xs k ≡ Some x → f x ≡ g x) → map f xs ≡ map g xs
map_agree f g [] same = refl
map_agree f g (x ∷ xs) same = rw (same 0 x refl, map_agree f g xs (λ k y is. same (suc k) y is)) refl

-- what a filter keeps was there
filter_from : {A : Type 0} (p : A → Bool) (xs : List A) (i : ℕ) (x : A) → slice_get (filter p xs) i ≡ Some x → (k : ℕ) × (slice_get xs k ≡ Some x)
filter_from p [] i x is = absurd (none-some x is)
filter_from p (y ∷ ys) i x is = of (p y) i (λ k e. later (filter_from p ys k x e)) is
  where
    later : (k : ℕ) × (slice_get ys k ≡ Some x) → (k : ℕ) × (slice_get (y ∷ ys) k ≡ Some x)
    later found = (suc found.0, found.1)

    of : (b : Bool) (k : ℕ) → ((k : ℕ) → slice_get (filter p ys) k ≡ Some x → (m : ℕ) × (slice_get (y ∷ ys) m ≡ Some x)) → slice_get (cond b (y ∷ filter p ys) (filter p ys)) k ≡ Some x → (m : ℕ) × (slice_get (y ∷ ys) m ≡ Some x)
    of true zero rest e = (0, e)
    of true (suc k) rest e = rest k e
    of false k rest e = rest k e

pub index_set_same : {A : Type 0} (xs : List A) (i : ℕ) (a d : A) → i < length xs → slice_index_or (slice_set xs i a) i d ≡ a
index_set_same [] i a d within = absurd (omega (arith, within))
index_set_same (x ∷ xs) zero a d within = refl
index_set_same (x ∷ xs) (suc i) a d within = index_set_same xs i a d (omega (arith, within))

pub index_set_other : {A : Type 0} (xs : List A) (i k : ℕ) (a d : A) → (k ≡ i → ⊥) → slice_index_or (slice_set xs i a) k d ≡ slice_index_or xs k d
index_set_other [] i k a d apart = refl
index_set_other (x ∷ xs) zero zero a d apart = absurd (apart refl)
index_set_other (x ∷ xs) zero (suc k) a d apart = refl
index_set_other (x ∷ xs) (suc i) zero a d apart = refl
index_set_other (x ∷ xs) (suc i) (suc k) a d apart = index_set_other xs i k a d (λ e. apart (ap suc e))

no_copy : {A : Type 0} (o : Option A) → is_some o ≡ false → o ≡ None
no_copy None e = refl
no_copy (Some a) e = absurd (true≢false e)

pub some_copy : {A : Type 0} (o : Option A) → o ≢ None → is_some o ≡ true
some_copy None e = absurd (e refl)
some_copy (Some a) e = refl

-- another channel's log stays as it is
pub log_elsewhere : {R : Type 0} (b : Bool) (channel : ℕ) (row : R) (logs : List (List R)) (number : ℕ) → (number ≡ channel → ⊥) → unwrap_or (slice_get (log_with b channel row logs) number) [] ≡ unwrap_or (slice_get logs number) []
log_elsewhere false channel row logs number apart = refl
log_elsewhere true channel row logs number apart = ap (λ (o : Option (List _)). unwrap_or o []) (get_set_other logs channel number (unwrap_or (slice_get logs channel) [] ++ row ∷ []) apart)

-- ---- channels and inputs

-- each channel is one input of its receiver
pub input_of_channel : (graph : Expanded) (number : ℕ) (c : Channel) → slice_get graph.channels number ≡ Some c → (input : ℕ) × (input_at graph c.receiver input ≡ Some number)
input_of_channel graph number c leads =
    filter_finds (meets (is_input c.receiver) graph.channels) (range_with_len 0 (length graph.channels)) number number
    (range_has 0 (length graph.channels) number (slice_get_within graph.channels number c leads) ∙ ap Some (omega arith))
    (rw leads (eq-eqb c.receiver c.receiver refl))

-- a channel is one input of one task
pub one_task : (graph : Expanded) (t task i input number : ℕ) → input_at graph t i ≡ Some number → input_at graph task input ≡ Some number → t ≡ task
one_task graph t task i input number is leads =
    let a : LeadsTo graph t number = input_leads graph t i number is in
    let b : LeadsTo graph task number = input_leads graph task input number leads in
    sym a.to ∙ ap (λ (c : Channel). c.receiver) (same_Some a.channel b.channel (sym a.is ∙ b.is)) ∙ b.to

pub one_input : (graph : Expanded) (task i input number : ℕ) → input_at graph task i ≡ Some number → input_at graph task input ≡ Some number → i ≡ input
one_input graph task i input number is leads = filter_once (meets (is_input task) graph.channels) 0 (length graph.channels) i input number is leads

-- ---- a gate's inputs

pub mark_with : (xs : List Input) (input other : ℕ) → (gates.input_at (with_barrier xs input) other).is_marked ≡ (gates.input_at xs other).is_marked
mark_with xs input other = of xs input other (gates.input_at xs input).is_marked refl
  where
    of : (ys : List Input) (i k : ℕ) (mark : Bool) → (gates.input_at ys i).is_marked ≡ mark → (gates.input_at (slice_set ys i (record { is_marked = mark; came = true })) k).is_marked ≡ (gates.input_at ys k).is_marked
    of [] i k mark e = refl
    of (y ∷ ys) zero zero mark e = sym e
    of (y ∷ ys) zero (suc k) mark e = refl
    of (y ∷ ys) (suc i) zero mark e = refl
    of (y ∷ ys) (suc i) (suc k) mark e = of ys i k mark e

mark_without : (xs : List Input) (other : ℕ) → (gates.input_at (without_barriers xs) other).is_marked ≡ (gates.input_at xs other).is_marked
mark_without [] other = refl
mark_without (x ∷ xs) zero = refl
mark_without (x ∷ xs) (suc other) = mark_without xs other

length_without : (xs : List Input) → length (without_barriers xs) ≡ length xs
length_without [] = refl
length_without (x ∷ xs) = ap suc (length_without xs)

-- an unmarked input of which none is missing has its barrier
has_come : (mark came : Bool) → (not mark && not came) ≡ false → mark ≡ false → came ≡ true
has_come mark true none unmarked = refl
has_come true false none unmarked = absurd (true≢false unmarked)
has_come false false none unmarked = absurd (true≢false none)

-- an input of which neither is missing has its barrier
both_come : (mark came : Bool) → (not mark && not came) ≡ false → (mark && not came) ≡ false → came ≡ true
both_come mark true one two = refl
both_come true false one two = absurd (true≢false two)
both_come false false one two = absurd (true≢false one)

-- ---- effects

-- a copy is at an unmarked input, and no unmarked barrier is missing then
copies_at : (b mark : Bool) (left marked : ℕ) → is_copy (if mark then at_marked b marked else at_unmarked left marked) ≡ true → (mark ≡ false) × (left ≡ 0)
copies_at false true left marked e = absurd (false≢true e)
copies_at true true left zero e = absurd (false≢true e)
copies_at true true left (suc marked) e = absurd (false≢true e)
copies_at b false (suc left) marked e = absurd (false≢true e)
copies_at b false zero zero e = (refl, refl)
copies_at b false zero (suc marked) e = (refl, refl)

copy_at_last : (gate : Alignment) (input : ℕ) → is_copy (effect_of gate input) ≡ true → ((gates.input_at gate.inputs input).is_marked ≡ false) × (missing_unmarked (with_barrier gate.inputs input) ≡ 0)
copy_at_last gate input e = copies_at (has_copied gate.phase) (gates.input_at gate.inputs input).is_marked (missing_unmarked (with_barrier gate.inputs input)) (missing_marked (with_barrier gate.inputs input)) e

-- a barrier without a copy that does not block comes to a gate that has copied
pub closes_at : (b mark : Bool) (left marked : ℕ) → is_copy (if mark then at_marked b marked else at_unmarked left marked) ≡ false → ((if mark then at_marked b marked else at_unmarked left marked) ≡ Blocked → ⊥) → b ≡ true
closes_at true mark left marked none blocks = refl
closes_at false true left marked none blocks = absurd (blocks refl)
closes_at false false (suc left) marked none blocks = absurd (blocks refl)
closes_at false false zero zero none blocks = absurd (true≢false none)
closes_at false false zero (suc marked) none blocks = absurd (true≢false none)

-- a barrier that blocks comes to a gate that has not copied, or leaves an unmarked one missing
pub blocks_at : (b mark : Bool) (left marked : ℕ) → (if mark then at_marked b marked else at_unmarked left marked) ≡ Blocked → b ≡ true → 0 < left
blocks_at false mark left marked is e = absurd (false≢true e)
blocks_at true true left zero is e = absurd cc
blocks_at true true left (suc marked) is e = absurd cc
blocks_at true false zero zero is e = absurd cc
blocks_at true false zero (suc marked) is e = absurd cc
blocks_at true false (suc left) marked is e = omega arith

-- ---- after a barrier

pub after_length : (effect : Effect) (checkpoint : ℕ) (ys : List Input) → length (after effect checkpoint ys).inputs ≡ length ys
after_length Blocked checkpoint ys = refl
after_length Copy checkpoint ys = refl
after_length Closed checkpoint ys = refl
after_length CopyAndDone checkpoint ys = length_without ys
after_length Done checkpoint ys = length_without ys

pub after_mark : (effect : Effect) (checkpoint : ℕ) (ys : List Input) (other : ℕ) → (gates.input_at (after effect checkpoint ys).inputs other).is_marked ≡ (gates.input_at ys other).is_marked
after_mark Blocked checkpoint ys other = refl
after_mark Copy checkpoint ys other = refl
after_mark Closed checkpoint ys other = refl
after_mark CopyAndDone checkpoint ys other = mark_without ys other
after_mark Done checkpoint ys other = mark_without ys other

module _ (checkpoint : ℕ) (ys : List Input) where
  pub after_kept : (b mark : Bool) (left marked : ℕ) → missing_unmarked ys ≡ left → missing_marked ys ≡ marked → (b ≡ true → mark ≡ true → left ≡ 0)
      → ((if mark then at_marked b marked else at_unmarked left marked) ≡ Blocked → IsKept (Aligning checkpoint) ys)
      → IsKept (after (if mark then at_marked b marked else at_unmarked left marked) checkpoint ys).phase (after (if mark then at_marked b marked else at_unmarked left marked) checkpoint ys).inputs
  after_kept b false (suc left) marked l m closed blocks = blocks refl
  after_kept b false zero (suc marked) l m closed blocks = (l, omega (arith, m))
  after_kept b false zero zero l m closed blocks = count-without ys
  after_kept false true left marked l m closed blocks = blocks refl
  after_kept true true left (suc marked) l m closed blocks = (l ∙ closed refl refl, omega (arith, m))
  after_kept true true left zero l m closed blocks = count-without ys

  module _ {R K S : Type 0} (graph : Expanded) (k : Held R K S) (task : ℕ) (pending : k.coordination.pending ≡ Some checkpoint) (notes : NotesBarriers graph k task ys)
      (long : length ys ≡ length (inputs_of graph task)) (some : 0 < length ys) where
    -- all barriers have come
    all_came : missing_unmarked ys ≡ 0 → missing_marked ys ≡ 0 → (input number : ℕ) → input_at graph task input ≡ Some number → came_at k number ≡ true
    all_came one two input number is =
        let within : input < length ys = subst (λ n. input < n) (sym long) (slice_get_within (inputs_of graph task) input number is) in
        sym (notes input number is)
        ∙ both_come (gates.input_at ys input).is_marked (gates.input_at ys input).came (count_none misses_unmarked ys input (fresh false) one within) (count_none misses_marked ys input (fresh false) two within)

    pub after_stands : (b mark : Bool) (left marked : ℕ) → missing_unmarked ys ≡ left → missing_marked ys ≡ marked → (b ≡ true → mark ≡ true → left ≡ 0)
        → ((if mark then at_marked b marked else at_unmarked left marked) ≡ Blocked → copy_at k task ≡ None)
        → (((if mark then at_marked b marked else at_unmarked left marked) ≡ Blocked → ⊥) → copy_at k task ≢ None)
        → StandsAs graph k task (after (if mark then at_marked b marked else at_unmarked left marked) checkpoint ys).phase (after (if mark then at_marked b marked else at_unmarked left marked) checkpoint ys).inputs
    after_stands b false (suc left) marked l m closed first copied = (pending, first refl, notes, some)
    after_stands b false zero (suc marked) l m closed first copied = (pending, copied (λ e. cc), notes)
    after_stands b false zero zero l m closed first copied = λ input number is. all_came l m input number is ∙ sym (some_copy (copy_at k task) (copied (λ e. cc)))
    after_stands false true left marked l m closed first copied = (pending, first refl, notes, some)
    after_stands true true left (suc marked) l m closed first copied = (pending, copied (λ e. cc), notes)
    after_stands true true left zero l m closed first copied = λ input number is. all_came (l ∙ closed refl refl) m input number is ∙ sym (some_copy (copy_at k task) (copied (λ e. cc)))

-- ---- how a gate stands

module _ {R K S : Type 0} (graph : Expanded) (h : Held R K S) (task : ℕ) where
  -- a gate that has copied: so has its task
  pub has_copied_copy : (phase : Phase) (inputs : List Input) → StandsAs graph h task phase inputs → has_copied phase ≡ true → copy_at h task ≢ None
  has_copied_copy AtRest inputs stands e = absurd (false≢true e)
  has_copied_copy (Aligning number) inputs stands e = absurd (false≢true e)
  has_copied_copy (Copied number) inputs stands e = stands.1

  module _ (input channel : ℕ) (leads : input_at graph task input ≡ Some channel) where
    free_by : (phase : Phase) (inputs : List Input) → StandsAs graph h task phase inputs → (is_blocked (record { phase = phase; inputs = inputs }) input ≡ true → ⊥) → is_some (copy_at h task) ≡ false → came_at h channel ≡ false
    free_by AtRest inputs stands free none = stands input channel leads ∙ none
    free_by (Aligning number) inputs stands free none = elim (cases_Bool (came_at h channel)) [ inl came ↦ absurd (free (stands.2 input channel leads ∙ came)) | inr came ↦ came ]
    free_by (Copied number) inputs stands free none = absurd (stands.1 (no_copy (copy_at h task) none))

    logs_by : (phase : Phase) (inputs : List Input) → input < length inputs → IsKept phase inputs → StandsAs graph h task phase inputs →
        is_logged (record { phase = phase; inputs = inputs }) input ≡ (is_some (copy_at h task) && not (came_at h channel))
    logs_by AtRest inputs within kept stands = rw (stands input channel leads) (neither (is_some (copy_at h task)))
      where
        neither : (b : Bool) → false ≡ (b && not b)
        neither true = refl
        neither false = refl
    logs_by (Aligning number) inputs within kept stands = rw stands.1 refl
    logs_by (Copied number) inputs within kept stands =
        rw (some_copy (copy_at h task) stands.1, ← stands.2 input channel leads)
        (open_one (gates.input_at inputs input).is_marked (gates.input_at inputs input).came (count_none misses_unmarked inputs input (fresh false) kept.0 within))
      where
        open_one : (mark came : Bool) → (not mark && not came) ≡ false → (mark && not came) ≡ not came
        open_one true came none = refl
        open_one false true none = refl
        open_one false false none = absurd (true≢false none)

    module _ (checkpoint : ℕ) (pending : h.coordination.pending ≡ Some checkpoint) (not_came : came_at h channel ≡ false) where
      pub awaits_by : (phase : Phase) (inputs : List Input) → input < length inputs → IsKept phase inputs → StandsAs graph h task phase inputs → (gates.input_at inputs input).came ≡ false
      awaits_by AtRest inputs within kept stands = count_none (λ (x : Input). x.came) inputs input (fresh false) kept within
      awaits_by (Aligning number) inputs within kept stands = stands.2 input channel leads ∙ not_came
      awaits_by (Copied number) inputs within kept stands = stands.2 input channel leads ∙ not_came

      for_by : (phase : Phase) (inputs : List Input) → StandsAs graph h task phase inputs → IsFor phase checkpoint
      for_by AtRest inputs stands = tt
      for_by (Aligning number) inputs stands = same_Some number checkpoint (sym stands.0 ∙ pending)
      for_by (Copied number) inputs stands = same_Some number checkpoint (sym stands.0 ∙ pending)

      -- the gate has noted what came, also at rest
      pub notes_by : (phase : Phase) (inputs : List Input) → length inputs ≡ length (inputs_of graph task) → IsKept phase inputs → StandsAs graph h task phase inputs → NotesBarriers graph h task inputs
      notes_by AtRest inputs long kept stands = λ other number is.
          count_none (λ (x : Input). x.came) inputs other (fresh false) kept (subst (λ n. other < n) (sym long) (slice_get_within (inputs_of graph task) other number is))
          ∙ sym (stands other number is ∙ sym (stands input channel leads) ∙ not_came)
      notes_by (Aligning number) inputs long kept stands = stands.2
      notes_by (Copied number) inputs long kept stands = stands.2

      -- a gate that has not copied: its task has not
      pub first_by : (phase : Phase) (inputs : List Input) → StandsAs graph h task phase inputs → (has_copied phase ≡ true → ⊥) → copy_at h task ≡ None
      first_by AtRest inputs stands e = no_copy (copy_at h task) (sym (stands input channel leads) ∙ not_came)
      first_by (Aligning number) inputs stands e = stands.1
      first_by (Copied number) inputs stands e = absurd (e refl)

      -- once copied, no unmarked barrier is missing
      pub closed_by : (phase : Phase) (inputs : List Input) → IsKept phase inputs → has_copied phase ≡ true → missing_unmarked inputs ≡ 0
      closed_by AtRest inputs kept e = absurd (false≢true e)
      closed_by (Aligning number) inputs kept e = absurd (false≢true e)
      closed_by (Copied number) inputs kept e = kept.0

      rest_by : (phase : Phase) (inputs : List Input) → StandsAs graph h task phase inputs → phase ≡ AtRest → copy_at h task ≡ None
      rest_by AtRest inputs stands e = no_copy (copy_at h task) (sym (stands input channel leads) ∙ not_came)
      rest_by (Aligning number) inputs stands e = absurd cc
      rest_by (Copied number) inputs stands e = absurd cc

-- ---- what a gate says of an input, which is this channel

module _ {R K S : Type 0} (graph : Expanded) (h : Held R K S) (task : ℕ) (fits : GateFits graph h task) (input channel : ℕ) (leads : input_at graph task input ≡ Some channel) where
  pub within_gate : input < length (gate_at h task).inputs
  within_gate = subst (λ n. input < n) (sym fits.one_each) (slice_get_within (inputs_of graph task) input channel leads)

  -- an input that is not blocked gives, before the copy, what came before its barrier
  pub free_not_came : (IsBlocked task input h → ⊥) → is_some (copy_at h task) ≡ false → came_at h channel ≡ false
  free_not_came free none = free_by graph h task input channel leads (gate_at h task).phase (gate_at h task).inputs fits.stands free none

  -- what is logged
  pub logs_when : is_logged (gate_at h task) input ≡ (is_some (copy_at h task) && not (came_at h channel))
  logs_when = logs_by graph h task input channel leads (gate_at h task).phase (gate_at h task).inputs within_gate fits.kept fits.stands

  module _ (checkpoint : ℕ) (pending : h.coordination.pending ≡ Some checkpoint) (not_came : came_at h channel ≡ false) where
    pub awaits : (gates.input_at (gate_at h task).inputs input).came ≡ false
    awaits = awaits_by graph h task input channel leads checkpoint pending not_came (gate_at h task).phase (gate_at h task).inputs within_gate fits.kept fits.stands

    pub is_for : IsFor (gate_at h task).phase checkpoint
    is_for = for_by graph h task input channel leads checkpoint pending not_came (gate_at h task).phase (gate_at h task).inputs fits.stands

    -- the task has not acknowledged
    pub not_acked : has_acked h.coordination task ≡ true → ⊥
    not_acked acked =
        let done = fits.acknowledged acked in
        done.0 (rest_by graph h task input channel leads checkpoint pending not_came (gate_at h task).phase (gate_at h task).inputs fits.stands done.1)

    pub copy_is_first : is_copy (effect_of (gate_at h task) input) ≡ true → copy_at h task ≡ None
    copy_is_first copies =
        first_by graph h task input channel leads checkpoint pending not_came (gate_at h task).phase (gate_at h task).inputs fits.stands
        (λ copied.
        let none : misses_unmarked (gates.input_at (gate_at h task).inputs input) ≡ false =
        count_none misses_unmarked (gate_at h task).inputs input (fresh false) (closed_by graph h task input channel leads checkpoint pending not_came (gate_at h task).phase (gate_at h task).inputs fits.kept copied) within_gate in
        true≢false (sym (has_come (gates.input_at (gate_at h task).inputs input).is_marked (gates.input_at (gate_at h task).inputs input).came none (copy_at_last (gate_at h task) input copies).0) ∙ awaits))

    -- where the task copies, the barriers of all its unmarked inputs have come with this one
    pub unmarked_came : channel < length h.came → is_copy (effect_of (gate_at h task) input) ≡ true → (other number : ℕ) → input_at graph task other ≡ Some number → meets is_marked graph.channels number ≡ false
        → came_at (barrier_taken task input channel checkpoint h) number ≡ true
    unmarked_came within copies other number is unmarked =
        elim (eqb_tells number channel) [
          | inl same ↦
              ap (λ (n : ℕ). unwrap_or (slice_get (slice_set h.came channel true) n) false) same.1 ∙ ap (λ (o : Option Bool). unwrap_or o false) (get_set_same h.came channel true within)
          | inr apart ↦
              ap (λ (o : Option Bool). unwrap_or o false) (get_set_other h.came channel number true apart.1)
              ∙ sym (notes_by graph h task input channel leads checkpoint pending not_came (gate_at h task).phase (gate_at h task).inputs fits.one_each fits.kept fits.stands other number is)
              ∙ other_came (λ e. apart.1 (same_Some number channel (sym is ∙ ap (input_at graph task) e ∙ leads)))
        ]
      where
        other_within : other < length (with_barrier (gate_at h task).inputs input)
        other_within = subst (λ n. other < n) (sym (set_length (gate_at h task).inputs input (record (gates.input_at (gate_at h task).inputs input) { came = true }) ∙ fits.one_each)) (slice_get_within (inputs_of graph task) other number is)

        other_came : (other ≡ input → ⊥) → (gates.input_at (gate_at h task).inputs other).came ≡ true
        other_came apart =
            let same : gates.input_at (with_barrier (gate_at h task).inputs input) other ≡ gates.input_at (gate_at h task).inputs other =
            index_set_other (gate_at h task).inputs input other (record (gates.input_at (gate_at h task).inputs input) { came = true }) (fresh false) apart in
            has_come (gates.input_at (gate_at h task).inputs other).is_marked (gates.input_at (gate_at h task).inputs other).came
            (sym (ap misses_unmarked same) ∙ count_none misses_unmarked (with_barrier (gate_at h task).inputs input) other (fresh false) (copy_at_last (gate_at h task) input copies).1 other_within)
            (fits.marks other number is ∙ unmarked)

  -- a task that has acknowledged logs no more
  pub logs_stay : (row : R) (t : ℕ) → has_acked h.coordination t ≡ true → logs_of graph (record_taken task input channel row h) t ≡ logs_of graph h t
  logs_stay row t acked =
      map_agree (λ (number : ℕ). (number, logged_at (record_taken task input channel row h) number)) (λ (number : ℕ). (number, logged_at h number)) (marked_inputs graph t)
      (λ place number is. ap (λ (log : List R). (number, log)) (same number (filter_from (meets is_marked graph.channels) (inputs_of graph t) place number is)))
    where
      at_rest : (gate : Alignment) → gate.phase ≡ AtRest → is_logged gate input ≡ false
      at_rest gate e = rw e refl

      same : (number : ℕ) → (i : ℕ) × (input_at graph t i ≡ Some number) → logged_at (record_taken task input channel row h) number ≡ logged_at h number
      same number found =
          elim (eqb_tells number channel) [
            | inl here ↦
                let owner : t ≡ task = one_task graph t task found.0 input channel (found.1 ∙ ap Some here.1) leads in
                let done = fits.acknowledged (ap (has_acked h.coordination) (sym owner) ∙ acked) in
                ap (λ (b : Bool). unwrap_or (slice_get (log_with b channel row h.logs) number) []) (at_rest (gate_at h task) done.1)
            | inr apart ↦ log_elsewhere (is_logged (gate_at h task) input) channel row h.logs number apart.1
          ]
