-- On a fresh engine, whose store has parts of the right kinds alone, each task's part of the last complete checkpoint says what the task starts from.
use Rattle.std.proofs.Common.{◌≡◌, ◌≢◌, ◌≤◌, ◌<◌, inl, inr, cond, Option, Some, None, Result, Ok, Err, slice_get, option_map, length, count_by, take, ℕ, zero, suc, Bool, true, List, [], ◌∷◌, ◌++◌, refl, sym, ap, ◌∙◌, subst, arith}
use Rattle.std.proofs.lemmas.List.Sums.{sum_by-cons}
use Rattle.std.proofs.lemmas.Option.{none-some, same_Some}
use Rattle.abs_codec.specs.Entries.{value_at}
use Rattle.checkpoint_model.specs.Durable as durable
use Rattle.checkpoint_model.specs.Durable.{HasParts, IsCutOf, Succeed, last_from}
use Rattle.checkpoint_model.specs.Engine.{IsSound}
use Rattle.checkpoint_model.specs.Pruned.{IsPrunedSound}
use Rattle.dataflow_model.proofs.Runs.{join}
use Rattle.dataflow_model.specs.Graph.{Job, SourceTask, OperatorTask}
use Rattle.dataflow_model.specs.Machine.{Configuration, Move, Reaches, start}
use Rattle.job_graph.specs.Expanded.{is_source, is_operator}
use Rattle.job_graph.specs.PlainGraph.{task_of, operator_task}
use Rattle.job_graph.specs.declared.role.Role.{Role}
use Rattle.job_graph.specs.declared.role.Role.TheVariants as role
use Rattle.job_graph.proofs.PlainTasks.{tasks-graph_of}
use Rattle.snapshot_store.specs.Store.{part_of}
use Rattle.source_log.specs.Partitions.{records_at}
use Rattle.task_part.specs.declared.part.Part.{Part}
use Rattle.engine_model.specs.AllRules.{AllRules}
use Rattle.engine_model.specs.Keeps.{PartAs, Keeps}
use Rattle.commit_sink.specs.Ledger.{Ledger}
use Rattle.job_state.specs.Held.{Held}
use Rattle.engine_model.specs.declared.fault.CoreFault.{CoreFault}
use Rattle.engine_model.specs.declared.fault.CoreFault.TheVariants.{BadSnapshot}
use Rattle.engine_model.specs.Restart.{IsInPart, IsBroken, EndsRestart}
use Rattle.engine_model.specs.RestartLaws.{OperatorsAreLawful}
use Rattle.engine_model.specs.State.{State}
use Rattle.engine_model.specs.View.{job_of, is_logged_in, devices_of, part_view, part_in}
use Rattle.engine_model.specs.declared.start.Start.{Start}
use Rattle.engine_model.specs.declared.start.Start.TheVariants as from
use Rattle.engine_model.proofs.PlainGood.{IsGoodAt, runs_good}
use Rattle.engine_model.proofs.Restart.Base.{is_within, part_said}
use Rattle.engine_model.proofs.Restart.Steps.{sound, never_until}
use Rattle.engine_model.proofs.Store.View.{line_of, last_of_line}

before_place : (test : Role → Bool) (tasks : List Role) (i : ℕ) (r : Role) → test r ≡ true → slice_get tasks i ≡ Some r → count_by test (take i tasks) < count_by test tasks
before_place test [] i r passes at = absurd (none-some r at)
before_place test (x ∷ tasks) zero r passes at =
    let all = sum_by-cons (λ (y : Role). cond (test y) 1 0) x tasks in
    let one : ◌≡◌ {A = ℕ} (cond (test x) 1 0) 1 = ap (λ (b : Bool). cond b 1 0) (ap test (same_Some x r at) ∙ passes) in
    omega (arith, all, one)
before_place test (x ∷ tasks) (suc i) r passes at =
    let here = sum_by-cons (λ (y : Role). cond (test y) 1 0) x (take i tasks) in
    let there = sum_by-cons (λ (y : Role). cond (test y) 1 0) x tasks in
    let rest = before_place test tasks i r passes at in
    omega (arith, here, there, rest)

get_last : {A : Type 0} (xs : List A) (x : A) → slice_get (xs ++ x ∷ []) (length xs) ≡ Some x
get_last [] x = refl
get_last (y ∷ xs) x = get_last xs x

longer : {A : Type 0} (xs : List A) (x : A) → length (xs ++ x ∷ []) ≡ suc (length xs)
longer [] x = refl
longer (y ∷ xs) x = ap suc (longer xs x)

last_at : {A : Type 0} (x : A) (xs : List A) (n : ℕ) → length xs ≡ suc n → slice_get xs n ≡ Some (last_from x xs)
last_at x [] n e = absurd (omega (arith, e))
last_at x (y ∷ []) zero e = refl
last_at x (y ∷ []) (suc n) e = absurd (omega (arith, e))
last_at x (y ∷ z ∷ xs) zero e = absurd (omega (arith, e))
last_at x (y ∷ z ∷ xs) (suc n) e = last_at y (z ∷ xs) n (omega (arith, e))

to_last : {R K S O : Type 0} (job : Job R K S O) (old : Configuration R K S) (cuts : List (Configuration R K S)) → Succeed job old cuts → (moves : List Move) × Reaches job moves old (last_from old cuts)
to_last job old [] s = ([], refl)
to_last job old (cut ∷ cuts) s =
    let rest = to_last job cut cuts s.1 in
    (s.0.0 ++ rest.0, join job s.0.0 rest.0 old cut (last_from cut cuts) s.0.1 rest.1)

module _ {R K S O : Type 0} (rules : AllRules R K S O) (s : State O R K S) (keeps : Keeps rules s) (down : s.held ≡ None) (fresh : s.is_fresh ≡ true)
    (laws : OperatorsAreLawful rules) (fit : (partition offset : ℕ) (r : R) → slice_get (records_at s.partitions partition) offset ≡ Some r → rules.RecordFits r) where
  abbrev job : Job R K S O
  job = job_of rules.lang s

  abbrev held_sound : IsPrunedSound job (is_logged_in s) rules.lang.spelling (devices_of rules.lang s) None
  held_sound = sound rules s keeps down fresh

  module _ (last : ℕ) (front : List ℕ) (line : line_of s.stored ≡ front ++ last ∷ []) where
    abbrev whole : IsSound job (is_logged_in s) rules.lang.spelling (devices_of rules.lang s) held_sound.running
    whole = held_sound.sound

    cut : Configuration R K S
    cut = last_from start whole.cuts

    parts : HasParts job (devices_of rules.lang s).store last
    parts = whole.legal.last_parts front last line

    is_cut : IsCutOf job (devices_of rules.lang s).store last cut
    unfolding cut
    is_cut =
        let long : length whole.cuts ≡ suc (length front) = whole.legal.one_each ∙ ap length line ∙ longer front last in
        whole.legal.parts (length front) (last_from start whole.cuts) last (last_at start whole.cuts (length front) long) (ap (λ (l : List ℕ). slice_get l (length front)) line ∙ get_last front last) parts

    good : IsGoodAt rules job.graph job.partitions cut
    unfolding cut
    good = let reached = to_last job start whole.cuts whole.legal.successive in runs_good rules job.graph job.partitions laws fit reached.0 (last_from start whole.cuts) reached.1

    is_task_of : (task : ℕ) (r : Role) → slice_get s.graph.tasks task ≡ Some r → slice_get job.graph.tasks task ≡ Some (task_of s.operators r)
    is_task_of task r is = tasks-graph_of s.graph s.operators task ∙ ap (option_map (task_of s.operators)) is

    pub record PartThere (task : ℕ) (r : Role) : Type 0 where
      pub bytes : List ℕ
      pub there : part_of s.stored last task ≡ Some bytes
      pub p : Part R K S
      pub reads : Rattle.abs_codec.specs.Reading.whole_of rules.lang.read_part bytes ≡ Ok p
      pub form : PartAs rules.RecordFits s.graph task r p
      pub copy : (devices_of rules.lang s).store.parts last task ≡ Some (part_view rules.lang.cmp p)

    part_there : (task : ℕ) (r : Role) → slice_get s.graph.tasks task ≡ Some r → PartThere task r
    part_there task r is = by (part_of s.stored last task) refl
      where
        given : (x : durable.Part R K S) × (part_in rules.lang (part_of s.stored last task) ≡ Some x)
        given = parts task (task_of s.operators r) (is_task_of task r is)

        by : (o : Option (List ℕ)) → part_of s.stored last task ≡ o → PartThere task r
        by None none = absurd (none-some given.0 (sym (ap (part_in rules.lang) none) ∙ given.1))
        by (Some bytes) there =
            let f = keeps.formed fresh last task r bytes is there in
            record { bytes = bytes; there = there; p = f.0; reads = f.1; form = f.2; copy = part_said rules.lang s.stored last task bytes f.0 there f.1 }

    -- what an operator may have is there
    operator_at : (task number : ℕ) → slice_get s.graph.tasks task ≡ Some (role.Operator number) → (operator : O) × (slice_get s.operators number ≡ Some operator)
    operator_at task number is =
        let n = keeps.expanded.numbered.each task (role.Operator number) is in
        let less = before_place is_operator s.graph.tasks task (role.Operator number) refl is in
        is_within s.operators number (omega (arith, n, less, keeps.operators))

    partition_at : (task partition : ℕ) → slice_get s.graph.tasks task ≡ Some (role.Source partition) → partition < length s.partitions
    partition_at task partition is =
        let n = keeps.expanded.numbered.each task (role.Source partition) is in
        let less = before_place is_source s.graph.tasks task (role.Source partition) refl is in
        omega (arith, n, less, keeps.partitions)

    pub has_start : (task : ℕ) (r : Role) → slice_get s.graph.tasks task ≡ Some r → (st : Start R K S) × IsInPart rules s.graph s.operators s.partitions s.stored last task r st
    has_start task r is = by r is (part_there task r is)
      where
        by : (r : Role) → slice_get s.graph.tasks task ≡ Some r → PartThere task r → (st : Start R K S) × IsInPart rules s.graph s.operators s.partitions s.stored last task r st
        by (role.Source partition) is x =
            let offset = (x.form).0 in
            let said : (cut.tasks task).offset ≡ offset = is_cut.offsets task (part_view rules.lang.cmp x.p) (SourceTask partition) (is_task_of task (role.Source partition) is) x.copy ∙ ap (λ (q : Part R K S). (part_view rules.lang.cmp q).offset) (x.form).1 in (
              from.Source offset,
              record {
                bytes = x.bytes;
                is_part = x.there;
                reads = x.reads ∙ ap Ok (x.form).1;
                suits = (partition_at task partition is, subst (λ (m : ℕ). m ≤ length (records_at s.partitions partition)) said (good.offsets task partition (is_task_of task (role.Source partition) is)));
              },
            )
        by (role.Operator number) is x =
            let entries = (x.form).0 in
            let o = operator_at task number is in
            let kind : slice_get job.graph.tasks task ≡ Some (OperatorTask o.0) = is_task_of task (role.Operator number) is ∙ ap (λ (m : Option O). Some (operator_task m)) o.1 in
            let said : (cut.tasks task).states ≡ value_at rules.lang.cmp entries = is_cut.states task (part_view rules.lang.cmp x.p) (OperatorTask o.0) kind x.copy ∙ ap (λ (q : Part R K S). (part_view rules.lang.cmp q).states) (x.form).2 in (
              from.Operator entries (x.form).1,
              record {
                bytes = x.bytes;
                is_part = x.there;
                reads = x.reads ∙ ap Ok (x.form).2;
                suits = (o.0, o.1, λ key state found. good.states task o.0 key state kind (ap (λ (f : K → Option S). f key) said ∙ found), (x.form).3);
              },
            )
        by (role.Sink subtask) is x =
            (from.Sink subtask (x.form).0 (x.form).1, record { bytes = x.bytes; is_part = x.there; reads = x.reads ∙ ap Ok (x.form).2; suits = (refl, (x.form).3) })

  pub never_broken : (task : ℕ) → IsBroken rules s.graph s.operators s.partitions s.stored task → ⊥
  never_broken task b =
      let last_one = last_of_line s.stored b.last keeps.numbered b.latest.0 b.latest.1 in
      let st = has_start b.last last_one.0 last_one.1 task b.role b.is_task in
      b.no_start st.0 st.1

  -- no restart is refused for what the devices hold
  pub never_bad : (ledger : Ledger) (result : Result (Option ℕ × Held R K S) CoreFault) → EndsRestart rules s.graph s.operators s.partitions s.stored s.ledger ledger result → result ≢ Err BadSnapshot
  never_bad ledger result ends e =
      let bad : EndsRestart rules s.graph s.operators s.partitions s.stored s.ledger ledger (Err BadSnapshot) =
      subst (EndsRestart rules s.graph s.operators s.partitions s.stored s.ledger ledger) e ends in
      elim bad [
        | inl broken ↦ never_broken broken.0.0 broken.0.1
        | inr p ↦ never_until rules s keeps down fresh p.last p.starts ledger p.are p.then_ends
      ]
