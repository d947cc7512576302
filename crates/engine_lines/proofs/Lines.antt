-- An engine that runs a line has committed a beginning.
use Rattle.std.proofs.Common.{◌≡◌, ◌<◌, Option, Some, None, Ok, Err, Result, slice_get, length, map, take, ℕ, ℤ, zero, suc, List, [], ◌∷◌, refl, sym, ap, ◌∙◌, arith}
use Rattle.std.proofs.lemmas.Option.{none-some, slice_get_within}
use Rattle.abs_codec.specs.Reading.{whole_of}
use Rattle.checkpoint_model.specs.Durable as durable
use Rattle.checkpoint_model.specs.Durable.{HasParts, IsSink}
use Rattle.checkpoint_model.proofs.Settled.{on_at}
use Rattle.commit_sink.specs.Ledger.{committed_rows}
use Rattle.dataflow_model.specs.Graph.{SourceTask, SinkTask, Channel, Begins}
use Rattle.job_graph.specs.Expanded.{meets, is_marked}
use Rattle.job_graph.specs.PlainGraph.{task_of, operator_task}
use Rattle.job_graph.specs.declared.role.Role.{Role}
use Rattle.job_graph.specs.declared.role.Role.TheVariants as role
use Rattle.engine_lines.specs.Line as model
use Rattle.engine_lines.specs.Line.{on_first_port, applied, no_states}
use Rattle.engine_lines.specs.PlainLaws.{CommitsBeginning}
use Rattle.engine_lines.proofs.LineCommits.{lines_commit}
use Rattle.engine_lines.proofs.Along.{one_for_each}
use Rattle.operators.specs.RowMeaning.{row_meaning}
use Rattle.operators.specs.declared.row.Row.{Row}
use Rattle.operators.specs.declared.row_state.RowState.{RowState}
use Rattle.operators.specs.declared.row_op.RowOp.{RowOp}
use Rattle.operators.specs.declared.row_op.RowOp.TheVariants.{Add}
use Rattle.snapshot_store.specs.Store.{part_of}
use Rattle.source_log.specs.Partitions.{records_at}
use Rattle.task_part.specs.declared.part.Part.TheVariants as part
use Rattle.engine_model.specs.AllRules.{AllRules}
use Rattle.engine_model.specs.Goes.{Goes}
use Rattle.engine_model.specs.Keeps.{Keeps}
use Rattle.engine_model.specs.LastCommitted.{committed_of, complete_numbers, last_of_first, last_committed}
use Rattle.engine_model.specs.State.{State}
use Rattle.engine_model.specs.View.{part_view, part_in, transactions_at, job_of, is_logged_in, devices_of}
use Rattle.engine_model.proofs.Calls.Exact.{rows_at, is_sink_of, goes_withdraws, keeps_exact}
use Rattle.engine_model.proofs.Ledger.Rows.{count_in}
use Rattle.engine_lines.specs.Lines.{IsLine, RunsLine, CommitsABeginning}
use Rattle.engine_lines.specs.Laws.{added}

empty_of : {A : Type 0} (xs : List A) → length xs ≡ 0 → xs ≡ []
empty_of [] e = refl
empty_of (x ∷ xs) e = absurd (omega (arith, e))

module _ {R K S O : Type 0} (rules : AllRules R K S O) (s : State O R K S) (operator : O) (runs : RunsLine rules operator s) where
  -- the model's job is a line
  is_line : model.IsLine (job_of rules.lang s) 0 operator
  is_line = record {
    tasks = ap (map (task_of s.operators)) runs.line.tasks ∙ ap (λ (o : Option O). SourceTask 0 ∷ operator_task o ∷ SinkTask ∷ []) runs.operator_is;
    first = runs.line.first;
    second = runs.line.second;
    channels = runs.line.channels;
    first_takes = runs.line.first_takes;
    second_takes = runs.line.second_takes;
  }

  begins : CommitsBeginning (job_of rules.lang s) rules.lang.spelling 0 operator (devices_of rules.lang s)
  begins =
      let held = runs.keeps.fresh runs.fresh in
      lines_commit (job_of rules.lang s) rules.lang.spelling (is_logged_in s) 0 operator (devices_of rules.lang s) held.running is_line
      (ap (λ (cs : List Channel). meets is_marked cs 0) runs.line.channels) (ap (λ (cs : List Channel). meets is_marked cs 1) runs.line.channels) held.sound

  sink_at : slice_get s.graph.tasks 2 ≡ Some (role.Sink 0)
  sink_at = ap (λ (ts : List Role). slice_get ts 2) runs.line.tasks

  abbrev committed : List (durable.Transaction (List ℕ))
  committed = (transactions_at s.ledger (slice_get s.graph.tasks 2)).committed

  -- as many as the ledger has
  same_count : length committed ≡ length (committed_of s.ledger 0)
  same_count = ap (λ (r : Option Role). length (transactions_at s.ledger r).committed) sink_at ∙ count_in s.ledger 0 runs.keeps.ordered

  -- there is a complete checkpoint for each
  complete_at : (j : ℕ) → length committed ≡ suc j → j < length (complete_numbers s.stored)
  complete_at j e =
      let exact = keeps_exact rules s runs.keeps runs.fresh in
      let at = exact.exactly 2 j (is_sink_of rules.lang s 2 0 sink_at) e in
      let within = slice_get_within exact.moments j at.0 at.2 in
      omega (arith, within, exact.one_each)

  none_past : {A : Type 0} (xs : List A) (j : ℕ) → slice_get xs j ≡ None → j < length xs → ⊥
  none_past [] j e less = omega (arith, less)
  none_past (x ∷ xs) zero e less = none-some x (sym e)
  none_past (x ∷ xs) (suc j) e less = none_past xs j e (omega (arith, less))

  from_none : last_committed s.stored s.ledger 0 ≡ None → begins.offset ≡ 0
  from_none none = of (length (committed_of s.ledger 0)) refl
    where
      of : (count : ℕ) → length (committed_of s.ledger 0) ≡ count → begins.offset ≡ 0
      of zero e = begins.from_none (empty_of committed (same_count ∙ e))
      of (suc j) e = absurd (none_past (complete_numbers s.stored) j (ap (last_of_first s.stored) (sym e) ∙ none) (complete_at j (same_count ∙ e)))

  source_at : slice_get (job_of rules.lang s).graph.tasks 0 ≡ Some (SourceTask 0)
  source_at = ap (λ ts. slice_get ts 0) is_line.tasks

  from_part : (n start : ℕ) (bytes : List ℕ) → last_committed s.stored s.ledger 0 ≡ Some n → part_of s.stored n 0 ≡ Some bytes → whole_of rules.lang.read_part bytes ≡ Ok (part.Source start) → begins.offset ≡ start
  from_part n start bytes last has reads = of (length (committed_of s.ledger 0)) refl
    where
      spelled : part_in rules.lang (part_of s.stored n 0) ≡ Some (part_view rules.lang.cmp (part.Source start))
      spelled = ap (part_in rules.lang) has ∙ ap (λ (r : Result _ _). (let o : Option (durable.Part R K S) = elim r [ Ok p ↦ Some (part_view rules.lang.cmp p) | Err fault ↦ None ] in o)) reads

      of : (count : ℕ) → length (committed_of s.ledger 0) ≡ count → begins.offset ≡ start
      of zero e = absurd (none-some n (ap (last_of_first s.stored) (sym e) ∙ last))
      of (suc j) e =
          let there : slice_get (complete_numbers s.stored) j ≡ Some n = ap (last_of_first s.stored) (sym e) ∙ last in
          let parts : HasParts (job_of rules.lang s) (devices_of rules.lang s).store n =
          runs.keeps.whole runs.fresh n 0 (SourceTask 0) (part_view rules.lang.cmp (part.Source start)) (on_at (complete_numbers s.stored) j n there) source_at spelled in
          begins.from_part j n (part_view rules.lang.cmp (part.Source start)) (same_count ∙ e) there parts spelled

  pub commits_made : CommitsABeginning rules.lang s (λ rows. applied rules.lang.meaning operator rows)
  commits_made = record {
    offset = begins.offset;
    within = begins.within;
    committed = sym (rows_at rules.lang s.graph s.ledger 2 0 sink_at runs.keeps.ordered) ∙ begins.committed;
    from_none = from_none;
    from_part = from_part;
  }

  -- what is made is the same
  commits_so : (made : List R → List R) → ((rows : List R) → applied rules.lang.meaning operator rows ≡ made rows) → CommitsABeginning rules.lang s made
  commits_so made same = record {
    offset = commits_made.offset;
    within = commits_made.within;
    committed = commits_made.committed ∙ ap (map rules.lang.spelling) (same (take commits_made.offset (records_at s.partitions 0)));
    from_none = commits_made.from_none;
    from_part = commits_made.from_part;
  }

  pub commits_each : (f : R → R) → ((state : S) (r : R) → on_first_port (rules.lang.meaning.apply operator state r).sent ≡ f r ∷ []) → CommitsABeginning rules.lang s (λ rows. map f rows)
  commits_each f one = commits_so (λ rows. map f rows) (λ rows. one_for_each rules.lang.meaning operator f no_states rows one)

module _ (rules : AllRules Row (List ℕ) RowState RowOp) (s : State RowOp Row (List ℕ) RowState) (n : ℤ) (meaning : rules.lang.meaning ≡ row_meaning) where
  pub commits_sums : RunsLine rules (Add n) s → CommitsABeginning rules.lang s (λ rows. map (added n) rows)
  commits_sums runs = commits_each rules s (Add n) runs (added n) (λ state r. ap (λ m. on_first_port (m.apply (Add n) state r).sent) meaning)

module _ {R K S O : Type 0} (rules : AllRules R K S O) where
  pub withdraws_none : (s new : State O R K S) → Keeps rules s → Keeps rules new → IsLine s.graph → new.graph ≡ s.graph → Goes rules.lang s new → Begins (committed_rows s.ledger 0) (committed_rows new.ledger 0)
  withdraws_none s new old_keeps new_keeps line same goes =
      goes_withdraws rules.lang s new 2 0 same (ap (λ (ts : List Role). slice_get ts 2) line.tasks) old_keeps.ordered new_keeps.ordered goes
