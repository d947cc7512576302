-- What a script that was read has for its core.
use Rattle.std.proofs.Common.{◌≡◌, ◌∙◌, ℕ, ◌+◌, ◌≤◌, ◌==◌, inl, inr, Bool, true, false, cond, not, List, [], ◌∷◌, ◌++◌, length, count_by, Result, Ok, Err, refl, sym, ap, arith, length-append}
use Rattle.std.proofs.lemmas.Bool.{eqb-true}
use Rattle.std.proofs.lemmas.List.{length-map}
use Rattle.serde_json.specs.Data.{Data, Items, no_items, item}
use Rattle.serde_json.specs.Events.{items_len}
use Rattle.job_spec.specs.declared.fault.JobFault.{JobFault}
use Rattle.job_spec.specs.Job.{Job, operators_of}
use Rattle.job_spec.specs.Reading.{job_at}
use Rattle.job_graph.specs.Expanded.{Expanded, is_source}
use Rattle.job_graph.specs.Expansion.{Expands}
use Rattle.job_graph.specs.PlainGraph.{HaveOperators}
use Rattle.operators.specs.declared.row.Row.{Row}
use Rattle.script_file.specs.declared.script.Script as code
use Rattle.script_file.specs.declared.fault.ScriptFault.{ScriptFault}
use Rattle.script_file.specs.declared.fault.ScriptFault.TheVariants.{Inputs}
use Rattle.script_file.specs.declared.step.ScriptStep.{ScriptStep}
use Rattle.script_file.specs.Contents.{Contents, contents_view, counted, contents_at}
use Rattle.script_file.specs.Faults.{◌>>=◌}
use Rattle.script_file.specs.Json.{value_of}
use Rattle.script_file.specs.Lists.{each_after}
use Rattle.script_file.specs.Outline.{Outline, outline_at}
use Rattle.script_file.specs.Rows.{rows_at}
use Rattle.script_file.specs.Script.{of_job, head_at, head_of, ReadsContents, Reads}
use Rattle.script_file.specs.Steps.{step_at}
use Rattle.absflow_run.proofs.JobTasks.{have_operators, has_task}

bind_ok : {A B : Type 0} (r : Result A ScriptFault) (f : A → Result B ScriptFault) (y : B) → (r >>= f) ≡ Ok y → (x : A) × (r ≡ Ok x) × (f x ≡ Ok y)
bind_ok (Ok x) f y h = (x, refl, h)
bind_ok (Err e) f y h = cc

-- ---- a partition for each source task

one_for_each_item : {A : Type 0} (read : ℕ → Data → Result A ScriptFault) (found : List A) (items : Items) (all : List A) → each_after read found items ≡ Ok all → length all ≡ length found + items_len items
unfolding each_after
one_for_each_item read found no_items all h =
    let same : found ≡ all = cc in
    let len = ap length same in
    omega arith
one_for_each_item read found (item d ds) all h =
    let one = bind_ok (read (length found) d) (λ x. each_after read (found ++ x ∷ []) ds) all h in
    let rest = one_for_each_item read (found ++ one.0 ∷ []) ds all one.2 in
    let len = length-append found (one.0 ∷ []) in
    omega arith

counted_is : (sources : ℕ) (items found : Items) → counted sources items ≡ Ok found → items_len found ≡ sources
counted_is sources items found = by (items_len items == sources) refl
  where
    by : (b : Bool) → (items_len items == sources) ≡ b → cond (not b) (Err (Inputs sources (items_len items))) (Ok items) ≡ Ok found → items_len found ≡ sources
    by true is h = ap items_len (let same : found ≡ items = cc in same) ∙ eqb-true (items_len items) sources is
    by false is h = cc

-- the steps of the contents, from the last to the first
abbrev contents_2 : List (List Row) → List ScriptStep → Result Contents ScriptFault
contents_2 partitions steps = Ok (record { partitions = partitions; steps = steps })

abbrev contents_1 : Outline → List (List Row) → Result Contents ScriptFault
contents_1 outline partitions = each_after step_at [] outline.steps >>= contents_2 partitions

abbrev contents_0 : Outline → Items → Result Contents ScriptFault
contents_0 outline items = each_after rows_at [] items >>= contents_1 outline

partition_for_each : (sources : ℕ) (outline : Outline) (contents : Contents) → contents_at sources outline ≡ Ok contents → length contents.partitions ≡ sources
unfolding contents_at
partition_for_each sources outline contents h =
    let items = bind_ok (counted sources outline.partitions) (contents_0 outline) contents h in
    let partitions = bind_ok (each_after rows_at [] items.0) (contents_1 outline) contents items.2 in
    let steps = bind_ok (each_after step_at [] outline.steps) (contents_2 partitions.0) contents partitions.2 in
    let same : partitions.0 ≡ contents.partitions = cc in
    let len = ap length same in
    let each = one_for_each_item rows_at [] items.0 partitions.0 partitions.1 in
    let count = counted_is sources outline.partitions items.0 items.1 in
    omega arith

-- ---- the whole

-- what the core of a script needs of it
pub record IsWhole (script : code.Script) : Type 0 where
  pub task : 1 ≤ length script.graph.tasks
  pub operators : HaveOperators script.graph (operators_of script.job)
  pub partitions : length script.contents.partitions.items ≡ count_by is_source script.graph.tasks

of_job_ok : (given : Result Job JobFault) (j : Job) → of_job given ≡ Ok j → given ≡ Ok j
of_job_ok (Ok k) j h = ap (λ l. Ok l) (let same : k ≡ j = cc in same)
of_job_ok (Err f) j h = cc

abbrev head_0 : Outline → Result (Outline × Job) ScriptFault
head_0 outline = of_job (job_at outline.job) >>= λ j. Ok (outline, j)

job_was_read : (bytes : List ℕ) (head : Outline × Job) → head_of bytes ≡ Ok head → job_at head.0.job ≡ Ok head.1
unfolding head_of head_at
job_was_read bytes head h =
    let value = bind_ok (value_of bytes) head_at head h in
    let outline = bind_ok (outline_at value.0) head_0 head value.2 in
    let j = bind_ok (of_job (job_at outline.0.job)) (λ j. Ok (outline.0, j)) head outline.2 in
    let same : (outline.0, j.0) ≡ head = cc in
    rw (← same) (of_job_ok (job_at outline.0.job) j.0 j.1)

contents_whole : (outline : Outline) (j : Job) (script : code.Script) → job_at outline.job ≡ Ok j → ReadsContents outline j (Ok script) → IsWhole script
contents_whole outline j script given (graph, expands, reads) =
    let contents = bind_ok (contents_at (count_by is_source graph.tasks) outline) (λ c. Ok (j, graph, c)) (script.job, script.graph, contents_view script.contents) reads in
    let same : (j, graph, contents.0) ≡ (script.job, script.graph, contents_view script.contents) = cc in
    let same_job : j ≡ script.job = ap (λ (p : Job × Expanded × Contents). p.0) same in
    let same_graph : graph ≡ script.graph = ap (λ (p : Job × Expanded × Contents). p.1) same in
    let same_contents : contents.0 ≡ contents_view script.contents = ap (λ (p : Job × Expanded × Contents). p.2) same in
    let expanded : Expands script.job script.graph = rw (← same_job, ← same_graph) expands in
    let partitions = partition_for_each (count_by is_source graph.tasks) outline contents.0 contents.1 in
    record {
      task = has_task outline.job script.job script.graph (rw (← same_job) given) expanded;
      operators = have_operators script.job script.graph expanded;
      partitions = sym (length-map script.contents.partitions.items (λ rows. rows.items)) ∙ sym (ap (λ (c : Contents). length c.partitions) same_contents) ∙ partitions ∙ ap (λ (g : Expanded). count_by is_source g.tasks) same_graph;
    }

pub read_whole : (bytes : List ℕ) (script : code.Script) → Reads (head_of bytes) (Ok script) → IsWhole script
read_whole bytes script = by (head_of bytes) refl
  where
    by : (head : Result (Outline × Job) ScriptFault) → head_of bytes ≡ head → Reads head (Ok script) → IsWhole script
    by (Err e) is reads = cc
    by (Ok head) is (inl refused) = cc
    by (Ok head) is (inr reads) = contents_whole head.0 head.1 script (job_was_read bytes head is) reads
