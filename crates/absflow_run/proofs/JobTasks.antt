-- The tasks of a job that was read, and its operators.
use Rattle.std.proofs.Common.{◌≡◌, ◌∙◌, ℕ, zero, suc, ◌+◌, ◌≤◌, ◌&&◌, Bool, true, false, cond, List, [], ◌∷◌, ◌++◌, length, map, replicate, count_by, Result, Ok, Err, refl, sym, ap, arith, codes, length-append, nat_le}
use Rattle.std.specs.List.{All, flat_map}
use Rattle.std.proofs.lemmas.Bool.{leb-true, and_parts}
use Rattle.std.proofs.lemmas.List.{length-map, length-replicate}
use Rattle.std.proofs.lemmas.List.Elements.{All-head}
use Rattle.std.proofs.lemmas.List.Sums.{sum_by-cons}
use Rattle.serde_json.specs.Data.{Data, Items, no_items, item}
use Rattle.serde_json.specs.Events.{items_len}
use Rattle.serde_json.specs.Find.{as_array}
use Rattle.json_members.specs.Members.{has_only}
use Rattle.job_spec.specs.declared.edge.EdgeSpec.{EdgeSpec}
use Rattle.job_spec.specs.declared.fault.JobFault.{JobFault}
use Rattle.job_spec.specs.declared.fault.JobFault.TheVariants as faults
use Rattle.job_spec.specs.Job as job
use Rattle.job_spec.specs.Job.{Kind, Vertex, Job, IsVertex, IsJob, operators_in, operators_of}
use Rattle.job_spec.specs.Reading.{◌>>=◌, or_fault, member_at, list, lists_at, vertex_at, is_named, vertices_after, edges_after, job_at}
use Rattle.job_spec.proofs.Valid.{gives_job}
use Rattle.job_graph.specs.declared.role.Role.{Role}
use Rattle.job_graph.specs.declared.role.Role.TheVariants.{Source, Operator, Sink}
use Rattle.job_graph.specs.Expanded.{Expanded, is_operator, task_kind}
use Rattle.job_graph.specs.Expansion.{Expands, kind_of, subtasks_of}
use Rattle.job_graph.specs.PlainGraph.{HaveOperators}

-- ---- an operator for each operator task

operator_same : (role : Role) (kind : Kind) → task_kind role ≡ kind_of kind → is_operator role ≡ job.is_operator kind
operator_same (Source partition) job.source same = refl
operator_same (Source partition) job.sink same = cc
operator_same (Source partition) kind same = cc
operator_same (Operator number) job.source same = cc
operator_same (Operator number) job.sink same = cc
operator_same (Operator number) kind same = refl
operator_same (Sink subtask) job.source same = cc
operator_same (Sink subtask) job.sink same = refl
operator_same (Sink subtask) kind same = cc

one_more : (test : Bool) (n : ℕ) → cond test 1 0 + cond test n 0 ≡ cond test (suc n) 0
one_more true n = omega arith
one_more false n = refl

no_more : (test : Bool) → ◌≡◌ {A = ℕ} (cond test 0 0) 0
no_more true = refl
no_more false = refl

copies : (test : Bool) (n : ℕ) (kind : Kind) → length (cond test (replicate n kind) []) ≡ cond test n 0
copies true n kind = length-replicate n kind
copies false n kind = refl

-- the subtasks of a vertex, and then those behind it
counted_subtasks : (kind : Kind) (n : ℕ) (behind : List Vertex) (count : ℕ) (roles : List Role) → map task_kind roles ≡ replicate n (kind_of kind) ++ flat_map subtasks_of behind
    → ((others : List Role) → map task_kind others ≡ flat_map subtasks_of behind → count_by is_operator others ≡ count) → count_by is_operator roles ≡ cond (job.is_operator kind) n 0 + count
counted_subtasks kind zero behind count roles same rest =
    let all = rest roles same in
    let none = no_more (job.is_operator kind) in
    omega arith
counted_subtasks kind (suc n) behind count [] same rest = cc
counted_subtasks kind (suc n) behind count (role ∷ roles) same rest =
    let first : task_kind role ≡ kind_of kind = cc in
    let others : map task_kind roles ≡ replicate n (kind_of kind) ++ flat_map subtasks_of behind = cc in
    let all = counted_subtasks kind n behind count roles others rest in
    let longer = one_more (job.is_operator kind) n in
    sum_by-cons (λ r. cond (is_operator r) 1 0) role roles ∙ ap (λ test. cond test 1 0 + count_by is_operator roles) (operator_same role kind first) ∙ omega (arith, all, longer)

counted_vertices : (vertices : List Vertex) (roles : List Role) → map task_kind roles ≡ flat_map subtasks_of vertices → count_by is_operator roles ≡ length (flat_map operators_in vertices)
counted_vertices [] [] same = refl
counted_vertices [] (role ∷ roles) same = cc
counted_vertices (v ∷ vs) roles same =
    counted_subtasks v.kind v.parallelism vs (length (flat_map operators_in vs)) roles same (counted_vertices vs)
    ∙ ap (λ n. n + length (flat_map operators_in vs)) (sym (copies (job.is_operator v.kind) v.parallelism v.kind)) ∙ sym (length-append (operators_in v) (flat_map operators_in vs))

pub have_operators : (j : Job) (graph : Expanded) → Expands j graph → HaveOperators graph (operators_of j)
have_operators j graph expands = sym (counted_vertices j.vertices graph.tasks expands.tasks)

-- ---- a vertex, and so a task

bind_ok : {A B : Type 0} (r : Result A JobFault) (f : A → Result B JobFault) (y : B) → (r >>= f) ≡ Ok y → (x : A) × (r ≡ Ok x) × (f x ≡ Ok y)
bind_ok (Ok x) f y h = (x, refl, h)
bind_ok (Err e) f y h = cc

guard_ok : {A : Type 0} (b : Bool) (x : A) (e : JobFault) (y : A) → cond b (Ok x) (Err e) ≡ Ok y → (b ≡ true) × (x ≡ y)
guard_ok true x e y h = (refl, cc)
guard_ok false x e y h = cc

passed : {A : Type 0} (b : Bool) (e : JobFault) (r : Result A JobFault) (y : A) → cond b (Err e) r ≡ Ok y → r ≡ Ok y
passed true e r y h = cc
passed false e r y h = h

-- each item gives a vertex, behind those that were found before it
at_least_items : (found : List Vertex) (items : Items) (vertices : List Vertex) → vertices_after found items ≡ Ok vertices → length found + items_len items ≤ length vertices
unfolding vertices_after
at_least_items found no_items vertices h =
    let same : found ≡ vertices = cc in
    let len = ap length same in
    omega arith
at_least_items found (item d ds) vertices h =
    let one = bind_ok (vertex_at d) (λ v. cond (is_named v.name found) (Err faults.DuplicateName) (vertices_after (found ++ v ∷ []) ds)) vertices h in
    let rest = at_least_items (found ++ one.0 ∷ []) ds vertices (passed _ _ (vertices_after (found ++ one.0 ∷ []) ds) vertices one.2) in
    let len = length-append found (one.0 ∷ []) in
    omega arith

list_at_least : (low high : ℕ) (d : Data) (items : Items) → list low high d ≡ Ok items → low ≤ items_len items
list_at_least low high d items h =
    let found = bind_ok (or_fault faults.BadField (as_array d)) (λ ds. cond (nat_le low (items_len ds) && nat_le (items_len ds) high) (Ok ds) (Err faults.BadField)) items h in
    let g = guard_ok (nat_le low (items_len found.0) && nat_le (items_len found.0) high) found.0 faults.BadField items found.2 in
    let above = leb-true low (items_len found.0) (and_parts (nat_le low (items_len found.0)) (nat_le (items_len found.0) high) g.0).0 in
    let same = ap items_len g.1 in
    omega arith

-- the steps of the lists, from the last to the first
abbrev lists_3 : Data → Items → Items → Result (Items × Items) JobFault
lists_3 d vs es = cond (has_only (codes "vertices" ∷ codes "edges" ∷ []) d) (Ok (vs, es)) (Err faults.BadField)

abbrev lists_2 : Data → Items → Data → Result (Items × Items) JobFault
lists_2 d vs edges = list 0 256 edges >>= lists_3 d vs

abbrev lists_1 : Data → Items → Result (Items × Items) JobFault
lists_1 d vs = member_at (codes "edges") d >>= lists_2 d vs

abbrev lists_0 : Data → Data → Result (Items × Items) JobFault
lists_0 d vertices = list 1 256 vertices >>= lists_1 d

vertex_listed : (d : Data) (lists : Items × Items) → lists_at d ≡ Ok lists → 1 ≤ items_len lists.0
unfolding lists_at
vertex_listed d lists h =
    let vertices = bind_ok (member_at (codes "vertices") d) (lists_0 d) lists h in
    let vs = bind_ok (list 1 256 vertices.0) (lists_1 d) lists vertices.2 in
    let edges = bind_ok (member_at (codes "edges") d) (lists_2 d vs.0) lists vs.2 in
    let es = bind_ok (list 0 256 edges.0) (lists_3 d vs.0) lists edges.2 in
    let both : Items × Items = (vs.0, es.0) in
    let g = guard_ok (has_only (codes "vertices" ∷ codes "edges" ∷ []) d) both faults.BadField lists es.2 in
    let some = list_at_least 1 256 vertices.0 vs.0 vs.1 in
    let same = ap (λ (p : Items × Items). items_len p.0) g.1 in
    omega arith

-- the steps of a job, from the last to the first
abbrev job_2 : List Vertex → List EdgeSpec → Result Job JobFault
job_2 vs es = Ok (record { vertices = vs; edges = es })

abbrev job_1 : Items × Items → List Vertex → Result Job JobFault
job_1 lists vs = edges_after vs [] lists.1 >>= job_2 vs

abbrev job_0 : Items × Items → Result Job JobFault
job_0 lists = vertices_after [] lists.0 >>= job_1 lists

has_vertex : (d : Data) (j : Job) → job_at d ≡ Ok j → 1 ≤ length j.vertices
unfolding job_at
has_vertex d j h =
    let lists = bind_ok (lists_at d) job_0 j h in
    let vs = bind_ok (vertices_after [] lists.0.0) (job_1 lists.0) j lists.2 in
    let es = bind_ok (edges_after vs.0 [] lists.0.1) (job_2 vs.0) j vs.2 in
    let made : Job = record { vertices = vs.0; edges = es.0 } in
    let same : made ≡ j = cc in
    let len = ap (λ (k : Job). length k.vertices) same in
    let listed = vertex_listed d lists.0 lists.1 in
    let long = at_least_items [] lists.0.0 vs.0 vs.1 in
    omega arith

first_subtask : (vertices : List Vertex) → All IsVertex vertices → 1 ≤ length vertices → 1 ≤ length (flat_map subtasks_of vertices)
first_subtask [] all some = absurd (omega arith)
first_subtask (v ∷ vs) all some =
    let at_least = (All-head IsVertex v vs all).at_least in
    let many = length-replicate v.parallelism (kind_of v.kind) in
    let both = length-append (subtasks_of v) (flat_map subtasks_of vs) in
    omega arith

pub has_task : (d : Data) (j : Job) (graph : Expanded) → job_at d ≡ Ok j → Expands j graph → 1 ≤ length graph.tasks
has_task d j graph given expands =
    let is : IsJob j = gives_job (λ k. k) d (Ok j) given in
    let some = first_subtask j.vertices is.vertices (has_vertex d j given) in
    let kinds = length-map graph.tasks task_kind in
    let same = ap length expands.tasks in
    omega arith
