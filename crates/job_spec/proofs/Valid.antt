-- What every job that was read keeps.
use Rattle.std.proofs.Common.{◌≡◌, ◌∙◌, ℕ, ◌+◌, ◌<◌, ◌≤◌, ℤ, pos, negsuc, Bool, true, false, cond, not, ◌&&◌, ◌==◌, List, [], ◌∷◌, ◌++◌, length, Option, Some, None, option_map, option_and_then, slice_get, position, Result, Ok, Err, IfOk, refl, sym, ap, subst, arith, codes, nat_le, nat_lt}
use Rattle.std.specs.List.{AllByRecursion}
use Rattle.std.specs.Str.{bytes_eq}
use Rattle.std.proofs.lemmas.List.Elements.{All-from_recursion}
use Rattle.std.proofs.lemmas.Bool.{leb-true, leb-false, and_parts, false≢true, lt-ltb, eqb-true, not-false}
use Rattle.serde_json.specs.Data.{Data, Items, no_items, item}
use Rattle.serde_json.specs.Events.{items_len}
use Rattle.serde_json.specs.Find.{get, as_array, as_bool}
use Rattle.json_members.specs.Members.{has_only, text_at, whole}
use Rattle.job_spec.specs.declared.fault.JobFault.{JobFault}
use Rattle.job_spec.specs.declared.fault.JobFault.TheVariants as faults
use Rattle.job_spec.specs.declared.edge.EdgeSpec.{EdgeSpec}
use Rattle.job_spec.specs.declared.edge.EdgeRoute.{EdgeRoute}
use Rattle.job_spec.specs.declared.edge.EdgeRoute.TheVariants.{Forward, Hash, Broadcast}
use Rattle.job_spec.specs.Job.{Kind, Vertex, Job, IsVertex, IsEdge, IsJob, is_source, is_sink, is_keyed, ports}
use Rattle.job_spec.specs.Reading.{◌>>=◌, Gives, or_fault, wanted, field, member_at, within, number, optional, is_name, name_at, kind_at, member_names, vertex_at, is_named, vertices_after, route, numbered, is_forward, is_hash, checked, edge_names, edge_at, edges_after, list, lists_at, job_at}

bind_ok : {A B : Type 0} (r : Result A JobFault) (f : A → Result B JobFault) (y : B) → (r >>= f) ≡ Ok y → (x : A) × (r ≡ Ok x) × (f x ≡ Ok y)
bind_ok (Ok x) f y h = (x, refl, h)
bind_ok (Err e) f y h = cc

guard_ok : {A : Type 0} (b : Bool) (x : A) (e : JobFault) (y : A) → cond b (Ok x) (Err e) ≡ Ok y → (b ≡ true) × (x ≡ y)
guard_ok true x e y h = (refl, cc)
guard_ok false x e y h = cc

or_fault_ok : {A : Type 0} (e : JobFault) (o : Option A) (y : A) → or_fault e o ≡ Ok y → o ≡ Some y
or_fault_ok e None y h = cc
or_fault_ok e (Some x) y h = cc

-- a test that does not refuse was not met
passed : {A : Type 0} (b : Bool) (e : JobFault) (r : Result A JobFault) (y : A) → cond b (Err e) r ≡ Ok y → (b ≡ false) × (r ≡ Ok y)
passed true e r y h = cc
passed false e r y h = (refl, h)

abbrev fine : {A : Type 0} → A → Result A JobFault
fine x = Ok x

ok_same : {A : Type 0} (x y : A) → fine x ≡ fine y → x ≡ y
ok_same x y h = cc

within_between : (low high : ℕ) (z : ℤ) (n : ℕ) → within low high z ≡ Ok n → (low ≤ n) × (n ≤ high)
within_between low high (pos m) n h =
    let g = guard_ok _ m faults.BadField n h in
    let both = and_parts (nat_le low m) (nat_le m high) g.0 in
    let above : low ≤ m = leb-true low m both.0 in
    let below : m ≤ high = leb-true m high both.1 in
    let same : m ≡ n = g.1 in
    (omega arith, omega arith)
within_between low high (negsuc m) n h = cc

parallelism_between : (o : Option Data) (n : ℕ) → optional (number 1 32) 1 o ≡ Ok n → (1 ≤ n) × (n ≤ 32)
parallelism_between None n h = let same : 1 ≡ n = cc in (omega arith, omega arith)
parallelism_between (Some d) n h =
    let b = bind_ok (field (whole d)) (within 1 32) n h in
    within_between 1 32 b.0 n b.2

name_short : (d : Data) (name : List ℕ) → name_at (codes "name") d ≡ Ok name → length name ≤ 64
unfolding name_at is_name
name_short d name h =
    let word = bind_ok (field (text_at (codes "name") d)) (λ n. cond (is_name n) (Ok n) (Err faults.BadField)) name h in
    let g = guard_ok (is_name word.0) word.0 faults.BadField name word.2 in
    let parts = and_parts _ _ g.0 in
    let short = leb-true (length word.0) 64 (and_parts _ _ parts.1).0 in
    let same = ap length g.1 in
    omega arith

-- the steps of a vertex, from the last to the first
abbrev vertex_4 : Data → List ℕ → Kind → ℕ → Result Vertex JobFault
vertex_4 d name kind parallelism = cond (has_only (member_names kind) d) (Ok (record { name = name; kind = kind; parallelism = parallelism })) (Err faults.BadField)

abbrev vertex_3 : Data → List ℕ → Kind → Result Vertex JobFault
vertex_3 d name kind = optional (number 1 32) 1 (get (codes "parallelism") d) >>= vertex_4 d name kind

abbrev vertex_2 : Data → List ℕ → List ℕ → Result Vertex JobFault
vertex_2 d name word = kind_at word d >>= vertex_3 d name

abbrev vertex_1 : Data → List ℕ → Result Vertex JobFault
vertex_1 d name = field (text_at (codes "kind") d) >>= vertex_2 d name

vertex_is : (d : Data) (v : Vertex) → vertex_at d ≡ Ok v → IsVertex v
unfolding vertex_at
vertex_is d v h =
    let name = bind_ok (name_at (codes "name") d) (vertex_1 d) v h in
    let word = bind_ok (field (text_at (codes "kind") d)) (vertex_2 d name.0) v name.2 in
    let kind = bind_ok (kind_at word.0 d) (vertex_3 d name.0) v word.2 in
    let parallelism = bind_ok (optional (number 1 32) 1 (get (codes "parallelism") d)) (vertex_4 d name.0 kind.0) v kind.2 in
    let made : Vertex = record { name = name.0; kind = kind.0; parallelism = parallelism.0 } in
    let g = guard_ok (has_only (member_names kind.0) d) made faults.BadField v parallelism.2 in
    let between = parallelism_between (get (codes "parallelism") d) parallelism.0 parallelism.1 in
    subst IsVertex g.1 (record { name = name_short d name.0 name.1; at_least = between.0; at_most = between.1 })

all_push : {A : Type 0} (P : A → Type 0) (xs : List A) (x : A) → AllByRecursion P xs → P x → AllByRecursion P (xs ++ x ∷ [])
all_push P [] x all here = (here, tt)
all_push P (y ∷ xs) x all here = (all.0, all_push P xs x all.1 here)

length_push : {A : Type 0} (xs : List A) (x : A) → length (xs ++ x ∷ []) ≡ length xs + 1
length_push [] x = refl
length_push (y ∷ xs) x = let rest = length_push xs x in omega arith

vertices_are : (found : List Vertex) (ds : Items) (vs : List Vertex) → vertices_after found ds ≡ Ok vs → AllByRecursion IsVertex found
    → AllByRecursion IsVertex vs × (length vs ≡ length found + items_len ds)
unfolding vertices_after
vertices_are found no_items vs h all =
    let same : found ≡ vs = ok_same found vs h in
    let len = ap length same in
    (subst (λ l. AllByRecursion IsVertex l) same all, omega arith)
vertices_are found (item d ds) vs h all =
    let one = bind_ok (vertex_at d) (λ v. cond (is_named v.name found) (Err faults.DuplicateName) (vertices_after (found ++ v ∷ []) ds)) vs h in
    let more = passed _ _ (vertices_after (found ++ one.0 ∷ []) ds) vs one.2 in
    let all_more = vertices_are (found ++ one.0 ∷ []) ds vs more.1 (all_push IsVertex found one.0 all (vertex_is d one.0 one.1)) in
    let len = length_push found one.0 in
    (all_more.0, omega arith)

-- ---- edges

-- what stands against an edge, from the last to the first
abbrev check_4 : Vertex → EdgeSpec → Result EdgeSpec JobFault
check_4 b e = cond (is_keyed b.kind && (nat_lt 1 b.parallelism && not (is_hash e.route))) (Err faults.KeyedNeedsHash) (Ok e)

abbrev check_3 : Vertex → Vertex → EdgeSpec → Result EdgeSpec JobFault
check_3 a b e = cond (is_forward e.route && not (a.parallelism == b.parallelism)) (Err faults.ForwardNeedsEqual) (check_4 b e)

abbrev check_2 : Vertex → Vertex → EdgeSpec → Result EdgeSpec JobFault
check_2 a b e = cond (nat_le (ports a.kind) e.port) (Err faults.BadPort) (check_3 a b e)

abbrev check_1 : Vertex → Vertex → EdgeSpec → Result EdgeSpec JobFault
check_1 a b e = cond (is_sink a.kind) (Err faults.EdgeFromSink) (check_2 a b e)

forward_equal : (route : EdgeRoute) (p q : ℕ) → (is_forward route && not (p == q)) ≡ false → route ≡ Forward → p ≡ q
forward_equal Forward p q h is = eqb-true p q (not-false (p == q) h)
forward_equal Hash p q h is = cc
forward_equal Broadcast p q h is = cc

keyed_hashed : (route : EdgeRoute) (keyed : Bool) (p : ℕ) → (keyed && (nat_lt 1 p && not (is_hash route))) ≡ false → keyed ≡ true → 1 < p → route ≡ Hash
keyed_hashed Hash keyed p h is more = refl
keyed_hashed Forward keyed p h is more = absurd (false≢true (sym h ∙ rw (is, lt-ltb 1 p more) refl))
keyed_hashed Broadcast keyed p h is more = absurd (false≢true (sym h ∙ rw (is, lt-ltb 1 p more) refl))

checked_is : (vs : List Vertex) (a b : Vertex) (e f : EdgeSpec) → slice_get vs e.from ≡ Some a → slice_get vs e.to ≡ Some b → checked a b e ≡ Ok f → IsEdge vs f
checked_is vs a b e f from to h =
    let source = passed (is_source b.kind) faults.EdgeIntoSource (check_1 a b e) f h in
    let sink = passed (is_sink a.kind) faults.EdgeFromSink (check_2 a b e) f source.1 in
    let port = passed (nat_le (ports a.kind) e.port) faults.BadPort (check_3 a b e) f sink.1 in
    let forward = passed (is_forward e.route && not (a.parallelism == b.parallelism)) faults.ForwardNeedsEqual (check_4 b e) f port.1 in
    let keyed = passed (is_keyed b.kind && (nat_lt 1 b.parallelism && not (is_hash e.route))) faults.KeyedNeedsHash (fine e) f forward.1 in
    subst (IsEdge vs) (ok_same e f keyed.1) (record {
      sender = a;
      receiver = b;
      from = from;
      to = to;
      takes = source.0;
      sends = sink.0;
      port = leb-false (ports a.kind) e.port port.0;
      forward = forward_equal e.route a.parallelism b.parallelism forward.0;
      keyed = keyed_hashed e.route (is_keyed b.kind) b.parallelism keyed.0;
    })

numbered_is : (name : List ℕ) (vs : List Vertex) (p : ℕ × Vertex) → numbered name vs ≡ Some p → slice_get vs p.0 ≡ Some p.1
numbered_is name vs p h = at_place (position (λ v. bytes_eq name v.name) vs) h
  where
    at_vertex : (i : ℕ) (o : Option Vertex) → slice_get vs i ≡ o → option_map (λ v. (i, v)) o ≡ Some p → slice_get vs p.0 ≡ Some p.1
    at_vertex i None e f = cc
    at_vertex i (Some v) e f =
        let pair : (i, v) ≡ p = cc in
        subst (λ (q : ℕ × Vertex). slice_get vs q.0 ≡ Some q.1) pair e

    at_place : (o : Option ℕ) → option_and_then (λ i. option_map (λ v. (i, v)) (slice_get vs i)) o ≡ Some p → slice_get vs p.0 ≡ Some p.1
    at_place None f = cc
    at_place (Some i) f = at_vertex i (slice_get vs i) refl f

-- the steps of an edge, from the last to the first
abbrev edge_8 : EdgeRoute → ℕ → Bool → ℕ × Vertex → ℕ × Vertex → Result EdgeSpec JobFault
edge_8 way port back from to = checked from.1 to.1 (record { from = from.0; to = to.0; port = port; route = way; back = back })

abbrev edge_7 : List Vertex → List ℕ → EdgeRoute → ℕ → Bool → ℕ × Vertex → Result EdgeSpec JobFault
edge_7 vs to_name way port back from = or_fault faults.UnknownName (numbered to_name vs) >>= edge_8 way port back from

abbrev edge_6 : List Vertex → List ℕ → List ℕ → EdgeRoute → ℕ → Bool → Bool → Result EdgeSpec JobFault
edge_6 vs from_name to_name way port back known = or_fault faults.UnknownName (numbered from_name vs) >>= edge_7 vs to_name way port back

abbrev edge_5 : List Vertex → Data → List ℕ → List ℕ → EdgeRoute → ℕ → Bool → Result EdgeSpec JobFault
edge_5 vs d from_name to_name way port back = wanted faults.BadField (has_only edge_names d) >>= edge_6 vs from_name to_name way port back

abbrev edge_4 : List Vertex → Data → List ℕ → List ℕ → EdgeRoute → ℕ → Result EdgeSpec JobFault
edge_4 vs d from_name to_name way port = optional (λ b. field (as_bool b)) false (get (codes "back") d) >>= edge_5 vs d from_name to_name way port

abbrev edge_3 : List Vertex → Data → List ℕ → List ℕ → EdgeRoute → Result EdgeSpec JobFault
edge_3 vs d from_name to_name way = optional (number 0 4294967295) 0 (get (codes "port") d) >>= edge_4 vs d from_name to_name way

abbrev edge_2 : List Vertex → Data → List ℕ → List ℕ → Result EdgeSpec JobFault
edge_2 vs d from_name to_name = optional route Forward (get (codes "route") d) >>= edge_3 vs d from_name to_name

abbrev edge_1 : List Vertex → Data → List ℕ → Result EdgeSpec JobFault
edge_1 vs d from_name = field (text_at (codes "to") d) >>= edge_2 vs d from_name

edge_is : (vs : List Vertex) (d : Data) (e : EdgeSpec) → edge_at vs d ≡ Ok e → IsEdge vs e
unfolding edge_at
edge_is vs d e h =
    let from_name = bind_ok (field (text_at (codes "from") d)) (edge_1 vs d) e h in
    let to_name = bind_ok (field (text_at (codes "to") d)) (edge_2 vs d from_name.0) e from_name.2 in
    let way = bind_ok (optional route Forward (get (codes "route") d)) (edge_3 vs d from_name.0 to_name.0) e to_name.2 in
    let port = bind_ok (optional (number 0 4294967295) 0 (get (codes "port") d)) (edge_4 vs d from_name.0 to_name.0 way.0) e way.2 in
    let back = bind_ok (optional (λ b. field (as_bool b)) false (get (codes "back") d)) (edge_5 vs d from_name.0 to_name.0 way.0 port.0) e port.2 in
    let known = bind_ok (wanted faults.BadField (has_only edge_names d)) (edge_6 vs from_name.0 to_name.0 way.0 port.0 back.0) e back.2 in
    let from = bind_ok (or_fault faults.UnknownName (numbered from_name.0 vs)) (edge_7 vs to_name.0 way.0 port.0 back.0) e known.2 in
    let to = bind_ok (or_fault faults.UnknownName (numbered to_name.0 vs)) (edge_8 way.0 port.0 back.0 from.0) e from.2 in
    checked_is vs from.0.1 to.0.1 (record { from = from.0.0; to = to.0.0; port = port.0; route = way.0; back = back.0 }) e
    (numbered_is from_name.0 vs from.0 (or_fault_ok faults.UnknownName (numbered from_name.0 vs) from.0 from.1))
    (numbered_is to_name.0 vs to.0 (or_fault_ok faults.UnknownName (numbered to_name.0 vs) to.0 to.1))
    to.2

edges_are : (vs : List Vertex) (found : List EdgeSpec) (ds : Items) (es : List EdgeSpec) → edges_after vs found ds ≡ Ok es → AllByRecursion (IsEdge vs) found
    → AllByRecursion (IsEdge vs) es × (length es ≡ length found + items_len ds)
unfolding edges_after
edges_are vs found no_items es h all =
    let same : found ≡ es = ok_same found es h in
    let len = ap length same in
    (subst (λ l. AllByRecursion (IsEdge vs) l) same all, omega arith)
edges_are vs found (item d ds) es h all =
    let one = bind_ok (edge_at vs d) (λ e. edges_after vs (found ++ e ∷ []) ds) es h in
    let rest = edges_are vs (found ++ one.0 ∷ []) ds es one.2 (all_push (IsEdge vs) found one.0 all (edge_is vs d one.0 one.1)) in
    let len = length_push found one.0 in
    (rest.0, omega arith)

-- ---- the whole

list_within : (low high : ℕ) (d : Data) (ds : Items) → list low high d ≡ Ok ds → items_len ds ≤ high
list_within low high d ds h =
    let found = bind_ok (field (as_array d)) (λ xs. cond (nat_le low (items_len xs) && nat_le (items_len xs) high) (Ok xs) (Err faults.BadField)) ds h in
    let g = guard_ok (nat_le low (items_len found.0) && nat_le (items_len found.0) high) found.0 faults.BadField ds found.2 in
    let below = leb-true (items_len found.0) high (and_parts (nat_le low (items_len found.0)) (nat_le (items_len found.0) high) g.0).1 in
    let same = ap items_len g.1 in
    omega arith

abbrev lists_3 : Data → Items → Items → Result (Items × Items) JobFault
lists_3 d vs es = cond (has_only (codes "vertices" ∷ codes "edges" ∷ []) d) (Ok (vs, es)) (Err faults.BadField)

abbrev lists_2 : Data → Items → Data → Result (Items × Items) JobFault
lists_2 d vs edges = list 0 256 edges >>= lists_3 d vs

abbrev lists_1 : Data → Items → Result (Items × Items) JobFault
lists_1 d vs = member_at (codes "edges") d >>= lists_2 d vs

abbrev lists_0 : Data → Data → Result (Items × Items) JobFault
lists_0 d vertices = list 1 256 vertices >>= lists_1 d

lists_within : (d : Data) (p : Items × Items) → lists_at d ≡ Ok p → (items_len p.0 ≤ 256) × (items_len p.1 ≤ 256)
unfolding lists_at
lists_within d p h =
    let vertices = bind_ok (member_at (codes "vertices") d) (lists_0 d) p h in
    let vs = bind_ok (list 1 256 vertices.0) (lists_1 d) p vertices.2 in
    let edges = bind_ok (member_at (codes "edges") d) (lists_2 d vs.0) p vs.2 in
    let es = bind_ok (list 0 256 edges.0) (lists_3 d vs.0) p edges.2 in
    let both : Items × Items = (vs.0, es.0) in
    let g = guard_ok (has_only (codes "vertices" ∷ codes "edges" ∷ []) d) both faults.BadField p es.2 in
    let few_vertices = list_within 1 256 vertices.0 vs.0 vs.1 in
    let few_edges = list_within 0 256 edges.0 es.0 es.1 in
    let same_vertices = ap (λ (q : Items × Items). items_len q.0) g.1 in
    let same_edges = ap (λ (q : Items × Items). items_len q.1) g.1 in
    (omega arith, omega arith)

abbrev job_2 : List Vertex → List EdgeSpec → Result Job JobFault
job_2 vs es = Ok (record { vertices = vs; edges = es })

abbrev job_1 : Items × Items → List Vertex → Result Job JobFault
job_1 lists vs = edges_after vs [] lists.1 >>= job_2 vs

abbrev job_0 : Items × Items → Result Job JobFault
job_0 lists = vertices_after [] lists.0 >>= job_1 lists

-- what the value of a job file says is a job
job_is : (d : Data) (j : Job) → job_at d ≡ Ok j → IsJob j
unfolding job_at
job_is d j h =
    let lists = bind_ok (lists_at d) job_0 j h in
    let vs = bind_ok (vertices_after [] lists.0.0) (job_1 lists.0) j lists.2 in
    let es = bind_ok (edges_after vs.0 [] lists.0.1) (job_2 vs.0) j vs.2 in
    let made : Job = record { vertices = vs.0; edges = es.0 } in
    let same : made ≡ j = ok_same made j es.2 in
    let vertices = vertices_are [] lists.0.0 vs.0 vs.1 tt in
    let edges = edges_are vs.0 [] lists.0.1 es.0 es.1 tt in
    let short = lists_within d lists.0 lists.1 in
    subst IsJob same (record {
      few_vertices = (let few : length vs.0 ≤ 256 = omega arith in few);
      few_edges = (let few : length es.0 ≤ 256 = omega arith in few);
      vertices = All-from_recursion _ _ vertices.0;
      edges = All-from_recursion _ _ edges.0;
    })

pub gives_job : {X : Type 0} (view : X → Job) (d : Data) (r : Result X JobFault) → Gives view r (job_at d) → IfOk r (λ x. IsJob (view x))
gives_job view d (Ok x) h = job_is d (view x) h
gives_job view d (Err e) h = tt
