-- The tasks of a job's vertices.
use Rattle.std.proofs.Common.{◌≡◌, ◌∙◌, ℕ, zero, suc, ◌+◌, ◌<◌, ◌≤◌, ◌⊎◌, inl, inr, false, List, [], ◌∷◌, length, take, map, sum, replicate, Some, option_map, slice_get, slice_index, refl, sym, ap, true≢false, length-append, arith}
use Rattle.std.proofs.lemmas.Bool.{cases_order}
use Rattle.std.proofs.lemmas.List.{length-replicate}
use Rattle.std.proofs.lemmas.List.Sums.{sum_by-cons}
use Rattle.std.proofs.lemmas.Option.{slice_get-map, get_or_from_slice_get}
use Rattle.std.specs.List.{flat_map}
use Rattle.operators.specs.RowLaws.{ports_are_few}
use Rattle.job_spec.specs.Job as job
use Rattle.job_graph.specs.declared.role.Role.{Role}
use Rattle.job_graph.specs.declared.role.Role.TheVariants.{Source, Operator, Sink}
use Rattle.job_graph.specs.declared.role.TaskKind.{TaskKind}
use Rattle.job_graph.specs.Expanded.{IsSender, IsReceiver, is_source, is_sink, task_kind}
use Rattle.job_graph.specs.Expansion.{kind_of, subtasks_of, parallelisms_of, first_task}
use Rattle.job_graph.proofs.FlatMaps.{offset, has_at, origin_at, offset_rises, map_from}

sum_cons : (n : ℕ) (ns : List ℕ) → sum (n ∷ ns) ≡ n + sum ns
sum_cons n ns = sum_by-cons (λ (k : ℕ). k) n ns

replicate_at : {X : Type 0} (n k : ℕ) (x : X) → k < n → slice_get (replicate n x) k ≡ Some x
replicate_at zero k x within = absurd (omega arith)
replicate_at (suc n) zero x within = refl
replicate_at (suc n) (suc k) x within = replicate_at n k x (omega arith)

pub replicate_from : {X : Type 0} (n k : ℕ) (x y : X) → slice_get (replicate n x) k ≡ Some y → (k < n) × (x ≡ y)
replicate_from zero k x y is = cc
replicate_from (suc n) zero x y is = (omega arith, cc)
replicate_from (suc n) (suc k) x y is = let rest = replicate_from n k x y is in (omega arith, rest.1)

-- a vertex's first task stands behind the subtasks of the vertices before it
pub offset_subtasks : (vs : List job.Vertex) (v : ℕ) → offset subtasks_of vs v ≡ first_task (parallelisms_of vs) v
offset_subtasks [] zero = refl
offset_subtasks [] (suc v) = refl
offset_subtasks (w ∷ ws) zero = refl
offset_subtasks (w ∷ ws) (suc v) =
    length-append (subtasks_of w) (flat_map subtasks_of (take v ws)) ∙ ap (λ n. n + offset subtasks_of ws v) (length-replicate w.parallelism (kind_of w.kind))
    ∙ ap (λ n. w.parallelism + n) (offset_subtasks ws v) ∙ sym (sum_cons w.parallelism (take v (parallelisms_of ws)))

pub length-subtasks : (vs : List job.Vertex) → length (flat_map subtasks_of vs) ≡ sum (parallelisms_of vs)
length-subtasks [] = refl
length-subtasks (w ∷ ws) =
    length-append (subtasks_of w) (flat_map subtasks_of ws) ∙ ap (λ n. n + length (flat_map subtasks_of ws)) (length-replicate w.parallelism (kind_of w.kind))
    ∙ ap (λ n. w.parallelism + n) (length-subtasks ws) ∙ sym (sum_cons w.parallelism (parallelisms_of ws))

pub parallelism_at : (vs : List job.Vertex) (v : ℕ) (w : job.Vertex) → slice_get vs v ≡ Some w → slice_index (parallelisms_of vs) v ≡ w.parallelism
parallelism_at vs v w is =
    get_or_from_slice_get (parallelisms_of vs) v w.parallelism 0 (slice_get-map (λ (x : job.Vertex). x.parallelism) vs v ∙ ap (λ o. option_map (λ (x : job.Vertex). x.parallelism) o) is)

-- subtask k of vertex v
pub task_at : (vs : List job.Vertex) (v k : ℕ) (w : job.Vertex) → slice_get vs v ≡ Some w → k < w.parallelism → slice_get (flat_map subtasks_of vs) (first_task (parallelisms_of vs) v + k) ≡ Some (kind_of w.kind)
task_at vs v k w is within =
    ap (λ n. slice_get (flat_map subtasks_of vs) (n + k)) (sym (offset_subtasks vs v)) ∙ has_at subtasks_of vs v k w (kind_of w.kind) is (replicate_at w.parallelism k (kind_of w.kind) within)

-- where a task comes from
pub record IsSubtask (vs : List job.Vertex) (t : ℕ) (kind : TaskKind) : Type 0 where
  pub v : ℕ
  pub k : ℕ
  pub w : job.Vertex
  pub is : slice_get vs v ≡ Some w
  pub within : k < w.parallelism
  pub kind_is : kind_of w.kind ≡ kind
  pub place : t ≡ first_task (parallelisms_of vs) v + k

pub subtask_from : (vs : List job.Vertex) (t : ℕ) (kind : TaskKind) → slice_get (flat_map subtasks_of vs) t ≡ Some kind → IsSubtask vs t kind
subtask_from vs t kind is =
    let from = origin_at subtasks_of vs t kind is in
    let one = replicate_from from.x.parallelism from.i (kind_of from.x.kind) kind from.is_y in
    record { v = from.k; k = from.i; w = from.x; is = from.is_x; within = one.0; kind_is = one.1; place = from.place ∙ ap (λ n. n + from.i) (offset_subtasks vs from.k) }

-- no task belongs to two vertices
pub blocks_apart : (vs : List job.Vertex) (v u i s : ℕ) (w z : job.Vertex) → slice_get vs v ≡ Some w → slice_get vs u ≡ Some z → i < w.parallelism → s < z.parallelism
    → first_task (parallelisms_of vs) v + i ≡ first_task (parallelisms_of vs) u + s → v ≡ u
blocks_apart vs v u i s w z is_w is_z in_w in_z same = by (cases_order v u)
  where
    above : (a b : ℕ) (x : job.Vertex) → slice_get vs a ≡ Some x → a < b → first_task (parallelisms_of vs) a + x.parallelism ≤ first_task (parallelisms_of vs) b
    above a b x is less =
        let rises = offset_rises subtasks_of vs a b x is less in
        let one = offset_subtasks vs a in
        let two = offset_subtasks vs b in
        let len = length-replicate x.parallelism (kind_of x.kind) in
        omega arith

    by : (v ≡ u) ⊎ ((v < u) ⊎ (u < v)) → v ≡ u
    by (inl e) = e
    by (inr (inl less)) = let apart = above v u w is_w less in absurd (omega arith)
    by (inr (inr more)) = let apart = above u v z is_z more in absurd (omega arith)

-- ---- roles

role_sends : (role : Role) (kind : job.Kind) → task_kind role ≡ kind_of kind → job.is_sink kind ≡ false → is_sink role ≡ false
role_sends (Source p) kind same sends = refl
role_sends (Operator n) kind same sends = refl
role_sends (Sink s) job.source same sends = cc
role_sends (Sink s) job.sink same sends = absurd (true≢false sends)
role_sends (Sink s) kind same sends = cc

role_takes : (role : Role) (kind : job.Kind) → task_kind role ≡ kind_of kind → job.is_source kind ≡ false → is_source role ≡ false
role_takes (Operator n) kind same takes = refl
role_takes (Sink s) kind same takes = refl
role_takes (Source p) job.source same takes = absurd (true≢false takes)
role_takes (Source p) job.sink same takes = cc
role_takes (Source p) kind same takes = cc

pub kind_takes : (kind : job.Kind) (role : Role) → kind_of kind ≡ task_kind role → is_source role ≡ false → job.is_source kind ≡ false
kind_takes job.source (Source p) same takes = absurd (true≢false takes)
kind_takes job.source (Operator n) same takes = cc
kind_takes job.source (Sink s) same takes = cc
kind_takes job.sink role same takes = refl
kind_takes kind role same takes = refl

pub ports_two : (kind : job.Kind) → job.ports kind ≤ 2
ports_two job.source = omega arith
ports_two job.sink = omega arith
ports_two (job.operator kind parameter) = ports_are_few kind

pub sender_at : (vs : List job.Vertex) (tasks : List Role) (v k : ℕ) (w : job.Vertex) → map task_kind tasks ≡ flat_map subtasks_of vs → slice_get vs v ≡ Some w → k < w.parallelism → job.is_sink w.kind ≡ false
    → IsSender tasks (first_task (parallelisms_of vs) v + k)
sender_at vs tasks v k w same is within sends =
    let t = first_task (parallelisms_of vs) v + k in
    let from = map_from task_kind tasks t (kind_of w.kind) (ap (λ l. slice_get l t) same ∙ task_at vs v k w is within) in
    record { role = from.0; is = from.1; sends = role_sends from.0 w.kind from.2 sends }

pub receiver_at : (vs : List job.Vertex) (tasks : List Role) (v k : ℕ) (w : job.Vertex) → map task_kind tasks ≡ flat_map subtasks_of vs → slice_get vs v ≡ Some w → k < w.parallelism → job.is_source w.kind ≡ false
    → IsReceiver tasks (first_task (parallelisms_of vs) v + k)
receiver_at vs tasks v k w same is within takes =
    let t = first_task (parallelisms_of vs) v + k in
    let from = map_from task_kind tasks t (kind_of w.kind) (ap (λ l. slice_get l t) same ∙ task_at vs v k w is within) in
    record { role = from.0; is = from.1; takes = role_takes from.0 w.kind from.2 takes }
