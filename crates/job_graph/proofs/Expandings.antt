-- What a job expands to is a graph.
use Rattle.std.proofs.Common.{◌≡◌, ◌∙◌, ℕ, zero, suc, ◌+◌, ◌<◌, ◌≤◌, Bool, true, false, ◌&&◌, ◌||◌, not, eqb, ltb, List, [], ◌∷◌, ◌++◌, length, take, map, sum, get_or, Some, Option, slice_get, slice_index, refl, sym, ap, subst, true≢false, IsPermutation, arith}
use Rattle.std.proofs.lemmas.Bool.{false≢true, eqb-true, eq-eqb, ltb-true, lt-ltb, and_parts, not-true}
use Rattle.std.proofs.lemmas.List.{length-map}
use Rattle.std.proofs.lemmas.List.FromFn.{length-map-range_with_len}
use Rattle.std.proofs.lemmas.List.Sums.{sum_by_more}
use Rattle.std.proofs.lemmas.Option.{slice_get-map, slice_get_within, get_or_from_slice_get}
use Rattle.std.specs.List.{flat_map, range_with_len}
use Rattle.std.specs.Option.{option_map_or}
use Rattle.dataflow_model.specs.Graph.{Channel}
use Rattle.job_spec.specs.declared.edge.EdgeRoute.{EdgeRoute}
use Rattle.job_spec.specs.declared.edge.EdgeRoute.TheVariants.{Forward, Hash, Broadcast}
use Rattle.job_spec.specs.declared.edge.EdgeSpec.{EdgeSpec}
use Rattle.job_spec.specs.Job as job
use Rattle.job_graph.specs.declared.role.Role.{Role}
use Rattle.job_graph.specs.Expanded.{Expanded, IsExpanded, IsChannel, IsSender, IsReceiver, HasPlainInput, StandsBefore, task_kind}
use Rattle.job_graph.specs.Expansion.{Expands, block, blocks, edge_channels, first_task, has_plain_input, is_fed, is_forward, parallelisms_of, subtasks_of, task_kinds_of}
use Rattle.job_graph.specs.Order.{is_ready, rest}
use Rattle.job_graph.proofs.ChannelOrigins.{IsEven, IsOfEdge, channel_of_edge, edge_reaches, all_at, some_is, none_is}
use Rattle.job_graph.proofs.FlatMaps.{offset, has_at, origin_at, offset_rises, mapped_at, mapped_from}
use Rattle.job_graph.proofs.TaskLemmas.{length-subtasks, parallelism_at, subtask_from, blocks_apart, kind_takes, ports_two, sender_at, receiver_at}

forward_is : (route : EdgeRoute) → is_forward route ≡ true → route ≡ Forward
forward_is Forward h = refl
forward_is Hash h = absurd (false≢true h)
forward_is Broadcast h = absurd (false≢true h)

even_edge : (vs : List job.Vertex) (e : EdgeSpec) → job.IsEdge vs e → IsEven (parallelisms_of vs) e
even_edge vs e edge way = parallelism_at vs e.from edge.sender edge.from ∙ edge.forward (forward_is e.route way) ∙ sym (parallelism_at vs e.to edge.receiver edge.to)

-- ---- channels join tasks

channel_joins : (vs : List job.Vertex) (tasks : List Role) (e : EdgeSpec) (channel : Channel) → map task_kind tasks ≡ flat_map subtasks_of vs → job.IsEdge vs e → IsOfEdge (parallelisms_of vs) e channel
    → IsChannel tasks channel
channel_joins vs tasks e channel same edge of =
    let first = of.in_sender in
    let second = of.in_receiver in
    let senders = parallelism_at vs e.from edge.sender edge.from in
    let receivers = parallelism_at vs e.to edge.receiver edge.to in
    let port = of.port in
    let below = edge.port in
    let two = ports_two edge.sender.kind in
    record {
      sender = subst (λ t. IsSender tasks t) (sym of.sender) (sender_at vs tasks e.from of.i edge.sender same edge.from (omega arith) edge.sends);
      receiver = subst (λ t. IsReceiver tasks t) (sym of.receiver) (receiver_at vs tasks e.to of.s edge.receiver same edge.to (omega arith) edge.takes);
      port = omega arith;
      route = of.route;
    }

-- ---- inputs

plain_input : (vs : List job.Vertex) (es : List EdgeSpec) (v k : ℕ) (w : job.Vertex) → ((i : ℕ) (x : job.Vertex) → slice_get vs i ≡ Some x → job.IsVertex x) → ((i : ℕ) (e : EdgeSpec) → slice_get es i ≡ Some e → job.IsEdge vs e)
    → slice_get vs v ≡ Some w → k < w.parallelism → has_plain_input es v ≡ true → HasPlainInput (flat_map (edge_channels (parallelisms_of vs)) es) (first_task (parallelisms_of vs) v + k)
plain_input vs es v k w vertices edges is within fed =
    let found = some_is (λ (e : EdgeSpec). not e.back && eqb e.to v) es fed in
    let parts = and_parts (not found.x.back) (eqb found.x.to v) found.passes in
    let to : found.x.to ≡ v = eqb-true found.x.to v parts.1 in
    let edge = edges found.k found.x found.is in
    let senders = parallelism_at vs found.x.from edge.sender edge.from in
    let wide = (vertices found.x.from edge.sender edge.from).at_least in
    let receivers = ap (λ u. slice_index (parallelisms_of vs) u) to ∙ parallelism_at vs v w is in
    let reaches = edge_reaches (parallelisms_of vs) found.x k (even_edge vs found.x edge) (omega arith) (omega arith) in
    record {
      number = offset (edge_channels (parallelisms_of vs)) es found.k + reaches.number;
      channel = reaches.channel;
      is = has_at (edge_channels (parallelisms_of vs)) es found.k reaches.number found.x reaches.channel found.is reaches.is;
      leads = reaches.receiver ∙ ap (λ u. first_task (parallelisms_of vs) u + k) to;
      unmarked = reaches.marked ∙ not-true found.x.back parts.0;
    }

fed_unless_source : (a b : Bool) → a ≡ false → (a || b) ≡ true → b ≡ true
fed_unless_source true b e h = absurd (true≢false e)
fed_unless_source false b e h = h

task_fed : (j : job.Job) (tasks : List Role) (t : ℕ) → job.IsJob j → map task_kind tasks ≡ task_kinds_of j → ((v : ℕ) → is_fed j v ≡ true) → IsReceiver tasks t
    → HasPlainInput (flat_map (edge_channels (parallelisms_of j.vertices)) j.edges) t
task_fed j tasks t is_job same fed receiver =
    let kind : slice_get (flat_map subtasks_of j.vertices) t ≡ Some (task_kind receiver.role) =
    ap (λ l. slice_get l t) (sym same) ∙ slice_get-map task_kind tasks t ∙ rw receiver.is refl in
    let from = subtask_from j.vertices t (task_kind receiver.role) kind in
    let takes = kind_takes from.w.kind receiver.role from.kind_is receiver.takes in
    let test : (job.is_source from.w.kind || has_plain_input j.edges from.v) ≡ true = sym (ap (λ (o : Option job.Vertex). option_map_or (λ (w : job.Vertex). job.is_source w.kind || has_plain_input j.edges from.v) o true) from.is) ∙ fed from.v in
    subst (HasPlainInput (flat_map (edge_channels (parallelisms_of j.vertices)) j.edges)) (sym from.place)
    (plain_input j.vertices j.edges from.v from.k from.w (λ i x is. all_at job.IsVertex j.vertices i x is_job.vertices is) (λ i e is. all_at (job.IsEdge j.vertices) j.edges i e is_job.edges is) from.is from.within
    (fed_unless_source (job.is_source from.w.kind) (has_plain_input j.edges from.v) takes test))

-- ---- the order is whole

first_more : (ps : List ℕ) (v : ℕ) → v < length ps → first_task ps (v + 1) ≡ first_task ps v + slice_index ps v
first_more ps v within = sum_by_more (λ (n : ℕ). n) ps v 0 within

range_join : (a p q : ℕ) → range_with_len a p ++ range_with_len (a + p) q ≡ range_with_len a (p + q)
range_join a zero q = rw (let e : a + 0 ≡ a = omega arith in e, let e : 0 + q ≡ q = omega arith in e) refl
range_join a (suc p) q =
    let start : a + suc p ≡ a + 1 + p = omega arith in
    let len : suc p + q ≡ suc (p + q) = omega arith in
    rw (start, len) (ap (λ l. a ∷ l) (range_join (a + 1) p q))

range_shift : (a b n : ℕ) → map (λ i. a + i) (range_with_len b n) ≡ range_with_len (a + b) n
range_shift a b zero = refl
range_shift a b (suc n) =
    let next : a + b + 1 ≡ a + (b + 1) = omega arith in
    rw next (ap (λ l. (a + b) ∷ l) (range_shift a (b + 1) n))

-- how many subtasks so many vertices have from one on
abbrev span : List ℕ → ℕ → ℕ → ℕ
span ps v zero = 0
span ps v (suc m) = slice_index ps v + span ps (v + 1) m

blocks_range : (ps : List ℕ) (v m : ℕ) → v + m ≤ length ps → blocks ps (range_with_len v m) ≡ range_with_len (first_task ps v) (span ps v m)
blocks_range ps v zero within = refl
blocks_range ps v (suc m) within =
    let zero_more : first_task ps v + 0 ≡ first_task ps v = omega arith in
    let here : block ps v ≡ range_with_len (first_task ps v) (slice_index ps v) = range_shift (first_task ps v) 0 (slice_index ps v) ∙ ap (λ a. range_with_len a (slice_index ps v)) zero_more in
    let rest = blocks_range ps (v + 1) m (omega arith) ∙ ap (λ a. range_with_len a (span ps (v + 1) m)) (first_more ps v (omega arith)) in
    ap (λ l. l ++ blocks ps (range_with_len (v + 1) m)) here ∙ ap (λ l. range_with_len (first_task ps v) (slice_index ps v) ++ l) rest ∙ range_join (first_task ps v) (slice_index ps v) (span ps (v + 1) m)

span_is : (ps : List ℕ) (v m w : ℕ) → w ≡ v + m → w ≤ length ps → first_task ps v + span ps v m ≡ first_task ps w
span_is ps v zero w e within = let same : w ≡ v = omega arith in ap (λ u. first_task ps u + 0) (sym same) ∙ (let none : first_task ps w + 0 ≡ first_task ps w = omega arith in none)
span_is ps v (suc m) w e within =
    let rest = span_is ps (v + 1) m w (omega arith) within in
    let more = first_more ps v (omega arith) in
    omega arith

take_whole : {X : Type 0} (xs : List X) → take (length xs) xs ≡ xs
take_whole [] = refl
take_whole (x ∷ xs) = ap (λ l. x ∷ l) (take_whole xs)

all_blocks : (ps : List ℕ) → blocks ps (range_with_len 0 (length ps)) ≡ range_with_len 0 (sum ps)
all_blocks ps =
    let start : first_task ps 0 ≡ 0 = refl in
    let all = span_is ps 0 (length ps) (length ps) (omega arith) (omega arith) in
    let whole = ap sum (take_whole ps) in
    blocks_range ps 0 (length ps) (omega arith) ∙ ap (λ n. range_with_len 0 n) (let e : span ps 0 (length ps) ≡ sum ps = omega arith in e)

order_whole : (j : job.Job) (graph : Expanded) (e : Expands j graph) → ((f : ℕ → List ℕ) → IsPermutation (flat_map f (range_with_len 0 (length j.vertices))) (flat_map f e.vertices))
    → IsPermutation (range_with_len 0 (length graph.tasks)) graph.order
order_whole j graph e whole =
    let ps = parallelisms_of j.vertices in
    let count : length ps ≡ length j.vertices = length-map j.vertices (λ (v : job.Vertex). v.parallelism) in
    let tasks = sym (length-map graph.tasks task_kind) ∙ ap length e.tasks ∙ length-subtasks j.vertices in
    let all : blocks ps (range_with_len 0 (length j.vertices)) ≡ range_with_len 0 (length graph.tasks) =
    ap (λ n. blocks ps (range_with_len 0 n)) (sym count) ∙ all_blocks ps ∙ ap (λ n. range_with_len 0 n) (sym tasks) in
    subst (λ l. IsPermutation l graph.order) all (subst (λ l. IsPermutation (blocks ps (range_with_len 0 (length j.vertices))) l) (sym e.order) (whole (block ps)))

-- ---- the order puts senders first

taken_from : (xs : List ℕ) (k m u : ℕ) → slice_get (take k xs) m ≡ Some u → (m < k) × (slice_get xs m ≡ Some u)
taken_from [] zero m u is = cc
taken_from [] (suc k) m u is = cc
taken_from (x ∷ xs) zero m u is = cc
taken_from (x ∷ xs) (suc k) zero u is = (omega arith, is)
taken_from (x ∷ xs) (suc k) (suc m) u is = let rest = taken_from xs k m u is in (omega arith, rest.1)

fed_by_none : (back same from : Bool) → (not back && (same && from)) ≡ false → back ≡ false → same ≡ true → from ≡ false
fed_by_none back same true h b s = absurd (false≢true (sym h ∙ rw (b, s) refl))
fed_by_none back same false h b s = refl

taken_unless_rest : (a b : Bool) → (a && not b) ≡ false → a ≡ true → b ≡ true
taken_unless_rest true true h e = refl
taken_unless_rest true false h e = sym h
taken_unless_rest false b h e = absurd (false≢true e)

sender_first : (j : job.Job) (graph : Expanded) (is_job : job.IsJob j) (e : Expands j graph) (edge : EdgeSpec) (at : ℕ) (channel : Channel) (place : ℕ) → slice_get j.edges at ≡ Some edge → IsOfEdge (parallelisms_of j.vertices) edge channel
    → channel.marked ≡ false → slice_get graph.order place ≡ Some channel.receiver → StandsBefore graph.order channel.sender place
sender_first j graph is_job e edge at channel place is of unmarked there =
    let vs = j.vertices in
    let ps = parallelisms_of vs in
    let joins = all_at (job.IsEdge vs) j.edges at edge is_job.edges is in
    let origin = origin_at (block ps) e.vertices place channel.receiver (ap (λ l. slice_get l place) (sym e.order) ∙ there) in
    let inner = mapped_from (λ i. first_task ps origin.x + i) (slice_index ps origin.x) origin.i channel.receiver origin.is_y in
    let next = e.in_order.next origin.k (slice_get_within e.vertices origin.k origin.x origin.is_x) in
    let here : get_or e.vertices origin.k 0 ≡ origin.x = get_or_from_slice_get e.vertices origin.k origin.x 0 origin.is_x in
    let ready = and_parts _ _ (subst (λ v. is_ready j.edges (rest (length vs) (take origin.k e.vertices)) v ≡ true) here next.ready) in
    let within = ltb-true origin.x (length vs) (and_parts (ltb origin.x (length vs)) _ ready.0).0 in
    let vertex = vertex_there vs origin.x within in
    let in_block = inner.0 in
    let width = parallelism_at vs origin.x vertex.0 vertex.1 in
    let receivers = parallelism_at vs edge.to joins.receiver joins.to in
    let in_receiver = of.in_receiver in
    let same : origin.x ≡ edge.to = blocks_apart vs origin.x edge.to origin.i of.s vertex.0 joins.receiver vertex.1 joins.to (omega arith) (omega arith) (inner.1 ∙ of.receiver) in
    let unfed = none_is (λ (f : EdgeSpec). not f.back && (eqb f.to origin.x && rest (length vs) (take origin.k e.vertices) f.from)) j.edges at edge (not-true _ ready.1) is in
    let not_left = fed_by_none edge.back (eqb edge.to origin.x) (rest (length vs) (take origin.k e.vertices) edge.from) unfed (sym of.marked ∙ unmarked) (eq-eqb edge.to origin.x (sym same)) in
    let taken = taken_unless_rest _ _ not_left (lt-ltb edge.from (length vs) (slice_get_within vs edge.from joins.sender joins.from)) in
    let found = some_is (λ u. eqb u edge.from) (take origin.k e.vertices) taken in
    let sender : found.x ≡ edge.from = eqb-true found.x edge.from found.passes in
    let earlier = taken_from e.vertices origin.k found.k found.x found.is in
    let earlier_is : slice_get e.vertices found.k ≡ Some edge.from = earlier.1 ∙ ap (λ u. Some u) sender in
    let rises = offset_rises (block ps) e.vertices found.k origin.k edge.from earlier_is earlier.0 in
    let wide : length (block ps edge.from) ≡ slice_index ps edge.from = length-map-range_with_len (λ i. first_task ps edge.from + i) 0 (slice_index ps edge.from) in
    let in_sender = of.in_sender in
    let stands = origin.place in
    record {
      before = offset (block ps) e.vertices found.k + of.i;
      less = omega arith;
      is = ap (λ l. slice_get l (offset (block ps) e.vertices found.k + of.i)) e.order
          ∙ has_at (block ps) e.vertices found.k of.i edge.from (first_task ps edge.from + of.i) earlier_is (mapped_at (λ i. first_task ps edge.from + i) (slice_index ps edge.from) of.i of.in_sender)
          ∙ ap (λ t. Some t) (sym of.sender);
    }
  where
    vertex_there : (vs : List job.Vertex) (v : ℕ) → v < length vs → (w : job.Vertex) × (slice_get vs v ≡ Some w)
    vertex_there [] v within = absurd (omega arith)
    vertex_there (w ∷ ws) zero within = (w, refl)
    vertex_there (w ∷ ws) (suc v) within = vertex_there ws v (omega arith)

-- ---- the whole

pub expanded : (j : job.Job) (graph : Expanded) → job.IsJob j → (e : Expands j graph) → ((f : ℕ → List ℕ) → IsPermutation (flat_map f (range_with_len 0 (length j.vertices))) (flat_map f e.vertices)) → IsExpanded graph
expanded j graph is_job e whole =
    let ps = parallelisms_of j.vertices in
    let tasks = sym (length-map graph.tasks task_kind) ∙ ap length e.tasks in
    let channels = ap length e.channels in
    let few_tasks = e.small.tasks in
    let few_channels = e.small.channels in
    record {
      few_tasks = omega arith;
      few_channels = omega arith;
      numbered = e.numbered;
      joined = λ number channel is.
          let origin = origin_at (edge_channels ps) j.edges number channel (ap (λ l. slice_get l number) (sym e.channels) ∙ is) in
          let edge = all_at (job.IsEdge j.vertices) j.edges origin.k origin.x is_job.edges origin.is_x in
          channel_joins j.vertices graph.tasks origin.x channel e.tasks edge (channel_of_edge ps origin.x origin.i channel (even_edge j.vertices origin.x edge) origin.is_y);
      whole = order_whole j graph e whole;
      ordered = λ number channel place is unmarked there.
          let origin = origin_at (edge_channels ps) j.edges number channel (ap (λ l. slice_get l number) (sym e.channels) ∙ is) in
          let edge = all_at (job.IsEdge j.vertices) j.edges origin.k origin.x is_job.edges origin.is_x in
          sender_first j graph is_job e origin.x origin.k channel place origin.is_x (channel_of_edge ps origin.x origin.i channel (even_edge j.vertices origin.x edge) origin.is_y) unmarked there;
      fed = λ task receiver. subst (λ l. HasPlainInput l task) (sym e.channels) (task_fed j graph.tasks task is_job e.tasks e.fed receiver);
    }
