-- The channels of an edge, and the edge of a channel.
use Rattle.std.proofs.Common.{◌≡◌, ◌∙◌, ℕ, zero, suc, ◌+◌, ◌<◌, Bool, true, false, cond, ◌||◌, List, [], ◌∷◌, Some, slice_get, slice_index, refl, sym, ap, subst, All, arith}
use Rattle.std.proofs.lemmas.Bool.{false≢true}
use Rattle.std.proofs.lemmas.Option.{slice_get_within, get_or_from_slice_get}
use Rattle.std.specs.List.{list_any, range_with_len}
use Rattle.dataflow_model.specs.Graph.{Channel, Every}
use Rattle.job_spec.specs.declared.edge.EdgeRoute.{EdgeRoute}
use Rattle.job_spec.specs.declared.edge.EdgeRoute.TheVariants.{Forward, Hash, Broadcast}
use Rattle.job_spec.specs.declared.edge.EdgeSpec.{EdgeSpec}
use Rattle.job_channels.specs.Channel.{HasSubtask}
use Rattle.job_graph.specs.Expansion.{is_forward, channel_on, route_to, forward_channels, channels_to, crossed_channels, edge_channels, first_task}
use Rattle.job_graph.proofs.FlatMaps.{has_at, origin_at, range_at, range_from, mapped_at, mapped_from}

route_has_subtask : (route : EdgeRoute) (p s : ℕ) → s < p → HasSubtask (route_to route p s)
route_has_subtask Forward p s within = tt
route_has_subtask Hash p s within = within
route_has_subtask Broadcast p s within = tt

-- the channel joins a subtask of the edge's sender to one of its receiver
pub record IsOfEdge (ps : List ℕ) (e : EdgeSpec) (channel : Channel) : Type 0 where
  pub i : ℕ
  pub s : ℕ
  pub in_sender : i < slice_index ps e.from
  pub in_receiver : s < slice_index ps e.to
  pub sender : channel.sender ≡ first_task ps e.from + i
  pub receiver : channel.receiver ≡ first_task ps e.to + s
  pub port : channel.port ≡ e.port
  pub marked : channel.marked ≡ e.back
  pub route : HasSubtask channel.route

-- a forward edge joins vertices of equal parallelism
abbrev pub IsEven : List ℕ → EdgeSpec → Type 0
IsEven ps e = is_forward e.route ≡ true → slice_index ps e.from ≡ slice_index ps e.to

pub channel_of_edge : (ps : List ℕ) (e : EdgeSpec) (number : ℕ) (channel : Channel) → IsEven ps e → slice_get (edge_channels ps e) number ≡ Some channel → IsOfEdge ps e channel
channel_of_edge ps e number channel even is = by (is_forward e.route) refl is
  where
    forward : is_forward e.route ≡ true → slice_get (forward_channels e (first_task ps e.from) (first_task ps e.to) (slice_index ps e.from)) number ≡ Some channel → IsOfEdge ps e channel
    forward way there =
        let from = mapped_from (λ i. channel_on e (first_task ps e.from + i) (first_task ps e.to + i) Every) (slice_index ps e.from) number channel there in
        let same = even way in
        let within = from.0 in
        subst (IsOfEdge ps e) from.1 (record {
          i = number;
          s = number;
          in_sender = within;
          in_receiver = omega arith;
          sender = refl;
          receiver = refl;
          port = refl;
          marked = refl;
          route = tt;
        })

    crossed : slice_get (crossed_channels e (first_task ps e.from) (slice_index ps e.from) (first_task ps e.to) (slice_index ps e.to)) number ≡ Some channel → IsOfEdge ps e channel
    crossed there =
        let origin = origin_at (λ i. channels_to e (first_task ps e.from + i) (first_task ps e.to) (slice_index ps e.to)) (range_with_len 0 (slice_index ps e.from)) number channel there in
        let place = range_from 0 (slice_index ps e.from) origin.k origin.x origin.is_x in
        let from = mapped_from (λ s. channel_on e (first_task ps e.from + origin.x) (first_task ps e.to + s) (route_to e.route (slice_index ps e.to) s)) (slice_index ps e.to) origin.i channel origin.is_y in
        let first = place.0 in
        let second = place.1 in
        subst (IsOfEdge ps e) from.1 (record {
          i = origin.x;
          s = origin.i;
          in_sender = omega arith;
          in_receiver = from.0;
          sender = refl;
          receiver = refl;
          port = refl;
          marked = refl;
          route = route_has_subtask e.route (slice_index ps e.to) origin.i from.0;
        })

    by : (b : Bool) → is_forward e.route ≡ b
        → slice_get (cond b (forward_channels e (first_task ps e.from) (first_task ps e.to) (slice_index ps e.from)) (crossed_channels e (first_task ps e.from) (slice_index ps e.from) (first_task ps e.to) (slice_index ps e.to))) number ≡ Some channel
        → IsOfEdge ps e channel
    by true way there = forward way there
    by false way there = crossed there

-- a channel of the edge leads to each of its receiver's subtasks
pub record Reaches (ps : List ℕ) (e : EdgeSpec) (s : ℕ) : Type 0 where
  pub number : ℕ
  pub channel : Channel
  pub is : slice_get (edge_channels ps e) number ≡ Some channel
  pub receiver : channel.receiver ≡ first_task ps e.to + s
  pub marked : channel.marked ≡ e.back

pub edge_reaches : (ps : List ℕ) (e : EdgeSpec) (s : ℕ) → IsEven ps e → 0 < slice_index ps e.from → s < slice_index ps e.to → Reaches ps e s
edge_reaches ps e s even some within = by (is_forward e.route) refl
  where
    forward_is : (is_forward e.route ≡ true) → slice_get (forward_channels e (first_task ps e.from) (first_task ps e.to) (slice_index ps e.from)) s ≡ Some (channel_on e (first_task ps e.from + s) (first_task ps e.to + s) Every)
    forward_is way =
        let same = even way in
        mapped_at (λ i. channel_on e (first_task ps e.from + i) (first_task ps e.to + i) Every) (slice_index ps e.from) s (omega arith)

    by : (b : Bool) → is_forward e.route ≡ b → Reaches ps e s
    by true way = record {
      number = s;
      channel = channel_on e (first_task ps e.from + s) (first_task ps e.to + s) Every;
      is = rw way (forward_is way);
      receiver = refl;
      marked = refl;
    }
    by false way = record {
      number = 0 + s;
      channel = channel_on e (first_task ps e.from + 0) (first_task ps e.to + s) (route_to e.route (slice_index ps e.to) s);
      is = rw way (has_at (λ i. channels_to e (first_task ps e.from + i) (first_task ps e.to) (slice_index ps e.to)) (range_with_len 0 (slice_index ps e.from)) 0 s 0 _ (range_at 0 (slice_index ps e.from) 0 some)
          (mapped_at (λ k. channel_on e (first_task ps e.from + 0) (first_task ps e.to + k) (route_to e.route (slice_index ps e.to) k)) (slice_index ps e.to) s within));
      receiver = refl;
      marked = refl;
    }

-- ---- lists of edges

pub all_at : {X : Type 0} (P : X → Type 0) (xs : List X) (k : ℕ) (x : X) → All P xs → slice_get xs k ≡ Some x → P x
all_at P xs k x all is = subst P (get_or_from_slice_get xs k x x is) (all k x (slice_get_within xs k x is))

pub record SomeIs {X : Type 0} (test : X → Bool) (xs : List X) : Type 0 where
  pub k : ℕ
  pub x : X
  pub is : slice_get xs k ≡ Some x
  pub passes : test x ≡ true

pub some_is : {X : Type 0} (test : X → Bool) (xs : List X) → list_any test xs ≡ true → SomeIs test xs
some_is test [] h = absurd (false≢true h)
some_is test (x ∷ xs) h = by (test x) refl h (some_is test xs)
  where
    by : (b : Bool) → test x ≡ b → (b || list_any test xs) ≡ true → (list_any test xs ≡ true → SomeIs test xs) → SomeIs test (x ∷ xs)
    by true e h rest = record { k = 0; x = x; is = refl; passes = e }
    by false e h rest = let next = rest h in record { k = suc next.k; x = next.x; is = next.is; passes = next.passes }

pub none_is : {X : Type 0} (test : X → Bool) (xs : List X) (k : ℕ) (x : X) → list_any test xs ≡ false → slice_get xs k ≡ Some x → test x ≡ false
none_is test [] k x h is = cc
none_is test (z ∷ xs) k x h is = by (test z) refl h k is (λ j there rest. none_is test xs j x rest there)
  where
    by : (b : Bool) → test z ≡ b → (b || list_any test xs) ≡ false → (k : ℕ) → slice_get (z ∷ xs) k ≡ Some x → ((j : ℕ) → slice_get xs j ≡ Some x → list_any test xs ≡ false → test x ≡ false) → test x ≡ false
    by true e h k is rest = absurd (false≢true (sym h))
    by false e h zero is rest = ap test (let same : x ≡ z = cc in same) ∙ e
    by false e h (suc j) is rest = rest j is h
