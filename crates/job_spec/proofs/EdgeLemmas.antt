-- Edges, one after another.
use Rattle.std.proofs.Common.{◌≡◌, ℕ, ◌+◌, ◌<◌, ◌≤◌, List, [], ◌∷◌, ◌++◌, length, drop, get_or, Ok, refl}
use Rattle.std.proofs.lemmas.List.{drop_all}
use Rattle.serde_json.specs.View.{view, items_view}
use Rattle.serde_json.specs.declared.value.Value.{Value}
use Rattle.job_spec.specs.declared.edge.EdgeSpec.{EdgeSpec}
use Rattle.job_spec.specs.Job.{Vertex}
use Rattle.job_spec.specs.Reading.{◌>>=◌, edge_at, edges_after}
use Rattle.job_spec.proofs.Faults.{drop_item}

pub edges_next : (vs : List Vertex) (found : List EdgeSpec) (items : List Value) (i : ℕ) (x : Value) → i < length items → x ≡ get_or items i x
    → edges_after vs found (items_view (drop i items)) ≡ (edge_at vs (view x) >>= λ e. edges_after vs (found ++ e ∷ []) (items_view (drop (i + 1) items)))
unfolding edges_after
edges_next vs found items i x within is = rw (drop_item items i x within is) refl

pub edges_done : (vs : List Vertex) (found : List EdgeSpec) (items : List Value) (i : ℕ) → length items ≤ i → edges_after vs found (items_view (drop i items)) ≡ Ok found
unfolding edges_after
edges_done vs found items i past = rw (drop_all i items past) refl
