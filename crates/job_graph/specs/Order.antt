-- Vertices in the order in which records can reach them, and those on cycles.
use Rattle.std.specs.Prelude.{◌≡◌, ℕ, ◌<◌, ◌&&◌, ◌==◌, List, length, take, Bool, true, false, not, nat_lt, slice_index_or}
use Rattle.std.specs.List.{list_any}
use Rattle.job_spec.specs.declared.edge.EdgeSpec.{EdgeSpec}

-- The vertex has an unmarked edge from one of these.
abbrev pub has_input_from : List EdgeSpec → (ℕ → Bool) → ℕ → Bool
has_input_from es these v = list_any (λ e. not e.back && (e.to == v && these e.from)) es

-- a set of vertices
abbrev pub AreVertices : ℕ → (ℕ → Bool) → Type 0
AreVertices n these = (v : ℕ) → these v ≡ true → v < n

-- Each of these has an unmarked edge from one of them.
abbrev pub FeedEachOther : List EdgeSpec → (ℕ → Bool) → Type 0
FeedEachOther es these = (v : ℕ) → these v ≡ true → has_input_from es these v ≡ true

-- No vertices feed each other.
abbrev pub IsAcyclic : ℕ → List EdgeSpec → Type 0
IsAcyclic n es = (these : ℕ → Bool) → AreVertices n these → FeedEachOther es these → (v : ℕ) → these v ≡ false

-- The most vertices that feed each other: those on a cycle of unmarked edges, and those behind them.
pub record AreLeft (n : ℕ) (es : List EdgeSpec) (left : ℕ → Bool) : Type 0 where
  pub vertices : AreVertices n left
  pub feed : FeedEachOther es left
  pub most : (these : ℕ → Bool) → AreVertices n these → FeedEachOther es these → (v : ℕ) → these v ≡ true → left v ≡ true

abbrev pub at : List Bool → ℕ → Bool
at left v = slice_index_or left v false

-- The vertex is not taken, and all that have an unmarked edge to it are.
abbrev pub is_ready : List EdgeSpec → (ℕ → Bool) → ℕ → Bool
is_ready es left v = left v && not (has_input_from es left v)

-- those of n vertices that were not taken
abbrev pub rest : ℕ → List ℕ → ℕ → Bool
rest n taken v = nat_lt v n && not (list_any (λ u. u == v) taken)

-- The first vertex in file order that is ready once these were taken.
pub record IsNext (n : ℕ) (es : List EdgeSpec) (taken : List ℕ) (v : ℕ) : Type 0 where
  pub ready : is_ready es (rest n taken) v ≡ true
  pub first : (u : ℕ) → u < v → is_ready es (rest n taken) u ≡ false

-- each vertex is the next one behind those before it
abbrev pub IsInOrder : ℕ → List EdgeSpec → List ℕ → Type 0
IsInOrder n es order = (k : ℕ) → k < length order → IsNext n es (take k order) (slice_index_or order k 0)
