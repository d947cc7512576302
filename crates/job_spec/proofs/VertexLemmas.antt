-- Vertices, one after another.
use Rattle.std.proofs.Common.{◌≡◌, ℕ, ◌+◌, ◌<◌, ◌≤◌, Bool, true, false, cond, ◌||◌, List, [], ◌∷◌, ◌++◌, length, drop, get_or, Option, Some, None, is_some, Ok, Err, String, Global, string_bytes, true≢false, refl, suc, not, Bor, option_map, IfSome, slice_get, position, ok_or, ap}
use Rattle.std.proofs.lemmas.List.{drop_all}
use Rattle.std.specs.Str.{bytes_eq}
use Rattle.std.specs.String.{string_eq}
use Rattle.std.specs.Map.{lookup, keys_of}
use Rattle.std.specs.List.{position_or_len}
use Rattle.std.proofs.lemmas.Option.{slice_get-map}
use Rattle.serde_json.specs.View.{view, items_view}
use Rattle.serde_json.specs.declared.value.Value.{Value}
use Rattle.job_spec.specs.declared.fault.JobFault.TheVariants as faults
use Rattle.job_spec.specs.declared.vertex.VertexSpec.{VertexSpec}
use Rattle.job_spec.specs.Job.{Vertex, vertex_view, vertices_view}
use Rattle.job_spec.specs.Reading.{◌>>=◌, Gives, or_fault, numbered, vertex_at, is_named, vertices_after}
use Rattle.job_spec.proofs.Faults.{drop_item}

pub vertices_next : (found : List Vertex) (items : List Value) (i : ℕ) (x : Value) → i < length items → x ≡ get_or items i x
    → vertices_after found (items_view (drop i items)) ≡ (vertex_at (view x) >>= λ v. cond (is_named v.name found) (Err faults.DuplicateName) (vertices_after (found ++ v ∷ []) (items_view (drop (i + 1) items))))
unfolding vertices_after
vertices_next found items i x within is = rw (drop_item items i x within is) refl

pub vertices_done : (found : List Vertex) (items : List Value) (i : ℕ) → length items ≤ i → vertices_after found (items_view (drop i items)) ≡ Ok found
unfolding vertices_after
vertices_done found items i past = rw (drop_all i items past) refl

pub is_some-lookup : (name : String Global) (es : List (String Global × VertexSpec)) → is_some (lookup (string_eq name) es) ≡ is_named (string_bytes name) (vertices_view es)
is_some-lookup name [] = refl
is_some-lookup name (e ∷ es) = by (bytes_eq (string_bytes name) (string_bytes e.0)) (is_some-lookup name es)
  where
    by : (b : Bool) → is_some (lookup (string_eq name) es) ≡ is_named (string_bytes name) (vertices_view es)
        → is_some (cond b (Some e.1) (lookup (string_eq name) es)) ≡ (b || is_named (string_bytes name) (vertices_view es))
    by true h = refl
    by false h = h

pub none_from_false : {X : Type 0} (o : Option X) → is_some o ≡ false → o ≡ None
none_from_false None h = refl
none_from_false (Some x) h = absurd (true≢false h)

prefix_named : (name : List ℕ) (es : List (String Global × VertexSpec))
    → position_or_len (λ v. bytes_eq name v.name) (vertices_view es) ≡ position_or_len (λ k. bytes_eq name (string_bytes k)) (keys_of es)
prefix_named name [] = refl
prefix_named name (e ∷ es) = ap (λ n. cond (not (bytes_eq name (string_bytes e.0))) (1 + n) 0) (prefix_named name es)

same_length : (es : List (String Global × VertexSpec)) → length (vertices_view es) ≡ length (keys_of es)
same_length [] = refl
same_length (e ∷ es) = ap (λ n. suc n) (same_length es)

position_named : (name : List ℕ) (es : List (String Global × VertexSpec))
    → position (λ v. bytes_eq name v.name) (vertices_view es) ≡ position (λ k. bytes_eq name (string_bytes k)) (keys_of es)
position_named name es = rw (prefix_named name es, same_length es) refl

-- what a look-up by name finds
pub numbered_from : (name : List ℕ) (es : List (String Global × VertexSpec)) (r : Option (ℕ × Bor (String Global) × Bor VertexSpec))
    → option_map (λ p. p.0) r ≡ position (λ k. bytes_eq name (string_bytes k)) (keys_of es)
    → IfSome r (λ p. slice_get es p.0 ≡ Some (p.1.now, p.2.now))
    → numbered name (vertices_view es) ≡ option_map (λ p. (p.0, vertex_view (p.1.now, p.2.now))) r
numbered_from name es None i h = rw (position_named name es, ← i) refl
numbered_from name es (Some p) i h = rw (position_named name es, ← i, slice_get-map vertex_view es p.0, h) refl

pub gives_or_fault : {X Y : Type 0} (f : X → Y) (r : Option X) → Gives f (ok_or r faults.UnknownName) (or_fault faults.UnknownName (option_map f r))
gives_or_fault f None = refl
gives_or_fault f (Some x) = refl
