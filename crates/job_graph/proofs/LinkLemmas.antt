-- Tables that grow.
use Rattle.std.proofs.Common.{◌≡◌, ℕ, zero, suc, ◌⊎◌, List, [], ◌∷◌, ◌++◌, length, Some, None, slice_get, refl, sym, ◌∙◌, ap, subst, inl, inr}
use Rattle.dataflow_model.specs.Graph.{Channel}
use Rattle.job_graph.specs.declared.links.Links.{Links}
use Rattle.job_graph.specs.Tables.{AreLinks, IsTable}

-- an element of a list that grew by one is an old one, or the new one at the end
pub slice_get_push : {X : Type 0} (xs : List X) (x : X) (k : ℕ) (y : X) → slice_get (xs ++ x ∷ []) k ≡ Some y → (slice_get xs k ≡ Some y) ⊎ ((k ≡ length xs) × (x ≡ y))
slice_get_push [] x zero y e = inr (refl, (let same : x ≡ y = cc in same))
slice_get_push [] x (suc k) y e = absurd (let no : None ≡ Some y = e in cc)
slice_get_push (z ∷ xs) x zero y e = inl e
slice_get_push (z ∷ xs) x (suc k) y e =
    elim (slice_get_push xs x k y e) [ inl old ↦ inl old | inr new ↦ inr (ap (λ n. suc n) new.0, new.1) ]

pub table_push : (channels : List Channel) (table : List Links) (links : Links) (task : ℕ) → length table ≡ task → IsTable channels table → AreLinks channels task links → IsTable channels (table ++ links ∷ [])
table_push channels table links task len old here = record {
  each = λ place found is. by place found (slice_get_push table links place found is);
}
  where
    by : (place : ℕ) (found : Links) → (slice_get table place ≡ Some found) ⊎ ((place ≡ length table) × (links ≡ found)) → AreLinks channels place found
    by place found (inl is) = old.each place found is
    by place found (inr new) = subst (λ (n : ℕ). AreLinks channels n found) (sym (new.0 ∙ len)) (subst (λ (l : Links). AreLinks channels task l) new.1 here)
