-- Lists that a loop joins end to end.
use Rattle.std.proofs.Common.{◌≡◌, ◌∙◌, ℕ, ◌+◌, List, ◌∷◌, ◌++◌, drop, Some, slice_get, sym, ap, append_assoc}
use Rattle.std.proofs.lemmas.Option.{slice_get_within, get_or_from_slice_get}
use Rattle.std.specs.List.{flat_map}
use Rattle.job_spec.proofs.Faults.{drop_item}

-- those done and those to come stay all, when the next one's are done
pub flat_map_step : {X A : Type 0} (f : X → List A) (xs : List X) (i : ℕ) (x : X) (done new all : List A) → slice_get xs i ≡ Some x → new ≡ done ++ f x
    → done ++ flat_map f (drop i xs) ≡ all → new ++ flat_map f (drop (i + 1) xs) ≡ all
flat_map_step f xs i x done new all is pushed before =
    let next : drop i xs ≡ x ∷ drop (i + 1) xs = drop_item xs i x (slice_get_within xs i x is) (sym (get_or_from_slice_get xs i x x is)) in
    ap (λ l. l ++ flat_map f (drop (i + 1) xs)) pushed ∙ append_assoc done (f x) _ ∙ sym (ap (λ l. done ++ flat_map f l) next) ∙ before
