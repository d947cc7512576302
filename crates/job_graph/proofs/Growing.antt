-- Lists that grow in loops.
use Rattle.std.proofs.Common.{◌≡◌, ◌∙◌, ℕ, ◌+◌, List, [], ◌∷◌, ◌++◌, map, drop, Some, slice_get, sym, ap, append_assoc, arith}
use Rattle.std.proofs.lemmas.List.FromFn.{map-range_with_len_more}
use Rattle.std.proofs.lemmas.Option.{slice_get_within, get_or_from_slice_get}
use Rattle.std.specs.List.{range_with_len}
use Rattle.job_spec.proofs.Faults.{drop_item}

-- one more of a list that is mapped
pub map_step : {X A : Type 0} (f : X → A) (xs : List X) (i : ℕ) (x : X) (done new all : List A) → slice_get xs i ≡ Some x → new ≡ done ++ f x ∷ []
    → done ++ map f (drop i xs) ≡ all → new ++ map f (drop (i + 1) xs) ≡ all
map_step f xs i x done new all is pushed before =
    let next : drop i xs ≡ x ∷ drop (i + 1) xs = drop_item xs i x (slice_get_within xs i x is) (sym (get_or_from_slice_get xs i x x is)) in
    ap (λ l. l ++ map f (drop (i + 1) xs)) pushed ∙ append_assoc done (f x ∷ []) _ ∙ sym (ap (λ l. done ++ map f l) next) ∙ before

pub grown_same : (new old start : List ℕ) (x : ℕ) (f : ℕ → ℕ) (i : ℕ) → new ≡ old ++ x ∷ [] → x ≡ f i → old ≡ start ++ map f (range_with_len 0 i) → new ≡ start ++ map f (range_with_len 0 (i + 1))
grown_same new old start x f i pushed is before =
    pushed ∙ ap (λ l. l ++ x ∷ []) before ∙ append_assoc start (map f (range_with_len 0 i)) (x ∷ [])
    ∙ ap (λ y. start ++ (map f (range_with_len 0 i) ++ y ∷ [])) is ∙ ap (λ l. start ++ l) (sym (map-range_with_len_more f 0 i i (omega arith)))
