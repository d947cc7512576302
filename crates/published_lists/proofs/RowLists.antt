-- The rows of each subtask, in a list of anything that shows as rows.
use Rattle.std.proofs.Common.{◌≡◌, ℕ, ◌+◌, ◌<◌, List, [], ◌∷◌, ◌++◌, take, length, map, get_or, set, sym, ap, ◌∙◌, subst}
use Rattle.std.proofs.lemmas.List.{take_more, get_or-map, map-set, length-map}
use Rattle.published_lists.specs.Rows.{rows_of, with_row}

module _ {A B : Type 0} (f : A → List B) where
  pub map-set_row : (ls : List A) (i : ℕ) (new old : A) (y : B) → i < length ls → old ≡ get_or ls i old → f new ≡ f old ++ y ∷ [] → map f (set ls i new) ≡ with_row (map f ls) i y
  map-set_row ls i new old y lt is e =
      let old_rows : f old ≡ rows_of (map f ls) i = ap f is ∙ sym (get_or-map f ls i old [] lt) in
      map-set f ls i new ∙ ap (set (map f ls) i) (e ∙ ap (λ rows. rows ++ y ∷ []) old_rows)

module _ {X A : Type 0} (f : X → A) where
  pub map-take_more : (xs : List X) (i : ℕ) (x : X) (y : A) (ys : List A) → i < length xs → x ≡ get_or xs i x → y ≡ f x → ys ≡ take i (map f xs) → ys ++ y ∷ [] ≡ take (i + 1) (map f xs)
  map-take_more xs i x y ys lt at same so_far =
      let here : get_or (map f xs) i y ≡ y = get_or-map f xs i x y lt ∙ (ap f (sym at) ∙ sym same) in
      let within : i < length (map f xs) = subst (λ n. i < n) (sym (length-map xs f)) lt in
      ap (λ l. l ++ y ∷ []) so_far ∙ (ap (λ z. take i (map f xs) ++ z ∷ []) (sym here) ∙ sym (take_more (map f xs) i y within))
