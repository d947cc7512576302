-- Lists that grow in loops.
use Rattle.std.proofs.Common.{◌≡◌, ◌∙◌, ℕ, zero, suc, ◌+◌, List, [], ◌∷◌, ◌++◌, map, sym, ap, append_assoc, arith}
use Rattle.std.proofs.lemmas.List.FromFn.{map-range_with_len_more}
use Rattle.std.proofs.lemmas.List.{flat_map_more, map_push}
use Rattle.std.specs.List.{range_with_len, flat_map}

-- one more, seen by view
pub grown : {X Y : Type 0} (view : X → Y) (new old : List X) (x : X) (start : List Y) (f : ℕ → Y) (i : ℕ) → new ≡ old ++ x ∷ [] → view x ≡ f i
    → map view old ≡ start ++ map f (range_with_len 0 i) → map view new ≡ start ++ map f (range_with_len 0 (i + 1))
grown view new old x start f i pushed is before =
    ap (map view) pushed ∙ map_push view old x ∙ ap (λ l. l ++ view x ∷ []) before ∙ append_assoc start (map f (range_with_len 0 i)) (view x ∷ [])
    ∙ ap (λ y. start ++ (map f (range_with_len 0 i) ++ y ∷ [])) is ∙ ap (λ l. start ++ l) (sym (map-range_with_len_more f 0 i i (omega arith)))

range_more : (a n j : ℕ) → a + n ≡ j → range_with_len a (n + 1) ≡ range_with_len a n ++ j ∷ []
range_more a zero j e = ap (λ k. k ∷ []) (let same : a ≡ j = omega arith in same)
range_more a (suc n) j e =
    let one_more : suc n + 1 ≡ suc (n + 1) = omega arith in
    rw one_more (ap (λ l. a ∷ l) (range_more (a + 1) n j (omega arith)))

pub grown_flat : {X : Type 0} (new old start : List X) (f : ℕ → List X) (i : ℕ) → new ≡ old ++ f i → old ≡ start ++ flat_map f (range_with_len 0 i) → new ≡ start ++ flat_map f (range_with_len 0 (i + 1))
grown_flat new old start f i pushed before =
    pushed ∙ ap (λ l. l ++ f i) before ∙ flat_map_more f start (range_with_len 0 i) i ∙ ap (λ l. start ++ flat_map f l) (sym (range_more 0 i i (omega arith)))
