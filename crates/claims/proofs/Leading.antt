-- The records that lead a channel, and the items that stand first.
use Rattle.std.proofs.Common.{◌≡◌, ◌<◌, ◌≤◌, ◌+◌, ◌-◌, ◌++◌, ℕ, zero, suc, List, [], ◌∷◌, length, map, min, take, drop, Some, slice_get, refl, sym, ap, ◌∙◌, arith, add-one, length-drop}
use Rattle.std.specs.List.{All}
use Rattle.std.proofs.lemmas.List.{map_push, take_min, take_more}
use Rattle.std.proofs.lemmas.Option.{get_or_from_slice_get, slice_get_within}
use Rattle.std.proofs.lemmas.List.Elements.{All-nil, All-cons, All-head, All-tail}
use Rattle.channels.specs.Items.{leading_records}
use Rattle.channels.specs.declared.item.Item.{Item}
use Rattle.channels.specs.declared.item.Item.TheVariants.{Record, Barrier}
use Rattle.engine_model.specs.Keeps.{IfRecord}

module _ {R : Type 0} where
  -- the first of those that lead stand first
  pub stand_taken : (count : ℕ) (items : List (Item R)) → count ≤ length (leading_records items) → take count items ≡ map Record (take count (leading_records items))
  stand_taken zero items within = refl
  stand_taken (suc count) [] within = absurd (omega arith)
  stand_taken (suc count) (Barrier n ∷ items) within = absurd (omega arith)
  stand_taken (suc count) (Record r ∷ items) within = ap (λ (xs : List (Item R)). Record r ∷ xs) (stand_taken count items (omega arith))

  -- where a record stands first, one leads
  pub leads_first : (items : List (Item R)) (row : R) → slice_get items 0 ≡ Some (Record row) → 0 < length (leading_records items)
  leads_first [] row e = absurd cc
  leads_first (Barrier n ∷ items) row e = absurd cc
  leads_first (Record r ∷ items) row e = omega arith

  -- a record that leads stands first, once those before it are taken
  pub lead_behind : (items : List (Item R)) (i : ℕ) (row : R) → slice_get (leading_records items) i ≡ Some row → slice_get (drop i items) 0 ≡ Some (Record row)
  lead_behind [] i row e = absurd cc
  lead_behind (Barrier n ∷ items) i row e = absurd cc
  lead_behind (Record r ∷ items) zero row e = let same : r ≡ row = cc in ap (λ (x : R). Some (Record x)) same
  lead_behind (Record r ∷ items) (suc i) row e = lead_behind items i row e

  pub behind_leads : (items : List (Item R)) (i : ℕ) (row : R) → i ≤ length (leading_records items) → slice_get (drop i items) 0 ≡ Some (Record row) → slice_get (leading_records items) i ≡ Some row
  behind_leads [] zero row within e = absurd cc
  behind_leads [] (suc i) row within e = absurd cc
  behind_leads (Barrier n ∷ items) zero row within e = absurd cc
  behind_leads (Barrier n ∷ items) (suc i) row within e = absurd (omega (arith, within))
  behind_leads (Record r ∷ items) zero row within e = let same : r ≡ row = cc in ap Some same
  behind_leads (Record r ∷ items) (suc i) row within e = behind_leads items i row (omega (arith, within)) e

  -- records that lead fit, where all in the channel do
  pub leading_fit : (P : R → Type 0) (items : List (Item R)) → All (IfRecord P) items → All P (leading_records items)
  leading_fit P [] all = All-nil P
  leading_fit P (Barrier n ∷ items) all = All-nil P
  leading_fit P (Record r ∷ items) all = All-cons P r (leading_records items) (All-head (IfRecord P) (Record r) items all) (leading_fit P items (All-tail (IfRecord P) (Record r) items all))

  -- a record more is taken
  pub taken_more : (leading old new : List R) (row : R) (i : ℕ) → slice_get leading i ≡ Some row → old ≡ take i leading → new ≡ old ++ row ∷ [] → new ≡ take (i + 1) leading
  taken_more leading old new row i at was is =
      is ∙ ap (λ (xs : List R). xs ++ row ∷ []) was ∙ ap (λ (r : R). take i leading ++ r ∷ []) (sym (get_or_from_slice_get leading i row row at)) ∙ sym (take_more leading i row (slice_get_within leading i row at))

  -- what stands at a place behind the first
  behind_at : (leading : List R) (row : R) (i : ℕ) → slice_get leading (i + 1) ≡ Some row → slice_get (drop 1 leading) i ≡ Some row
  behind_at [] row i stands = absurd cc
  behind_at (r ∷ leading) row i stands = rw add-one at stands

  module _ {W : Type 0} (work : R → W) (leading : List R) where
    -- a record more behind the first is worked, by a copy of it
    pub behind_more : (old new : List W) (row copy : R) (i : ℕ) → slice_get leading (i + 1) ≡ Some row → copy ≡ row → old ≡ map work (take i (drop 1 leading)) → new ≡ old ++ work copy ∷ [] → new ≡ map work (take (i + 1) (drop 1 leading))
    behind_more old new row copy i at same was is =
        let rows = take i (drop 1 leading) in
        let more : rows ++ row ∷ [] ≡ take (i + 1) (drop 1 leading) = taken_more (drop 1 leading) rows (rows ++ row ∷ []) row i (behind_at leading row i at) refl refl in
        let whole : old ++ work copy ∷ [] ≡ map work rows ++ work row ∷ [] = ap (λ (ws : List W). ws ++ work copy ∷ []) was ∙ ap (λ (r : R). map work rows ++ work r ∷ []) same in
        is ∙ whole ∙ sym (map_push work rows row) ∙ ap (λ (rs : List R). map work rs) more

    -- all behind the first are worked, or so many where there are more
    pub all_behind : (works : List W) (count most : ℕ) → count ≡ min most (length leading - 1) → works ≡ map work (take count (drop 1 leading)) → works ≡ map work (take most (drop 1 leading))
    all_behind works count most least is =
        let long : count ≡ min most (length (drop 1 leading)) = least ∙ ap (λ n. min most n) (sym (length-drop 1 leading)) in
        is ∙ ap (λ (rs : List R). map work rs) (ap (λ n. take n (drop 1 leading)) long ∙ take_min most (drop 1 leading))
