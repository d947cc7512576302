-- Records that are worked one after another.
use Rattle.std.proofs.Common.{◌≡◌, Bool, true, false, List, [], ◌∷◌, length, Option, Some, None, refl, ap, ◌∙◌, arith, if◌then◌else◌}
use Rattle.std.specs.List.{All}
use Rattle.std.proofs.lemmas.List.Elements.{All-head, All-tail}
use Rattle.dataflow_model.specs.Graph.{Meaning}
use Rattle.dataflow_model.specs.Machine.{kept_under, state_under}
use Rattle.job_state.specs.Batch.{Turn, turns_of, rows_of}

module _ {R K S O : Type 0} (meaning : Meaning R K S O) (operator : O) where
  pub rows_of-turns : (rows : List R) (states : K → Option S) → rows_of (turns_of meaning operator rows states) ≡ rows
  rows_of-turns [] states = refl
  rows_of-turns (row ∷ rows) states =
      let key = meaning.key operator row in
      ap (λ (rs : List R). row ∷ rs) (rows_of-turns rows (kept_under meaning.same_key key (meaning.apply operator (state_under key (meaning.fresh operator) states) row).state states))

  pub length-turns : (rows : List R) (states : K → Option S) → length (turns_of meaning operator rows states) ≡ length rows
  length-turns [] states = refl
  length-turns (row ∷ rows) states =
      let key = meaning.key operator row in
      let rest = length-turns rows (kept_under meaning.same_key key (meaning.apply operator (state_under key (meaning.fresh operator) states) row).state states) in
      omega arith

  -- the states under the records' keys are the same
  abbrev pub AgreeAt : (f g : K → Option S) → R → Type 0
  AgreeAt f g row = (key : K) → meaning.key operator row ≡ Some key → f key ≡ g key

  same_under : (key : Option K) (fresh : S) (f g : K → Option S) → ((k : K) → key ≡ Some k → f k ≡ g k) → state_under key fresh f ≡ state_under key fresh g
  same_under None fresh f g agree = refl
  same_under (Some k) fresh f g agree = ap (λ (o : Option S). state_under (Some k) fresh (λ q. o)) (agree k refl)

  kept_agree : (b : Bool) (state : S) (x y : Option S) → x ≡ y → (if b then Some state else x) ≡ (if b then Some state else y)
  kept_agree true state x y e = refl
  kept_agree false state x y e = e

  still_agree : (key : Option K) (state : S) (f g : K → Option S) (q : K) → f q ≡ g q → kept_under meaning.same_key key state f q ≡ kept_under meaning.same_key key state g q
  still_agree None state f g q e = e
  still_agree (Some k) state f g q e = kept_agree (meaning.same_key k q) state (f q) (g q) e

  -- they are worked in the same way on any states that have the same under their keys
  pub turns_same : (rows : List R) (f g : K → Option S) → All (AgreeAt f g) rows → turns_of meaning operator rows f ≡ turns_of meaning operator rows g
  turns_same [] f g agree = refl
  turns_same (row ∷ rows) f g agree =
      let key = meaning.key operator row in
      let at : state_under key (meaning.fresh operator) f ≡ state_under key (meaning.fresh operator) g = same_under key (meaning.fresh operator) f g (All-head (AgreeAt f g) row rows agree) in
      let worked = λ (s : S). meaning.apply operator s row in
      let first : S = state_under key (meaning.fresh operator) f in
      let rest = turns_same rows (kept_under meaning.same_key key (worked first).state f) (kept_under meaning.same_key key (worked first).state g) (λ k d less q is. still_agree key (worked first).state f g q (All-tail (AgreeAt f g) row rows agree k d less q is)) in
      ap (λ (ts : List (Turn R K S)). record { row = row; key = key; state = (worked first).state; sent = (worked first).sent } ∷ ts) rest
      ∙ ap (λ (s : S). record { row = row; key = key; state = (worked s).state; sent = (worked s).sent } ∷ turns_of meaning operator rows (kept_under meaning.same_key key (worked s).state g)) at
