-- The tasks as they are seen: what each holds, and each one's copy.
use Rattle.std.proofs.Common.{◌≡◌, ◌<◌, ◌+◌, ℕ, suc, zero, List, [], ◌∷◌, length, take, replicate, get_or, Option, Some, None, IsTrue, is_some, unwrap_or, slice_get, slice_set, refl, sym, ap, subst, ◌∙◌, arith, rules}
use Rattle.std.specs.Option.{option_map}
use Rattle.std.proofs.lemmas.List.{map-set, length-map}
use Rattle.std.proofs.lemmas.Option.{slice_get-map, slice_get-get_or, slice_get_within, same_Some}
use Rattle.task_part.specs.declared.part.Part.{Part}
use Rattle.job_state.specs.Standing.{Standing}
use Rattle.job_state.specs.Inside.{holdings_of, copies_of}
use Rattle.job_state.specs.declared.holding.Holding.{Holding}
use Rattle.job_state.proofs.Places.{set_same}

module _ {R K S : Type 0} (tasks : List (Standing R K S)) (n : ℕ) where
  -- one task is put in the place of another
  pub holdings_set : (new : Standing R K S) (holding : Holding K S) → new.holding ≡ holding → holdings_of (slice_set tasks n new) ≡ slice_set (holdings_of tasks) n holding
  holdings_set new holding e = map-set (λ t. t.holding) tasks n new ∙ ap (slice_set (holdings_of tasks) n) e

  pub copies_set : (new : Standing R K S) (copy : Option (Part R K S)) → new.copy ≡ copy → copies_of (slice_set tasks n new) ≡ slice_set (copies_of tasks) n copy
  copies_set new copy e = map-set (λ t. t.copy) tasks n new ∙ ap (slice_set (copies_of tasks) n) e

  -- a task that holds something is there
  pub holder_within : (holding : Holding K S) → slice_get (holdings_of tasks) n ≡ Some holding → n < length tasks
  holder_within holding is = omega (arith, slice_get_within (holdings_of tasks) n holding is, length-map tasks (λ t. t.holding))

  copied_in : (copy : Option (Option (Part R K S))) → slice_get (copies_of tasks) n ≡ copy → IsTrue (is_some (unwrap_or copy None)) → n < length tasks
  copied_in (Some copy) at is = omega (arith, slice_get_within (copies_of tasks) n copy at, length-map tasks (λ t. t.copy))
  copied_in None at is = absurd (search rules)

  -- and so is one that has copied
  pub copied_within : IsTrue (is_some (unwrap_or (slice_get (copies_of tasks) n) None)) → n < length tasks
  copied_within is = copied_in (slice_get (copies_of tasks) n) refl is

  module _ (d : Standing R K S) (within : n < length tasks) where
    pub holding_here : slice_get (holdings_of tasks) n ≡ Some (get_or tasks n d).holding
    holding_here = slice_get-map (λ t. t.holding) tasks n ∙ ap (option_map (λ t. t.holding)) (slice_get-get_or tasks n d within)

    pub copy_here : slice_get (copies_of tasks) n ≡ Some (get_or tasks n d).copy
    copy_here = slice_get-map (λ t. t.copy) tasks n ∙ ap (option_map (λ t. t.copy)) (slice_get-get_or tasks n d within)

    -- what stands there, as it is seen
    pub held : (holding : Holding K S) → slice_get (holdings_of tasks) n ≡ Some holding → (get_or tasks n d).holding ≡ holding
    held holding is = same_Some _ _ (sym holding_here ∙ is)

    pub copied : (copy : Option (Part R K S)) → slice_get (copies_of tasks) n ≡ Some copy → (get_or tasks n d).copy ≡ copy
    copied copy is = same_Some _ _ (sym copy_here ∙ is)

    -- a task that holds the same, or has the same copy
    pub holdings_kept : (new : Standing R K S) → new.holding ≡ (get_or tasks n d).holding → holdings_of (slice_set tasks n new) ≡ holdings_of tasks
    holdings_kept new e = holdings_set new (get_or tasks n d).holding e ∙ set_same (holdings_of tasks) n (get_or tasks n d).holding holding_here

    pub copies_kept : (new : Standing R K S) → new.copy ≡ (get_or tasks n d).copy → copies_of (slice_set tasks n new) ≡ copies_of tasks
    copies_kept new e = copies_set new (get_or tasks n d).copy e ∙ set_same (copies_of tasks) n (get_or tasks n d).copy copy_here

taken_more : {A : Type 0} (xs : List A) (i : ℕ) (x : A) → i < length xs → take i xs ≡ replicate i x → take (suc i) (slice_set xs i x) ≡ replicate (suc i) x
taken_more [] i x within e = absurd (omega (arith, within))
taken_more (y ∷ ys) zero x within e = refl
taken_more (y ∷ ys) (suc i) x within e =
    let first : y ≡ x = cc in
    let others : take i ys ≡ replicate i x = cc in
    ap (λ z. z ∷ take (suc i) (slice_set ys i x)) first ∙ ap (λ l. x ∷ l) (taken_more ys i x (omega (arith, within)) others)

-- one item more is this one
pub taken_next : {A : Type 0} (xs : List A) (i : ℕ) (x : A) → i < length xs → take i xs ≡ replicate i x → take (i + 1) (slice_set xs i x) ≡ replicate (i + 1) x
taken_next xs i x within e = let one : suc i ≡ i + 1 = omega arith in subst (λ n. take n (slice_set xs i x) ≡ replicate n x) one (taken_more xs i x within e)
