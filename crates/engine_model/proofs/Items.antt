-- What stands in the channels of a running job, as the model has it.
use Rattle.std.proofs.Common.{◌⊎◌, ◌≡◌, ◌<◌, ◌==◌, ◌++◌, inl, inr, if◌then◌else◌, Option, Some, None, slice_get, unwrap_or, length, map, drop, ℕ, Bool, true, false, List, [], ◌∷◌, refl, sym, ap, ◌∙◌, arith}
use Rattle.std.specs.Option.{option_map}
use Rattle.std.proofs.lemmas.Bool.Decides.{eqb_tells, leb_tells}
use Rattle.std.proofs.lemmas.List.{map-append}
use Rattle.std.proofs.lemmas.Option.{slice_get-map, slice_get_past}
use Rattle.channels.specs.declared.item.Item.{Item}
use Rattle.channels.specs.declared.item.Item.TheVariants.{Record, Barrier}
use Rattle.checkpoint_model.specs.Attempt as attempt
use Rattle.dataflow_model.specs.Graph.{Channel}
use Rattle.job_state.specs.Sending.{items_at, Puts, barrier_into, without_head}
use Rattle.engine_model.specs.View.{plain_item}
use Rattle.engine_model.proofs.Lists.{get_set_same, get_set_other, set_past}

pub in_range : (n i : ℕ) → (i < n) ⊎ (i < n → ⊥)
in_range n i = elim (leb_tells n i) [ inl h ↦ inr (λ within. omega (arith, h.1, within)) | inr h ↦ inl (omega (arith, h.1)) ]

module _ {R : Type 0} where
  abbrev pub plain : List (Item R) → List (attempt.Item R)
  plain items = map plain_item items

  pub plain_records : (rows : List R) → plain (map Record rows) ≡ map attempt.Record rows
  plain_records [] = refl
  plain_records (r ∷ rows) = ap (λ (l : List (attempt.Item R)). attempt.Record r ∷ l) (plain_records rows)

  barrier_if : (checkpoint : ℕ) (b : Bool) → plain (if b then Barrier checkpoint ∷ [] else []) ≡ (if b then attempt.Barrier ∷ [] else [])
  barrier_if checkpoint true = refl
  barrier_if checkpoint false = refl

  pub plain_barriers : (checkpoint task : ℕ) (channel : Option Channel) → plain (barrier_into checkpoint task channel) ≡ attempt.barrier_of task channel
  plain_barriers checkpoint task None = refl
  plain_barriers checkpoint task (Some channel) = barrier_if checkpoint (channel.sender == task)

  plain_drop : (items : List (Item R)) → plain (drop 1 items) ≡ drop 1 (plain items)
  plain_drop [] = refl
  plain_drop (x ∷ items) = refl

  pub plain_put : (items : ℕ → List (Item R)) (old new : List (List (Item R))) → Puts items old new → (c : ℕ) → plain (items_at new c) ≡ plain (items_at old c) ++ plain (items c)
  plain_put items old new puts c = ap plain (puts.each c) ∙ map-append plain_item (items_at old c) (items c)

  taken_here : (input : ℕ) (channels : List (List (Item R))) → items_at (without_head input channels) input ≡ drop 1 (items_at channels input)
  taken_here input channels = of (in_range (length channels) input)
    where
      gone : (n : ℕ) → unwrap_or (slice_get channels input) [] ≡ [] → items_at channels input ≡ drop 1 (items_at channels input)
      gone n e = rw e refl

      of : (input < length channels) ⊎ (input < length channels → ⊥) → items_at (without_head input channels) input ≡ drop 1 (items_at channels input)
      of (inl within) = ap (λ (o : Option (List (Item R))). unwrap_or o []) (get_set_same channels input (drop 1 (items_at channels input)) within)
      of (inr past) =
          ap (λ (chs : List (List (Item R))). items_at chs input) (set_past channels input (drop 1 (items_at channels input)) past)
          ∙ gone input (ap (λ (o : Option (List (Item R))). unwrap_or o []) (slice_get_past channels input (omega (arith, past))))

  pub taken : (input : ℕ) (channels : List (List (Item R))) (c : ℕ) → plain (items_at (without_head input channels) c) ≡ (if c == input then drop 1 (plain (items_at channels c)) else plain (items_at channels c))
  taken input channels c =
      elim (eqb_tells c input) [
        | inl same ↦ rw same.0 (ap (λ (n : ℕ). plain (items_at (without_head input channels) n)) same.1 ∙ ap plain (taken_here input channels) ∙ plain_drop (items_at channels input) ∙ ap (λ (n : ℕ). drop 1 (plain (items_at channels n))) (sym same.1))
        | inr other ↦ rw other.0 (ap (λ (o : Option (List (Item R))). plain (unwrap_or o [])) (get_set_other channels input c (drop 1 (items_at channels input)) other.1))
      ]

  pub first_record : (items : List (Item R)) (r : R) → slice_get items 0 ≡ Some (Record r) → slice_get (plain items) 0 ≡ Some (attempt.Record r)
  first_record items r is = slice_get-map plain_item items 0 ∙ ap (option_map plain_item) is

  pub first_barrier : (items : List (Item R)) (n : ℕ) → slice_get items 0 ≡ Some (Barrier n) → slice_get (plain items) 0 ≡ Some attempt.Barrier
  first_barrier items n is = slice_get-map plain_item items 0 ∙ ap (option_map plain_item) is
