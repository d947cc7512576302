-- Records in channels fit, whatever is put there and taken.
use Rattle.std.proofs.Common.{◌⊎◌, ◌<◌, ◌==◌, inl, inr, if◌then◌else◌, All, Option, Some, None, unwrap_or, length, map, filter, drop, ℕ, Bool, true, false, List, [], ◌∷◌, sym, ap, subst, arith}
use Rattle.std.proofs.lemmas.Bool.Decides.{eqb_tells, leb_tells}
use Rattle.std.proofs.lemmas.List.Elements.{All-append, All-map, All-filter, All-drop, All-from_recursion}
use Rattle.channels.specs.declared.item.Item.{Item}
use Rattle.channels.specs.declared.item.Item.TheVariants.{Record, Barrier}
use Rattle.dataflow_model.specs.Graph.{Meaning, Channel, admits}
use Rattle.dataflow_model.specs.Machine.{received}
use Rattle.job_state.specs.Sending.{items_at, Puts, barrier_into, without_head}
use Rattle.engine_model.specs.Keeps.{IfRecord}
use Rattle.engine_model.proofs.Lists.{get_set_same, get_set_other, set_past}

all_nothing : {X : Type 0} (P : X → Type 0) → All P []
all_nothing P = All-from_recursion P [] tt

module _ {R : Type 0} (Fits : R → Type 0) where
  abbrev pub AllFit : List (Item R) → Type 0
  AllFit items = All (IfRecord Fits) items

  pub fit_puts : (items : ℕ → List (Item R)) (old new : List (List (Item R))) → ((c : ℕ) → AllFit (items c)) → Puts items old new → ((c : ℕ) → AllFit (items_at old c)) → (c : ℕ) → AllFit (items_at new c)
  fit_puts items old new more puts fit c = subst AllFit (sym (puts.each c)) (All-append (IfRecord Fits) (items_at old c) (items c) (fit c) (more c))

  pub fit_taken : (input : ℕ) (channels : List (List (Item R))) → ((c : ℕ) → AllFit (items_at channels c)) → (c : ℕ) → AllFit (items_at (without_head input channels) c)
  fit_taken input channels fit c =
      elim (eqb_tells c input) [
        | inl same ↦ subst (λ (n : ℕ). AllFit (items_at (without_head input channels) n)) (sym same.1) (here (elim (leb_tells (length channels) input) [ inl h ↦ inr (λ within. omega (arith, h.1, within)) | inr h ↦ inl (omega (arith, h.1)) ]))
        | inr other ↦ subst AllFit (sym (ap (λ (o : Option (List (Item R))). unwrap_or o []) (get_set_other channels input c (drop 1 (items_at channels input)) other.1))) (fit c)
      ]
    where
      here : (input < length channels) ⊎ (input < length channels → ⊥) → AllFit (items_at (without_head input channels) input)
      here (inl within) = subst AllFit (sym (ap (λ (o : Option (List (Item R))). unwrap_or o []) (get_set_same channels input (drop 1 (items_at channels input)) within))) (All-drop (IfRecord Fits) 1 (items_at channels input) (fit input))
      here (inr past) = subst (λ (chs : List (List (Item R))). AllFit (items_at chs input)) (sym (set_past channels input (drop 1 (items_at channels input)) past)) (fit input)

  pub fit_records : (rows : List R) → All Fits rows → AllFit (map Record rows)
  fit_records rows all = All-map (IfRecord Fits) Record rows all

  pub fit_barriers : (checkpoint task : ℕ) (channel : Option Channel) → AllFit (barrier_into checkpoint task channel)
  fit_barriers checkpoint task None = all_nothing (IfRecord Fits)
  fit_barriers checkpoint task (Some channel) = of (channel.sender == task)
    where
      of : (b : Bool) → AllFit (if b then Barrier checkpoint ∷ [] else [])
      of true = All-from_recursion (IfRecord Fits) (Barrier checkpoint ∷ []) (tt, tt)
      of false = all_nothing (IfRecord Fits)

  -- what is received was sent
  pub fit_received : {K S O : Type 0} (meaning : Meaning R K S O) (task : ℕ) (sent : List (ℕ × R)) (channel : Option Channel) → All (λ s. Fits s.1) sent → All Fits (received meaning task sent channel)
  fit_received meaning task sent None all = all_nothing Fits
  fit_received meaning task sent (Some channel) all = of (channel.sender == task)
    where
      of : (b : Bool) → All Fits (if b then map (λ r. r.1) (filter (admits meaning channel) sent) else [])
      of true = All-map Fits (λ r. r.1) (filter (admits meaning channel) sent) (All-filter (admits meaning channel) (λ s. Fits s.1) sent all)
      of false = all_nothing Fits
