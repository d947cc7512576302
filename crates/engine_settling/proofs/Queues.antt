-- What the accepted calls do to queues, copies, barriers and sources, told so far as the pending checkpoint asks.
use Rattle.std.proofs.Common.{◌≡◌, ◌≢◌, ◌<◌, ◌==◌, ◌++◌, inl, inr, if◌then◌else◌, Option, Some, None, unwrap_or, slice_get, slice_set, slice_index_or, length, drop, replicate, ℕ, zero, suc, Bool, true, false, List, [], ◌∷◌, refl, sym, ap, subst, ◌∙◌, arith}
use Rattle.std.proofs.lemmas.Bool.Decides.{eqb_tells}
use Rattle.std.proofs.lemmas.Option.{none-some}
use Rattle.channels.specs.declared.item.Item.{Item}
use Rattle.channels.specs.declared.item.Item.TheVariants.{Record, Barrier}
use Rattle.dataflow_model.specs.Graph.{Channel}
use Rattle.job_state.specs.Sending.{items_at, Puts, barrier_into, without_head}
use Rattle.job_state.proofs.Places.{items_without_head, get_set_same, get_set_other}

module _ {R : Type 0} where
  -- no record stands in the queue
  abbrev pub NoRecords : List (Item R) → Type 0
  NoRecords items = (place : ℕ) (row : R) → slice_get items place ≢ Some (Record row)

  pub none_empty : NoRecords []
  none_empty place row e = none-some (Record row) e

  -- nor in two of which none has one
  pub none_append : (xs ys : List (Item R)) → NoRecords xs → NoRecords ys → NoRecords (xs ++ ys)
  none_append [] ys one two place row e = two place row e
  none_append (x ∷ xs) ys one two zero row e = one zero row e
  none_append (x ∷ xs) ys one two (suc place) row e = none_append xs ys (λ p r. one (suc p) r) two place row e

  -- nor behind the first item
  pub none_behind : (xs : List (Item R)) → NoRecords xs → NoRecords (drop 1 xs)
  none_behind [] none = none
  none_behind (x ∷ xs) none = λ place row. none (suc place) row

  -- a barrier is no record
  pub none_into : (checkpoint task : ℕ) (o : Option Channel) → NoRecords (barrier_into checkpoint task o)
  none_into checkpoint task None = none_empty
  none_into checkpoint task (Some channel) = of (channel.sender == task)
    where
      of : (b : Bool) → NoRecords (if b then Barrier checkpoint ∷ [] else [])
      of false place row e = none-some (Record row) e
      of true zero row e = absurd cc
      of true (suc place) row e = none-some (Record row) e

  -- the first item of a channel is taken
  pub none_without : (channels : List (List (Item R))) (channel number : ℕ) → NoRecords (items_at channels number) → NoRecords (items_at (without_head channel channels) number)
  none_without channels channel number none = subst NoRecords (sym (items_without_head channels channel number)) (of (number == channel))
    where
      of : (b : Bool) → NoRecords (if b then drop 1 (items_at channels number) else items_at channels number)
      of true = none_behind (items_at channels number) none
      of false = none

  -- barriers are put
  pub none_put : (checkpoint task : ℕ) (to : ℕ → Option Channel) (old new : List (List (Item R))) → Puts (λ n. barrier_into checkpoint task (to n)) old new → (number : ℕ) → NoRecords (items_at old number) → NoRecords (items_at new number)
  none_put checkpoint task to old new puts number none = subst NoRecords (sym (puts.each number)) (none_append (items_at old number) (barrier_into checkpoint task (to number)) none (none_into checkpoint task (to number)))

  -- what stands behind the first item of a channel, once it is taken
  pub taken_from : (channels : List (List (Item R))) (channel : ℕ) → items_at (without_head channel channels) channel ≡ drop 1 (items_at channels channel)
  taken_from channels channel =
      elim (eqb_tells channel channel) [
        | inl same ↦ items_without_head channels channel channel ∙ rw same.0 refl
        | inr other ↦ absurd (other.1 refl)
      ]

-- ---- what is written at one place

module _ {P : Type 0} where
  -- a list's item that is replaced, and the others
  pub index_set_here : (xs : List P) (i : ℕ) (a d : P) → i < length xs → slice_index_or (slice_set xs i a) i d ≡ a
  index_set_here [] i a d within = absurd (omega (arith, within))
  index_set_here (x ∷ xs) zero a d within = refl
  index_set_here (x ∷ xs) (suc i) a d within = index_set_here xs i a d (omega (arith, within))

  pub index_set_beside : (xs : List P) (i k : ℕ) (a d : P) → (k ≡ i → ⊥) → slice_index_or (slice_set xs i a) k d ≡ slice_index_or xs k d
  index_set_beside [] i k a d apart = refl
  index_set_beside (x ∷ xs) zero zero a d apart = absurd (apart refl)
  index_set_beside (x ∷ xs) zero (suc k) a d apart = refl
  index_set_beside (x ∷ xs) (suc i) zero a d apart = refl
  index_set_beside (x ∷ xs) (suc i) (suc k) a d apart = index_set_beside xs i k a d (λ e. apart (ap suc e))

  -- the copy that is made
  pub copy_here : (copies : List (Option P)) (task : ℕ) (p : P) → task < length copies → unwrap_or (slice_get (slice_set copies task (Some p)) task) None ≡ Some p
  copy_here copies task p within = ap (λ (o : Option (Option P)). unwrap_or o None) (get_set_same copies task (Some p) within)

  -- and the others
  pub copy_else : (copies : List (Option P)) (task t : ℕ) (p : P) → (t ≡ task → ⊥) → unwrap_or (slice_get (slice_set copies task (Some p)) t) None ≡ unwrap_or (slice_get copies t) None
  copy_else copies task t p apart = ap (λ (o : Option (Option P)). unwrap_or o None) (get_set_other copies task t (Some p) apart)

  -- a copy is made, and none is lost
  pub copies_grow : (copies : List (Option P)) (task t : ℕ) (p : P) → task < length copies → unwrap_or (slice_get copies t) None ≢ None → unwrap_or (slice_get (slice_set copies task (Some p)) t) None ≢ None
  copies_grow copies task t p within some =
      elim (eqb_tells t task) [
        | inl same ↦ λ e. none-some p (sym e ∙ ap (λ (n : ℕ). unwrap_or (slice_get (slice_set copies task (Some p)) n) None) same.1 ∙ copy_here copies task p within)
        | inr other ↦ λ e. some (sym (copy_else copies task t p other.1) ∙ e)
      ]

  -- a list of one item alone, read with that item for what is not there
  pub same_everywhere : (n i : ℕ) (x : P) → unwrap_or (slice_get (replicate n x) i) x ≡ x
  same_everywhere zero i x = refl
  same_everywhere (suc n) zero x = refl
  same_everywhere (suc n) (suc i) x = same_everywhere n i x

-- the barrier that comes
pub came_here : (came : List Bool) (channel : ℕ) → channel < length came → unwrap_or (slice_get (slice_set came channel true) channel) false ≡ true
came_here came channel within = ap (λ (o : Option Bool). unwrap_or o false) (get_set_same came channel true within)

-- a barrier that came is not forgotten where another comes
pub came_grows : (came : List Bool) (channel number : ℕ) → channel < length came → unwrap_or (slice_get came number) false ≡ true → unwrap_or (slice_get (slice_set came channel true) number) false ≡ true
came_grows came channel number within some =
    elim (eqb_tells number channel) [
      | inl same ↦ ap (λ (n : ℕ). unwrap_or (slice_get (slice_set came channel true) n) false) same.1 ∙ came_here came channel within
      | inr other ↦ ap (λ (o : Option Bool). unwrap_or o false) (get_set_other came channel number true other.1) ∙ some
    ]
