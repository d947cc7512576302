-- The barriers that are due stand in the channels, whatever a running job does.
use Rattle.std.proofs.Common.{◌≡◌, ◌≢◌, ◌<◌, ◌==◌, ◌++◌, inl, inr, if◌then◌else◌, Option, Some, None, is_some, unwrap_or, slice_get, slice_set, length, map, drop, ℕ, Bool, true, false, List, [], ◌∷◌, refl, sym, ap, subst, ◌∙◌}
use Rattle.std.proofs.lemmas.Bool.{true≢false, cases_Bool}
use Rattle.std.proofs.lemmas.Bool.Decides.{eqb_tells}
use Rattle.std.proofs.lemmas.List.{append-nil}
use Rattle.std.proofs.lemmas.Option.{same_Some, none-some, slice_get_within}
use Rattle.channels.specs.declared.item.Item.{Item}
use Rattle.channels.specs.declared.item.Item.TheVariants.{Record, Barrier}
use Rattle.dataflow_model.specs.Graph.{Channel}
use Rattle.coordinator.specs.Coordinator.{Coordination}
use Rattle.job_graph.specs.Expanded.{Expanded}
use Rattle.job_state.specs.Held.{Held, copy_at, came_at, cleared}
use Rattle.job_state.specs.Sending.{items_at, Puts, barrier_into, without_head}
use Rattle.job_state.proofs.Places.{items_without_head}
use Rattle.task_part.specs.declared.part.Part.{Part}
use Rattle.engine_model.specs.Calls.{IsBarrierNext}
use Rattle.engine_model.specs.Keeps.{barriers_in, barriers_due, BarriersStand, CameAfter}
use Rattle.engine_model.proofs.Lists.{get_set_same, get_set_other}
use Rattle.engine_model.proofs.Shape.Shapes.{replicate_at}
use Rattle.engine_model.proofs.Shape.ShapeCalls.{copy_set, copy_beside}

-- ---- queues

module _ {R : Type 0} where
  -- records are no barriers
  pub none_of_records : (rows : List R) → barriers_in (map Record rows) ≡ []
  none_of_records [] = refl
  none_of_records (row ∷ rows) = none_of_records rows

  pub barriers_append : (xs ys : List (Item R)) → barriers_in (xs ++ ys) ≡ barriers_in xs ++ barriers_in ys
  barriers_append [] ys = refl
  barriers_append (Record r ∷ xs) ys = barriers_append xs ys
  barriers_append (Barrier n ∷ xs) ys = ap (λ (ns : List ℕ). n ∷ ns) (barriers_append xs ys)

  -- what stands behind a record, and behind a barrier
  behind_record : (items : List (Item R)) (row : R) → slice_get items 0 ≡ Some (Record row) → barriers_in (drop 1 items) ≡ barriers_in items
  behind_record [] row head = absurd (none-some (Record row) head)
  behind_record (Record r ∷ items) row head = refl
  behind_record (Barrier n ∷ items) row head = absurd cc

  behind_barrier : (items : List (Item R)) (checkpoint : ℕ) → slice_get items 0 ≡ Some (Barrier checkpoint) → barriers_in items ≡ checkpoint ∷ barriers_in (drop 1 items)
  behind_barrier [] checkpoint head = absurd (none-some (Barrier checkpoint) head)
  behind_barrier (Record r ∷ items) checkpoint head = absurd cc
  behind_barrier (Barrier n ∷ items) checkpoint head = let same : n ≡ checkpoint = cc in ap (λ (m : ℕ). m ∷ barriers_in items) same

  pub with_records : (rows : ℕ → List R) (old new : List (List (Item R))) → Puts (λ n. map Record (rows n)) old new → (n : ℕ) → barriers_in (items_at new n) ≡ barriers_in (items_at old n)
  with_records rows old new puts n =
      ap barriers_in (puts.each n) ∙ barriers_append (items_at old n) (map Record (rows n)) ∙ ap (λ (ns : List ℕ). barriers_in (items_at old n) ++ ns) (none_of_records (rows n)) ∙ append-nil (barriers_in (items_at old n))

  pub without_record : (channels : List (List (Item R))) (channel : ℕ) (row : R) → slice_get (items_at channels channel) 0 ≡ Some (Record row) → (n : ℕ) → barriers_in (items_at (without_head channel channels) n) ≡ barriers_in (items_at channels n)
  without_record channels channel row head n =
      elim (eqb_tells n channel) [
        | inl same ↦
            ap barriers_in (items_without_head channels channel n) ∙ rw same.0 (behind_record (items_at channels n) row (ap (λ (m : ℕ). slice_get (items_at channels m) 0) same.1 ∙ head))
        | inr other ↦ ap barriers_in (items_without_head channels channel n) ∙ rw other.0 refl
      ]

-- ---- what is due

cons_not_nil : (n : ℕ) (rest : List ℕ) → n ∷ rest ≡ [] → ⊥
cons_not_nil n rest e = cc

-- none is due before the sender has copied, and none once it was taken
due_unsent : (pending : Option ℕ) (came : Bool) → barriers_due pending false came ≡ []
due_unsent None came = refl
due_unsent (Some checkpoint) came = refl

pub due_taken : (pending : Option ℕ) (copied : Bool) → barriers_due pending copied true ≡ []
due_taken None copied = refl
due_taken (Some checkpoint) true = refl
due_taken (Some checkpoint) false = refl

-- where one stands, the sender has copied, and no other stands
due_one : (pending : Option ℕ) (copied came : Bool) (n : ℕ) (rest : List ℕ) → n ∷ rest ≡ barriers_due pending copied came → (copied ≡ true) × (rest ≡ [])
due_one None copied came n rest e = absurd (cons_not_nil n rest e)
due_one (Some checkpoint) false came n rest e = absurd (cons_not_nil n rest e)
due_one (Some checkpoint) true true n rest e = absurd (cons_not_nil n rest e)
due_one (Some checkpoint) true false n rest e = (refl, ap (drop 1) e)

some_not_none : {A : Type 0} (o : Option A) → is_some o ≡ true → o ≢ None
some_not_none None some none = true≢false (sym some)
some_not_none (Some a) some none = none-some a (sym none)

module _ {R K S : Type 0} (graph : Expanded) where
  abbrev pub Barriers : Held R K S → Type 0
  Barriers held = BarriersStand graph held × CameAfter graph held

  module _ (h : Held R K S) where
    -- the same barriers stand in the channels
    pub barriers_still : (channels : List (List (Item R))) → Barriers h → ((n : ℕ) → barriers_in (items_at channels n) ≡ barriers_in (items_at h.channels n)) → Barriers (record h { channels = channels })
    barriers_still channels kept same = (λ n c is. same n ∙ kept.0 n c is, kept.1)

    -- a barrier is taken
    pub barriers_taken : (channel checkpoint : ℕ) (to : Channel) → slice_get graph.channels channel ≡ Some to → length h.came ≡ length graph.channels → IsBarrierNext h channel checkpoint → Barriers h
        → Barriers (record h { channels = without_head channel h.channels; came = slice_set h.came channel true })
    barriers_taken channel checkpoint to is long barrier kept = (stand, after)
      where
        one : (is_some (copy_at h to.sender) ≡ true) × (barriers_in (drop 1 (items_at h.channels channel)) ≡ [])
        one =
            due_one h.coordination.pending (is_some (copy_at h to.sender)) (came_at h channel) checkpoint (barriers_in (drop 1 (items_at h.channels channel)))
            (sym (behind_barrier (items_at h.channels channel) checkpoint barrier.0) ∙ kept.0 channel to is)

        came_here : unwrap_or (slice_get (slice_set h.came channel true) channel) false ≡ true
        came_here = ap (λ (o : Option Bool). unwrap_or o false) (get_set_same h.came channel true (subst (λ m. channel < m) (sym long) (slice_get_within graph.channels channel to is)))

        came_beside : (n : ℕ) → (n ≡ channel → ⊥) → unwrap_or (slice_get (slice_set h.came channel true) n) false ≡ came_at h n
        came_beside n apart = ap (λ (o : Option Bool). unwrap_or o false) (get_set_other h.came channel n true apart)

        stand : BarriersStand graph (record h { channels = without_head channel h.channels; came = slice_set h.came channel true })
        stand n c at =
            elim (eqb_tells n channel) [
              | inl same ↦
                  ap barriers_in (items_without_head h.channels channel n) ∙ rw same.0 (ap (λ (m : ℕ). barriers_in (drop 1 (items_at h.channels m))) same.1 ∙ one.1)
                  ∙ sym (ap (λ (b : Bool). barriers_due h.coordination.pending (is_some (copy_at h c.sender)) b) (ap (λ (m : ℕ). unwrap_or (slice_get (slice_set h.came channel true) m) false) same.1 ∙ came_here)
                  ∙ due_taken h.coordination.pending (is_some (copy_at h c.sender)))
              | inr other ↦
                  ap barriers_in (items_without_head h.channels channel n) ∙ rw other.0 (kept.0 n c at)
                  ∙ sym (ap (λ (b : Bool). barriers_due h.coordination.pending (is_some (copy_at h c.sender)) b) (came_beside n other.1))
            ]

        after : CameAfter graph (record h { channels = without_head channel h.channels; came = slice_set h.came channel true })
        after n c at came =
            elim (eqb_tells n channel) [
              | inl same ↦
                  let one_channel : c ≡ to = same_Some c to (sym at ∙ ap (slice_get graph.channels) same.1 ∙ is) in
                  some_not_none (copy_at h c.sender) (ap (λ (x : Channel). is_some (copy_at h x.sender)) one_channel ∙ one.0)
              | inr other ↦ kept.1 n c at (sym (came_beside n other.1) ∙ came)
            ]

    module _ (task : ℕ) (p : Part R K S) (none : copy_at h task ≡ None) (within : task < length h.copies) where
      abbrev copies_set : List (Option (Part R K S))
      copies_set = slice_set h.copies task (Some p)

      copied_after : Barriers h → CameAfter graph (record h { copies = copies_set })
      copied_after kept n c at came =
          elim (eqb_tells c.sender task) [
            | inl same ↦ λ e. none-some p (sym e ∙ ap (copy_at (record h { copies = copies_set })) same.1 ∙ copy_set h.copies task p within)
            | inr other ↦ λ e. kept.1 n c at came (sym (copy_beside h.copies task c.sender p other.1) ∙ e)
          ]

      -- a task copies that sends into no channel
      pub barriers_unsent : ((n : ℕ) (c : Channel) → slice_get graph.channels n ≡ Some c → c.sender ≡ task → ⊥) → Barriers h → Barriers (record h { copies = copies_set })
      barriers_unsent silent kept = (stand, copied_after kept)
        where
          stand : BarriersStand graph (record h { copies = copies_set })
          stand n c at = kept.0 n c at ∙ sym (ap (λ (o : Option (Part R K S)). barriers_due h.coordination.pending (is_some o) (came_at h n)) (copy_beside h.copies task c.sender p (silent n c at)))

      -- a task copies, and sends the barrier
      pub barriers_sent : (checkpoint : ℕ) (channels : List (List (Item R))) → h.coordination.pending ≡ Some checkpoint → Puts (λ n. barrier_into checkpoint task (slice_get graph.channels n)) h.channels channels → Barriers h
          → Barriers (record h { channels = channels; copies = copies_set })
      barriers_sent checkpoint channels pending puts kept = (stand, copied_after kept)
        where
          put : (n : ℕ) (c : Channel) → slice_get graph.channels n ≡ Some c → barriers_in (items_at channels n) ≡ barriers_in (items_at h.channels n) ++ barriers_in {R = R} (barrier_into checkpoint task (Some c))
          put n c at =
              ap barriers_in (puts.each n ∙ ap (λ (o : Option Channel). items_at h.channels n ++ barrier_into checkpoint task o) at) ∙ barriers_append (items_at h.channels n) (barrier_into checkpoint task (Some c))

          of_own : (b : Bool) → b ≡ true → barriers_in {R = R} (if b then Barrier checkpoint ∷ [] else []) ≡ checkpoint ∷ []
          of_own true e = refl
          of_own false e = absurd (true≢false (sym e))

          of_other : (b : Bool) → b ≡ false → barriers_in {R = R} (if b then Barrier checkpoint ∷ [] else []) ≡ []
          of_other false e = refl
          of_other true e = absurd (true≢false e)

          -- the task's channels were without a barrier, and none was taken from them
          empty : (n : ℕ) (c : Channel) → slice_get graph.channels n ≡ Some c → c.sender ≡ task → barriers_in (items_at h.channels n) ≡ []
          empty n c at same =
              kept.0 n c at ∙ ap (λ (o : Option (Part R K S)). barriers_due h.coordination.pending (is_some o) (came_at h n)) (ap (copy_at h) same ∙ none) ∙ due_unsent h.coordination.pending (came_at h n)

          not_came : (n : ℕ) (c : Channel) → slice_get graph.channels n ≡ Some c → c.sender ≡ task → came_at h n ≡ false
          not_came n c at same =
              elim (cases_Bool (came_at h n)) [
                | inl came ↦ absurd (kept.1 n c at came (ap (copy_at h) same ∙ none))
                | inr e ↦ e
              ]

          now : (c : Channel) → c.sender ≡ task → copy_at (record h { copies = copies_set }) c.sender ≡ Some p
          now c same = ap (copy_at (record h { copies = copies_set })) same ∙ copy_set h.copies task p within

          due : (o : Option ℕ) (copy : Option (Part R K S)) (came : Bool) → o ≡ Some checkpoint → copy ≡ Some p → came ≡ false → checkpoint ∷ [] ≡ barriers_due o (is_some copy) came
          due o copy came a b c = rw (a, b, c) refl

          stand : BarriersStand graph (record h { channels = channels; copies = copies_set })
          stand n c at =
              elim (eqb_tells c.sender task) [
                | inl same ↦
                    put n c at ∙ ap (λ (ns : List ℕ). ns ++ barriers_in {R = R} (barrier_into checkpoint task (Some c))) (empty n c at same.1) ∙ of_own (c.sender == task) same.0
                    ∙ due h.coordination.pending (copy_at (record h { copies = copies_set }) c.sender) (came_at h n) pending (now c same.1) (not_came n c at same.1)
                | inr other ↦
                    put n c at ∙ ap (λ (ns : List ℕ). barriers_in (items_at h.channels n) ++ ns) (of_other (c.sender == task) other.0) ∙ append-nil (barriers_in (items_at h.channels n)) ∙ kept.0 n c at
                    ∙ sym (ap (λ (o : Option (Part R K S)). barriers_due h.coordination.pending (is_some o) (came_at h n)) (copy_beside h.copies task c.sender p other.1))
              ]

    -- no barrier stands anywhere, and all copies are dropped
    pub barriers_cleared : (coordination : Coordination) → ((n : ℕ) (c : Channel) → slice_get graph.channels n ≡ Some c → barriers_in (items_at h.channels n) ≡ []) → Barriers (record (cleared h) { coordination = coordination })
    barriers_cleared coordination empty = (stand, after)
      where
        stand : BarriersStand graph (record (cleared h) { coordination = coordination })
        stand n c at =
            empty n c at
            ∙ sym (ap (λ (o : Option (Part R K S)). barriers_due coordination.pending (is_some o) (came_at (cleared h) n)) (replicate_at {A = Option (Part R K S)} (length h.copies) c.sender None) ∙ due_unsent coordination.pending (came_at (cleared h) n))

        after : CameAfter graph (record (cleared h) { coordination = coordination })
        after n c at came = absurd (true≢false (sym came ∙ replicate_at (length h.came) n false))

    -- while nothing is pending no barrier stands anywhere
    pub none_unpending : h.coordination.pending ≡ None → Barriers h → (n : ℕ) (c : Channel) → slice_get graph.channels n ≡ Some c → barriers_in (items_at h.channels n) ≡ []
    none_unpending none kept n c at = kept.0 n c at ∙ ap (λ (o : Option ℕ). barriers_due o (is_some (copy_at h c.sender)) (came_at h n)) none

    -- nor once it was taken
    pub none_taken : Barriers h → (n : ℕ) (c : Channel) → slice_get graph.channels n ≡ Some c → came_at h n ≡ true → barriers_in (items_at h.channels n) ≡ []
    none_taken kept n c at came = kept.0 n c at ∙ ap (λ (b : Bool). barriers_due h.coordination.pending (is_some (copy_at h c.sender)) b) came ∙ due_taken h.coordination.pending (is_some (copy_at h c.sender))
