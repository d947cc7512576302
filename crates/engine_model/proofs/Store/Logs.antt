-- The logs of a part: one for each back-edge into the task, and what they say of each channel.
use Rattle.std.proofs.Common.{◌≡◌, inl, inr, cond, All, Some, slice_get, slice_index_or, unwrap_or, map, ℕ, zero, suc, Bool, true, false, List, [], ◌∷◌, refl, sym, ap, subst, ◌∙◌}
use Rattle.std.specs.Cmp.{nat_cmp_is}
use Rattle.std.specs.FinMap.{nat_cmp-IsAntisymmetric}
use Rattle.std.specs.List.{filter}
use Rattle.std.specs.Ordering.{nat_cmp, is_eq}
use Rattle.std.specs.declared.cmp.Ordering.{Ordering}
use Rattle.std.specs.declared.cmp.Ordering.TheVariants.{Less, Equal, Greater}
use Rattle.std.proofs.lemmas.Bool.{cases_Bool}
use Rattle.std.proofs.lemmas.List.Elements.{All-map}
use Rattle.std.proofs.lemmas.Option.{none-some, same_Some}
use Rattle.abs_codec.specs.Entries.{value_at}
use Rattle.dataflow_model.specs.Graph.{Channel}
use Rattle.job_graph.specs.Expanded.{Expanded, meets, is_marked, inputs_of}
use Rattle.job_state.specs.Held.{Held, logged_at, logs_of, marked_inputs}
use Rattle.task_part.specs.Spelling.{Logs}
use Rattle.engine_model.specs.View.{log_at}
use Rattle.engine_model.specs.Keeps.{LogsFit, LogsSuit}
use Rattle.engine_model.proofs.Shape.Gates.{input_of_channel}

-- ---- the inputs of a task

module _ {X : Type 0} where
  behind : (b : Bool) (y : X) (zs : List X) (j : ℕ) (x : X) → slice_get zs j ≡ Some x → (k : ℕ) × (slice_get (cond b (y ∷ zs) zs) k ≡ Some x)
  behind true y zs j x at = (suc j, at)
  behind false y zs j x at = (j, at)

  -- what passes stays
  stays : (test : X → Bool) (xs : List X) (i : ℕ) (x : X) → slice_get xs i ≡ Some x → test x ≡ true → (j : ℕ) × (slice_get (filter test xs) j ≡ Some x)
  stays test [] i x at passes = absurd (none-some x at)
  stays test (y ∷ ys) zero x at passes =
      let same : y ≡ x = same_Some y x at in
      (0, ap (λ (b : Bool). slice_get (cond b (y ∷ filter test ys) (filter test ys)) 0) (ap test same ∙ passes) ∙ at)
  stays test (y ∷ ys) (suc i) x at passes = let rest = stays test ys i x at passes in behind (test y) y (filter test ys) rest.0 x rest.1

-- a channel is one of its receiver's inputs
pub input_of : (graph : Expanded) (task number : ℕ) (channel : Channel) → slice_get graph.channels number ≡ Some channel → channel.receiver ≡ task → (input : ℕ) × (slice_get (inputs_of graph task) input ≡ Some number)
input_of graph task number channel at receiver = subst (λ (t : ℕ). (input : ℕ) × (slice_get (inputs_of graph t) input ≡ Some number)) receiver (input_of_channel graph number channel at)

-- ---- what logs say

equal_only : (o : Ordering) → is_eq o ≡ true → o ≡ Equal
equal_only Less e = absurd (cc e)
equal_only Equal e = refl
equal_only Greater e = absurd (cc e)

module _ {R : Type 0} (log : ℕ → List R) where
  -- a log for each of these channels
  abbrev logs_for : List ℕ → Logs R
  logs_for numbers = map (λ number. (number, log number)) numbers

  first_or : (n : ℕ) (ns : List ℕ) (m : ℕ) (b : Bool) → is_eq (nat_cmp m n) ≡ b → (b ≡ false → log_at (logs_for ns) m ≡ log m) → log_at (logs_for (n ∷ ns)) m ≡ log m
  first_or n ns m true e rest =
      ap (λ (c : Bool). unwrap_or (cond c (Some (log n)) (value_at nat_cmp (logs_for ns) m)) []) e ∙ ap log (sym (nat_cmp-IsAntisymmetric m n (equal_only (nat_cmp m n) e)))
  first_or n ns m false e rest = ap (λ (c : Bool). unwrap_or (cond c (Some (log n)) (value_at nat_cmp (logs_for ns) m)) []) e ∙ rest refl

  -- of a channel that has one, what is in it
  says_member : (ns : List ℕ) (i m : ℕ) → slice_get ns i ≡ Some m → log_at (logs_for ns) m ≡ log m
  says_member [] i m at = absurd (none-some m at)
  says_member (n ∷ ns) zero m at = first_or n ns m (is_eq (nat_cmp m n)) refl (λ off. absurd (cc (ap is_eq (nat_cmp_is m n Equal (sym (same_Some n m at))) ∙ off)))
  says_member (n ∷ ns) (suc i) m at = first_or n ns m (is_eq (nat_cmp m n)) refl (λ off. says_member ns i m at)

  -- and of one of which nothing is logged, nothing
  says_nothing : (ns : List ℕ) (m : ℕ) → log m ≡ [] → log_at (logs_for ns) m ≡ log m
  says_nothing [] m none = sym none
  says_nothing (n ∷ ns) m none = first_or n ns m (is_eq (nat_cmp m n)) refl (λ off. says_nothing ns m none)

module _ {R K S : Type 0} (graph : Expanded) (h : Held R K S) where
  -- of channels that are no back-edges nothing is logged
  abbrev pub OnlyMarked : Type 0
  OnlyMarked = (number : ℕ) → meets is_marked graph.channels number ≡ false → logged_at h number ≡ []

  -- a task's logs say what was logged for each channel into it
  pub logs_say : (task number : ℕ) (channel : Channel) → OnlyMarked → slice_get graph.channels number ≡ Some channel → channel.receiver ≡ task → log_at (logs_of graph h task) number ≡ logged_at h number
  logs_say task number channel only at receiver =
      elim (cases_Bool (meets is_marked graph.channels number)) [
        | inl marked ↦
            let input = input_of graph task number channel at receiver in
            let one = stays (meets is_marked graph.channels) (inputs_of graph task) input.0 number input.1 marked in
            says_member (logged_at h) (marked_inputs graph task) one.0 number one.1
        | inr other ↦ says_nothing (logged_at h) (marked_inputs graph task) number (only number other)
      ]

  -- they are those of its marked inputs, and their records fit
  pub logs_suit : (RecordFits : R → Type 0) (task : ℕ) → LogsFit RecordFits h → LogsSuit RecordFits graph task (logs_of graph h task)
  logs_suit RecordFits task fit = record {
    channels = each (marked_inputs graph task);
    fit = All-map (λ (log : ℕ × List R). All RecordFits log.1) (λ number. (number, logged_at h number)) (marked_inputs graph task) (λ i d within. fit (slice_index_or (marked_inputs graph task) i d));
  }
    where
      each : (ns : List ℕ) → map (λ (log : ℕ × List R). log.0) (map (λ number. (number, logged_at h number)) ns) ≡ ns
      each [] = refl
      each (n ∷ ns) = ap (λ (l : List ℕ). n ∷ l) (each ns)
