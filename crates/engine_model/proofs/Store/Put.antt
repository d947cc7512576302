-- A task's part is put.
use Rattle.std.proofs.Common.{◌≡◌, ◌<◌, ◌≤◌, ◌==◌, ◌&&◌, inl, inr, if◌then◌else◌, cond, Option, Some, None, Ok, is_some, IsSome, slice_set, slice_index_or, length, ℕ, zero, suc, Bool, true, false, List, [], ◌∷◌, refl, sym, ap, ap₂, subst, ◌∙◌, arith}
use Rattle.std.proofs.lemmas.Bool.Decides.{eqb_tells}
use Rattle.std.proofs.lemmas.Bool.{lt-ltb}
use Rattle.std.proofs.lemmas.Option.{same_Some}
use mathlib.Core.Path.{fun_ext}
use Rattle.abs_codec.specs.Reading.{whole_of}
use Rattle.checkpoint_model.specs.Durable as durable
use Rattle.coordinator.specs.Coordinator.{has_acked}
use Rattle.job_graph.specs.Expanded.{Expanded}
use Rattle.job_state.specs.Held.{Held, copy_at, logs_of, with_logs, with_acknowledged}
use Rattle.snapshot_store.specs.Store.{Stored, IsNumbered, is_complete, is_reserved, part_of, put_refusal, with_part}
use Rattle.snapshot_store.specs.StoreLaws.{part_of-with_part}
use Rattle.task_part.specs.declared.part.Part.{Part}
use Rattle.engine_model.specs.Language.{Language}
use Rattle.engine_model.specs.View.{part_in, part_view}
use Rattle.engine_model.specs.Keeps.{PendingIn}
use Rattle.engine_model.proofs.Store.View.{store_of}

not_true : (b : Bool) → (b ≡ true → ⊥) → b ≡ false
not_true true h = absurd (h refl)
not_true false h = refl

pub same_number : (n : ℕ) → (n == n) ≡ true
same_number n = elim (eqb_tells n n) [ inl h ↦ h.0 | inr h ↦ absurd (h.1 refl) ]

pub other_number : (m n : ℕ) → (m ≡ n → ⊥) → (m == n) ≡ false
other_number m n apart = elim (eqb_tells m n) [ inl h ↦ absurd (apart h.1) | inr h ↦ h.0 ]

pub index_set_same : {A : Type 0} (xs : List A) (i : ℕ) (a d : A) → i < length xs → slice_index_or (slice_set xs i a) i d ≡ a
index_set_same [] i a d within = absurd (omega (arith, within))
index_set_same (x ∷ xs) zero a d within = refl
index_set_same (x ∷ xs) (suc i) a d within = index_set_same xs i a d (omega (arith, within))

pub index_set_other : {A : Type 0} (xs : List A) (i k : ℕ) (a d : A) → (k ≡ i → ⊥) → slice_index_or (slice_set xs i a) k d ≡ slice_index_or xs k d
index_set_other [] i k a d apart = refl
index_set_other (x ∷ xs) zero zero a d apart = absurd (apart refl)
index_set_other (x ∷ xs) zero (suc k) a d apart = refl
index_set_other (x ∷ xs) (suc i) zero a d apart = refl
index_set_other (x ∷ xs) (suc i) (suc k) a d apart = index_set_other xs i k a d (λ e. apart (ap suc e))

-- the part of the number and task that was put, and of others
pub put_here : (s : Stored) (n t : ℕ) (bytes : List ℕ) → part_of (with_part s n t bytes) n t ≡ Some bytes
put_here s n t bytes = part_of-with_part s n t bytes n t ∙ ap₂ (λ (a b : Bool). cond (a && b) (Some bytes) (part_of s n t)) (same_number n) (same_number t)

pub put_elsewhere : (s : Stored) (n t : ℕ) (bytes : List ℕ) (u : ℕ) → (u ≡ t → ⊥) → part_of (with_part s n t bytes) n u ≡ part_of s n u
put_elsewhere s n t bytes u apart = part_of-with_part s n t bytes n u ∙ ap₂ (λ (a b : Bool). cond (a && b) (Some bytes) (part_of s n u)) (same_number n) (other_number u t apart)

-- parts that are put are of tasks, and complete numbers stay
pub numbered_put : (s : Stored) (n t : ℕ) (bytes : List ℕ) → IsNumbered s → 1 ≤ n → n < s.next → t < s.tasks → IsNumbered (with_part s n t bytes)
numbered_put s n t bytes numbered positive given within = record {
  positive = numbered.positive;
  within = numbered.within;
  parts = λ m u there. of m u ((m == n) && (u == t)) refl (subst (λ (o : Option (List ℕ)). IsSome o) (part_of-with_part s n t bytes m u) there);
  completes = numbered.completes;
}
  where
    both : (m u : ℕ) → ((m == n) && (u == t)) ≡ true → (m ≡ n) × (u ≡ t)
    both m u e = elim (eqb_tells m n) [
      | inl a ↦ elim (eqb_tells u t) [
        | inl b ↦ (a.1, b.1)
        | inr b ↦ absurd (cc (sym (ap₂ (λ (x y : Bool). x && y) a.0 b.0) ∙ e))
      ]
      | inr a ↦ absurd (cc (sym (ap (λ (x : Bool). x && (u == t)) a.0) ∙ e))
    ]

    of : (m u : ℕ) (b : Bool) → ((m == n) && (u == t)) ≡ b → IsSome (cond ((m == n) && (u == t)) (Some bytes) (part_of s m u)) → (1 ≤ m) × (m < s.next) × (u < s.tasks)
    of m u true e there = let same = both m u e in (let a = same.0 in omega (arith, a, positive), let a = same.0 in omega (arith, a, given), let b = same.1 in omega (arith, b, within))
    of m u false e there = numbered.parts m u (subst (λ (c : Bool). IsSome (cond c (Some bytes) (part_of s m u))) e there)

module _ {R K S O : Type 0} (lang : Language R K S O) where
  -- bytes that spell a part stand for it
  pub part_in_reads : (bytes : List ℕ) (p : Part R K S) → whole_of lang.read_part bytes ≡ Ok p → part_in lang (Some bytes) ≡ Some (part_view lang.cmp p)
  part_in_reads bytes p reads = rw (reads, part_in) refl

  chosen : (c : Bool) (bytes : List ℕ) (p : Part R K S) (o : Option (List ℕ)) → whole_of lang.read_part bytes ≡ Ok p → part_in lang (cond c (Some bytes) o) ≡ (if c then Some (part_view lang.cmp p) else part_in lang o)
  chosen true bytes p o reads = part_in_reads bytes p reads
  chosen false bytes p o reads = refl

  -- what the store stands for has the part too
  pub store_put : (stored : Stored) (n task : ℕ) (bytes : List ℕ) (p : Part R K S) → whole_of lang.read_part bytes ≡ Ok p
      → store_of lang (with_part stored n task bytes) ≡ durable.with_part n task (part_view lang.cmp p) (store_of lang stored)
  store_put stored n task bytes p reads =
      let parts : (λ m t. part_in lang (part_of (with_part stored n task bytes) m t)) ≡ (durable.with_part n task (part_view lang.cmp p) (store_of lang stored)).parts =
      fun_ext (λ m. fun_ext (λ t. ap (part_in lang) (part_of-with_part stored n task bytes m t) ∙ chosen ((m == n) && (t == task)) bytes p (part_of stored m t) reads)) in
      λ i. record { next = stored.next; parts = parts i; line = (store_of lang stored).line }

  module _ (graph : Expanded) (stored : Stored) (h : Held R K S) (n : ℕ) (pending : PendingIn lang graph stored h n) where
    pub pending_reserved : is_reserved stored n ≡ true
    pending_reserved = ap₂ (λ (a b : Bool). a && b) (lt-ltb 0 n (let e = pending.positive in omega (arith, e))) (lt-ltb n stored.next pending.given)

    pub pending_incomplete : is_complete stored n ≡ false
    pending_incomplete = not_true (is_complete stored n) (λ e. let h : n < n = pending.above n e in omega (arith, h))

    -- a part that was not acknowledged may be put
    pub may_put : (task : ℕ) → task < stored.tasks → has_acked h.coordination task ≡ false → put_refusal stored n task ≡ None
    may_put task within unacked = rw (pending_reserved, pending_incomplete, lt-ltb task stored.tasks within, pending.parts task within ∙ unacked) refl

    -- once it is put, it is acknowledged
    pub pending_put : (task : ℕ) (bytes : List ℕ) (p : Part R K S) → h.coordination.pending ≡ Some n → task < length h.coordination.acked → copy_at h task ≡ Some p
        → whole_of lang.read_part bytes ≡ Ok (with_logs (logs_of graph h task) p) → PendingIn lang graph (with_part stored n task bytes) (with_acknowledged task h) n
    pending_put task bytes p is within copied reads = record {
      positive = pending.positive;
      given = pending.given;
      above = pending.above;
      parts = λ t lt.
          elim (eqb_tells t task) [
            | inl same ↦
                ap (λ (u : ℕ). is_some (part_of (with_part stored n task bytes) n u)) same.1 ∙ ap is_some (put_here stored n task bytes)
                ∙ sym (ap₂ (λ (o : Option ℕ) (b : Bool). is_some o && b) is (ap (λ (u : ℕ). slice_index_or (slice_set h.coordination.acked task true) u false) same.1 ∙ index_set_same h.coordination.acked task true false within))
            | inr other ↦
                ap is_some (put_elsewhere stored n task bytes t other.1) ∙ pending.parts t lt
                ∙ ap (λ (b : Bool). is_some h.coordination.pending && b) (sym (index_set_other h.coordination.acked task t true false other.1))
          ];
      spelled = λ t more there.
          elim (eqb_tells t task) [
            | inl same ↦
                let bytes_are : bytes ≡ more = same_Some bytes more (sym (put_here stored n task bytes) ∙ ap (part_of (with_part stored n task bytes) n) (sym same.1) ∙ there) in
                (p, ap (copy_at h) same.1 ∙ copied, ap (whole_of lang.read_part) (sym bytes_are) ∙ reads ∙ ap (λ (u : ℕ). Ok (with_logs (logs_of graph h u) p)) (sym same.1))
            | inr other ↦ pending.spelled t more (sym (put_elsewhere stored n task bytes t other.1) ∙ there)
          ];
    }

    pub numbered_pending_put : (task : ℕ) (bytes : List ℕ) → IsNumbered stored → task < stored.tasks → IsNumbered (with_part stored n task bytes)
    numbered_pending_put task bytes numbered within = numbered_put stored n task bytes numbered pending.positive pending.given within
