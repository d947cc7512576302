-- The next number is given out, old parts are discarded, and a store is new.
use Rattle.std.proofs.Common.{◌≡◌, ◌<◌, ◌≤◌, ◌+◌, ◌^◌, if◌then◌else◌, cond, not, Option, Some, None, is_some, IsSome, slice_index_or, replicate, length, ℕ, zero, suc, Bool, true, false, List, [], refl, sym, ap, subst, ◌∙◌, arith, lit≤}
use Rattle.std.specs.Prelude.{nat_lt}
use Rattle.std.specs.Ordering.{nat_cmp, ordering_then}
use Rattle.std.specs.declared.cmp.Ordering.{Ordering}
use Rattle.std.specs.declared.cmp.Ordering.TheVariants.{Less, Equal, Greater}
use Rattle.std.specs.FinMap as fin
use Rattle.std.specs.FinSet as set
use Rattle.std.proofs.lemmas.Bool.{lt-ltb, ltb-true, ltb-false}
use mathlib.Core.Path.{fun_ext}
use Rattle.checkpoint_model.specs.Durable as durable
use Rattle.job_graph.specs.Expanded.{Expanded}
use Rattle.job_state.specs.Held.{Held, with_started}
use Rattle.snapshot_store.specs.Store.{Stored, IsNumbered, key_cmp, is_complete, part_of, blank, reserved, reserve_refusal, discarded_below}
use Rattle.snapshot_store.specs.declared.store.StoreFault.{StoreFault}
use Rattle.snapshot_store.specs.declared.store.StoreFault.TheVariants.{NumberFull}
use Rattle.engine_model.specs.Language.{Language}
use Rattle.engine_model.specs.View.{part_in}
use Rattle.engine_model.specs.Keeps.{PendingIn}
use Rattle.engine_model.specs.Calls.{tidied}
use Rattle.engine_model.proofs.Store.Line.{passing, passing_no}
use Rattle.engine_model.proofs.Store.View.{store_of, line_of}

not_true : (b : Bool) → (b ≡ true → ⊥) → b ≡ false
not_true true h = absurd (h refl)
not_true false h = refl

then_equal : (r s : Ordering) → ordering_then r s ≡ Equal → r ≡ Equal
then_equal Less s e = absurd (cc e)
then_equal Equal s e = refl
then_equal Greater s e = absurd (cc e)

-- ---- the next number

refuses_above : (b : Bool) → (if b then None else Some NumberFull) ≡ None → b ≡ true
refuses_above true e = refl
refuses_above false e = absurd (cc e)

refuses_some : (b : Bool) (refusal : StoreFault) → (if b then None else Some NumberFull) ≡ Some refusal → b ≡ false
refuses_some true refusal e = absurd (cc e)
refuses_some false refusal e = refl

pub may_reserve : (stored : Stored) → stored.next < 2 ^ 63 → reserve_refusal stored ≡ None
may_reserve stored lt = ap (λ (b : Bool). if b then None else Some NumberFull) (lt-ltb stored.next (2 ^ 63) lt)

pub reserve_given : (stored : Stored) → reserve_refusal stored ≡ None → stored.next < 2 ^ 63
reserve_given stored e = ltb-true stored.next (2 ^ 63) (refuses_above (nat_lt stored.next (2 ^ 63)) e)

pub reserve_spent : (stored : Stored) (refusal : StoreFault) → reserve_refusal stored ≡ Some refusal → 2 ^ 63 ≤ stored.next
reserve_spent stored refusal e = ltb-false stored.next (2 ^ 63) (refuses_some (nat_lt stored.next (2 ^ 63)) refusal e)

-- nothing is there of the number that is given out next
pub next_incomplete : (stored : Stored) → IsNumbered stored → is_complete stored stored.next ≡ false
next_incomplete stored numbered = not_true (is_complete stored stored.next) (λ e. let below : stored.next < stored.next = (numbered.completes stored.next e).1 in omega (arith, below))

pub next_no_part : (stored : Stored) (task : ℕ) → IsNumbered stored → is_some (part_of stored stored.next task) ≡ false
next_no_part stored task numbered = not_true (is_some (part_of stored stored.next task)) (λ e. let below : stored.next < stored.next = (numbered.parts stored.next task e).1 in omega (arith, below))

one_more : (n k : ℕ) → n < k → n < k + 1
one_more n k lt = omega (arith, lt)

pub numbered_reserved : (stored : Stored) → IsNumbered stored → stored.next < 2 ^ 63 → IsNumbered (reserved stored)
numbered_reserved stored numbered lt = record {
  positive = let e = numbered.positive in omega (arith, e);
  within = at_most stored.next (2 ^ 63) lt;
  parts = λ n t there. let old = numbered.parts n t there in (old.0, one_more n stored.next old.1, old.2);
  completes = λ n e. let old = numbered.completes n e in (old.0, one_more n stored.next old.1);
}
  where
    at_most : (n k : ℕ) → n < k → n + 1 ≤ k
    at_most n k h = omega (arith, h)

-- ---- parts that are discarded

pub part_of-discarded : (stored : Stored) (n m t : ℕ) → part_of (discarded_below stored n) m t ≡ (if nat_lt m n then None else part_of stored m t)
part_of-discarded stored n m t =
    fin.get-retain_keys stored.parts (λ k. not (nat_lt k.0 n)) (m, t) (λ x tie. ap (λ (k : ℕ). not (nat_lt k n)) (sym (set.nat_cmp-IsAntisymmetric m x.0 (then_equal (nat_cmp m x.0) (nat_cmp t x.1) tie))))
    ∙ turned (nat_lt m n) (part_of stored m t)
  where
    turned : (b : Bool) (o : Option (List ℕ)) → cond (not b) o None ≡ (if b then None else o)
    turned true o = refl
    turned false o = refl

pub numbered_discarded : (stored : Stored) (n : ℕ) → IsNumbered stored → IsNumbered (discarded_below stored n)
numbered_discarded stored n numbered = record {
  positive = numbered.positive;
  within = numbered.within;
  parts = λ m t there. numbered.parts m t (was (nat_lt m n) (part_of stored m t) (subst (λ (o : Option (List ℕ)). IsSome o) (part_of-discarded stored n m t) there));
  completes = numbered.completes;
}
  where
    was : (b : Bool) (o : Option (List ℕ)) → IsSome (if b then None else o) → IsSome o
    was true o e = absurd (cc e)
    was false o e = e

pub numbered_tidied : (last : Option ℕ) (stored : Stored) → IsNumbered stored → IsNumbered (tidied last stored)
numbered_tidied None stored numbered = numbered
numbered_tidied (Some last) stored numbered = numbered_discarded stored last numbered

pub tidied_next : (last : Option ℕ) (stored : Stored) → (tidied last stored).next ≡ stored.next
tidied_next None stored = refl
tidied_next (Some last) stored = refl

pub tidied_tasks : (last : Option ℕ) (stored : Stored) → (tidied last stored).tasks ≡ stored.tasks
tidied_tasks None stored = refl
tidied_tasks (Some last) stored = refl

pub tidied_complete : (last : Option ℕ) (stored : Stored) (n : ℕ) → is_complete (tidied last stored) n ≡ is_complete stored n
tidied_complete None stored n = refl
tidied_complete (Some last) stored n = refl

pub tidied_refusal : (last : Option ℕ) (stored : Stored) → reserve_refusal (tidied last stored) ≡ reserve_refusal stored
tidied_refusal None stored = refl
tidied_refusal (Some last) stored = refl

-- ---- a checkpoint begins

none_acked : (n task : ℕ) → slice_index_or (replicate n false) task false ≡ false
none_acked zero task = refl
none_acked (suc n) zero = refl
none_acked (suc n) (suc task) = none_acked n task

module _ {R K S O : Type 0} (lang : Language R K S O) where
  pub store_reserved : (stored : Stored) → IsNumbered stored → store_of lang (reserved stored) ≡ durable.reserved (store_of lang stored)
  store_reserved stored numbered =
      let next : stored.next + 1 ≡ suc stored.next = omega arith in
      let line : line_of (reserved stored) ≡ line_of stored = ap (λ (k : ℕ). passing (is_complete stored) k) next ∙ passing_no (is_complete stored) stored.next (next_incomplete stored numbered) in
      λ i. record { next = next i; parts = (store_of lang stored).parts; line = line i }

  pub store_discarded : (stored : Stored) (n : ℕ) → store_of lang (discarded_below stored n) ≡ durable.without_below n (store_of lang stored)
  store_discarded stored n =
      let parts : (λ m t. part_in lang (part_of (discarded_below stored n) m t)) ≡ (durable.without_below n (store_of lang stored)).parts =
      fun_ext (λ m. fun_ext (λ t. ap (part_in lang) (part_of-discarded stored n m t) ∙ chosen (nat_lt m n) (part_of stored m t))) in
      λ i. record { next = stored.next; parts = parts i; line = line_of stored }
    where
      chosen : (b : Bool) (o : Option (List ℕ)) → part_in lang (if b then None else o) ≡ (if b then None else part_in lang o)
      chosen true o = refl
      chosen false o = refl

  -- nothing is there of the number that begins
  pub pending_started : (graph : Expanded) (stored : Stored) (h : Held R K S) → IsNumbered stored → PendingIn lang graph (reserved stored) (with_started stored.next h) stored.next
  pending_started graph stored h numbered = record {
    positive = numbered.positive;
    given = above stored.next;
    above = λ n e. (numbered.completes n e).1;
    parts = λ t within. next_no_part stored t numbered ∙ sym (none_acked (length h.coordination.acked) t);
    spelled = λ t bytes there. absurd (cc (sym (next_no_part stored t numbered) ∙ ap is_some there));
  }
    where
      above : (n : ℕ) → n < n + 1
      above n = omega arith

  pub pending_started_tidied : (graph : Expanded) (last : Option ℕ) (stored : Stored) (h : Held R K S) → IsNumbered stored → PendingIn lang graph (reserved (tidied last stored)) (with_started stored.next h) stored.next
  pending_started_tidied graph None stored h numbered = pending_started graph stored h numbered
  pending_started_tidied graph (Some last) stored h numbered = pending_started graph (discarded_below stored last) h (numbered_discarded stored last numbered)

  -- a store that has given out no number
  pub store_blank : (B : Type 0) (tasks : ℕ) → store_of lang (blank tasks) ≡ (durable.new_devices {R = R} {K = K} {S = S} {B = B}).store
  store_blank B tasks =
      let parts : (store_of lang (blank tasks)).parts ≡ (λ n task. None) = fun_ext (λ m. fun_ext (λ t. ap (part_in lang) (fin.get-empty key_cmp (m, t)))) in
      let line : line_of (blank tasks) ≡ [] = passing_no (is_complete (blank tasks)) 0 (set.contains-empty nat_cmp 0) in
      λ i. record { next = 1; parts = parts i; line = line i }

pub numbered_blank : (tasks : ℕ) → IsNumbered (blank tasks)
numbered_blank tasks = record {
  positive = omega arith;
  within = lit≤ tt;
  parts = λ n t there. absurd (cc (sym (ap is_some (fin.get-empty {X = List ℕ} key_cmp (n, t))) ∙ there));
  completes = λ n e. absurd (cc (sym (set.contains-empty nat_cmp n) ∙ e));
}
