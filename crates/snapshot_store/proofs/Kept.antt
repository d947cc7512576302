-- What a store in memory keeps, call by call.
use Rattle.std.proofs.Common.{◌≡◌, ◌≤◌, ◌<◌, ◌≢◌, ℕ, zero, suc, Bool, true, false, cond, List, [], Option, None, Some, Result, Ok, Err, refl, sym, ap, subst, ◌∙◌, arith, lit≤, ⊎_elim}
use Rattle.std.specs.Prelude.{IsSome, OnOk, OnErr, ◌&&◌, ◌||◌, filter, if◌then◌else◌, is_some, not, nat_lt}
use Rattle.std.specs.List.{list_any}
use Rattle.std.specs.Ordering.{nat_cmp, eq_by_cmp}
use Rattle.std.specs.Cmp.{nat_cmp_total}
use Rattle.std.specs.FinMap as fin
use Rattle.std.specs.FinSet as set
use Rattle.std.proofs.Math.Bool.{and-false}
use Rattle.std.proofs.lemmas.Bool.{ltb-true}
use Rattle.std.proofs.lemmas.Bool.Decides.{eqb_tells}
use Rattle.snapshot_store.specs.declared.store.StoreFault.{StoreFault}
use Rattle.snapshot_store.specs.declared.store.StoreFault.TheVariants.{NoSuchNumber}
use Rattle.snapshot_store.specs.Store.{Stored, all_below, blank, is_complete, is_reserved, key_cmp, put_refusal}
use Rattle.snapshot_store.specs.StoreLaws.{key_cmp_total}
use Rattle.snapshot_store.specs.Lists.{WasGiven}
use Rattle.snapshot_store.specs.Memory.{IsKept, IsNoted, Noted, Parts, complete_of, memory_state}
use Rattle.snapshot_store.proofs.Held.{is_equal, key_same}
use Rattle.snapshot_store.proofs.Noted.{any-filter}

-- a test of all numbers below a bound fails where it fails at one
pub all_below_fails : (p : ℕ → Bool) (n k : ℕ) → k < n → p k ≡ false → all_below p n ≡ false
all_below_fails p zero k lt fails = absurd (omega arith)
all_below_fails p (suc n) k lt fails = ⊎_elim
    (λ same. ap (λ b. b && all_below p n) (ap p (sym same.1) ∙ fails))
    (λ other. let ne : k ≢ n = other.1 in let below : k < n = omega arith in ap (λ b. p n && b) (all_below_fails p n k below fails) ∙ and-false (p n))
    (eqb_tells k n)

first_true : (a b : Bool) → (a && b) ≡ true → a ≡ true
first_true true b e = refl
first_true false b e = e

second_true : (a b : Bool) → (a && b) ≡ true → b ≡ true
second_true true b e = e
second_true false b e = absurd (cc e)

admitted : (b : Bool) (refusal : Option StoreFault) → (if b then refusal else Some NoSuchNumber) ≡ None → b ≡ true
admitted true refusal e = refl
admitted false refusal e = absurd (cc e)

-- a part that may be put is of a number that was given out, and of a task
pub may_put : (s : Stored) (n t : ℕ) → put_refusal s n t ≡ None → WasGiven s.next n × (t < s.tasks)
may_put s n t may =
    let all = admitted (is_reserved s n && (not (is_complete s n) && nat_lt t s.tasks)) _ may in
    let given = first_true (is_reserved s n) (not (is_complete s n) && nat_lt t s.tasks) all in
    let of_task = second_true (not (is_complete s n)) (nat_lt t s.tasks) (second_true (is_reserved s n) (not (is_complete s n) && nat_lt t s.tasks) all) in
    ((ltb-true 0 n (first_true (nat_lt 0 n) (nat_lt n s.next) given), ltb-true n s.next (second_true (nat_lt 0 n) (nat_lt n s.next) given)), ltb-true t s.tasks of_task)

first_of_all : (p : ℕ → Bool) (n : ℕ) → 1 ≤ n → all_below p n ≡ true → p 0 ≡ true
first_of_all p zero some all = absurd (omega arith)
first_of_all p (suc zero) some all = first_true (p 0) true all
first_of_all p (suc (suc n)) some all = first_of_all p (suc n) (omega arith) (second_true (p (suc n)) (all_below p (suc n)) all)

pub kept_new : (tasks : ℕ) → 1 ≤ tasks → IsKept tasks 1 fin.empty (record { complete = []; pending = [] })
kept_new tasks some = record {
  some_task = some;
  positive = omega arith;
  within = lit≤ tt;
  part = λ n t there. absurd (cc (ap is_some (fin.get-empty {X = List ℕ} key_cmp (n, t)), there));
  complete = λ n there. absurd (cc (set.contains-empty nat_cmp n, there));
}

module _ (tasks next : ℕ) (parts : Parts) (numbers : Noted) (k : IsKept tasks next parts numbers) where
  no_parts : next ≡ 1 → parts ≡ fin.empty
  no_parts one = fin.same_map key_cmp_total key_same parts fin.empty (λ q. nothing q (fin.get parts q) refl ∙ sym (fin.get-empty key_cmp q))
    where
      nothing : (q : ℕ × ℕ) (o : Option (List ℕ)) → fin.get parts q ≡ o → o ≡ None
      nothing q None e = refl
      nothing q (Some v) e = let given : WasGiven next q.0 = (k.part q.0 q.1 (ap is_some e)).0 in absurd (omega arith)

  no_complete : next ≡ 1 → complete_of numbers ≡ set.empty
  no_complete one = set.same_set nat_cmp_total set.nat_cmp-IsAntisymmetric (complete_of numbers) set.empty (λ q. nothing q (set.contains (complete_of numbers) q) refl ∙ sym (set.contains-empty nat_cmp q))
    where
      nothing : (n : ℕ) (b : Bool) → set.contains (complete_of numbers) n ≡ b → b ≡ false
      nothing n false e = refl
      nothing n true e = let given : WasGiven next n = k.complete n e in absurd (omega arith)

  -- a store that has given out no number is blank
  pub blank_at_one : next ≡ 1 → memory_state tasks next parts numbers ≡ blank tasks
  blank_at_one one = λ i. record { tasks = tasks; next = one i; parts = no_parts one i; complete = no_complete one i }

  -- a number that is complete, or has all its parts, is noted
  pub noted_if : (n : ℕ) → (set.contains (complete_of numbers) n || all_below (λ t. is_some (fin.get parts (n, t))) tasks) ≡ true → IsNoted numbers n
  noted_if n can = one (set.contains (complete_of numbers) n) refl can
    where
      one : (b : Bool) → set.contains (complete_of numbers) n ≡ b → (b || all_below (λ t. is_some (fin.get parts (n, t))) tasks) ≡ true → IsNoted numbers n
      one true e all = ap (λ b. b || list_any (eq_by_cmp nat_cmp n) numbers.pending) e
      one false e all = (k.part n 0 (first_of_all (λ t. is_some (fin.get parts (n, t))) tasks k.some_task all)).2

  -- after a part was put, or could not be put for want of memory, of a number for which there is a place
  pub kept_put : (new : Parts) (noted : Noted) (n t : ℕ) (bytes : List ℕ) {E : Type 0} (result : Result (Unit {0}) E)
      → OnOk result (new ≡ fin.insert parts (n, t) bytes) → OnErr result (new ≡ parts)
      → noted.complete ≡ numbers.complete → IsNoted noted n → ((m : ℕ) → IsNoted numbers m → IsNoted noted m)
      → 1 ≤ n → n < next → t < tasks → IsKept tasks next new noted
  kept_put new noted n t bytes result ok err same there keeps low high below = record {
    some_task = k.some_task;
    positive = k.positive;
    within = k.within;
    part = λ m u has. in_range m u result ok err has;
    complete = λ m has. k.complete m (ap (λ ks. set.contains (set.from_list {R = nat_cmp} ks) m) (sym same) ∙ has);
  }
    where
      old_one : (m u : ℕ) → IsSome (fin.get parts (m, u)) → WasGiven next m × (u < tasks) × IsNoted noted m
      old_one m u has = ((k.part m u has).0, (k.part m u has).1, keeps m (k.part m u has).2)

      new_one : (m u : ℕ) (b : Bool) → eq_by_cmp key_cmp (m, u) (n, t) ≡ b → IsSome (cond b (Some bytes) (fin.get parts (m, u))) → WasGiven next m × (u < tasks) × IsNoted noted m
      new_one m u false e has = old_one m u has
      new_one m u true e has =
          let it : (m, u) ≡ (n, t) = key_same (m, u) (n, t) (is_equal (key_cmp (m, u) (n, t)) e) in
          subst (λ (q : ℕ × ℕ). WasGiven next q.0 × (q.1 < tasks) × IsNoted noted q.0) (sym it) ((low, high), below, there)

      in_range : (m u : ℕ) {E : Type 0} (result : Result (Unit {0}) E) → OnOk result (new ≡ fin.insert parts (n, t) bytes) → OnErr result (new ≡ parts)
          → IsSome (fin.get new (m, u)) → WasGiven next m × (u < tasks) × IsNoted noted m
      in_range m u (Ok v) ok err has = new_one m u (eq_by_cmp key_cmp (m, u) (n, t)) refl (subst IsSome (ap (λ f. fin.get f (m, u)) ok ∙ fin.get-insert key_cmp_total parts (n, t) bytes (m, u)) has)
      in_range m u (Err x) ok err has = old_one m u (subst IsSome (ap (λ f. fin.get f (m, u)) err) has)

  -- after a number was made complete
  pub kept_marked : (new : Noted) (n : ℕ) → complete_of new ≡ set.insert (complete_of numbers) n → ((m : ℕ) → IsNoted numbers m → IsNoted new m) → 1 ≤ n → n < next → IsKept tasks next parts new
  kept_marked new n marked keeps low high = record {
    some_task = k.some_task;
    positive = k.positive;
    within = k.within;
    part = λ m t there. ((k.part m t there).0, (k.part m t there).1, keeps m (k.part m t there).2);
    complete = λ m there. one m (eq_by_cmp nat_cmp m n) refl (sym (ap (λ s. set.contains s m) marked ∙ set.contains-insert nat_cmp_total (complete_of numbers) n m) ∙ there);
  }
    where
      one : (m : ℕ) (b : Bool) → eq_by_cmp nat_cmp m n ≡ b → (b || set.contains (complete_of numbers) m) ≡ true → WasGiven next m
      one m true e has = subst (WasGiven next) (sym (set.nat_cmp-IsAntisymmetric m n (is_equal (nat_cmp m n) e))) (low, high)
      one m false e has = k.complete m has

  -- after the numbers below were forgotten, and their parts dropped
  pub kept_dropped : (n : ℕ) → IsKept tasks next (fin.retain_keys parts (λ q. not (nat_lt q.0 n))) (record { complete = numbers.complete; pending = filter (λ m. not (nat_lt m n)) numbers.pending })
  kept_dropped n = record {
    some_task = k.some_task;
    positive = k.positive;
    within = k.within;
    part = λ m t there. one m t (not (nat_lt m n)) refl
        (subst IsSome (fin.get-retain_keys parts (λ q. not (nat_lt q.0 n)) (m, t) (λ x e. ap (λ q. not (nat_lt q.0 n)) (sym (key_same (m, t) x e)))) there);
    complete = k.complete;
  }
    where
      stays : (m : ℕ) → not (nat_lt m n) ≡ true → IsNoted numbers m → IsNoted (record { complete = numbers.complete; pending = filter (λ x. not (nat_lt x n)) numbers.pending }) m
      stays m passes noted = ap (λ b. set.contains (complete_of numbers) m || b) (any-filter (λ x. not (nat_lt x n)) m numbers.pending ∙ ap (λ b. list_any (eq_by_cmp nat_cmp m) numbers.pending && b) passes) ∙ two (set.contains (complete_of numbers) m) (list_any (eq_by_cmp nat_cmp m) numbers.pending) noted
        where
          two : (a b : Bool) → (a || b) ≡ true → (a || (b && true)) ≡ true
          two true b e = refl
          two false true e = refl
          two false false e = e

      one : (m t : ℕ) (b : Bool) → not (nat_lt m n) ≡ b → IsSome (cond b (fin.get parts (m, t)) None)
          → WasGiven next m × (t < tasks) × IsNoted (record { complete = numbers.complete; pending = filter (λ x. not (nat_lt x n)) numbers.pending }) m
      one m t true e there = ((k.part m t there).0, (k.part m t there).1, stays m e (k.part m t there).2)
      one m t false e there = absurd (cc there)
