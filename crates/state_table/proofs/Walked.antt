-- Entries that are walked by rising keys, and put into a map one after another.
use Rattle.std.proofs.Common.{◌≡◌, ℕ, Bool, true, false, cond, List, [], ◌∷◌, ◌++◌, filter, Ordering, refl, sym, ap, subst, ◌∙◌, append_assoc}
use Rattle.std.specs.BTreeMap.{insert_entry}
use Rattle.std.specs.Cmp.{IsTotalOrder}
use Rattle.std.specs.List.{AllByRecursion}
use Rattle.std.specs.List.Sorted.{IsStrictlySortedBy}
use Rattle.std.specs.Map.{keys_of}
use Rattle.std.specs.Ordering.{match_ordering, ordering_reverse}
use Rattle.std.specs.declared.cmp.Ordering.TheVariants.{Less, Greater}
use Rattle.state_table.specs.Slots.{entries_in, HasSlot}
use Rattle.state_table.specs.declared.table.Slot.{Slot}
use Rattle.state_table.proofs.Places.{entries-cons, state_of_slot}

-- what passes everything leaves nothing out
pub all_pass : {X : Type 0} (test : X → Bool) (xs : List X) → ((x : X) → test x ≡ true) → filter test xs ≡ xs
all_pass test [] passes = refl
all_pass test (x ∷ xs) passes = rw (passes x) (ap (λ l. x ∷ l) (all_pass test xs passes))

module _ {K S : Type 0} (test : K → Bool) (slots : List (Slot K S)) where
  -- those of some keys
  pub some_slots : (places : List (K × ℕ)) → AllByRecursion (HasSlot slots) places → AllByRecursion (HasSlot slots) (filter (λ e. test e.0) places)
  some_slots [] all = tt
  some_slots (e ∷ places) all = by (test e.0) (some_slots places all.1)
    where
      by : (b : Bool) → AllByRecursion (HasSlot slots) (filter (λ e. test e.0) places) → AllByRecursion (HasSlot slots) (cond b (e ∷ filter (λ e. test e.0) places) (filter (λ e. test e.0) places))
      by true rest = (all.0, rest)
      by false rest = rest

  pub some_entries : (places : List (K × ℕ)) → AllByRecursion (HasSlot slots) places → entries_in slots (filter (λ e. test e.0) places) ≡ filter (λ e. test e.0) (entries_in slots places)
  some_entries [] all = refl
  some_entries (e ∷ places) all =
      by (test e.0) refl (some_entries places all.1) ∙ sym (ap (filter (λ (e : K × S). test e.0)) (entries-cons slots e places all.0.0 (state_of_slot slots e all.0)))
    where
      by : (b : Bool) → test e.0 ≡ b → entries_in slots (filter (λ e. test e.0) places) ≡ filter (λ e. test e.0) (entries_in slots places)
          → entries_in slots (cond b (e ∷ filter (λ e. test e.0) places) (filter (λ e. test e.0) places)) ≡ cond b ((e.0, all.0.0) ∷ filter (λ e. test e.0) (entries_in slots places)) (filter (λ e. test e.0) (entries_in slots places))
      by true p rest = entries-cons slots e (filter (λ e. test e.0) places) all.0.0 (state_of_slot slots e all.0) ∙ ap (λ (l : List (K × S)). (e.0, all.0.0) ∷ l) rest
      by false p rest = rest

module _ {K S : Type 0} {cmp : K → K → Ordering} (order : IsTotalOrder cmp) where
  -- an entry above all others is put last
  put_last : (front : List (K × S)) (k : K) (v : S) → AllByRecursion (λ q. cmp k q ≡ Greater) (keys_of front) → insert_entry cmp front k v ≡ front ++ (k, v) ∷ []
  put_last [] k v above = refl
  put_last (e ∷ front) k v above = ap (λ (r : Ordering). match_ordering r ((k, v) ∷ e ∷ front) ((e.0, v) ∷ front) (e ∷ insert_entry cmp front k v)) above.0 ∙ ap (λ (l : List (K × S)). e ∷ l) (put_last front k v above.1)

  below_next : (e : K × S) (front rest : List (K × S)) (f : K) → AllByRecursion (λ y. cmp f y ≡ Less) (keys_of (front ++ e ∷ rest)) → cmp e.0 f ≡ Greater
  below_next e [] rest f above = order.antisymm e.0 f ∙ ap ordering_reverse above.0
  below_next e (x ∷ front) rest f above = below_next e front rest f above.1

  all_below : (front rest : List (K × S)) (e : K × S) → IsStrictlySortedBy cmp (keys_of (front ++ e ∷ rest)) → AllByRecursion (λ q. cmp e.0 q ≡ Greater) (keys_of front)
  unfolding IsStrictlySortedBy
  all_below [] rest e rises = tt
  all_below (x ∷ front) rest e rises = (below_next e front rest x.0 rises.0, all_below front rest e rises.1)

  -- the next of rising entries is put behind those that were put
  pub next_put : (front rest after whole : List (K × S)) (e : K × S) → IsStrictlySortedBy cmp (keys_of whole) → front ++ e ∷ rest ≡ whole → after ≡ insert_entry cmp front e.0 e.1 → after ++ rest ≡ whole
  next_put front rest after whole e rises all put =
      ap (λ l. l ++ rest) (put ∙ put_last front e.0 e.1 (all_below front rest e (subst (λ l. IsStrictlySortedBy cmp (keys_of l)) (sym all) rises))) ∙ append_assoc front (e ∷ []) rest ∙ all
