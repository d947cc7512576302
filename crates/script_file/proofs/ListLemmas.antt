-- A list that is read item by item, and reading that fails.
use Rattle.std.proofs.Common.{◌≡◌, ◌∙◌, ℕ, ◌+◌, ◌<◌, ◌≤◌, List, [], ◌∷◌, ◌++◌, length, drop, get_or, Result, Ok, refl, ap, add-one, drop-cons}
use Rattle.std.proofs.lemmas.List.{drop_all}
use Rattle.serde_json.specs.Data.{Data}
use Rattle.serde_json.specs.View.{view, items_view}
use Rattle.serde_json.specs.declared.value.Value.{Value}
use Rattle.script_file.specs.declared.fault.ScriptFault.{ScriptFault}
use Rattle.script_file.specs.declared.fault.ScriptFault.TheVariants as whole
use Rattle.script_file.specs.Faults.{◌>>=◌, Fails}
use Rattle.script_file.specs.Lists.{each_after}

-- what fails in its first step fails
pub fails_bind : {A B : Type 0} (e : ScriptFault) (r : Result A ScriptFault) (f : A → Result B ScriptFault) → Fails e r → Fails e (r >>= f)
fails_bind whole.Memory r f h = tt
fails_bind e r f h = ap (λ x. x >>= f) h

pub fails_along : {B : Type 0} (e : ScriptFault) (r s : Result B ScriptFault) → r ≡ s → Fails e r → Fails e s
fails_along whole.Memory r s p h = tt
fails_along e r s p h = rw (← p) h

-- the item at the front of what is left
drop_item : {X : Type 0} (xs : List X) (i : ℕ) (x : X) → i < length xs → x ≡ get_or xs i x → drop i xs ≡ x ∷ drop (i + 1) xs
drop_item xs i x within is = drop-cons xs i x within ∙ rw (← is, add-one) refl

-- the next item is read, and then those behind it
pub each_next : {A : Type 0} (read : ℕ → Data → Result A ScriptFault) (found : List A) (items : List Value) (i : ℕ) (x : Value) (n : ℕ) → n ≡ length found → i < length items → x ≡ get_or items i x
    → each_after read found (items_view (drop i items)) ≡ (read n (view x) >>= λ y. each_after read (found ++ y ∷ []) (items_view (drop (i + 1) items)))
unfolding each_after
each_next read found items i x n count within is = rw (drop_item items i x within is, count) refl

-- past the last item, what was found is all
pub each_done : {A : Type 0} (read : ℕ → Data → Result A ScriptFault) (found : List A) (items : List Value) (i : ℕ) → length items ≤ i → each_after read found (items_view (drop i items)) ≡ Ok found
unfolding each_after
each_done read found items i past = rw (drop_all i items past) refl
