-- The records that stand before the barrier in a queue, and when a checkpoint can be completed.
use Rattle.std.proofs.Common.{◌≡◌, ◌≢◌, ◌<◌, ◌&&◌, ◌++◌, Option, Some, None, IsTrue, is_some, slice_get, slice_index_or, length, drop, ℕ, Bool, true, false, List, [], ◌∷◌, refl, arith}
use Rattle.std.proofs.lemmas.Bool.{false≢true}
use Rattle.std.proofs.lemmas.List.Elements.{All-from_get_or}
use Rattle.std.proofs.lemmas.Option.{none-some}
use Rattle.channels.specs.declared.item.Item.{Item}
use Rattle.channels.specs.declared.item.Item.TheVariants.{Record, Barrier}
use Rattle.coordinator.specs.Coordinator.{Coordination, IsReady, has_acked}
use Rattle.engine_model.specs.Keeps.{barriers_in}
use Rattle.engine_settling.specs.Awaiting.{leading}

-- what is put in behind a barrier changes nothing before it
pub leading_behind : {R : Type 0} (items more : List (Item R)) (n : ℕ) (rest : List ℕ) → barriers_in items ≡ n ∷ rest → leading (items ++ more) ≡ leading items
leading_behind [] more n rest e = absurd cc
leading_behind (Record r ∷ items) more n rest e = let behind : leading (items ++ more) ≡ leading items = leading_behind items more n rest e in omega (arith, behind)
leading_behind (Barrier m ∷ items) more n rest e = refl

-- where a barrier stands in a queue and a record first, one record less stands before the barrier once it is taken, whatever is put in last
pub leading_falls : {R : Type 0} (items more : List (Item R)) (row : R) (n : ℕ) → slice_get items 0 ≡ Some (Record row) → barriers_in items ≡ n ∷ [] → leading (drop 1 items ++ more) < leading items
leading_falls [] more row n head one = absurd (none-some (Record row) head)
leading_falls (Record r ∷ items) more row n head one = let behind : leading (items ++ more) ≡ leading items = leading_behind items more n [] one in omega (arith, behind)
leading_falls (Barrier m ∷ items) more row n head one = absurd cc

some_of : {A : Type 0} (o : Option A) → o ≢ None → is_some o ≡ true
some_of None e = absurd (e refl)
some_of (Some a) e = refl

second_of : (a b : Bool) → (a && b) ≡ true → b ≡ true
second_of true b e = e
second_of false b e = absurd (false≢true e)

-- a checkpoint that is pending and that every task has acknowledged can be completed
pub ready : (c : Coordination) → c.pending ≢ None → ((task : ℕ) → task < length c.acked → has_acked c task ≡ true) → IsReady c
ready c pending acked =
    (some_of c.pending pending, All-from_get_or IsTrue c.acked false (λ task within. second_of (is_some c.pending) (slice_index_or c.acked task false) (acked task within)))
