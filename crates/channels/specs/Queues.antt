-- The two queues that a channel is made of.
use Rattle.std.specs.Prelude.{ℕ, List, [], ◌∷◌, ◌++◌, map, take, drop}
use Rattle.std.specs.List.{sum_by}
use Rattle.channels.specs.declared.item.Item.{Item}
use Rattle.channels.specs.declared.item.Item.TheVariants.{Record, Barrier}
use Rattle.channels.specs.declared.spaced_barrier.SpacedBarrier.{SpacedBarrier}

-- how many records stand before the last of these barriers
abbrev pub gaps : List SpacedBarrier → ℕ
gaps barriers = sum_by (λ b. b.gap) barriers

-- the records with the barriers among them, each behind its gap
abbrev pub interleaved : {R : Type 0} → List SpacedBarrier → List R → List (Item R)
interleaved [] records = map Record records
interleaved (b ∷ barriers) records = map Record (take b.gap records) ++ Barrier b.checkpoint ∷ interleaved barriers (drop b.gap records)
