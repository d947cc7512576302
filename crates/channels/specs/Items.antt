-- Lists of records and barriers.
use Rattle.std.specs.Prelude.{List, [], ◌∷◌}
use Rattle.std.specs.Borrow.{Bor}
use Rattle.channels.specs.declared.item.Item.{Item}
use Rattle.channels.specs.declared.item.Item.TheVariants.{Record, Barrier}

module _ {R : Type 0} where
  -- the records that stand before the first barrier, or all where there is none
  abbrev pub leading_records : List (Item R) → List R
  leading_records [] = []
  leading_records (Barrier checkpoint ∷ items) = []
  leading_records (Record row ∷ items) = row ∷ leading_records items

  -- an item whose record is lent
  abbrev pub item_copied : Item (Bor R) → Item R
  item_copied (Record row) = Record row.now
  item_copied (Barrier checkpoint) = Barrier checkpoint
