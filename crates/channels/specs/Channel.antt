-- What a channel holds.
use Rattle.std.specs.Prelude.{ℕ, List}
use Rattle.channels.specs.declared.item.Item.{Item}

pub record Contents (R : Type 0) : Type 0 where
  -- what was sent and not yet taken, in the order of sending
  pub items : List (Item R)
  -- for how many items more room was taken: the channel takes them without memory
  pub room : ℕ
