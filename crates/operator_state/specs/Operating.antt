-- The states of an operator by key, and its copy for the checkpoint that is pending.
use Rattle.std.specs.Prelude.{ℕ, List, Option}

pub record Operating (K S : Type 0) : Type 0 where
  -- the states that are seen, by rising keys
  pub entries : List (K × S)
  -- the states when it copied for the pending checkpoint, if it has
  pub copy : Option (List (K × S))
  -- how many entries of the copy are still to be spelled
  pub unspelled : ℕ
  -- how many later writes are still to be merged
  pub unmerged : ℕ
  -- the part as far as it is spelled, and what was written behind that
  pub part : List ℕ
