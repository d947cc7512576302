-- The calls of a store that may fail, by number.
use Rattle.std.specs.Prelude.{ℕ}
use Rattle.snapshot_store.specs.declared.flaky_store.StoreCall.{StoreCall}
use Rattle.snapshot_store.specs.declared.flaky_store.StoreCall.TheVariants.{Reserve, Put, Complete, Latest, Get, DiscardBelow}

abbrev pub call_number : StoreCall → ℕ
call_number Reserve = 0
call_number Put = 1
call_number Complete = 2
call_number Latest = 3
call_number Get = 4
call_number DiscardBelow = 5
