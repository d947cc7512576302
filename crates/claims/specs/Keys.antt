-- The states under several keys.
use Rattle.std.specs.Prelude.{◌≡◌, List, [], ◌∷◌, Option, Some, is_some, true, if◌then◌else◌}
use Rattle.std.specs.BTreeMap.{insert_entry}
use Rattle.std.specs.List.{IsAmong}
use Rattle.std.specs.declared.cmp.Ordering.{Ordering}
use Rattle.abs_codec.specs.Entries.{value_at}
use Rattle.dataflow_model.specs.Graph.{Meaning}
use Rattle.claims.specs.declared.states.Kept.{Kept}
use Rattle.claims.specs.declared.states.Kept.TheVariants as kept

module _ {K S : Type 0} (cmp : K → K → Ordering) where
  -- these states and that under this key, which it has among the entries, each once
  abbrev pub with_key : (entries : List (K × S)) → (states : List (K × Option S)) → K → List (K × Option S)
  with_key entries states key = if is_some (value_at cmp states key) then states else insert_entry cmp states key (value_at cmp entries key)

  -- these states, and those under these keys
  abbrev pub with_keys : (entries : List (K × S)) → (states : List (K × Option S)) → List K → List (K × Option S)
  with_keys entries states [] = states
  with_keys entries states (key ∷ keys) = with_keys entries (with_key entries states key) keys

  -- the states under these keys: each key once, by rising keys, with its state among the entries
  abbrev pub states_under : (entries : List (K × S)) → List K → List (K × Option S)
  states_under entries keys = with_keys entries [] keys

  -- each key of the entries has a place among the states
  abbrev pub HavePlaces : List (K × S) → List (K × Option S) → Type 0
  HavePlaces entries states = (key : K) → is_some (value_at cmp entries key) ≡ true → is_some (value_at cmp states key) ≡ true

  -- the states, however they are kept
  abbrev pub states_kept : Kept K S → List (K × Option S)
  states_kept (kept.Copied states) = states
  states_kept (kept.Lent keys entries) = states_under entries keys.items

-- the record's key, if it has one, is among these
abbrev pub HasItsKey : {R K S O : Type 0} → Meaning R K S O → O → List K → R → Type 0
HasItsKey meaning operator keys row = (key : _) → meaning.key operator row ≡ Some key → IsAmong keys key
