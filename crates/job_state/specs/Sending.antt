-- What stands in channels, and what is put into them.
use Rattle.std.specs.Prelude.{◌≡◌, ◌⊎◌, ◌≤◌, ◌<◌, ◌+◌, ◌==◌, ℕ, List, [], ◌∷◌, ◌++◌, All, length, drop, map, filter, slice_get, slice_set, Option, Some, None, unwrap_or, IfSome, if◌then◌else◌}
use Rattle.std.specs.Option.{option_map_or}
use Rattle.channels.specs.Channel.{Contents}
use Rattle.channels.specs.declared.item.Item.{Item}
use Rattle.channels.specs.declared.item.Item.TheVariants.{Barrier, Record}
use Rattle.dataflow_model.specs.Graph.{Channel, Meaning}
use Rattle.deliveries.specs.Deliveries.{deliveries_of, deliveries_of_one, numbers_at}
use Rattle.job_graph.specs.Expanded.{Expanded}
use Rattle.job_state.specs.declared.ready.Ready.{Ready}

-- how many of these items that wait for room in one channel are for this one
abbrev pub waiting_at : (number count : ℕ) → ℕ → ℕ
waiting_at number count k = if number == k then count else 0

module _ {R : Type 0} where
  -- what stands in a channel; nothing, if there is no such channel
  abbrev pub items_at : List (List (Item R)) → ℕ → List (Item R)
  items_at channels number = unwrap_or (slice_get channels number) []

  -- the first item of a channel is taken
  abbrev pub without_head : ℕ → List (List (Item R)) → List (List (Item R))
  without_head number channels = slice_set channels number (drop 1 (items_at channels number))

  -- of items, each with the channel that it is put into: those for a channel, in order
  abbrev pub put_into : ℕ → List (ℕ × Item R) → List (Item R)
  put_into number puts = map (λ p. p.1) (filter (λ p. p.0 == number) puts)

  -- into each channel something is put last, and nothing else changes
  pub record Puts (items : ℕ → List (Item R)) (old new : List (List (Item R))) : Type 0 where
    pub same_length : length new ≡ length old
    pub each : (number : ℕ) → items_at new number ≡ items_at old number ++ items number

  abbrev pub contents_items : List (Contents R) → List (List (Item R))
  contents_items channels = map (λ c. c.items) channels

  -- so many items go into a channel without memory
  abbrev pub room_at : List (Contents R) → ℕ → ℕ
  room_at channels number = option_map_or (λ c. c.room) (slice_get channels number) 0

  -- each channel has room for those of these that are for it
  abbrev pub HasRoom : List (Contents R) → List (ℕ × Item R) → Type 0
  HasRoom channels puts = (number : ℕ) → length (put_into number puts) ≤ room_at channels number

  -- records, each with the channel that it is put into, as items
  abbrev pub as_puts : List (ℕ × R) → List (ℕ × Item R)
  as_puts rows = map (λ p. (p.0, Record p.1)) rows

  -- records that are all put into one channel
  abbrev pub into_one : ℕ → List R → List (ℕ × Item R)
  into_one number rows = map (λ r. (number, Record r)) rows

  -- a channel takes so many records: nothing stands in it, or it has room for them
  abbrev pub TakesAll : List (Contents R) → ℕ → ℕ → Type 0
  TakesAll channels number count = (number < length channels) × ((items_at (contents_items channels) number ≡ []) ⊎ (count ≤ room_at channels number))

  abbrev pub AreChannels : ℕ → List (ℕ × Item R) → Type 0
  AreChannels count puts = All (λ p. p.0 < count) puts

  -- the barrier that goes into a channel, if the channel is there and the task sends into it
  abbrev pub barrier_into : ℕ → ℕ → Option Channel → List (Item R)
  barrier_into checkpoint task None = []
  barrier_into checkpoint task (Some channel) = if channel.sender == task then Barrier checkpoint ∷ [] else []

-- a record that the task sends on its first port goes into this channel, and no other
abbrev pub GoesInto : {R K S O : Type 0} → Meaning R K S O → Expanded → ℕ → ℕ → R → Type 0
GoesInto meaning graph task number row = deliveries_of meaning graph task ((0, row) ∷ []) ≡ (number, Record row) ∷ []

-- the lanes of what is sent, one for each record, or none: then nothing is told of them
abbrev pub AreLanes : {R K S O : Type 0} → Meaning R K S O → List (ℕ × R) → List ℕ → Type 0
AreLanes meaning sent lanes = (lanes ≡ []) ⊎ (lanes ≡ map (λ s. meaning.lane s.1) sent)

-- what the task sends is one record, which goes into this channel, and no other
abbrev pub IsOneInto : {R K S O : Type 0} → Meaning R K S O → Expanded → ℕ → ℕ → List (ℕ × R) → Type 0
IsOneInto {R} meaning graph task number sent = (port : ℕ) × (row : R) × (sent ≡ (port, row) ∷ []) × (deliveries_of meaning graph task sent ≡ (number, Record row) ∷ [])

-- what is known of a port, of two ports
abbrev pub known_at : {A : Type 0} → Option A → Option A → ℕ → Option A
known_at first second port = if port == 0 then first else (if port == 1 then second else None)

-- whatever a task sends on one of two ports goes into all of the port's channels
abbrev pub GoToAll : {R K S O : Type 0} → Meaning R K S O → Expanded → ℕ → List ℕ → List ℕ → Type 0
GoToAll {R} meaning graph task first second = (port : ℕ) (row : R) → port < 2 → deliveries_of_one meaning graph task (port, row) ≡ map (λ n. (n, Record row)) (numbers_at first second port)

-- how many of those are for this channel, of which so many wait for room in each of these
abbrev pub waiting_in : List ℕ → ℕ → ℕ → ℕ
waiting_in [] count k = 0
waiting_in (number ∷ numbers) count k = waiting_at number count k + waiting_in numbers count k

module _ {R : Type 0} where
  -- what a task sends, each with the channel that it is put into
  abbrev pub puts_of : Ready R → List (ℕ × Item R)
  puts_of (Ready.One number row) = (number, Record row) ∷ []
  puts_of (Ready.Together number rows) = into_one number rows.items
  puts_of (Ready.Rows rows) = as_puts rows.items
  puts_of (Ready.Each puts) = puts.items

  -- the channels take what a task sends without memory
  abbrev pub HasPlace : List (Contents R) → Ready R → Type 0
  HasPlace channels (Ready.One number row) = HasRoom channels ((number, Record row) ∷ [])
  HasPlace channels (Ready.Together number rows) = TakesAll channels number (length rows.items)
  HasPlace channels (Ready.Rows rows) = HasRoom channels (as_puts rows.items)
  HasPlace channels (Ready.Each puts) = HasRoom channels puts.items
