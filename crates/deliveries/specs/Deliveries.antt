-- What a task sends, by the channels that it goes into.
use Rattle.std.specs.Prelude.{◌≡◌, ◌==◌, ℕ, List, [], ◌∷◌, length, map, flat_map, slice_index, IsTrue, Option, Some, None, IfSome, if◌then◌else◌}
use Rattle.channels.specs.declared.item.Item.{Item}
use Rattle.channels.specs.declared.item.Item.TheVariants.{Record, Barrier}
use Rattle.dataflow_model.specs.Graph.{Channel, Meaning}
use Rattle.job_graph.specs.Expanded.{Expanded, meets, takes, targets_of, outlets_of, outputs_of}
use Rattle.job_graph.specs.Runs.{IsRun}
use Rattle.deliveries.specs.declared.fans.Fanned.{Fanned}
use Rattle.deliveries.specs.declared.sent.Sent.{Sent}
use Rattle.deliveries.specs.declared.sent.Sent.TheVariants as sent

module _ {R : Type 0} where
  -- the barrier that a task sends into each of its outputs
  abbrev pub barriers_of : Expanded → ℕ → ℕ → List (ℕ × Item R)
  barriers_of graph task checkpoint = map (λ number. (number, Barrier checkpoint)) (outputs_of graph task)

  -- the record goes into the last of its targets, if one was met
  abbrev pub delivered_last : R → Option ℕ → List (ℕ × Item R)
  delivered_last row None = []
  delivered_last row (Some number) = (number, Record row) ∷ []

module _ {R K S O : Type 0} where
  -- one record, sent by a task on a port, goes into each of its targets
  abbrev pub deliveries_of_one : Meaning R K S O → Expanded → ℕ → ℕ × R → List (ℕ × Item R)
  deliveries_of_one meaning graph task sent = map (λ number. (number, Record sent.1)) (targets_of graph task sent.0 (meaning.lane sent.1))

  abbrev pub deliveries_of : Meaning R K S O → Expanded → ℕ → List (ℕ × R) → List (ℕ × Item R)
  deliveries_of meaning graph task sent = flat_map (deliveries_of_one meaning graph task) sent

-- where there is one channel alone, it takes each record, whatever its lane is
abbrev pub TakesEach : List Channel → List ℕ → Type 0
TakesEach channels numbers = length numbers ≡ 1 → (lane : ℕ) → IsTrue (meets (takes lane) channels (slice_index numbers 0))

-- the channels of a port, one run: each record that is sent there goes into one of them
pub record IsRunOf (graph : Expanded) (task port : ℕ) (numbers : List ℕ) : Type 0 where
  pub are : numbers ≡ outlets_of graph task port
  pub run : IsRun graph.channels numbers 0 (length numbers)
  pub each : TakesEach graph.channels numbers

-- the channels of a port, of two ports
abbrev pub numbers_at : List ℕ → List ℕ → ℕ → List ℕ
numbers_at first second port = if port == 0 then first else (if port == 1 then second else [])

module _ {R : Type 0} where
  -- records that are all sent on the first port
  abbrev pub on_first : List R → List (ℕ × R)
  on_first rows = map (λ r. (0, r)) rows

  -- what is sent, each record with its port
  abbrev pub sent_in : Sent R → List (ℕ × R)
  sent_in (sent.Each each) = each.items
  sent_in (sent.Together rows) = on_first rows.items

  -- what is sent on two ports, once for each channel of its port
  abbrev pub fanned_by : List ℕ → List ℕ → List (ℕ × R) → List (ℕ × R)
  fanned_by first second sent = flat_map (λ s. map (λ n. (n, s.1)) (numbers_at first second s.0)) sent

  -- this is what was sent, once for each channel of its port, or none of it
  abbrev pub AreFanned : List (ℕ × R) → Option (Fanned R) → Type 0
  AreFanned sent fanned = IfSome fanned (λ f. f.rows.items ≡ fanned_by f.fans.first.items f.fans.second.items sent)
