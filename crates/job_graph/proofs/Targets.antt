-- The channels of a port among those that a task sends on, and those that a record goes into among those of its port.
use Rattle.std.proofs.Common.{◌≡◌, ℕ, ◌&&◌, Bool, true, false, cond, List, [], ◌∷◌, length, Option, Some, None, slice_get, refl, ap}
use Rattle.std.specs.List.{filter, range_with_len}
use Rattle.std.specs.Option.{option_map_or}
use Rattle.dataflow_model.specs.Graph.{Channel}
use Rattle.job_graph.specs.Expanded.{Expanded, meets, numbers_of, takes, is_on, is_output, is_outlet, is_target, targets_of, outlets_of}

filter_both : (p q r : ℕ → Bool) (xs : List ℕ) → ((k : ℕ) → r k ≡ (q k && p k)) → filter r xs ≡ filter p (filter q xs)
filter_both p q r [] both = refl
filter_both p q r (x ∷ xs) both = by (q x) (p x) refl refl (both x) (filter_both p q r xs both)
  where
    by : (b c : Bool) → q x ≡ b → p x ≡ c → r x ≡ (q x && p x) → filter r xs ≡ filter p (filter q xs) → cond (r x) (x ∷ filter r xs) (filter r xs) ≡ filter p (cond (q x) (x ∷ filter q xs) (filter q xs))
    by true true one two e h = rw (e, one, two) (ap (λ l. x ∷ l) h)
    by true false one two e h = rw (e, one, two) h
    by false c one two e h = rw (e, one) h

pub targets_are : (graph : Expanded) (task port lane : ℕ) → targets_of graph task port lane ≡ filter (meets (takes lane) graph.channels) (outlets_of graph task port)
targets_are graph task port lane =
    filter_both (meets (takes lane) graph.channels) (meets (is_outlet task port) graph.channels) (meets (is_target task port lane) graph.channels) (range_with_len 0 (length graph.channels)) (λ k. by (slice_get graph.channels k))
  where
    by : (o : Option Channel) → option_map_or (is_target task port lane) o false ≡ (option_map_or (is_outlet task port) o false && option_map_or (takes lane) o false)
    by None = refl
    by (Some c) = refl

pub outlets_are : (channels : List Channel) (task port : ℕ) → numbers_of (is_outlet task port) channels ≡ filter (meets (is_on port) channels) (numbers_of (is_output task) channels)
outlets_are channels task port =
    filter_both (meets (is_on port) channels) (meets (is_output task) channels) (meets (is_outlet task port) channels) (range_with_len 0 (length channels)) (λ k. by (slice_get channels k))
  where
    by : (o : Option Channel) → option_map_or (is_outlet task port) o false ≡ (option_map_or (is_output task) o false && option_map_or (is_on port) o false)
    by None = refl
    by (Some c) = refl
