-- A record that was put into each of its targets.
use Rattle.std.proofs.Common.{◌≡◌, ◌≤◌, ◌+◌, ℕ, Bool, List, [], ◌∷◌, ◌++◌, length, map, filter, take, drop, Option, Some, None, IfSome, sym, ap, ap₂, ◌∙◌, append_assoc, arith}
use Rattle.std.specs.Option.{option_to_list}
use Rattle.std.proofs.Math.Seq.{take-add}
use Rattle.std.proofs.lemmas.List.{take_all, map_push, append-nil}
use Rattle.std.proofs.lemmas.List.Elements.{filter-append}
use Rattle.channels.specs.declared.item.Item.{Item}
use Rattle.channels.specs.declared.item.Item.TheVariants.{Record}
use Rattle.dataflow_model.specs.Graph.{Meaning}
use Rattle.job_graph.specs.Expanded.{Expanded, meets, takes, outlets_of}
use Rattle.job_graph.proofs.Targets.{targets_are}
use Rattle.deliveries.specs.Deliveries.{delivered_last, deliveries_of_one}

-- what passes up to the end of the next run
pub through_run : (test : ℕ → Bool) (place run : ℕ) (numbers : List ℕ) (found : List ℕ) → filter test (take run (drop place numbers)) ≡ found → filter test (take (place + run) numbers) ≡ filter test (take place numbers) ++ found
through_run test place run numbers found is =
    ap (filter test) (take-add place run numbers) ∙ filter-append test (take place numbers) (take run (drop place numbers)) ∙ ap (λ l. filter test (take place numbers) ++ l) is

-- one more target has the record
pub one_more : {X : Type 0} (put : ℕ → X) (before had : List X) (targets : List ℕ) (number : ℕ) → had ≡ before ++ map put targets → had ++ put number ∷ [] ≡ before ++ map put (targets ++ number ∷ [])
one_more {X} put before had targets number is =
    ap (λ (l : List X). l ++ put number ∷ []) is ∙ append_assoc before (map put targets) (put number ∷ []) ∙ ap (λ (l : List X). before ++ l) (sym (map_push put targets number))

module _ {R : Type 0} (row : R) (before puts puts' : List (ℕ × Item R)) (last last' : Option ℕ) (met met' : List ℕ) where
  abbrev put : ℕ → ℕ × Item R
  put n = (n, Record row)

  -- where the next run has a target
  pub met_one : (number : ℕ) → met' ≡ met ++ number ∷ [] → last' ≡ Some number → puts' ≡ puts ++ delivered_last row last → puts ++ delivered_last row last ≡ before ++ map put met → puts' ++ delivered_last row last' ≡ before ++ map put met'
  met_one number more is grown held =
      ap₂ (λ (l : List (ℕ × Item R)) (o : Option ℕ). l ++ delivered_last row o) grown is ∙ one_more put before (puts ++ delivered_last row last) met number held
      ∙ ap (λ l. before ++ map put l) (sym more)

  -- where it has none
  pub met_none : met' ≡ met ++ [] → last' ≡ last → puts' ≡ puts → puts ++ delivered_last row last ≡ before ++ map put met → puts' ++ delivered_last row last' ≡ before ++ map put met'
  met_none more is same held =
      ap₂ (λ (l : List (ℕ × Item R)) (o : Option ℕ). l ++ delivered_last row o) same is ∙ held ∙ ap (λ l. before ++ map put l) (sym (more ∙ append-nil met))

module _ {R K S O : Type 0} where
  -- the last target has the record itself, the others have copies
  pub delivered : (meaning : Meaning R K S O) (graph : Expanded) (task port : ℕ) (row : R) (items : List ℕ) (index : ℕ) (before puts : List (ℕ × Item R)) (last : Option ℕ) →
      items ≡ outlets_of graph task port → length items ≤ index →
      puts ++ delivered_last row last ≡ before ++ map (λ n. (n, Record row)) (filter (meets (takes (meaning.lane row)) graph.channels) (take index items)) →
      puts ++ delivered_last row last ≡ before ++ deliveries_of_one meaning graph task (port, row)
  delivered meaning graph task port row items index before puts last are all e =
      e ∙ ap (λ l. before ++ map (λ n. (n, Record row)) (filter (meets (takes (meaning.lane row)) graph.channels) l)) (take_all index items all ∙ are)
      ∙ ap (λ l. before ++ map (λ n. (n, Record row)) l) (sym (targets_are graph task port (meaning.lane row)))

module _ {R K S O : Type 0} (meaning : Meaning R K S O) (graph : Expanded) (task port : ℕ) (row : R) where
  -- of a port that is one run, what takes the lane are the record's targets
  pub run_delivers : (numbers found : List ℕ) → numbers ≡ outlets_of graph task port → filter (meets (takes (meaning.lane row)) graph.channels) (take (length numbers) (drop 0 numbers)) ≡ found → deliveries_of_one meaning graph task (port, row) ≡ map (λ n. (n, Record row)) found
  run_delivers numbers found are is =
      let all : length numbers ≤ length numbers = omega arith in
      ap (λ l. map (λ n. (n, Record row)) l)
      (targets_are graph task port (meaning.lane row) ∙ ap (filter (meets (takes (meaning.lane row)) graph.channels)) (sym are)
      ∙ ap (filter (meets (takes (meaning.lane row)) graph.channels)) (sym (take_all (length numbers) numbers all)) ∙ is)

  -- where there is one, it has the record
  pub sole_delivery : (target : Option ℕ) → deliveries_of_one meaning graph task (port, row) ≡ map (λ n. (n, Record row)) (option_to_list target) → IfSome target (λ number. deliveries_of_one meaning graph task (port, row) ++ [] ≡ (number, Record row) ∷ [])
  sole_delivery None is = tt
  sole_delivery (Some number) is = append-nil (deliveries_of_one meaning graph task (port, row)) ∙ is

  -- the channel that a record goes into, if there is one
  pub goes_into : (target : Option ℕ) → deliveries_of_one meaning graph task (port, row) ≡ map (λ n. (n, Record row)) (option_to_list target) → deliveries_of_one meaning graph task (port, row) ≡ delivered_last row target
  goes_into None is = is
  goes_into (Some number) is = is
