-- What an operator sends along a list of records.
use Rattle.std.proofs.Common.{◌≡◌, ℕ, ◌+◌, ◌==◌, ◌&&◌, Bool, List, [], ◌∷◌, ◌++◌, map, filter, take, drop, slice_get, Option, Some, refl, sym, ap, ap₂, ◌∙◌, append_assoc, take-suc, add-one}
use Rattle.std.proofs.lemmas.Option.{none-some, same_Some, slice_get_within, get_or_from_slice_get}
use Rattle.std.proofs.Math.Bool.{and-true}
use mathlib.Core.Path.{fun_ext}
use Rattle.dataflow_model.specs.Graph.{Meaning, Route, takes_lane, admitted}
use Rattle.engine_lines.specs.Line.{on_first_port, outcome_under, states_after, sent_along, states_along, line_channel, TakesAll}
use Rattle.engine_lines.specs.PlainLaws.{OneForEach}

pub take_more : {A : Type 0} (xs : List A) (i : ℕ) (x : A) → slice_get xs i ≡ Some x → take (i + 1) xs ≡ take i xs ++ x ∷ []
take_more xs i x h = rw add-one (take-suc xs i x (slice_get_within xs i x h) ∙ ap (λ y. take i xs ++ y ∷ []) (get_or_from_slice_get xs i x x h))

pub first_and_rest : {A : Type 0} (xs : List A) (x : A) → slice_get xs 0 ≡ Some x → xs ≡ x ∷ drop 1 xs
first_and_rest [] x h = absurd (none-some x h)
first_and_rest (y ∷ xs) x h = ap (λ z. z ∷ xs) (same_Some y x h)

module _ {R K S O : Type 0} (meaning : Meaning R K S O) (operator : O) where
  pub sent_along-append : (states : K → Option S) (xs ys : List R) → sent_along meaning operator states (xs ++ ys) ≡ sent_along meaning operator states xs ++ sent_along meaning operator (states_along meaning operator states xs) ys
  sent_along-append states [] ys = refl
  sent_along-append states (r ∷ xs) ys =
      let first = on_first_port (outcome_under meaning operator states r).sent in
      let next = states_after meaning operator states r in
      ap (λ l. first ++ l) (sent_along-append next xs ys)
      ∙ sym (append_assoc first (sent_along meaning operator next xs) (sent_along meaning operator (states_along meaning operator next xs) ys))

  pub states_along-append : (states : K → Option S) (xs ys : List R) → states_along meaning operator states (xs ++ ys) ≡ states_along meaning operator (states_along meaning operator states xs) ys
  states_along-append states [] ys = refl
  states_along-append states (r ∷ xs) ys = states_along-append (states_after meaning operator states r) xs ys

  -- what a channel of the line admits
  pub admitted-line : (sender : ℕ) (route : Route) (sent : List (ℕ × R)) → TakesAll route → admitted meaning (line_channel sender route) sent ≡ on_first_port sent
  admitted-line sender route sent takes =
      let tests : (s : ℕ × R) → ((s.0 == 0) && takes_lane route (meaning.lane s.1)) ≡ (s.0 == 0) = λ s. ap (λ (b : Bool). (s.0 == 0) && b) (takes (meaning.lane s.1)) ∙ and-true (s.0 == 0) in
      ap (λ (p : ℕ × R → Bool). map (λ s. s.1) (filter p sent)) (fun_ext tests)

module _ {R K S O : Type 0} where
  pub one_for_each : (meaning : Meaning R K S O) → OneForEach meaning
  one_for_each meaning operator f states [] one = refl
  one_for_each meaning operator f states (r ∷ rows) one =
      ap₂ (λ a b. a ++ b) (one _ r) (one_for_each meaning operator f (states_after meaning operator states r) rows one)
