-- Items that stand together.
use Rattle.std.proofs.Common.{◌≡◌, ◌<◌, ◌≤◌, ◌+◌, ◌-◌, ℕ, List, ◌++◌, length, take, drop, refl, sym, ap, ◌∙◌, arith}
use Rattle.std.proofs.lemmas.List.{drop-drop, drop_at, length-append, length-take, take-append-le, take_at}
use Rattle.commit_sink.specs.Runs.{IsRunFrom}

module _ {A : Type 0} where
  -- what stands first from a place on
  pub run-first : (all run more : List A) (place : ℕ) → drop place all ≡ run ++ more → 0 < length run → IsRunFrom all place run
  run-first all run more place from some = record {
    first = sym (ap (take (length run)) from ∙ take_at run more (length run) refl);
    some = λ _. some;
  }

  -- a run of a part, where the part stands
  pub run-within : (all part more run : List A) (index place : ℕ) → drop index all ≡ drop place part ++ more → place < length part → IsRunFrom part place run → IsRunFrom all index run
  run-within all part more run index place from inside r = record {
    first = r.first ∙ sym (ap (take (length run)) from ∙ take-append-le (length run) (drop place part) more short);
    some = λ _. r.some inside;
  }
    where
      short : length run ≤ length (drop place part)
      short =
          let cut = ap length r.first in
          let least = length-take (length run) (drop place part) in
          omega (arith, cut, least)

  drop-front : (front rest : List A) (place : ℕ) → length front ≤ place → drop place (front ++ rest) ≡ drop (place - length front) rest
  drop-front front rest place past =
      let is : length front + (place - length front) ≡ place = omega (arith, past) in
      ap (λ n. drop n (front ++ rest)) (sym is)
      ∙ sym (drop-drop (place - length front) (length front) (front ++ rest))
      ∙ ap (drop (place - length front)) (drop_at front rest (length front) refl)

  -- a run of the items behind others
  pub run-behind : (front rest run : List A) (place : ℕ) → length front ≤ place → place < length (front ++ rest) → IsRunFrom rest (place - length front) run → IsRunFrom (front ++ rest) place run
  run-behind front rest run place past inside r =
      let all = length-append front rest in
      let there : place - length front < length rest = omega (arith, past, inside, all) in
      record {
        first = r.first ∙ ap (take (length run)) (sym (drop-front front rest place past));
        some = λ _. r.some there;
      }
