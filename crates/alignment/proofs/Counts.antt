-- What is counted of the inputs, when one barrier comes and when all are forgotten.
use Rattle.std.proofs.Common.{◌≡◌, ◌<◌, ◌+◌, ℕ, suc, List, [], ◌∷◌, Bool, true, false, not, ◌&&◌, cond, arith, length, map, refl, sym, ◌∙◌, ◌-◌}
use Rattle.std.proofs.lemmas.List.{length-map}
use Rattle.std.proofs.lemmas.Bool.{true≢false}
use Rattle.std.proofs.lemmas.List.Sums.{sum_by-cons, sum_by-set}
use Rattle.std.proofs.Math.Seq.{map-set_same}
use Rattle.std.specs.List.{count_by}
use Rattle.alignment.specs.declared.input.Input.{Input}
use Rattle.alignment.specs.declared.input.Phase.TheVariants.{AtRest}
use Rattle.alignment.specs.Counted.{IsCounted}
use Rattle.alignment.specs.Inputs.{fresh, input_at, with_barrier, without_barriers, misses_unmarked, misses_marked, missing_unmarked, missing_marked}

-- a list with one element more
count-cons : (p : Input → Bool) (x : Input) (xs : List Input) → count_by p (x ∷ xs) ≡ cond (p x) 1 0 + count_by p xs
count-cons p x xs = sum_by-cons (λ x. cond (p x) 1 0) x xs

-- no input of which the barrier came
pub count-fresh : (marks : List Bool) → count_by (λ input. input.came) (map fresh marks) ≡ 0
count-fresh [] = refl
count-fresh (mark ∷ marks) = let rest : count_by (λ input. input.came) (map fresh marks) ≡ 0 = count-fresh marks in
    omega (arith, rest, count-cons (λ input. input.came) (fresh mark) (map fresh marks))

pub count-without : (xs : List Input) → count_by (λ input. input.came) (without_barriers xs) ≡ 0
count-without [] = refl
count-without (x ∷ xs) = let rest : count_by (λ input. input.came) (without_barriers xs) ≡ 0 = count-without xs in
    omega (arith, rest, count-cons (λ input. input.came) (fresh x.is_marked) (without_barriers xs))

pub marked-without : (xs : List Input) → count_by (λ input. input.is_marked) (without_barriers xs) ≡ count_by (λ input. input.is_marked) xs
marked-without [] = refl
marked-without (x ∷ xs) = let rest : count_by (λ input. input.is_marked) (without_barriers xs) ≡ count_by (λ input. input.is_marked) xs = marked-without xs in
    omega (arith, rest, count-cons (λ input. input.is_marked) (fresh x.is_marked) (without_barriers xs), count-cons (λ input. input.is_marked) x xs)

-- where no barrier came, all are missing
pub record AllMissing (xs : List Input) : Type 0 where
  pub unmarked : missing_unmarked xs + count_by (λ input. input.is_marked) xs ≡ length xs
  pub plain : missing_unmarked xs ≡ count_by (λ input. not input.is_marked) xs
  pub marked : missing_marked xs ≡ count_by (λ input. input.is_marked) xs

-- the same of one input more, by its mark and whether its barrier came
step : (mark came : Bool) (all unmarked plain marked left n : ℕ) → cond came 1 0 + all ≡ 0 → unmarked + marked ≡ n → unmarked ≡ plain → left ≡ marked
    → ((cond (not mark && not came) 1 0 + unmarked) + (cond mark 1 0 + marked) ≡ suc n)
    × (cond (not mark && not came) 1 0 + unmarked ≡ cond (not mark) 1 0 + plain)
    × (cond (mark && not came) 1 0 + left ≡ cond mark 1 0 + marked)
step true true all unmarked plain marked left n none u p m = absurd (omega (arith, none))
step false true all unmarked plain marked left n none u p m = absurd (omega (arith, none))
step true false all unmarked plain marked left n none u p m = (omega (arith, u), omega (arith, p), omega (arith, m))
step false false all unmarked plain marked left n none u p m = (omega (arith, u), omega (arith, p), omega (arith, m))

tail_none : (came : Bool) (all : ℕ) → cond came 1 0 + all ≡ 0 → all ≡ 0
tail_none came all none = omega (arith, none)

pub all_missing : (xs : List Input) → count_by (λ input. input.came) xs ≡ 0 → AllMissing xs
all_missing [] none = record { unmarked = refl; plain = refl; marked = refl }
all_missing (x ∷ xs) none =
    let here : cond x.came 1 0 + count_by (λ input. input.came) xs ≡ 0 = omega (arith, none, count-cons (λ input. input.came) x xs) in
    let rest : AllMissing xs = all_missing xs (tail_none x.came _ here) in
    let more = step x.is_marked x.came (count_by (λ input. input.came) xs) (missing_unmarked xs) (count_by (λ input. not input.is_marked) xs)
    (count_by (λ input. input.is_marked) xs) (missing_marked xs) (length xs) here rest.unmarked rest.plain rest.marked in
    record {
      unmarked = rw (count-cons misses_unmarked x xs, count-cons (λ input. input.is_marked) x xs) more.0;
      plain = rw (count-cons misses_unmarked x xs, count-cons (λ input. not input.is_marked) x xs) more.1;
      marked = rw (count-cons misses_marked x xs, count-cons (λ input. input.is_marked) x xs) more.2;
    }

-- the barrier that comes is one less that is missing, of its kind
pub record OneLess (xs : List Input) (input : ℕ) : Type 0 where
  pub unmarked : missing_unmarked (with_barrier xs input) + cond (not (input_at xs input).is_marked) 1 0 ≡ missing_unmarked xs
  pub marked : missing_marked (with_barrier xs input) + cond (input_at xs input).is_marked 1 0 ≡ missing_marked xs
  pub plain : count_by (λ input. not input.is_marked) (with_barrier xs input) ≡ count_by (λ input. not input.is_marked) xs

-- of one test: what it counts of the input before and after
less : (mark came : Bool) (new old : ℕ) → came ≡ false → new + cond (not mark && not came) 1 0 ≡ old + cond (not mark && false) 1 0 → new + cond (not mark) 1 0 ≡ old
less true true new old e h = absurd (true≢false e)
less false true new old e h = absurd (true≢false e)
less true false new old e h = omega (arith, h)
less false false new old e h = omega (arith, h)

less_marked : (mark came : Bool) (new old : ℕ) → came ≡ false → new + cond (mark && not came) 1 0 ≡ old + cond (mark && false) 1 0 → new + cond mark 1 0 ≡ old
less_marked true true new old e h = absurd (true≢false e)
less_marked false true new old e h = absurd (true≢false e)
less_marked true false new old e h = omega (arith, h)
less_marked false false new old e h = omega (arith, h)

pub one_less : (xs : List Input) (input : ℕ) → input < length xs → (input_at xs input).came ≡ false → OneLess xs input
one_less xs input within awaited =
    let x = input_at xs input in
    let y : Input = record x { came = true } in
    record {
      unmarked = less x.is_marked x.came _ _ awaited (sum_by-set (λ z. cond (misses_unmarked z) 1 0) xs input y (fresh false) within);
      marked = less_marked x.is_marked x.came _ _ awaited (sum_by-set (λ z. cond (misses_marked z) 1 0) xs input y (fresh false) within);
      plain = omega (arith, sum_by-set (λ z. cond (not z.is_marked) 1 0) xs input y (fresh false) within);
    }

-- the barrier that came is forgotten too
pub without-with : (xs : List Input) (input : ℕ) → without_barriers (with_barrier xs input) ≡ without_barriers xs
without-with xs input = map-set_same (λ z. fresh z.is_marked) xs input (record (input_at xs input) { came = true }) (fresh false) refl

-- where no barrier came, the counts start again
pub counted_at_rest : (xs : List Input) (marked n : ℕ) → count_by (λ input. input.came) xs ≡ 0 → marked ≡ count_by (λ input. input.is_marked) xs → n ≡ length xs
    → IsCounted AtRest xs marked (n - marked) marked
counted_at_rest xs marked n none counted long =
    let all = all_missing xs none in
    record {
      kept = none;
      all_marked = counted;
      left_unmarked = omega (arith, all.unmarked, counted, long);
      left_marked = counted ∙ sym all.marked;
    }

-- all barriers are forgotten
pub counted_without : (xs : List Input) (marked n : ℕ) → marked ≡ count_by (λ input. input.is_marked) xs → n ≡ length xs
    → IsCounted AtRest (without_barriers xs) marked (n - marked) marked
counted_without xs marked n counted long =
    counted_at_rest (without_barriers xs) marked n (count-without xs) (counted ∙ sym (marked-without xs)) (long ∙ sym (length-map xs (λ input. fresh input.is_marked)))
