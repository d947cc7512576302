-- Of a run of channels, one takes the lane.
use Rattle.std.proofs.Common.{◌≡◌, ◌<◌, ◌≤◌, ◌+◌, ◌%◌, ◌⊎◌, ℕ, zero, suc, Bool, true, false, List, [], ◌∷◌, length, take, drop, Option, Some, None, slice_get, slice_index, refl, sym, ap, ◌∙◌, arith, inl, inr}
use native.Mathlib.Nat.{mod-lt}
use Rattle.std.specs.Prelude.{All, IsTrue, option_map, unwrap_or}
use Rattle.std.specs.List.{filter}
use Rattle.std.specs.Option.{option_map_or}
use Rattle.std.proofs.lemmas.Bool.{eq-eqb, ne_eqb}
use Rattle.std.proofs.lemmas.List.{get_or-take, get_or-drop, length-take, length-drop, take_all}
use Rattle.std.proofs.lemmas.List.Elements.{All-head, All-tail}
use Rattle.dataflow_model.specs.Graph as model
use Rattle.job_graph.specs.Expanded.{meets, takes}
use Rattle.job_graph.specs.Runs.{IsRun, TakesSubtask}

none_pass : (test : ℕ → Bool) (xs : List ℕ) → ((i : ℕ) → i < length xs → test (slice_index xs i) ≡ false) → filter test xs ≡ []
none_pass test [] others = refl
none_pass test (x ∷ xs) others = rw (others 0 (omega arith)) (none_pass test xs (λ i lt. others (suc i) (omega (arith, lt))))

-- where the test holds at one place alone
one_passes : (test : ℕ → Bool) (xs : List ℕ) (k : ℕ) → k < length xs → test (slice_index xs k) ≡ true → ((i : ℕ) → i < length xs → (i ≡ k → ⊥) → test (slice_index xs i) ≡ false) → filter test xs ≡ slice_index xs k ∷ []
one_passes test [] k lt held others = absurd (omega (arith, lt))
one_passes test (x ∷ xs) zero lt held others = rw held (ap (λ (l : List ℕ). x ∷ l) (none_pass test xs (λ i within. others (suc i) (omega (arith, within)) (λ e. omega (arith, e)))))
one_passes test (x ∷ xs) (suc k) lt held others =
    rw (others 0 (omega arith) (λ e. omega (arith, e))) (one_passes test xs k (omega (arith, lt)) held (λ i within other. others (suc i) (omega (arith, within)) (λ e. other (omega (arith, e)))))

takes_turn : (channels : List model.Channel) (number lane run subtask : ℕ) → option_map (λ c. c.route) (slice_get channels number) ≡ Some (model.Lanes run subtask) → meets (takes lane) channels number ≡ model.takes_lane (model.Lanes run subtask) lane
takes_turn channels number lane run subtask is = by (slice_get channels number) is
  where
    by : (found : Option model.Channel) → option_map (λ c. c.route) found ≡ Some (model.Lanes run subtask) → option_map_or (takes lane) found false ≡ model.takes_lane (model.Lanes run subtask) lane
    by None e = absurd cc
    by (Some channel) e = ap (λ (route : Option model.Route). model.takes_lane (unwrap_or route model.Every) lane) e

pub run_target : (channels : List model.Channel) (numbers : List ℕ) (place run lane : ℕ) → IsRun channels numbers place run → 1 < run → filter (meets (takes lane) channels) (take run (drop place numbers)) ≡ slice_index numbers (place + lane % run) ∷ []
run_target channels numbers place run lane is more = by is.each
  where
    test : ℕ → Bool
    test = meets (takes lane) channels

    xs : List ℕ
    xs = take run (drop place numbers)

    long : length (take run (drop place numbers)) ≡ run
    long = omega (arith, length-take run (drop place numbers), length-drop place numbers, is.within)

    seen : (i : ℕ) → i < run → slice_index (take run (drop place numbers)) i ≡ slice_index numbers (place + i)
    seen i lt = get_or-take run (drop place numbers) i 0 lt ∙ get_or-drop place numbers i 0

    below : lane % run < run
    below = mod-lt lane (omega (arith, more))

    by : (run ≡ 1) ⊎ ((subtask : ℕ) → subtask < run → TakesSubtask channels numbers (place + subtask) run subtask) → filter (meets (takes lane) channels) (take run (drop place numbers)) ≡ slice_index numbers (place + lane % run) ∷ []
    by (inl one) = absurd (omega (arith, one, more))
    by (inr turns) =
        let passes : (i : ℕ) → i < run → meets (takes lane) channels (slice_index (take run (drop place numbers)) i) ≡ model.takes_lane (model.Lanes run i) lane =
        λ i lt. ap (meets (takes lane) channels) (seen i lt) ∙ takes_turn channels (slice_index numbers (place + i)) lane run i (turns i lt).1 in
        one_passes (meets (takes lane) channels) (take run (drop place numbers)) (lane % run) (omega (arith, long, below)) (passes (lane % run) below ∙ eq-eqb (lane % run) (lane % run) refl)
        (λ i within other. passes i (omega (arith, within, long)) ∙ ne_eqb (lane % run) i (λ e. other (sym e)))
        ∙ ap (λ n. n ∷ []) (seen (lane % run) below)

-- of one number alone, which passes
pub only_passes : (test : ℕ → Bool) (xs : List ℕ) → length xs ≡ 1 → test (slice_index xs 0) ≡ true → filter test (take (length xs) (drop 0 xs)) ≡ slice_index xs 0 ∷ []
only_passes test [] one held = absurd (omega (arith, one))
only_passes test (x ∷ []) one held = rw held refl
only_passes test (x ∷ y ∷ xs) one held = absurd (omega (arith, one))

-- of numbers that all pass
passing : (test : ℕ → Bool) (xs : List ℕ) → All (λ n. test n ≡ true) xs → filter test xs ≡ xs
passing test [] all = refl
passing test (x ∷ xs) all = rw (All-head (λ n. test n ≡ true) x xs all) (ap (λ l. x ∷ l) (passing test xs (All-tail (λ n. test n ≡ true) x xs all)))

pub all_pass : (test : ℕ → Bool) (xs : List ℕ) → All (λ n. IsTrue (test n)) xs → filter test (take (length xs) (drop 0 xs)) ≡ xs
all_pass test xs all = let whole : length xs ≤ length xs = omega arith in ap (filter test) (take_all (length xs) xs whole) ∙ passing test xs all
