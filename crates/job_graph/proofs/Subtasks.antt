-- Sink tasks and their subtask numbers.
use Rattle.std.proofs.Common.{◌≡◌, ◌∙◌, ℕ, zero, suc, ◌+◌, ◌<◌, ◌≤◌, ◌⊎◌, Bool, true, false, cond, inl, inr, List, [], ◌∷◌, length, take, count_by, Option, Some, None, IfSome, IfNone, slice_get, refl, sym, ap, arith}
use Rattle.std.specs.List.{find, range_with_len}
use Rattle.std.specs.Option.{option_map_or}
use Rattle.std.proofs.lemmas.Bool.{eq-eqb, eqb-true, false≢true, cases_lt}
use Rattle.std.proofs.lemmas.List.Sums.{sum_by-cons}
use Rattle.std.proofs.lemmas.Option.{slice_get_within}
use Rattle.job_graph.specs.declared.role.Role.{Role}
use Rattle.job_graph.specs.declared.role.Role.TheVariants.{Source, Operator, Sink}
use Rattle.job_graph.specs.Expanded.{Expanded, IsExpanded, is_sink, is_subtask, is_subtask_at}

-- a task that is a sink, behind so many others
record IsSinkBehind (tasks : List Role) (k : ℕ) : Type 0 where
  pub task : ℕ
  pub subtask : ℕ
  pub is : slice_get tasks task ≡ Some (Sink subtask)
  pub behind : count_by is_sink (take task tasks) ≡ k

count_sink : (s : ℕ) (tasks : List Role) → count_by is_sink (Sink s ∷ tasks) ≡ 1 + count_by is_sink tasks
count_sink s tasks = sum_by-cons (λ r. cond (is_sink r) 1 0) (Sink s) tasks

sink_behind : (tasks : List Role) (k : ℕ) → k < count_by is_sink tasks → IsSinkBehind tasks k
sink_behind [] k below = absurd (omega arith)
sink_behind (Source p ∷ tasks) k below =
    let next = sink_behind tasks k below in
    record { task = suc next.task; subtask = next.subtask; is = next.is; behind = next.behind }
sink_behind (Operator n ∷ tasks) k below =
    let next = sink_behind tasks k below in
    record { task = suc next.task; subtask = next.subtask; is = next.is; behind = next.behind }
sink_behind (Sink s ∷ tasks) zero below = record { task = 0; subtask = s; is = refl; behind = refl }
sink_behind (Sink s ∷ tasks) (suc k) below =
    let less : k < count_by is_sink tasks = omega (arith, count_sink s tasks) in
    let next = sink_behind tasks k less in
    record { task = suc next.task; subtask = next.subtask; is = next.is; behind = count_sink s (take next.task tasks) ∙ omega (arith, next.behind) }

first_or_later : (a k : ℕ) → a ≤ k → (a ≡ k) ⊎ (a + 1 ≤ k)
first_or_later a k low = by (cases_lt a k)
  where
    by : (a < k) ⊎ (k ≤ a) → (a ≡ k) ⊎ (a + 1 ≤ k)
    by (inl less) = inr (omega arith)
    by (inr more) = inl (omega arith)

find_none : (p : ℕ → Bool) (a n k : ℕ) → find p (range_with_len a n) ≡ None → a ≤ k → k < a + n → p k ≡ false
find_none p a zero k none low high = absurd (omega arith)
find_none p a (suc n) k none low high = by (p a) refl none (λ rest more. find_none p (a + 1) n k rest more (omega arith))
  where
    at_first : (a ≡ k) ⊎ (a + 1 ≤ k) → p a ≡ false → (a + 1 ≤ k → p k ≡ false) → p k ≡ false
    at_first (inl same) e later = ap p (sym same) ∙ e
    at_first (inr less) e later = later less

    by : (b : Bool) → p a ≡ b → cond b (Some a) (find p (range_with_len (a + 1) n)) ≡ None → (find p (range_with_len (a + 1) n) ≡ None → a + 1 ≤ k → p k ≡ false) → p k ≡ false
    by true e none later = cc
    by false e none later = at_first (first_or_later a k low) e (later none)

find_some : (p : ℕ → Bool) (a n k : ℕ) → find p (range_with_len a n) ≡ Some k → p k ≡ true
find_some p a zero k found = cc
find_some p a (suc n) k found = by (p a) refl found (find_some p (a + 1) n k)
  where
    by : (b : Bool) → p a ≡ b → cond b (Some a) (find p (range_with_len (a + 1) n)) ≡ Some k → (find p (range_with_len (a + 1) n) ≡ Some k → p k ≡ true) → p k ≡ true
    by true e found later = ap p (let same : k ≡ a = cc in same) ∙ e
    by false e found later = later found

is_subtask_from_test : (o : Option Role) (subtask : ℕ) → option_map_or (is_subtask subtask) o false ≡ true → o ≡ Some (Sink subtask)
is_subtask_from_test None subtask e = absurd (false≢true e)
is_subtask_from_test (Some (Source p)) subtask e = absurd (false≢true e)
is_subtask_from_test (Some (Operator n)) subtask e = absurd (false≢true e)
is_subtask_from_test (Some (Sink s)) subtask e = ap (λ (n : ℕ). Some (Sink n)) (eqb-true s subtask e)

-- what is found is this subtask
pub found_subtask : (graph : Expanded) (subtask : ℕ) (r : Option ℕ) → r ≡ find (is_subtask_at graph.tasks subtask) (range_with_len 0 (length graph.tasks))
    → IfSome r (λ task. slice_get graph.tasks task ≡ Some (Sink subtask))
found_subtask graph subtask None e = tt
found_subtask graph subtask (Some task) e =
    is_subtask_from_test (slice_get graph.tasks task) subtask (find_some (is_subtask_at graph.tasks subtask) 0 (length graph.tasks) task (sym e))

-- where no task is found, there is no such subtask
pub no_subtask : (graph : Expanded) (subtask : ℕ) (r : Option ℕ) → IsExpanded graph → r ≡ find (is_subtask_at graph.tasks subtask) (range_with_len 0 (length graph.tasks))
    → IfNone r (count_by is_sink graph.tasks ≤ subtask)
no_subtask graph subtask (Some task) expanded e = tt
no_subtask graph subtask None expanded e = by (cases_lt subtask (count_by is_sink graph.tasks))
  where
    by : (subtask < count_by is_sink graph.tasks) ⊎ (count_by is_sink graph.tasks ≤ subtask) → count_by is_sink graph.tasks ≤ subtask
    by (inr no_more) = no_more
    by (inl below) =
        let there = sink_behind graph.tasks subtask below in
        let within = slice_get_within graph.tasks there.task (Sink there.subtask) there.is in
        let number = expanded.numbered.each there.task (Sink there.subtask) there.is in
        let missed = find_none (is_subtask_at graph.tasks subtask) 0 (length graph.tasks) there.task (sym e) (omega arith) (omega arith) in
        let here : is_subtask_at graph.tasks subtask there.task ≡ true = rw there.is (eq-eqb there.subtask subtask (number ∙ there.behind)) in
        absurd (false≢true (sym missed ∙ here))
