-- Rows that stand in runs.
use Rattle.std.proofs.Common.{◌≡◌, ℕ, List, [], ◌∷◌, ◌++◌, All, Vec, length, sym, arith}
use Rattle.std.proofs.lemmas.List.Elements.{All-nil, All-cons, All-head, All-tail}
use Rattle.std.specs.declared.alloc.Global.{Global}
use Rattle.line_parts.specs.Lines.{in_runs}
use Rattle.operators.specs.declared.row.Row.{Row}
use Rattle.job_input.proofs.Putting.{no_rows}
use Rattle.source_log.specs.Partitions.{appended_all}

module _ {X : Type 0} (P : X → Type 0) where
  pub all_before : (xs ys : List X) → All P (xs ++ ys) → All P xs
  all_before [] ys all = All-nil P
  all_before (x ∷ xs) ys all = All-cons P x xs (All-head P x (xs ++ ys) all) (all_before xs ys (All-tail P x (xs ++ ys) all))

  pub all_behind : (xs ys : List X) → All P (xs ++ ys) → All P ys
  all_behind [] ys all = all
  all_behind (x ∷ xs) ys all = all_behind xs ys (All-tail P x (xs ++ ys) all)

-- with no runs there is nothing to put
pub none_to_put : (p : ℕ) (partitions : List (List Row)) (runs : List (Vec Row Global)) → length runs ≡ 0 → partitions ≡ appended_all partitions p (in_runs runs)
none_to_put p partitions [] none = sym (no_rows partitions p)
none_to_put p partitions (run ∷ runs) none = absurd (omega (arith, none))
