-- What was handed in for readers begins what is committed, whatever the core does.
use Rattle.std.proofs.Common.{◌≡◌, ◌≢◌, ℕ, zero, suc, ◌+◌, ◌≤◌, ◌<◌, List, [], ◌∷◌, ◌++◌, take, drop, Option, Some, None, MatchOption, slice_get, replicate, length, count_by, ◌⊎◌, inl, inr, refl, sym, ap, subst, ◌∙◌, arith, append_assoc}
use Rattle.std.specs.Prelude.{⊤}
use Rattle.std.proofs.lemmas.Bool.{cases_eq}
use Rattle.std.proofs.lemmas.List.{append-nil, length-append, take-append-drop}
use Rattle.std.proofs.lemmas.Option.{same_Some}
use Rattle.commit_sink.specs.Ledger.{committed_rows}
use Rattle.engine_model.specs.AllRules.{AllRules}
use Rattle.engine_model.specs.State.{State}
use Rattle.dataflow_core.specs.Steps.{Preserves}
use Rattle.dataflow_model.specs.Graph.{Begins}
use Rattle.job_graph.specs.Expanded.{Expanded, is_sink}
use Rattle.job_graph.specs.declared.role.Role.TheVariants as role
use Rattle.published_lists.specs.Beginnings.{IsBeginning}
use Rattle.published_lists.specs.Rows.{rows_of, with_row, EachBegins}
use Rattle.output_readers.specs.Seeing.{Output}
use Rattle.published_lists.proofs.EachRow.{length-with_row}
use Rattle.row_publishing.specs.Showing.{Begin, BeginCommitted, AreCommitted, Shows}

begins_on : {A : Type 0} (xs ys zs : List A) → Begins xs ys → Begins ys zs → Begins xs zs
begins_on xs ys zs one two = (one.0 ++ two.0, two.1 ∙ ap (λ l. l ++ two.0) one.1 ∙ append_assoc xs one.0 two.0)

-- the next row of the longer list is put last
next_begins : {A : Type 0} (xs ys : List A) (row : A) → Begins xs ys → slice_get ys (length xs) ≡ Some row → Begins (xs ++ row ∷ []) ys
next_begins {A} [] ys row b e = by_first ys e
  where
    by_first : (ys : List A) → slice_get ys 0 ≡ Some row → Begins (row ∷ []) ys
    by_first [] e = absurd cc
    by_first (y ∷ ys) e = (ys, ap (λ z. z ∷ ys) (same_Some y row e))
next_begins {A} (x ∷ xs) ys row b e =
    let rest : List A = xs ++ b.0 in
    let next = next_begins xs rest row (b.0, refl) (subst (λ l. slice_get l (length (x ∷ xs)) ≡ Some row) b.1 e) in
    (next.0, b.1 ∙ ap (λ l. x ∷ l) next.1)

taken_begins : {A : Type 0} (xs ys : List A) → IsBeginning xs ys → Begins xs ys
taken_begins xs ys is = (drop (length xs) ys, sym (take-append-drop (length xs) ys) ∙ ap (λ l. l ++ drop (length xs) ys) is)

-- a list that begins one that is not longer is that list
whole : {A : Type 0} (xs ys : List A) → Begins xs ys → length ys ≤ length xs → xs ≡ ys
whole {A} xs ys b less = by_more b.0 b.1
  where
    by_more : (more : List A) → ys ≡ xs ++ more → xs ≡ ys
    by_more [] e = sym (e ∙ append-nil xs)
    by_more (m ∷ more) e = absurd (omega (arith, less, ap length e, length-append xs (m ∷ more)))

rows_of-same : {A : Type 0} (lists : List (List A)) (s : ℕ) (row : A) → s < length lists → rows_of (with_row lists s row) s ≡ rows_of lists s ++ row ∷ []
rows_of-same [] s row less = absurd (omega arith)
rows_of-same (x ∷ xs) zero row less = refl
rows_of-same (x ∷ xs) (suc s) row less = rows_of-same xs s row (omega arith)

pub rows_of-other : {A : Type 0} (lists : List (List A)) (s t : ℕ) (row : A) → t ≢ s → rows_of (with_row lists s row) t ≡ rows_of lists t
rows_of-other [] s t row n = refl
rows_of-other (x ∷ xs) zero zero row n = absurd (n refl)
rows_of-other (x ∷ xs) zero (suc t) row n = refl
rows_of-other (x ∷ xs) (suc s) zero row n = refl
rows_of-other (x ∷ xs) (suc s) (suc t) row n = rows_of-other xs s t row (λ e. n (ap suc e))

pub count-same : {A : Type 0} (lists : List (List A)) (s : ℕ) (row : A) → s < length lists → length (rows_of (with_row lists s row) s) ≡ length (rows_of lists s) + 1
count-same lists s row less = ap length (rows_of-same lists s row less) ∙ length-append (rows_of lists s) (row ∷ [])

rows_of-replicate : (n s : ℕ) → ◌≡◌ {A = List (List ℕ)} (rows_of (replicate n []) s) []
rows_of-replicate zero s = refl
rows_of-replicate (suc n) zero = refl
rows_of-replicate (suc n) (suc s) = rows_of-replicate n s

length-replicate : {A : Type 0} (n : ℕ) (x : A) → length (replicate n x) ≡ n
length-replicate zero x = refl
length-replicate (suc n) x = ap suc (length-replicate n x)

module _ {R K S O : Type 0} where
  -- the next row of a sink was put last in its list
  pub row_kept : (lists : List (List (List ℕ))) (engine : State O R K S) (sink : ℕ) (row : List ℕ) → BeginCommitted lists engine → sink < length lists
      → slice_get (committed_rows engine.ledger sink) (length (rows_of lists sink)) ≡ Some row → BeginCommitted (with_row lists sink row) engine
  row_kept lists engine sink row begin less next = record {
    subtasks = length-with_row lists sink row ∙ begin.subtasks;
    begins = λ task subtask at. by (cases_eq subtask sink) task at;
  }
    where
      by : {subtask : ℕ} → (subtask ≡ sink) ⊎ (subtask ≢ sink) → (task : ℕ) → slice_get engine.graph.tasks task ≡ Some (role.Sink subtask)
          → Begins (rows_of (with_row lists sink row) subtask) (committed_rows engine.ledger subtask)
      by {subtask} (inl e) task at =
          subst (λ s. Begins (rows_of (with_row lists sink row) s) (committed_rows engine.ledger s)) (sym e)
          (subst (λ l. Begins l (committed_rows engine.ledger sink)) (sym (rows_of-same lists sink row less))
          (next_begins (rows_of lists sink) (committed_rows engine.ledger sink) row (begin.begins task sink (at ∙ ap (λ s. Some (role.Sink s)) e)) next))
      by {subtask} (inr n) task at = subst (λ l. Begins l (committed_rows engine.ledger subtask)) (sym (rows_of-other lists sink subtask row n)) (begin.begins task subtask at)

  -- all that a sink has committed is there
  pub all_there : (lists : List (List (List ℕ))) (engine : State O R K S) (sink : ℕ) → BeginCommitted lists engine → length (committed_rows engine.ledger sink) ≤ length (rows_of lists sink)
      → (task : ℕ) → slice_get engine.graph.tasks task ≡ Some (role.Sink sink) → rows_of lists sink ≡ committed_rows engine.ledger sink
  all_there lists engine sink begin less task at = whole (rows_of lists sink) (committed_rows engine.ledger sink) (begin.begins task sink at) less

  -- empty lists begin whatever is committed
  pub none_shown : (lists : List (List (List ℕ))) (engine : State O R K S) (n : ℕ) → lists ≡ replicate n [] → n ≡ count_by is_sink engine.graph.tasks → BeginCommitted lists engine
  none_shown lists engine n is count = record {
    subtasks = ap length is ∙ length-replicate n [] ∙ count;
    begins = λ task subtask at. (committed_rows engine.ledger subtask, sym (ap (λ l. l ++ committed_rows engine.ledger subtask) (ap (λ l. rows_of l subtask) is ∙ rows_of-replicate n subtask)));
  }

  -- what readers can see begins what was handed in
  pub published_kept : (output : Option Output) (engine : State O R K S) → MatchOption output ⊤ (λ o. EachBegins o.published o.appended) → Shows output engine → MatchOption output ⊤ (λ o. Begin o.published engine)
  published_kept None engine begins shows = tt
  published_kept (Some o) engine begins shows =
      λ task subtask at. begins_on (rows_of o.published subtask) (rows_of o.appended subtask) (committed_rows engine.ledger subtask) (taken_begins (rows_of o.published subtask) (rows_of o.appended subtask) (begins subtask)) (shows.begins task subtask at)

  begin_kept : (rules : AllRules R K S O) (lists : List (List (List ℕ))) (old new : State O R K S) → Preserves rules old new → BeginCommitted lists old → BeginCommitted lists new
  begin_kept rules lists old new kept begin = record {
    subtasks = begin.subtasks ∙ ap (λ (g : Expanded). count_by is_sink g.tasks) (sym kept.same.0);
    begins = λ task subtask at.
        (let at_old = subst (λ (g : Expanded). slice_get g.tasks task ≡ Some (role.Sink subtask)) kept.same.0 at in
        begins_on (rows_of lists subtask) (committed_rows old.ledger subtask) (committed_rows new.ledger subtask) (begin.begins task subtask at_old) (kept.begins task subtask at_old));
  }

  pub shows_kept : (rules : AllRules R K S O) (output : Option Output) (old new : State O R K S) → Preserves rules old new → Shows output old → Shows output new
  shows_kept rules None old new kept shows = tt
  shows_kept rules (Some o) old new kept shows = begin_kept rules o.appended old new kept shows
