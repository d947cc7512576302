-- The job goes down, and a partition gets a record, as calls of the engine.
use Rattle.std.proofs.Common.{◌≡◌, ◌⊎◌, ◌++◌, inl, inr, MatchOption, Option, Some, None, length, slice_set, unwrap_or, ℕ, List, [], ◌∷◌, refl, sym, ap, subst, ◌∙◌, append-nil, arith}
use Rattle.std.proofs.lemmas.Bool.{cases_lt}
use Rattle.std.proofs.lemmas.Bool.Decides.{eqb_tells}
use Rattle.checkpoint_model.specs.PrunedLaws.{pruned_engine}
use Rattle.checkpoint_model.proofs.Pruned.{pruned_growth}
use Rattle.dataflow_model.specs.Graph.{Begins}
use Rattle.job_state.specs.Held.{Held}
use Rattle.source_log.specs.Partitions.{records_at, appended}
use Rattle.engine_model.specs.AllRules.{AllRules}
use Rattle.engine_model.specs.State.{State}
use Rattle.engine_model.specs.View.{job_of, is_logged_in, engine_of}
use Rattle.engine_model.specs.Keeps.{RunsIn, Keeps}
use Rattle.engine_model.specs.Goes.{Goes}
use Rattle.engine_model.proofs.Lists.{get_set_same, get_set_other, set_length, set_past}
use Rattle.engine_model.proofs.Calls.Goes.{goes_down, runs_same, keeps_down}

-- a partition that gets a record begins with what it had, and so do the others
pub appended_begins : {R : Type 0} (partitions : List (List R)) (partition : ℕ) (row : R) (p : ℕ) → Begins (records_at partitions p) (records_at (appended partitions partition row) p)
appended_begins {R} partitions partition row p =
    let more : List R = records_at partitions partition ++ row ∷ [] in
    elim (cases_lt partition (length partitions)) [
      | inl within ↦ elim (eqb_tells p partition) [
        | inl same ↦ (
          row ∷ [],
          ap (λ q. records_at (slice_set partitions partition more) q) same.1
              ∙ ap (λ (o : Option (List R)). unwrap_or o []) (get_set_same partitions partition more within)
              ∙ ap (λ q. records_at partitions q ++ row ∷ []) (sym same.1),
        )
        | inr apart ↦ ([], ap (λ (o : Option (List R)). unwrap_or o []) (get_set_other partitions partition p more apart.1) ∙ sym (append-nil (records_at partitions p)))
      ]
      | inr past ↦ ([], ap (λ (l : List (List R)). records_at l p) (set_past partitions partition more (λ less. omega (arith, less, past))) ∙ sym (append-nil (records_at partitions p)))
    ]

module _ {R K S O : Type 0} (rules : AllRules R K S O) (s : State O R K S) (keeps : Keeps rules s) (n : ℕ) where
  pub keeps_fail : Keeps rules (record s { held = None; faults = n }) × Goes rules.lang s (record s { held = None; faults = n })
  keeps_fail = keeps_down rules s keeps s.stored s.ledger n refl keeps.numbered keeps.formed refl keeps.ordered (goes_down rules.lang s s.stored s.ledger n refl refl)

  -- partitions that have grown
  pub keeps_grown : (partitions : List (List R)) → length partitions ≡ length s.partitions → ((p : ℕ) → Begins (records_at s.partitions p) (records_at partitions p)) → Keeps rules (record s { partitions = partitions; faults = n })
  keeps_grown partitions same grown = record {
    expanded = keeps.expanded;
    operators = keeps.operators;
    partitions = same ∙ keeps.partitions;
    stored_tasks = keeps.stored_tasks;
    numbered = keeps.numbered;
    subtasks = keeps.subtasks;
    ordered = keeps.ordered;
    shape = keeps.shape;
    runs = still s.held keeps.runs;
    fresh = λ fresh. pruned_growth (job_of rules.lang s) rules.lang.spelling (is_logged_in s) (λ p. records_at partitions p) (pruned_engine (engine_of rules.lang s)) grown (keeps.fresh fresh);
    whole = keeps.whole;
    formed = keeps.formed;
  }
    where
      still : (held : Option (Held R K S)) → MatchOption held (Unit {0}) (RunsIn rules.lang s) → MatchOption held (Unit {0}) (RunsIn rules.lang (record s { partitions = partitions; faults = n }))
      still None m = tt
      still (Some h) m = runs_same rules.lang s (record s { partitions = partitions; faults = n }) h refl refl refl m

  -- a record was appended, or was not
  pub keeps_appended : (partitions : List (List R)) (partition : ℕ) (row : R) → (partitions ≡ s.partitions) ⊎ (partitions ≡ appended s.partitions partition row) → Keeps rules (record s { partitions = partitions; faults = n })
  keeps_appended partitions partition row either =
      elim either [
        | inl same ↦ keeps_grown partitions (ap length same) (λ p. ([], ap (λ (l : List (List R)). records_at l p) same ∙ sym (append-nil (records_at s.partitions p))))
        | inr done ↦
            subst (λ (l : List (List R)). Keeps rules (record s { partitions = l; faults = n })) (sym done)
            (keeps_grown (appended s.partitions partition row) (set_length s.partitions partition (records_at s.partitions partition ++ row ∷ [])) (appended_begins s.partitions partition row))
      ]
