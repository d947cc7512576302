-- Tasks take what they start from, one after another.
use Rattle.std.proofs.Common.{◌≡◌, ◌<◌, ◌+◌, ℕ, inl, inr, Ok, Err, get_or, length, take, drop, map, List, [], ◌∷◌, ◌++◌, refl, sym, ap, ap₂, ◌∙◌, append_assoc, append-nil}
use Rattle.std.proofs.lemmas.List.Concat.{flat_map-append}
use Rattle.std.proofs.lemmas.Option.{slice_get_read}
use Rattle.commit_sink.specs.Ledger.{Ledger}
use Rattle.engine_model.specs.Restart.{InTurn, Takes, before_tasks, logs_in, openings_of}
use Rattle.engine_model.specs.declared.start.Start.{Start}
use Rattle.engine_model.proofs.Turns.{turn_more, next_of_rest, take_and_drop}
use Rattle.job_state.specs.declared.holding.Holding.{Holding}
use Rattle.task_part.specs.Spelling.{Logs}
use Rattle.recovery.specs.declared.fault.RecoveryFault.{RecoveryFault}
use Rattle.recovery.specs.declared.fault.RecoveryFault.TheVariants.{Fault, MissingPart, Damaged, Memory}
use Rattle.recovery.specs.Ends.{EndsTake, StopTaking}

same_map : {A : Type 0} (xs : List A) → map (λ x. x) xs ≡ xs
same_map [] = refl
same_map (x ∷ xs) = ap (λ ys. x ∷ ys) (same_map xs)

-- those that were met, the next one, and the others
pub met_so_far : {A : Type 0} (all met : List A) (x : A) → map (λ y. y) met ≡ take (length met) all → length met < length all → x ≡ get_or all (length met) x → all ≡ met ++ x ∷ drop (length met + 1) all
met_so_far all met x so_far within is =
    take_and_drop (length met) all
    ∙ ap (λ ys. ys ++ drop (length met) all) (sym so_far ∙ same_map met)
    ∙ ap (λ ys. met ++ ys) (next_of_rest all (length met) x (slice_get_read all (length all) (length met) x refl within is))

module _ {R K S : Type 0} (all met rest : List (Start R K S)) (st : Start R K S) (old middle new : Ledger) (tasks : List (Holding K S)) (are : all ≡ met ++ st ∷ rest) (done : InTurn Takes met (before_tasks old) (record { ledger = middle; tasks = tasks })) where
  pub take_next : (task : ℕ) (x : Holding K S × Logs R) → EndsTake middle new task st (Ok x) → InTurn Takes (met ++ st ∷ []) (before_tasks old) (record { ledger = new; tasks = tasks ++ x.0 ∷ [] })
  take_next task x ends = turn_more Takes met st (before_tasks old) (record { ledger = middle; tasks = tasks }) (record { ledger = new; tasks = tasks ++ x.0 ∷ [] }) done (ends.0 tasks)

  -- and its logs are put behind the others
  pub logs_next : (task : ℕ) (x : Holding K S × Logs R) (openings : Logs R) → EndsTake middle new task st (Ok x) → openings ≡ openings_of met → openings ++ x.1 ≡ openings_of (met ++ st ∷ [])
  logs_next task x openings ends so_far = ap₂ (λ a b. a ++ b) so_far (ends.1 ∙ sym (append-nil (logs_in st))) ∙ sym (flat_map-append logs_in met (st ∷ []))

  pub take_stops : (task : ℕ) (f : RecoveryFault) → task ≡ length met → EndsTake middle new task st (Err f) → StopTaking old new all f
  take_stops task Fault is ends = record {
    middle = record { ledger = middle; tasks = tasks };
    taken = record { done = met; rest = st ∷ rest; are = are; turns = done };
    either = inr (ends.0, ends.1, ends.2, rest, ap (λ x. x ∷ rest) ends.3, ends.4);
  }
  take_stops task MissingPart is ends = absurd ends
  take_stops task (Damaged which fault) is ends = (
    record {
      middle = record { ledger = middle; tasks = tasks };
      taken = record { done = met; rest = st ∷ rest; are = are; turns = done };
      subtask = ends.0;
      names = ends.1;
      logs = ends.2;
      more = rest;
      next = ap (λ x. x ∷ rest) ends.3;
      refused = ends.4.2;
    },
    ends.4.0 ∙ is,
    ends.4.1,
  )
  take_stops task Memory is ends = record {
    middle = record { ledger = middle; tasks = tasks };
    taken = record { done = met; rest = st ∷ rest; are = are; turns = done };
    either = inr (ends.0, ends.1, ends.2, rest, ap (λ x. x ∷ rest) ends.3, ends.4);
  }

  -- it has taken it, and there is no memory to hold it
  pub push_stops : (task : ℕ) (x : Holding K S × Logs R) → EndsTake middle new task st (Ok x) → StopTaking old new all Memory
  push_stops task x ends = record {
    middle = record { ledger = new; tasks = tasks ++ x.0 ∷ [] };
    taken = record { done = met ++ st ∷ []; rest = rest; are = are ∙ sym (append_assoc met (st ∷ []) rest); turns = take_next task x ends };
    either = inl refl;
  }
