-- Logs whose records stand behind references.
use Rattle.std.proofs.Common.{◌≡◌, ◌<◌, ◌++◌, ℕ, List, take, length, get_or, subst, sym, ap, ◌∙◌}
use Rattle.std.proofs.lemmas.List.{length-map, get_or-map}
use Rattle.std.proofs.lemmas.List.Elements.{All-map}
use Rattle.std.proofs.lemmas.List.Folds.{flat_map-map}
use Rattle.std.specs.Borrow.{Bor}
use Rattle.std.specs.Int.{w32, to_be_bytes}
use Rattle.std.specs.List.{All, flat_map}
use Rattle.task_part.specs.Spelling.{log_now, logs_now, log_spelling, logs_spelling, LogIsSpelled, LogsAreSpelled}

module _ {R : Type 0} (Record : R → Type 0) (records : R → List ℕ) (logs : List (ℕ × Bor (List R))) (i : ℕ) where
  -- a log that has no spelling leaves the logs without one
  pub one_unspelled : (log : ℕ × Bor (List R)) → i < length logs → log ≡ get_or logs i log → ¬ LogIsSpelled Record (log_now log) → ¬ LogsAreSpelled Record (logs_now logs)
  one_unspelled log within is none spelled =
      let here : LogIsSpelled Record (get_or (logs_now logs) i (log_now log)) = spelled.1 i (log_now log) (subst (λ n. i < n) (sym (length-map logs log_now)) within) in
      none (subst (LogIsSpelled Record) (get_or-map log_now logs i log (log_now log) within ∙ ap log_now (sym is)) here)

  module _ (old out : List ℕ) (all_taken : take i logs ≡ logs) where
    pub all_written : out ≡ old ++ (to_be_bytes w32 (length logs) ++ flat_map (λ log. log_spelling records (log_now log)) (take i logs)) → out ≡ old ++ logs_spelling records (logs_now logs)
    all_written so_far =
        let bytes : ℕ × Bor (List R) → List ℕ = λ log. log_spelling records (log_now log) in
        let same : flat_map bytes (take i logs) ≡ flat_map (log_spelling records) (logs_now logs) = ap (flat_map bytes) all_taken ∙ sym (flat_map-map (log_spelling records) log_now logs) in
        so_far ∙ ap (λ (t : List ℕ). old ++ (to_be_bytes w32 (length logs) ++ t)) same ∙ ap (λ (n : ℕ). old ++ (to_be_bytes w32 n ++ flat_map (log_spelling records) (logs_now logs))) (sym (length-map logs log_now))

    pub all_spelled : All (λ log. LogIsSpelled Record (log_now log)) (take i logs) → All (LogIsSpelled Record) (logs_now logs)
    all_spelled so_far = All-map (LogIsSpelled Record) log_now logs (subst (All (λ log. LogIsSpelled Record (log_now log))) all_taken so_far)
