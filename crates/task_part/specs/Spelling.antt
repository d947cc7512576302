-- How a part is spelled and read: the task's kind, what it held, and its logs.
use Rattle.std.specs.Prelude.{◌<◌, ◌^◌, ℕ, zero, suc, List, [], ◌∷◌, ◌++◌, map, Ok, Err}
use Rattle.std.specs.Borrow.{Bor}
use Rattle.std.specs.Int.{to_be_bytes, w32, w64}
use Rattle.std.specs.declared.cmp.Ordering.{Ordering}
use Rattle.abs_codec.specs.declared.fault.CodecFault.TheVariants.{Short, BadTag}
use Rattle.abs_codec.specs.Reading.{Reading, ◌>>=◌, number_at, pair_at, list_at, map_at}
use Rattle.abs_codec.specs.Spelling.{list_spelling, pair_spelling, AreSpelled, PairIsSpelled, MapIsSpelled}
use Rattle.task_part.specs.declared.part.Part.{Part}
use Rattle.task_part.specs.declared.part.Part.TheVariants.{Source, Operator, Sink}

-- the records logged for each channel
abbrev pub Logs : Type 0 → Type 0
Logs R = List (ℕ × List R)

module _ {R : Type 0} where
  -- a channel and its log
  abbrev pub log_spelling : (R → List ℕ) → ℕ × List R → List ℕ
  log_spelling records = pair_spelling (to_be_bytes w32) (list_spelling records)

  abbrev pub LogIsSpelled : (R → Type 0) → ℕ × List R → Type 0
  LogIsSpelled Record = PairIsSpelled (λ n. n < 2 ^ 32) (AreSpelled Record)

  abbrev pub logs_spelling : (R → List ℕ) → Logs R → List ℕ
  logs_spelling records = list_spelling (log_spelling records)

  abbrev pub LogsAreSpelled : (R → Type 0) → Logs R → Type 0
  LogsAreSpelled Record = AreSpelled (LogIsSpelled Record)

  abbrev pub logs_at : (List ℕ → Reading R) → List ℕ → Reading (Logs R)
  logs_at records = list_at (pair_at (number_at w32) (list_at records))

-- a channel and its log, whose records stand behind a reference
abbrev pub log_now : {R : Type 0} → ℕ × Bor (List R) → ℕ × List R
log_now log = (log.0, log.1.now)

abbrev pub logs_now : {R : Type 0} → List (ℕ × Bor (List R)) → Logs R
logs_now logs = map log_now logs

module _ {R K S : Type 0} where
  -- a copy with these logs, in place of its own
  abbrev pub with_logs : Logs R → Part R K S → Part R K S
  with_logs logs (Source offset) = Source offset
  with_logs logs (Operator map none) = Operator map logs
  with_logs logs (Sink transactions none) = Sink transactions logs

  abbrev pub part_spelling : (R → List ℕ) → (K → List ℕ) → (S → List ℕ) → Part R K S → List ℕ
  part_spelling records keys states (Source offset) = 0 ∷ to_be_bytes w64 offset
  part_spelling records keys states (Operator map logs) = 1 ∷ (list_spelling (pair_spelling keys states) map ++ logs_spelling records logs)
  part_spelling records keys states (Sink transactions logs) = 2 ∷ (list_spelling (to_be_bytes w64) transactions ++ logs_spelling records logs)

  abbrev pub PartIsSpelled : (R → Type 0) → (K → K → Ordering) → (K → Type 0) → (S → Type 0) → Part R K S → Type 0
  PartIsSpelled Record cmp Key State (Source offset) = offset < 2 ^ 64
  PartIsSpelled Record cmp Key State (Operator map logs) = MapIsSpelled cmp Key State map × LogsAreSpelled Record logs
  PartIsSpelled Record cmp Key State (Sink transactions logs) = AreSpelled (λ n. n < 2 ^ 64) transactions × LogsAreSpelled Record logs

  unfoldable pub part_at : (List ℕ → Reading R) → (K → K → Ordering) → (List ℕ → Reading K) → (List ℕ → Reading S) → List ℕ → Reading (Part R K S)
  part_at records cmp keys states [] = Err Short
  part_at records cmp keys states (zero ∷ rest) = do
    offset ← number_at w64 rest
    Ok (Source offset.0, offset.1)
  part_at records cmp keys states (suc zero ∷ rest) = do
    map ← map_at cmp keys states rest
    logs ← logs_at records map.1
    Ok (Operator map.0 logs.0, logs.1)
  part_at records cmp keys states (suc (suc zero) ∷ rest) = do
    transactions ← list_at (number_at w64) rest
    logs ← logs_at records transactions.1
    Ok (Sink transactions.0 logs.0, logs.1)
  part_at records cmp keys states (suc (suc (suc kind)) ∷ rest) = Err BadTag
