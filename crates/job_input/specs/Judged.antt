-- What a job and its inputs come to.
use Rattle.std.specs.Prelude.{◌≡◌, ℕ, List, [], ◌∷◌, Option, Ok, IfSome, IsOkAnd, length, count_by}
use Rattle.job_graph.specs.Expanded.{Expanded, is_source}
use Rattle.job_graph.specs.Expansion.{Expands}
use Rattle.job_input.specs.declared.input.Input.{Input}
use Rattle.job_input.specs.Lines.{PutsText}
use Rattle.job_spec.specs.Job.{Job}
use Rattle.job_spec.specs.Reading.{job_of}
use Rattle.operators.specs.declared.row.Row.{Row}

-- the job that these bytes say, and what it expands to
abbrev pub IsRead : List ℕ → Job → Expanded → Type 0
IsRead bytes job graph = (job_of bytes ≡ Ok job) × Expands job graph

-- A job that some bytes say and what it expands to, with a partition for each source task.
abbrev pub IsJudged : Job → Expanded → List (List Row) → Type 0
IsJudged job graph partitions = ((bytes : List ℕ) × IsRead bytes job graph) × (length partitions ≡ count_by is_source graph.tasks)

-- The input's file was opened, and these are the rows of its lines, each in its turn, where its bytes are known.
abbrev pub GivesRows : {F : Type 0} → (F → Option (List ℕ)) → Input F → List Row → Type 0
GivesRows known input rows = IsOkAnd input.file (λ file. IfSome (known file) (λ bytes. PutsText 0 bytes ([] ∷ []) (rows ∷ [])))
