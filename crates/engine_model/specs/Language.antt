-- What an operator's meaning and spellings are, as one value.
use Rattle.std.specs.Prelude.{ℕ, List}
use Rattle.std.specs.declared.cmp.Ordering.{Ordering}
use Rattle.abs_codec.specs.Reading.{Reading}
use Rattle.dataflow_model.specs.Graph.{Meaning}
use Rattle.task_part.specs.declared.part.Part.{Part}
use Rattle.task_part.specs.Spelling.{part_at}

-- what operators mean, the order of their keys, how a record is spelled, and how a part is read
pub record Language (R K S O : Type 0) : Type 0 where
  pub meaning : Meaning R K S O
  pub cmp : K → K → Ordering
  pub spelling : R → List ℕ
  pub read_part : List ℕ → Reading (Part R K S)

module _ {R K S O : Type 0} where
  abbrev pub language : Meaning R K S O → (K → K → Ordering) → (R → List ℕ) → (List ℕ → Reading R) → (List ℕ → Reading K) → (List ℕ → Reading S) → Language R K S O
  language meaning cmp spelling records keys states = record { meaning = meaning; cmp = cmp; spelling = spelling; read_part = part_at records cmp keys states }
