-- What a line puts out, and what an engine that runs one has committed.
use Rattle.std.specs.Prelude.{◌≡◌, ℕ, suc, ◌≤◌, Bool, false, List, [], ◌∷◌, map, length, take, slice_get, Option, Some}
use Rattle.dataflow_model.specs.Graph.{Meaning, Job, Begins}
use Rattle.dataflow_model.specs.Machine.{Configuration, Move, Reaches, start}
use Rattle.checkpoint_model.specs.Durable.{Part, Devices, joined, HasParts}
use Rattle.checkpoint_model.specs.Engine.{Running, IsSound}
use Rattle.engine_lines.specs.Line.{on_first_port, sent_along, applied, IsLine, IsLineAt}

module _ {R K S O : Type 0} where
  -- at every moment of a plain run
  abbrev pub LinesApply : Job R K S O → Type 0
  LinesApply job =
      (partition : ℕ) (operator : O) (moves : List Move) (at : Configuration R K S) → IsLine job partition operator → Reaches job moves start at → IsLineAt job partition operator at

  -- An operator that sends one record on port 0 for each record, whatever its state: what it makes of a list is the list of these.
  abbrev pub OneForEach : Meaning R K S O → Type 0
  OneForEach meaning =
      (operator : O) (f : R → R) (states : K → Option S) (rows : List R) →
      ((state : S) (r : R) → on_first_port (meaning.apply operator state r).sent ≡ f r ∷ []) → sent_along meaning operator states rows ≡ map f rows

module _ {R K S O B : Type 0} where
  -- The line's sink has committed what the operator makes of a beginning of the partition: of its first so many records. With nothing committed that
  -- is none of them. Where the parts of the sink's last committed checkpoint are still there, it is the offset in the source's part.
  pub record CommitsBeginning (job : Job R K S O) (spell : R → B) (partition : ℕ) (operator : O) (devices : Devices R K S B) : Type 0 where
    pub offset : ℕ
    pub within : offset ≤ length (job.partitions partition)
    pub committed : joined (devices.sinks 2).committed ≡ map spell (applied job.meaning operator (take offset (job.partitions partition)))
    pub from_none : (devices.sinks 2).committed ≡ [] → offset ≡ 0
    pub from_part : (j n : ℕ) (part : Part R K S) → length (devices.sinks 2).committed ≡ suc j → slice_get devices.store.line j ≡ Some n → HasParts job devices.store n →
        devices.store.parts n 0 ≡ Some part → offset ≡ part.offset

  -- A sound engine that runs a line, whose channels are not logged, has committed a beginning.
  abbrev pub LinesCommitBeginnings : Job R K S O → (R → B) → Type 0
  LinesCommitBeginnings job spell =
      (is_logged : ℕ → Bool) (partition : ℕ) (operator : O) (devices : Devices R K S B) (running : Option (Running R K S)) →
      IsLine job partition operator → is_logged 0 ≡ false → is_logged 1 ≡ false → IsSound job is_logged spell devices running → CommitsBeginning job spell partition operator devices

  -- Where channels are logged, it may have committed a part of what the operator makes of the last of those records.
  abbrev pub LoggedLinesCommitBeginnings : Job R K S O → (R → B) → Type 0
  LoggedLinesCommitBeginnings job spell =
      (is_logged : ℕ → Bool) (partition : ℕ) (operator : O) (devices : Devices R K S B) (running : Option (Running R K S)) →
      IsLine job partition operator → IsSound job is_logged spell devices running →
      (offset : ℕ) × (offset ≤ length (job.partitions partition)) × Begins (joined (devices.sinks 2).committed) (map spell (applied job.meaning operator (take offset (job.partitions partition))))
