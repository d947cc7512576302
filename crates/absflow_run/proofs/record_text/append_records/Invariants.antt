use Rattle.std.proofs.Common.{◌≡◌, ◌++◌, List, ℕ}
use Rattle.text_parts.specs.Lines.{AreLines}
use Rattle.absflow_run.specs.Printed.{IsRecordLine}
use Rattle.absflow_run.proofs.record_text.append_records.Given as goal

-- the lines so far are put last
abbrev pub invariant-loop-record : goal.invariant-loop-record
invariant-loop-record l =
    (bytes : List ℕ) × AreLines (IsRecordLine l.records) 0 l.record-index bytes × (l.text.items ≡ l.fn.text.items ++ bytes)
