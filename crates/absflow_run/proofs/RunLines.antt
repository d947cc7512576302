-- The lines of records that stand together.
use Rattle.std.proofs.Common.{◌≡◌, ◌∙◌, ◌<◌, ◌≤◌, ◌+◌, ℕ, zero, suc, List, [], ◌∷◌, ◌++◌, Option, Some, length, take, drop, get_or, slice_get, refl, sym, ap, subst, ⊎_elim, arith, append_assoc}
use Rattle.std.specs.Prelude.{MatchOption}
use Rattle.std.proofs.lemmas.Bool.{cases_lt}
use Rattle.std.proofs.lemmas.List.{get_or-drop, get_or-take, length-drop, length-take, length-take-le}
use Rattle.std.proofs.lemmas.Option.{slice_get-get_or, slice_get_past}
use Rattle.commit_sink.specs.Runs.{IsRunFrom}
use Rattle.text_parts.specs.Lines.{AreLines}
use Rattle.absflow_run.specs.Printed.{IsLineOf, IsRecordLine}
use Rattle.absflow_run.specs.RecordText.{PrintsRecord}
use Rattle.absflow_run.specs.RowText.{row_text}

abbrev at_record : List ℕ → Option (List ℕ) → Type 0
at_record line o = MatchOption o (line ≡ []) (λ spelled. IsLineOf spelled line)

-- the line that was put last is that of the record of this number
pub line_of : (records : List (List ℕ)) (k : ℕ) (bytes old new : List ℕ) → slice_get records k ≡ Some bytes → (p : PrintsRecord bytes old new) → IsRecordLine records k (row_text p.row ++ 10 ∷ [])
line_of records k bytes old new at p =
    subst (at_record (row_text p.row ++ 10 ∷ [])) (sym at) (p.row, p.spelled, p.text, refl)

-- past the last record the lines are empty
pub lines_past : (records : List (List ℕ)) (first n : ℕ) → length records ≤ first → AreLines (IsRecordLine records) first n []
lines_past records first zero past = refl
lines_past records first (suc n) past =
    ([], [], subst (at_record []) (sym (slice_get_past records first past)) refl, lines_past records (suc first) n (omega (arith, past)), refl)

-- where a run is empty, no record is left
pub none_left : (records : List (List ℕ)) (first : ℕ) (run : List (List ℕ)) → IsRunFrom records first run → length run ≡ 0 → length records ≤ first
none_left records first run is none =
    ⊎_elim (λ less. let some = is.some less in absurd (omega (arith, some, none))) (λ past. past) (cases_lt first (length records))

-- the records of a run are those from its first on
same_record : (records run : List (List ℕ)) (first n k : ℕ) → IsRunFrom records first run → n ≤ length run → k < n → slice_get (take n run) k ≡ slice_get records (first + k)
same_record records run first n k is le less =
    let taken = length-take-le n run le in
    let whole : length run ≡ length (take (length run) (drop first records)) = ap length is.first in
    let part = length-take (length run) (drop first records) in
    let left = length-drop first records in
    slice_get-get_or (take n run) k [] (omega (arith, taken, less))
    ∙ ap Some (get_or-take n run k [] less ∙ ap (λ xs. get_or xs k []) is.first ∙ get_or-take (length run) (drop first records) k [] (omega (arith, le, less)) ∙ get_or-drop first records k [])
    ∙ sym (slice_get-get_or records (first + k) [] (omega (arith, whole, part, left, le, less)))

moved : (records run : List (List ℕ)) (first j at n : ℕ) (bytes : List ℕ) → at ≡ first + j → ((k : ℕ) → k < j + n → slice_get run k ≡ slice_get records (first + k)) → AreLines (IsRecordLine run) j n bytes → AreLines (IsRecordLine records) at n bytes
moved records run first j at zero bytes at_is same none = none
moved records run first j at (suc n) bytes at_is same (line, rest, its, lines, is) =
    let here : slice_get run j ≡ slice_get records at = same j (omega arith) ∙ ap (slice_get records) (sym at_is) in
    (line, rest, subst (at_record line) here its, moved records run first (suc j) (suc at) n rest (omega (arith, at_is)) (λ k less. same k (omega (arith, less))) lines, is)

-- the lines of the first so many of a run are the records' lines
pub run_lines : (records run : List (List ℕ)) (first n : ℕ) (bytes : List ℕ) → IsRunFrom records first run → n ≤ length run → AreLines (IsRecordLine (take n run)) 0 (length (take n run)) bytes → AreLines (IsRecordLine records) first n bytes
run_lines records run first n bytes is le lines =
    moved records (take n run) first 0 first n bytes (omega arith) (λ k less. same_record records run first n k is le (omega (arith, less)))
    (subst (λ m. AreLines (IsRecordLine (take n run)) 0 m bytes) (length-take-le n run le) lines)

-- what is put behind what was put before
pub put_behind : (old bytes more mid new : List ℕ) → new ≡ mid ++ more → mid ≡ old ++ bytes → new ≡ old ++ (bytes ++ more)
put_behind old bytes more mid new after before = after ∙ ap (λ b. b ++ more) before ∙ append_assoc old bytes more

-- what is put behind nothing
pub put_alone : (bytes old new : List ℕ) → new ≡ old ++ bytes → old ≡ [] → new ≡ bytes
put_alone bytes old new after none = after ∙ ap (λ b. b ++ bytes) none
