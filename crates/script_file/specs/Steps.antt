-- The steps of a script.
use Rattle.std.specs.Prelude.{ℕ, ℤ, List, [], ◌&&◌, nat_lt, nat_le, Option, Some, None, unwrap_or, Result, Ok, Err, if◌then◌else◌, codes}
use Rattle.std.specs.Str.{bytes_eq}
use Rattle.serde_json.specs.Data.{Data}
use Rattle.serde_json.specs.Find.{as_str}
use Rattle.engine_steps.specs.declared.step.Step.{Step}
use Rattle.engine_steps.specs.declared.step.Step.TheVariants.{Read, Claim, ClaimSome, Finish, Barrier, Trigger, Inject, Persist, PersistSome, Complete, Commit, Settle, Drain, Fail, Restart, Append}
use Rattle.script_file.specs.declared.step.ScriptStep.{ScriptStep}
use Rattle.script_file.specs.declared.step.ScriptStep.TheVariants.{Call, Work, Fault}
use Rattle.script_file.specs.declared.fault.ItemFault.{ItemFault}
use Rattle.script_file.specs.declared.fault.ItemFault.TheVariants as one
use Rattle.script_file.specs.declared.fault.ScriptFault.{ScriptFault}
use Rattle.script_file.specs.declared.fault.ScriptFault.TheVariants as whole
use Rattle.operators.specs.declared.row.Row.{Row}
use Rattle.script_file.specs.Cuts.{cut, bad}
use Rattle.script_file.specs.Faults.{◌>>=◌}
use Rattle.script_file.specs.Faulty.{fault_of}
use Rattle.script_file.specs.Rows.{row_with}
use Rattle.script_file.specs.Numbers.{number_of, signed_number_of}

abbrev pub number_of_text : List ℕ → Result ℕ ItemFault
number_of_text text = bad (number_of text)

abbrev pub signed_of_text : List ℕ → Result ℤ ItemFault
signed_of_text text = bad (signed_number_of text)

abbrev pub one_number : (ℕ → Step Row) → List ℕ → Result ScriptStep ItemFault
one_number step text = do
  n ← number_of_text text
  Ok (Call (step n))

abbrev pub two_numbers : List ℕ → Result (ℕ × ℕ) ItemFault
two_numbers text = do
  parts ← bad (cut text)
  m ← number_of_text parts.0
  n ← number_of_text parts.1
  Ok (m, n)

abbrev pub of_two : (ℕ → ℕ → ScriptStep) → List ℕ → Result ScriptStep ItemFault
of_two step text = do
  numbers ← two_numbers text
  Ok (step numbers.0 numbers.1)

-- a number from 1 to this limit
abbrev pub count_of_text : List ℕ → ℕ → Result ℕ ItemFault
count_of_text text limit = number_of_text text >>= λ n. if nat_lt 0 n && nat_le n limit then Ok n else Err one.Bad

-- a task's number, which may be followed by how many entries are worked at most
abbrev pub persisted_by : Option ℕ → List ℕ → Result ScriptStep ItemFault
persisted_by (Some task) text = Ok (Call (Persist task))
persisted_by None text = do
  parts ← bad (cut text)
  task ← number_of_text parts.0
  count ← count_of_text parts.1 1000000
  Ok (Call (PersistSome task count))

unfoldable pub persisted : List ℕ → Result ScriptStep ItemFault
persisted text = persisted_by (number_of text) text

-- a task's number and an input's, which may be followed by how many records are claimed at most
abbrev pub claimed_by : ℕ → Option ℕ → List ℕ → Result ScriptStep ItemFault
claimed_by task (Some input) text = Ok (Call (Claim task input))
claimed_by task None text = do
  parts ← bad (cut text)
  input ← number_of_text parts.0
  most ← count_of_text parts.1 1024
  Ok (Call (ClaimSome task input most))

unfoldable pub claimed : List ℕ → Result ScriptStep ItemFault
claimed text = do
  parts ← bad (cut text)
  task ← number_of_text parts.0
  claimed_by task (number_of parts.1) parts.1

-- a partition, a value, and a key that is all the rest
unfoldable pub appended : List ℕ → Result (ℕ × Row) ItemFault
appended text = do
  parts ← bad (cut text)
  partition ← number_of_text parts.0
  rest ← bad (cut parts.1)
  value ← signed_of_text rest.0
  row ← row_with rest.1 value
  Ok (partition, row)

-- the step of a word and what follows its space
unfoldable pub step_with : List ℕ → List ℕ → Result ScriptStep ItemFault
step_with word rest =
    if bytes_eq word (codes "read") then one_number Read rest
    else (if bytes_eq word (codes "work") then of_two Work rest
    else (if bytes_eq word (codes "claim") then claimed rest
    else (if bytes_eq word (codes "finish") then one_number Finish rest
    else (if bytes_eq word (codes "barrier") then of_two (λ task input. Call (Barrier task input)) rest
    else (if bytes_eq word (codes "inject") then one_number Inject rest
    else (if bytes_eq word (codes "persist") then persisted rest
    else (if bytes_eq word (codes "commit") then one_number Commit rest
    else (if bytes_eq word (codes "drain") then one_number Drain rest
    else (if bytes_eq word (codes "append") then (appended rest >>= λ a. Ok (Call (Append a.0 a.1)))
    else (if bytes_eq word (codes "fault") then (fault_of rest >>= λ f. Ok (Fault f.0 f.1))
    else Err one.Bad))))))))))

-- the step that a text is
unfoldable pub step_of : List ℕ → Result ScriptStep ItemFault
step_of text =
    if bytes_eq text (codes "trigger") then Ok (Call Trigger)
    else (if bytes_eq text (codes "complete") then Ok (Call Complete)
    else (if bytes_eq text (codes "settle") then Ok (Call Settle)
    else (if bytes_eq text (codes "fail") then Ok (Call Fail)
    else (if bytes_eq text (codes "restart") then Ok (Call Restart)
    else (bad (cut text) >>= λ parts. step_with parts.0 parts.1)))))

-- the step of this number in its list
abbrev pub of_number : ℕ → Result ScriptStep ItemFault → Result ScriptStep ScriptFault
of_number number (Ok step) = Ok step
of_number number (Err one.Bad) = Err (whole.BadStep number)
of_number number (Err one.Memory) = Err whole.Memory

abbrev pub step_at : ℕ → Data → Result ScriptStep ScriptFault
step_at number d = of_number number (step_of (unwrap_or (as_str d) []))
