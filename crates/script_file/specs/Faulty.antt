-- The calls of devices that a script lets fail.
use Rattle.std.specs.Prelude.{ℕ, List, Result, Ok, Err, if◌then◌else◌, codes}
use Rattle.std.specs.Str.{bytes_eq}
use Rattle.commit_sink.specs.declared.flaky_transactions.TransactionCall.TheVariants as transactions
use Rattle.fault_plan.specs.declared.plan.When.{When}
use Rattle.fault_plan.specs.declared.plan.When.TheVariants.{Before, After}
use Rattle.snapshot_store.specs.declared.flaky_store.StoreCall.TheVariants as store
use Rattle.source_log.specs.declared.flaky_log.LogCall.TheVariants as log
use Rattle.script_file.specs.declared.fault.ItemFault.{ItemFault}
use Rattle.script_file.specs.declared.fault.ItemFault.TheVariants as one
use Rattle.engine_steps.specs.declared.device_call.DeviceCall.{DeviceCall}
use Rattle.engine_steps.specs.declared.device_call.DeviceCall.TheVariants.{Log, Store, Transactions}
use Rattle.script_file.specs.Cuts.{cut, bad}
use Rattle.script_file.specs.Faults.{◌>>=◌}

-- the call of a device, by its name
unfoldable pub call_of : List ℕ → Result DeviceCall ItemFault
call_of word =
    if bytes_eq word (codes "log.read") then Ok (Log log.Read)
    else (if bytes_eq word (codes "log.append") then Ok (Log log.Append)
    else (if bytes_eq word (codes "store.reserve") then Ok (Store store.Reserve)
    else (if bytes_eq word (codes "store.put") then Ok (Store store.Put)
    else (if bytes_eq word (codes "store.complete") then Ok (Store store.Complete)
    else (if bytes_eq word (codes "store.latest") then Ok (Store store.Latest)
    else (if bytes_eq word (codes "store.get") then Ok (Store store.Get)
    else (if bytes_eq word (codes "store.discard") then Ok (Store store.DiscardBelow)
    else (if bytes_eq word (codes "txn.begin") then Ok (Transactions transactions.Begin)
    else (if bytes_eq word (codes "txn.append") then Ok (Transactions transactions.Append)
    else (if bytes_eq word (codes "txn.pre_commit") then Ok (Transactions transactions.PreCommit)
    else (if bytes_eq word (codes "txn.commit") then Ok (Transactions transactions.Commit)
    else (if bytes_eq word (codes "txn.abort") then Ok (Transactions transactions.Abort)
    else (if bytes_eq word (codes "txn.unsettled") then Ok (Transactions transactions.Unsettled)
    else Err one.Bad)))))))))))))

-- before the call's work, or after it
abbrev pub when_of : List ℕ → Result When ItemFault
when_of word = if bytes_eq word (codes "before") then Ok Before else (if bytes_eq word (codes "after") then Ok After else Err one.Bad)

-- the call and when it fails
unfoldable pub fault_of : List ℕ → Result (DeviceCall × When) ItemFault
fault_of text = do
  parts ← bad (cut text)
  call ← call_of parts.0
  when ← when_of parts.1
  Ok (call, when)
