use Rattle.std.proofs.Common.{◌≡◌, length, take}
use Rattle.backedge_log.specs.Recorded.{AllFresh}
use Rattle.backedge_log.proofs.logs.Logs.reopen.Given as goal

-- those met so far are empty and open
abbrev pub invariant-loop-log : goal.invariant-loop-log
invariant-loop-log g l = record { fresh : AllFresh (take l.log-index l.log-items); same_length : length l.log-items ≡ length l.fn.self }
