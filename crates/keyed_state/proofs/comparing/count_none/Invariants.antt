-- those so far are counted
use Rattle.std.proofs.Common.{◌≡◌, ◌≤◌, count_by, is_none, take}
use Rattle.keyed_state.proofs.comparing.count_none.Given as goal

abbrev pub invariant-loop-state : goal.invariant-loop-state
invariant-loop-state g l = (l.count ≡ count_by is_none (take l.state-index l.states)) × (l.count ≤ l.state-index)
