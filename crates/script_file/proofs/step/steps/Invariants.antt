use Rattle.std.proofs.Common.{◌≡◌, [], drop}
use Rattle.serde_json.specs.View.{items_view}
use Rattle.script_file.specs.Lists.{each_after}
use Rattle.script_file.specs.Steps.{step_at}
use Rattle.script_file.proofs.step.steps.Given as goal

-- those found so far and those to come are all
abbrev pub invariant-loop-item : goal.invariant-loop-item
invariant-loop-item l = each_after step_at (l.found.items) (items_view (drop l.item-index l.items)) ≡ each_after step_at [] (items_view l.items)
