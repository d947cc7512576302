use Rattle.std.proofs.Common.{◌≡◌, ◌≤◌, length, take, vec_len}
use Rattle.std.specs.Prelude.{vec_capacity}
use Rattle.task_part.specs.Spelling.{part_spelling}
use Rattle.dataflow_core.specs.Runs.{IsRun}
use Rattle.dataflow_core.specs.Steps.{Preserves}
use Rattle.dataflow_core.proofs.calls.Core.run_steps.Given as goal
use Rattle.engine_model.proofs.RulesOf.{rules_of}

-- a reply for each step so far, and room for the others
abbrev pub invariant-loop-step : goal.invariant-loop-step
invariant-loop-step g l = record {
  run : IsRun (rules_of g.O.Operator g.O.Key.Ord g.O.Record.Codec g.O.Key.Codec g.O.State.Codec) (part_spelling g.O.Record.Codec.spelling g.O.Key.Codec.spelling g.O.State.Codec.spelling)
      l.fn.self l.fn.desk (take l.step-index l.steps) l.replies.items l.self l.desk;
  count : vec_len l.replies ≡ l.step-index;
  room : length l.steps ≤ vec_capacity l.replies;
  step : Preserves (rules_of g.O.Operator g.O.Key.Ord g.O.Record.Codec g.O.Key.Codec g.O.State.Codec)
      l.fn.self.engine l.self.engine;
}
