use Rattle.std.proofs.Common.{◌≡◌, map, take}
use Rattle.dataflow_model.specs.Machine.{Reaches}
use Rattle.plain_machine.specs.Plain.{move_of, job_of, configuration_of}
use Rattle.plain_machine.proofs.plain.PlainMachine+O+O+Record+O+Key+O+State.run.Given as goal

abbrev pub invariant-loop-made : goal.invariant-loop-made
invariant-loop-made g l =
    (l.self.job ≡ l.initial.self.job)
    × Reaches (job_of g.O.Operator.meaning l.initial.self.job) (map move_of (take l.made l.moves)) (configuration_of g.O.Key.Ord.cmp l.initial.self.configuration) (configuration_of g.O.Key.Ord.cmp l.self.configuration)
