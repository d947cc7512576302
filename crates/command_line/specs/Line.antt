-- What a command line may ask for.
use Rattle.std.specs.Prelude.{◌≤◌, ◌^◌}
use Rattle.command_line.specs.declared.Line.{Line}
use Rattle.command_line.specs.declared.Line.TheVariants.{Script, Run, Check}

-- each number that the line asks for is in its range
abbrev pub AsksInRange : Line → Type 0
AsksInRange (Script file) = Unit {0}
AsksInRange (Run job inputs workers every turns batch) =
    (1 ≤ workers) × (workers ≤ 64) × (every ≤ 1000000) × (1 ≤ turns) × (turns ≤ 2 ^ 40) × (1 ≤ batch) × (batch ≤ 1024)
AsksInRange (Check job) = Unit {0}
