-- What a task holds, with its copy for the pending checkpoint.
use Rattle.std.specs.Prelude.{ℕ, List, Option}
use Rattle.task_part.specs.declared.part.Part.{Part}
use Rattle.job_state.specs.declared.holding.Holding.{Holding}

pub record Standing (R K S : Type 0) : Type 0 where
  pub holding : Holding K S
  -- the copy, whose logs stand by channel; `None` if the task has not copied
  pub copy : Option (Part R K S)
  -- the part, as far as it is spelled
  pub part : List ℕ
