-- The tables that a graph keeps of its channels, for each task.
use Rattle.std.specs.Prelude.{◌≡◌, ℕ, List, Some, slice_get}
use Rattle.dataflow_model.specs.Graph as model
use Rattle.job_graph.specs.declared.links.Links.{Links}
use Rattle.job_graph.specs.Expanded.{numbers_of, is_input, is_output, is_outlet}
use Rattle.job_graph.specs.Runs.{AreRuns}

-- the links of a task
pub record AreLinks (channels : List model.Channel) (task : ℕ) (links : Links) : Type 0 where
  pub inputs : links.inputs.items ≡ numbers_of (is_input task) channels
  pub outputs : links.outputs.items ≡ numbers_of (is_output task) channels
  pub first : links.first.items ≡ numbers_of (is_outlet task 0) channels
  pub second : links.second.items ≡ numbers_of (is_outlet task 1) channels
  pub first_runs : AreRuns channels links.first.items links.first_runs.items
  pub second_runs : AreRuns channels links.second.items links.second_runs.items

-- a table of the links of each task
pub record IsTable (channels : List model.Channel) (table : List Links) : Type 0 where
  pub each : (task : ℕ) (links : Links) → slice_get table task ≡ Some links → AreLinks channels task links
