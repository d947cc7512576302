-- What a job keeps.
use Rattle.job_spec.specs.declared.job.JobSpec.TheInside.{Inside}
use Rattle.job_spec.specs.Job.{Job, IsJob, vertices_view}

abbrev pub job_of_fields : Inside → Job
job_of_fields j = record { vertices = vertices_view j.vertices.entries; edges = j.edges.items }

abbrev pub KeepsJob : Inside → Type 0
KeepsJob j = IsJob (job_of_fields j)
