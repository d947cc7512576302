use Rattle.serde_json.specs.View.{view}
use Rattle.job_spec.proofs.Valid.{gives_job}
use Rattle.job_spec.proofs.reading.job_at.Goals as goal

pub returns-clause-job : goal.returns-clause-job
returns-clause-job c = gives_job _ (view c.args.value.now) c.parts_at.result c.parts_at.ensures
