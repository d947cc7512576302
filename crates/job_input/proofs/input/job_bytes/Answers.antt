use Rattle.job_input.proofs.WholeJob.{file_bytes}
use Rattle.job_input.proofs.input.job_bytes.Goals as goal

pub returns : goal.returns
returns g c = file_bytes c.args.file c.in_ok-file.field-0 g.R.Read.remaining c.take.result _ _ _ c.in_ok-file.was c.take.ensures.inner c.take.ensures.limit c.new-bytes.ensures.items c.in_ok-read_to_end.ensures.bytes
