use Rattle.std.proofs.Common.{subst}
use Rattle.job_input.specs.Judged.{IsRead}
use Rattle.job_input.proofs.WholeJob.{whole_job}
use Rattle.job_input.proofs.job.judge.Goals as goal

pub returns-clause-job : goal.returns-clause-job
returns-clause-job g c =
    let job = c.in_ok-job.job in
    let graph = c.in_ok-job.graph in
    whole_job c.args.job.file g.J.Read.remaining c.in_ok-bytes.bytes.items job graph c.in_ok-bytes.ensures (subst (λ bytes. IsRead bytes job graph) c.deref.ensures.value c.in_ok-job.ensures)
