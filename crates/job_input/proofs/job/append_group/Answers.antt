use Rattle.job_input.proofs.Partitioned.{one_more}
use Rattle.job_input.proofs.job.append_group.Goals as goal

pub loop-input-preserved : goal.loop-input-preserved
loop-input-preserved c =
    let (more, before, each) = c.loop-input.invariant in
    let one = c.in_ok-input.field-0 in
    one_more c.in-Some.input one c.loop-input.yielded c.args.log.now.rows c.loop-input.log.rows c.append_partitions.new.self.rows more (λ o. o.log.rows) c.in_ok-input.was one.one before each c.in_ok-append_partitions.ensures.ok
