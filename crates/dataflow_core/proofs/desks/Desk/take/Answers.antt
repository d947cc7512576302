use Rattle.dataflow_core.proofs.Leaving.{put_back}
use Rattle.dataflow_core.proofs.desks.Desk.take.Goals.{in-Some, in-None}
use Rattle.dataflow_core.proofs.desks.Desk.take.Goals as goal

pub returns-clause-none : goal.returns-clause-none
returns-clause-none g c = elim c.match-get_mut.branch [
  | in-Some w ↦ rw (← c.self.view_is, w.result-is, w.take.ensures.value, w.self-inside-is, w.take.ensures.after) (put_back c.self.inside.jobs.items c.args.number w.in-Some.job.now w.in-Some.ensures.value)
  | in-None w ↦ rw (w.result-is, w.self-inside-is) c.self.view_is
]
