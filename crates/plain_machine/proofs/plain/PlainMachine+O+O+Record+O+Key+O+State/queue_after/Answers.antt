use Rattle.std.proofs.Common.{ap}
use Rattle.plain_machine.proofs.Queues.{queue_sent, queue_kept}
use Rattle.plain_machine.proofs.plain.PlainMachine+O+O+Record+O+Key+O+State.queue_after.Goals as goal
use Rattle.plain_machine.proofs.plain.PlainMachine+O+O+Record+O+Key+O+State.queue_after.Goals.{then-channel-task+in_ok-put_admitted, else-channel-task}

pub returns-clause-ok : goal.returns-clause-ok
returns-clause-ok g c =
    elim c.if-channel-task.branch [
      | then-channel-task+in_ok-put_admitted w ↦
          queue_sent g.O.Operator.meaning _ _ _ _ _ _ _ _ _ _ _ c.requires c.index-channel.ensures w.if-channel-task.true c.task.ensures (ap (λ q. q.items) w.queue-is) w.in_ok-put_admitted.ensures.ok c.in_ok-queue.ensures.ok c.rest.ensures
      | else-channel-task w ↦
          queue_kept g.O.Operator.meaning _ _ _ _ _ _ _ _ _ _ c.requires c.index-channel.ensures w.if-channel-task.false c.task.ensures (ap (λ q. q.items) w.queue-is) c.in_ok-queue.ensures.ok c.rest.ensures
    ]
