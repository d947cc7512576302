use Rattle.std.proofs.Common.{[], ◌∷◌, ap, arith, ◌-◌}
use Rattle.channels.proofs.Queues.{records_pushed, barrier_pushed, contents}
use Rattle.channels.proofs.channel.Channel.push_reserved.Goals as goal
use Rattle.channels.proofs.channel.Channel.push_reserved.Goals.{in-Record, in-Barrier}

pub returns : goal.returns
returns g c = elim c.match-item.branch [
  | in-Record w ↦
      rw (← c.self.view_is, w.self-inside-is, w.in-Record.is, w.push_back_reserved.ensures.items)
      (ap (λ l. contents l (c.self.inside.room - 1)) (records_pushed c.self.inside.barriers.items c.self.inside.records.items (w.in-Record.record ∷ []) (omega arith)))
  | in-Barrier w ↦
      rw (← c.self.view_is, w.self-inside-is, w.in-Barrier.is, w.push_back_reserved-in-Barrier.ensures.items)
      (ap (λ l. contents l (c.self.inside.room - 1)) (barrier_pushed c.self.inside.barriers.items c.self.inside.records.items (record { gap = c.self.inside.behind; checkpoint = w.in-Barrier.checkpoint }) (omega arith)))
]
