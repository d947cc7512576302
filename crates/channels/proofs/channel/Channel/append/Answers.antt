use Rattle.std.proofs.Common.{◌≡◌, ◌≤◌, [], ◌++◌, length, map, refl, sym, ap, ◌∙◌, arith, inl, inr}
use Rattle.channels.specs.declared.item.Item.TheVariants.{Record}
use Rattle.channels.specs.Queues.{gaps, interleaved}
use Rattle.channels.proofs.Queues.{filled, none_stands, records_pushed}
use Rattle.channels.proofs.channel.Channel.append.Goals as goal
use Rattle.channels.proofs.channel.Channel.append.Goals.{then-is_empty, else-is_empty}

pub invariant_of-self : goal.invariant_of-self
invariant_of-self g c = elim c.if-is_empty.branch [
  | then-is_empty w ↦
      let within : gaps c.self.inside.barriers.items ≤ length c.self.inside.records.items = omega arith in
      let none = none_stands c.self.inside.barriers.items c.self.inside.records.items within (ap (λ x. x.items) c.self.view_is ∙ c.is_empty.ensures.0 w.if-is_empty.true) in
      rw (w.self-inside-is) (omega (arith, none, w.from_vec.ensures.len), omega (arith, w.from_vec.ensures.len, w.from_vec.ensures.capacity), omega (arith, none), omega (arith, none, w.from_vec.ensures.len), omega arith)
  | else-is_empty w ↦
      rw (w.self-inside-is) (omega (arith, w.push_each.ensures.len), omega (arith, w.push_each.ensures.len, w.push_each.ensures.capacity), omega (arith), omega (arith, w.push_each.ensures.len), omega arith)
]

pub returns : goal.returns
returns g c = elim c.if-is_empty.branch [
  | then-is_empty w ↦
      let within : gaps c.self.inside.barriers.items ≤ length c.self.inside.records.items = omega arith in
      rw (w.self-inside-is, w.from_vec.ensures.items) (filled c.self.inside.barriers.items c.self.inside.records.items c.args.records.items c.args.self.now.items within (ap (λ x. x.items) c.self.view_is) (c.is_empty.ensures.0 w.if-is_empty.true))
  | else-is_empty w ↦
      rw (w.self-inside-is, ← c.self.view_is, w.push_each.ensures.items) (records_pushed c.self.inside.barriers.items c.self.inside.records.items c.args.records.items (omega arith))
]
