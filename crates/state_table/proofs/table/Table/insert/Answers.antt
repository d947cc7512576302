use Rattle.std.proofs.Common.{◌∙◌}
use Rattle.state_table.proofs.Changed.{set_out}
use Rattle.state_table.proofs.table.Table.insert.Goals as goal

pub returns-then-swap_near-clause-ok : goal.returns-then-swap_near-clause-ok
returns-then-swap_near-clause-ok g c =
    let there = c.swap_near.ensures.there c.if-swap_near.true in
    there.1 ∙ set_out g.met.K.Ord.total c.args.self.now c.args.key c.swap_near.new.state c.args.state c.swap_near.ensures.ordered there.0
