use Rattle.snapshot_store.proofs.Noted.{keeps_noted}
use Rattle.snapshot_store.proofs.numbers.Numbers.note.Goals as goal

pub returns-clause-keeps : goal.returns-clause-keeps
returns-clause-keeps c = rw (← c.self.view_is) (keeps_noted _ _ c.args.number c.reserve.ensures.items c.in_ok-insert.ensures.updates.0)
