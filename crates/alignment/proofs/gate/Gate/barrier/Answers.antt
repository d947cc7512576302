use Rattle.std.proofs.Common.{sym}
use Rattle.alignment.proofs.Counts.{count-without}
use Rattle.alignment.proofs.Rows.{blocked_keeps, after_rest}
use Rattle.alignment.proofs.gate.Gate.barrier.Goals as goal

pub note-requires-clause-kept : goal.note-requires-clause-kept
note-requires-clause-kept c = blocked_keeps c.args.self.now c.args.input c.args.number c.requires.within c.requires.awaited c.in-Blocked.ensures.kept (sym c.in-Blocked.ensures.effect)

pub returns-in-Blocked-clause-kept : goal.returns-in-Blocked-clause-kept
returns-in-Blocked-clause-kept c =
    rw c.note.ensures (blocked_keeps c.args.self.now c.args.input c.args.number c.requires.within c.requires.awaited c.in-Blocked.ensures.kept (sym c.in-Blocked.ensures.effect))

pub returns-in-CopyAndDone-clause-after : goal.returns-in-CopyAndDone-clause-after
returns-in-CopyAndDone-clause-after c =
    rw c.rest.ensures (after_rest c.effect_at-effect.result c.args.number c.args.self.now.inputs c.args.input c.in-CopyAndDone.is)

pub returns-in-CopyAndDone-clause-kept : goal.returns-in-CopyAndDone-clause-kept
returns-in-CopyAndDone-clause-kept c = rw c.rest.ensures (count-without c.args.self.now.inputs)
