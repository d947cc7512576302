use Rattle.std.proofs.Common.{ap}
use Rattle.commit_sink.specs.Ledger.{Ledger, committed_rows}
use Rattle.engine_rounds.proofs.Many.{begins_same}
use Rattle.engine_settling.proofs.Bringing.{counted_done}
use Rattle.engine_settling.proofs.Parts.{persist_part}
use Rattle.task_part.specs.Spelling.{part_spelling}
use Rattle.engine_model.proofs.RulesOf.{rules_of}
use Rattle.engine_settling.proofs.putting.persist_task.Goals as goal

pub returns-clause-ends : goal.returns-clause-ends
returns-clause-ends g c =
    let rules = rules_of g.O.Operator g.O.Key.Ord g.O.Record.Codec g.O.Key.Codec g.O.State.Codec in
    let old = c.args.engine.now in
    let new = c.persist.new.self in
    rw c.done.ensures
    (persist_part rules old new c.is_fresh.ensures.kept
    (record {
      goes = c.persist.ensures.goes;
      sound = c.persist.ensures.sound;
      begins = λ task subtask at. begins_same (committed_rows old.ledger subtask) (committed_rows new.ledger subtask) (ap (λ (l : Ledger). committed_rows l subtask) c.persist.ensures.ledger);
    })
    c.persist.ensures.stays c.args.task c.requires.within (part_spelling g.O.Record.Codec.spelling g.O.Key.Codec.spelling g.O.State.Codec.spelling) c.requires.ended c.persist.result c.persist.ensures.ends)

pub returns-clause-counted : goal.returns-clause-counted
returns-clause-counted g c = rw c.done.ensures (counted_done c.args.engine.now.faults c.persist.new.self.faults c.persist.result c.persist.ensures.counted)
