use Rattle.engine_settling.specs.Advancing.{HaveEnded, HaveAcked}
use Rattle.engine_settling.proofs.Bringing.{part_on, part_early, holds_two}
use Rattle.engine_settling.proofs.Looping.{pending_all, ended_all}
use Rattle.engine_model.proofs.RulesOf.{rules_of}
use Rattle.engine_settling.proofs.settling.put_parts.Goals as goal

pub returns-in-Err-clause-ends : goal.returns-in-Err-clause-ends
returns-in-Err-clause-ends g c =
    let rules = rules_of g.O.Operator g.O.Key.Ord g.O.Record.Codec g.O.Key.Codec g.O.State.Codec in
    part_early rules c.args.engine.now c.args.engine.now c.bring_to_end.new.engine HaveEnded (λ graph h. HaveEnded graph h × HaveAcked graph h) c.in-Err.fault (pending_all rules c.args.engine.now c.requires.pending) c.in-Err.ensures.ends

pub returns-clause-ends : goal.returns-clause-ends
returns-clause-ends g c =
    let rules = rules_of g.O.Operator g.O.Key.Ord g.O.Record.Codec g.O.Key.Codec g.O.State.Codec in
    part_on rules c.args.engine.now c.bring_to_end.new.engine c.persist_tasks.new.engine HaveAcked (λ graph h. HaveEnded graph h × HaveAcked graph h) c.persist_tasks.result c.in-Ok.ensures.ends.0
    (λ b acked. holds_two c.persist_tasks.new.engine HaveEnded HaveAcked (λ graph h. HaveEnded graph h × HaveAcked graph h) (ended_all rules c.bring_to_end.new.engine c.persist_tasks.new.engine b c.in-Ok.ensures.ends.1) acked (λ h is one two. (one, two))) c.persist_tasks.ensures.ends
