use Rattle.engine_settling.specs.Advancing.{HaveSourcesCopied, HaveCopied, HaveAllCome, HaveEnded}
use Rattle.engine_settling.proofs.Bringing.{brings_both, part_on, part_early}
use Rattle.engine_settling.proofs.Looping.{pending_all, sources_ready, copies_ready, ended_of}
use Rattle.engine_model.proofs.RulesOf.{rules_of}
use Rattle.engine_settling.proofs.settling.bring_to_end.Goals as goal

pub copy_tasks-requires : goal.copy_tasks-requires
copy_tasks-requires g c =
    let rules = rules_of g.O.Operator g.O.Key.Ord g.O.Record.Codec g.O.Key.Codec g.O.State.Codec in record { sources = sources_ready rules c.args.engine.now c.inject_sources.new.engine c.in-Ok.ensures.ends.0 c.requires.pending c.in-Ok.ensures.ends.1 }

pub close_logs-requires : goal.close_logs-requires
close_logs-requires g c =
    let rules = rules_of g.O.Operator g.O.Key.Ord g.O.Record.Codec g.O.Key.Codec g.O.State.Codec in record { copied = copies_ready rules c.args.engine.now c.copy_tasks.new.engine (brings_both rules c.args.engine.now c.inject_sources.new.engine c.copy_tasks.new.engine c.in-Ok.ensures.ends.0 c.in-Ok-copy_tasks.ensures.ends.0) c.requires.pending c.in-Ok-copy_tasks.ensures.ends.1 }

pub returns-in-Err-clause-ends : goal.returns-in-Err-clause-ends
returns-in-Err-clause-ends g c =
    let rules = rules_of g.O.Operator g.O.Key.Ord g.O.Record.Codec g.O.Key.Codec g.O.State.Codec in
    part_early rules c.args.engine.now c.args.engine.now c.inject_sources.new.engine HaveSourcesCopied HaveEnded c.in-Err.fault (pending_all rules c.args.engine.now c.requires.pending) c.in-Err.ensures.ends

pub returns-in-Err-copy_tasks-clause-ends : goal.returns-in-Err-copy_tasks-clause-ends
returns-in-Err-copy_tasks-clause-ends g c =
    let rules = rules_of g.O.Operator g.O.Key.Ord g.O.Record.Codec g.O.Key.Codec g.O.State.Codec in
    part_early rules c.args.engine.now c.inject_sources.new.engine c.copy_tasks.new.engine HaveCopied HaveEnded c.in-Err-copy_tasks.fault c.in-Ok.ensures.ends.0 c.in-Err-copy_tasks.ensures.ends

pub returns-clause-ends : goal.returns-clause-ends
returns-clause-ends g c =
    let rules = rules_of g.O.Operator g.O.Key.Ord g.O.Record.Codec g.O.Key.Codec g.O.State.Codec in
    let both = brings_both rules c.args.engine.now c.inject_sources.new.engine c.copy_tasks.new.engine c.in-Ok.ensures.ends.0 c.in-Ok-copy_tasks.ensures.ends.0 in
    part_on rules c.args.engine.now c.copy_tasks.new.engine c.close_logs.new.engine HaveAllCome HaveEnded c.close_logs.result both
    (λ b come. ended_of rules c.args.engine.now c.copy_tasks.new.engine c.close_logs.new.engine both b c.requires.pending c.in-Ok-copy_tasks.ensures.ends.1 come) c.close_logs.ensures.ends
