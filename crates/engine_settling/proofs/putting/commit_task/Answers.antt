use Rattle.std.proofs.Common.{Some, None, ap, sym, slice_get, ◌∙◌}
use Rattle.job_graph.specs.Expanded.{Expanded}
use Rattle.std.proofs.lemmas.Option.{none-some}
use Rattle.job_graph.specs.declared.role.Role.TheVariants as role
use Rattle.engine_settling.proofs.Chained.{commit_at, commits_nothing}
use Rattle.engine_model.proofs.RulesOf.{rules_of}
use Rattle.engine_settling.proofs.putting.commit_task.Goals as goal

pub returns-in-Some-Sink-clause-ends : goal.returns-in-Some-Sink-clause-ends
returns-in-Some-Sink-clause-ends g c =
    let rules = rules_of g.O.Operator g.O.Key.Ord g.O.Record.Codec g.O.Key.Codec g.O.State.Codec in
    let e = c.commit.ensures in
    commit_at rules c.args.engine.now c.commit.new.self c.is_fresh.ensures.kept (record { goes = e.goes; sound = e.sound; begins = e.begins }) e.stays c.requires.running c.args.task c.in-Some-Sink.subtask
    (ap (λ (x : Expanded). slice_get x.tasks c.args.task) (sym c.graph.ensures) ∙ sym c.role.ensures ∙ c.in-Some-Sink.is ∙ ap Some c.in-Some-Sink.field-0-is) c.commit.result e.ends

pub returns-in-Some-Operator-clause-ends : goal.returns-in-Some-Operator-clause-ends
returns-in-Some-Operator-clause-ends g c =
    let rules = rules_of g.O.Operator g.O.Key.Ord g.O.Record.Codec g.O.Key.Codec g.O.State.Codec in
    commits_nothing rules c.args.engine.now c.args.task c.requires.running (Some c.in-Some-Operator.field-0) (ap (λ (x : Expanded). slice_get x.tasks c.args.task) (sym c.graph.ensures) ∙ sym c.role.ensures ∙ c.in-Some-Operator.is)
    (λ subtask same. (let one = c.in-Some-Operator.field-0-is in let two = same in cc))

pub returns-in-Some-Source-clause-ends : goal.returns-in-Some-Source-clause-ends
returns-in-Some-Source-clause-ends g c =
    let rules = rules_of g.O.Operator g.O.Key.Ord g.O.Record.Codec g.O.Key.Codec g.O.State.Codec in
    commits_nothing rules c.args.engine.now c.args.task c.requires.running (Some c.in-Some-Source.field-0) (ap (λ (x : Expanded). slice_get x.tasks c.args.task) (sym c.graph.ensures) ∙ sym c.role.ensures ∙ c.in-Some-Source.is)
    (λ subtask same. (let one = c.in-Some-Source.field-0-is in let two = same in cc))

pub returns-in-None-clause-ends : goal.returns-in-None-clause-ends
returns-in-None-clause-ends g c =
    let rules = rules_of g.O.Operator g.O.Key.Ord g.O.Record.Codec g.O.Key.Codec g.O.State.Codec in
    commits_nothing rules c.args.engine.now c.args.task c.requires.running None (ap (λ (x : Expanded). slice_get x.tasks c.args.task) (sym c.graph.ensures) ∙ sym c.role.ensures ∙ c.in-None.is) (λ subtask same. none-some (role.Sink subtask) same)
