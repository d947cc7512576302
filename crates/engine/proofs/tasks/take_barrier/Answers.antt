use Rattle.std.proofs.Common.{Some, sym, ap, ◌∙◌}
use Rattle.job_graph.specs.declared.role.Role.TheVariants as role
use Rattle.claims.proofs.Serving.{copies_within, gate_there, holds_states, holds_sink, subtask_within}
use Rattle.engine.proofs.tasks.take_barrier.Goals as goal

pub operator_barrier-requires-clause-holds : goal.operator_barrier-requires-clause-holds
operator_barrier-requires-clause-holds g c =
    holds_states _ _ _ _ _ c.requires.serves c.args.task c.in-Some-Operator.field-0-0 (sym c.role.ensures ∙ (c.in-Some-Operator.is ∙ ap Some c.in-Some-Operator.field-0-is))

pub operator_barrier-requires-clause-copies : goal.operator_barrier-requires-clause-copies
operator_barrier-requires-clause-copies g c =
    copies_within _ _ _ _ _ c.requires.serves c.args.task (role.Operator c.in-Some-Operator.field-0-0) (sym c.role.ensures ∙ (c.in-Some-Operator.is ∙ ap Some c.in-Some-Operator.field-0-is))

pub sink_barrier-requires-clause-holds : goal.sink_barrier-requires-clause-holds
sink_barrier-requires-clause-holds g c =
    holds_sink _ _ _ _ _ c.requires.serves c.args.task c.in-Some-Sink.subtask (sym c.role.ensures ∙ (c.in-Some-Sink.is ∙ ap Some c.in-Some-Sink.field-0-is))

pub sink_barrier-requires-clause-copies : goal.sink_barrier-requires-clause-copies
sink_barrier-requires-clause-copies g c =
    copies_within _ _ _ _ _ c.requires.serves c.args.task (role.Sink c.in-Some-Sink.subtask) (sym c.role.ensures ∙ (c.in-Some-Sink.is ∙ ap Some c.in-Some-Sink.field-0-is))

pub sink_barrier-requires-clause-subtask : goal.sink_barrier-requires-clause-subtask
sink_barrier-requires-clause-subtask g c =
    subtask_within _ _ _ _ _ c.requires.serves c.args.task c.in-Some-Sink.subtask (sym c.role.ensures ∙ (c.in-Some-Sink.is ∙ ap Some c.in-Some-Sink.field-0-is))

pub operator_barrier-requires-clause-gate : goal.operator_barrier-requires-clause-gate
operator_barrier-requires-clause-gate g c =
    gate_there _ _ _ _ _ c.requires.serves c.args.task (role.Operator c.in-Some-Operator.field-0-0) (sym c.role.ensures ∙ (c.in-Some-Operator.is ∙ ap Some c.in-Some-Operator.field-0-is))

pub sink_barrier-requires-clause-gate : goal.sink_barrier-requires-clause-gate
sink_barrier-requires-clause-gate g c =
    gate_there _ _ _ _ _ c.requires.serves c.args.task (role.Sink c.in-Some-Sink.subtask) (sym c.role.ensures ∙ (c.in-Some-Sink.is ∙ ap Some c.in-Some-Sink.field-0-is))
