use Rattle.std.proofs.Common.{◌+◌, ◌++◌, ◌∷◌, [], true, false, refl, sym, ap, ◌∙◌, arith}
use Rattle.std.specs.Vec.{with_item}
use Rattle.dataflow_model.specs.Machine.{Read}
use Rattle.plain_machine.specs.Plain.{job_of, configuration_of}
use Rattle.plain_machine.proofs.Offered.{none_offered}
use Rattle.plain_machine.proofs.Made.{reads_within, offset_fits, read_made, on_err, on_error, no_value, not_both, memory_passed}
use Rattle.plain_machine.proofs.plain.PlainMachine+O+O+Record+O+Key+O+State.read.Goals as goal

pub returns-clause-made : goal.returns-clause-made
returns-clause-made g c = λ _.
    read_made g.O.Operator.meaning g.O.Key.Ord.cmp c.args.self.now.job c.args.self.now.configuration (record { tasks = with_item c.args.self.now.configuration.tasks c.args.task (record { offset = c.index_mut.result.now.offset + 1; states = c.index_mut.result.now.states; output = c.index_mut.result.now.output }); channels = c.in_ok-queues.queues }) c.args.task c.in-Some.next.now c.in_ok-copied.field-0 c.deref.result.now c.index_mut.result.now
    c.args.self.now.all_tasks
    c.in-Some.ensures
    c.in_ok-copied.ensures
    (c.deref.ensures.value ∙ c.in_ok-push.ensures.items ∙ ap (λ l. l ++ (0, c.in_ok-copied.field-0) ∷ []) c.new-sent.ensures.items)
    c.index_mut.ensures.value
    refl
    c.in_ok-queues.ensures.each

pub returns-in_default-clause-made : goal.returns-in_default-clause-made
returns-in_default-clause-made g c = λ made. absurd (not_both false refl made)

pub returns-in_default-clause-not_made : goal.returns-in_default-clause-not_made
returns-in_default-clause-not_made g c = λ _. (
  none_offered (job_of g.O.Operator.meaning c.args.self.now.job) (Read c.args.task) (configuration_of g.O.Key.Ord.cmp c.args.self.now.configuration) (sym c.in_default.ensures),
  refl,
)

pub returns-in_err-copied-clause-made : goal.returns-in_err-copied-clause-made
returns-in_err-copied-clause-made g c = no_value c.from_residual.result _ c.from_residual.ensures.0

pub returns-in_err-copied-clause-not_made : goal.returns-in_err-copied-clause-not_made
returns-in_err-copied-clause-not_made g c = no_value c.from_residual.result _ c.from_residual.ensures.0

pub returns-in_err-copied-clause-err : goal.returns-in_err-copied-clause-err
returns-in_err-copied-clause-err g c = on_err c.from_residual.result _ refl

pub returns-in_err-copied-clause-memory : goal.returns-in_err-copied-clause-memory
returns-in_err-copied-clause-memory g c = on_error c.from_residual.result _ c.from_residual.ensures.1

pub returns-in_err-push-clause-made : goal.returns-in_err-push-clause-made
returns-in_err-push-clause-made g c = no_value c.from_residual-in_err-push.result _ c.from_residual-in_err-push.ensures.0

pub returns-in_err-push-clause-not_made : goal.returns-in_err-push-clause-not_made
returns-in_err-push-clause-not_made g c = no_value c.from_residual-in_err-push.result _ c.from_residual-in_err-push.ensures.0

pub returns-in_err-push-clause-err : goal.returns-in_err-push-clause-err
returns-in_err-push-clause-err g c = on_err c.from_residual-in_err-push.result _ refl

pub returns-in_err-push-clause-memory : goal.returns-in_err-push-clause-memory
returns-in_err-push-clause-memory g c = on_error c.from_residual-in_err-push.result _ c.from_residual-in_err-push.ensures.1

pub returns-in_err-queues-clause-made : goal.returns-in_err-queues-clause-made
returns-in_err-queues-clause-made g c = no_value c.from_residual-in_err-queues.result _ c.from_residual-in_err-queues.ensures.0

pub returns-in_err-queues-clause-not_made : goal.returns-in_err-queues-clause-not_made
returns-in_err-queues-clause-not_made g c = no_value c.from_residual-in_err-queues.result _ c.from_residual-in_err-queues.ensures.0

pub returns-in_err-queues-clause-err : goal.returns-in_err-queues-clause-err
returns-in_err-queues-clause-err g c = on_err c.from_residual-in_err-queues.result _ refl

pub returns-in_err-queues-clause-memory : goal.returns-in_err-queues-clause-memory
returns-in_err-queues-clause-memory g c = on_error c.from_residual-in_err-queues.result _ (memory_passed c.from_residual-in_err-queues.result c.in_err-queues.field-0.0 c.from_residual-in_err-queues.ensures.1 c.in_err-queues.ensures.memory)

pub index_mut-requires : goal.index_mut-requires
index_mut-requires g c =
    omega (arith, c.args.self.now.all_tasks, reads_within g.O.Operator.meaning g.O.Key.Ord.cmp c.args.self.now.job c.args.self.now.configuration c.args.self.now.configuration c.args.task c.in-Some.next.now c.in-Some.ensures)

pub overflow_add-index_mut : goal.overflow_add-index_mut
overflow_add-index_mut g c =
    omega (arith, offset_fits g.O.Operator.meaning g.O.Key.Ord.cmp c.args.self.now.job c.args.self.now.configuration c.args.self.now.configuration c.args.task c.in-Some.next.now c.index_mut.result.now c.args.self.now.all_tasks c.in-Some.ensures c.index_mut.ensures.value)

pub returns-clause-not_made : goal.returns-clause-not_made
returns-clause-not_made g c = λ not_made. absurd (not_both true not_made refl)
