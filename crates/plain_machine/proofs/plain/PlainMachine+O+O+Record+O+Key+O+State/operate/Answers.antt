use Rattle.std.proofs.Common.{refl, arith}
use Rattle.std.specs.Vec.{with_item}
use Rattle.plain_machine.proofs.Made.{operator_within, operator_made, unmade, on_err, no_value, not_unfit, passed_on, memory_passed, not_other, hands_unfit}
use Rattle.plain_machine.proofs.plain.PlainMachine+O+O+Record+O+Key+O+State.operate.Goals as goal

pub returns-in_err-keep_under-clause-err : goal.returns-in_err-keep_under-clause-err
returns-in_err-keep_under-clause-err g c =
    on_err c.from_residual-in_err-keep_under.result _
    (unmade g.O.Operator.meaning g.O.Key.Ord.cmp c.args.self.now.job c.args.self.now.configuration (record { tasks = with_item c.args.self.now.configuration.tasks c.args.task (record { offset = c.index_mut-held.result.now.offset; states = c.keep_under.new.states; output = c.index_mut-held.result.now.output }); channels = c.args.self.now.configuration.channels }) c.args.task c.index_mut-held.result.now (record { offset = c.index_mut-held.result.now.offset; states = c.keep_under.new.states; output = c.index_mut-held.result.now.output })
    c.args.self.now.all_tasks
    (operator_within g.O.Operator.meaning g.O.Key.Ord.cmp c.args.self.now.job c.args.self.now.configuration c.args.self.now.configuration c.args.task c.requires.operator)
    c.index_mut-held.ensures.value
    refl
    c.in_err-keep_under.ensures.err
    refl
    refl
    refl)

pub returns-clause-made : goal.returns-clause-made
returns-clause-made g c =
    operator_made g.O.Operator.meaning g.O.Key.Ord.cmp c.args.self.now.job c.args.self.now.configuration (record { tasks = with_item c.args.self.now.configuration.tasks c.args.task (record { offset = c.index_mut-held.result.now.offset; states = c.keep_under.new.states; output = c.index_mut-held.result.now.output }); channels = c.in_ok-queues.queues }) c.args.task c.args.input c.args.taken c.index.result.now c.in-Operator.operator c.in_ok-key.key c.in_ok-outcome.outcome c.deref.result.now c.index-2.result.now c.index_mut-held.result.now (record { offset = c.index_mut-held.result.now.offset; states = c.keep_under.new.states; output = c.index_mut-held.result.now.output })
    c.args.self.now.all_tasks
    c.requires.operator
    c.index.ensures
    c.in-Operator.is
    c.requires.first
    c.in_ok-key.ensures
    c.index-2.ensures
    c.in_ok-outcome.ensures.state
    c.in_ok-outcome.ensures.sent
    c.deref.ensures.value
    c.index_mut-held.ensures.value
    refl
    c.in_ok-keep_under.ensures.ok
    refl
    refl
    c.in_ok-queues.ensures.each

pub index-requires : goal.index-requires
index-requires g c =
    omega (arith, operator_within g.O.Operator.meaning g.O.Key.Ord.cmp c.args.self.now.job c.args.self.now.configuration c.args.self.now.configuration c.args.task c.requires.operator)

pub returns-in_default : goal.returns-in_default
returns-in_default g c =
    absurd (not_other g.O.Operator.meaning g.O.Key.Ord.cmp c.args.self.now.job c.args.self.now.configuration c.args.self.now.configuration c.args.task c.index.result.now c.requires.operator c.index.ensures c.in_default.not-Operator)

pub returns-in_err-key-clause-made : goal.returns-in_err-key-clause-made
returns-in_err-key-clause-made g c = no_value c.from_residual.result _ c.from_residual.ensures.0

pub returns-in_err-key-clause-err : goal.returns-in_err-key-clause-err
returns-in_err-key-clause-err g c = on_err c.from_residual.result _ refl

pub returns-in_err-key-clause-unfit : goal.returns-in_err-key-clause-unfit
returns-in_err-key-clause-unfit g c = not_unfit c.from_residual.result _ c.from_residual.ensures.1

pub index-requires-2 : goal.index-requires-2
index-requires-2 g c =
    omega (arith, c.args.self.now.all_tasks, operator_within g.O.Operator.meaning g.O.Key.Ord.cmp c.args.self.now.job c.args.self.now.configuration c.args.self.now.configuration c.args.task c.requires.operator)

pub returns-in_err-outcome-clause-made : goal.returns-in_err-outcome-clause-made
returns-in_err-outcome-clause-made g c = no_value c.from_residual-in_err-outcome.result _ c.from_residual-in_err-outcome.ensures.0

pub returns-in_err-outcome-clause-err : goal.returns-in_err-outcome-clause-err
returns-in_err-outcome-clause-err g c = on_err c.from_residual-in_err-outcome.result _ refl

pub returns-in_err-outcome-clause-unfit : goal.returns-in_err-outcome-clause-unfit
returns-in_err-outcome-clause-unfit g c =
    passed_on c.from_residual-in_err-outcome.result c.in_err-outcome.field-0.0 _ c.from_residual-in_err-outcome.ensures.1 (λ unfit.
    hands_unfit g.O.Operator.meaning g.O.Key.Ord.cmp c.args.self.now.job c.args.self.now.configuration c.args.self.now.configuration _ _ c.args.task c.args.input c.args.taken c.index.result.now c.in-Operator.operator c.in_ok-key.key c.index-2.result.now
    c.args.self.now.all_tasks
    c.requires.operator
    c.index.ensures
    c.in-Operator.is
    c.requires.first
    c.in_ok-key.ensures
    c.index-2.ensures
    (c.in_err-outcome.ensures.unfit unfit))

pub returns-in_err-queues-clause-made : goal.returns-in_err-queues-clause-made
returns-in_err-queues-clause-made g c = no_value c.from_residual-in_err-queues.result _ c.from_residual-in_err-queues.ensures.0

pub returns-in_err-queues-clause-err : goal.returns-in_err-queues-clause-err
returns-in_err-queues-clause-err g c = on_err c.from_residual-in_err-queues.result _ refl

pub returns-in_err-queues-clause-unfit : goal.returns-in_err-queues-clause-unfit
returns-in_err-queues-clause-unfit g c =
    not_unfit c.from_residual-in_err-queues.result _ (memory_passed c.from_residual-in_err-queues.result c.in_err-queues.field-0.0 c.from_residual-in_err-queues.ensures.1 c.in_err-queues.ensures.memory)

pub index_mut-held-requires : goal.index_mut-held-requires
index_mut-held-requires g c =
    omega (arith, c.args.self.now.all_tasks, operator_within g.O.Operator.meaning g.O.Key.Ord.cmp c.args.self.now.job c.args.self.now.configuration c.args.self.now.configuration c.args.task c.requires.operator)

pub returns-in_err-keep_under-clause-made : goal.returns-in_err-keep_under-clause-made
returns-in_err-keep_under-clause-made g c = no_value c.from_residual-in_err-keep_under.result _ c.from_residual-in_err-keep_under.ensures.0

pub returns-in_err-keep_under-clause-unfit : goal.returns-in_err-keep_under-clause-unfit
returns-in_err-keep_under-clause-unfit g c = not_unfit c.from_residual-in_err-keep_under.result _ c.from_residual-in_err-keep_under.ensures.1
