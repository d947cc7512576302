use Rattle.std.proofs.Common.{◌∙◌, refl, arith}
use Rattle.std.specs.Vec.{with_item}
use Rattle.plain_machine.proofs.Made.{sink_within, sink_made, unmade, on_err, on_error, no_value, memory_passed}
use Rattle.plain_machine.proofs.plain.PlainMachine+O+O+Record+O+Key+O+State.put_out.Goals as goal

pub returns-clause-made : goal.returns-clause-made
returns-clause-made g c =
    sink_made g.O.Operator.meaning g.O.Key.Ord.cmp c.args.self.now.job c.args.self.now.configuration (record { tasks = with_item c.args.self.now.configuration.tasks c.args.task (record { offset = c.index_mut-held.result.now.offset; states = c.index_mut-held.result.now.states; output = c.push.new.self }); channels = c.in_ok-queues.queues }) c.args.task c.args.input c.args.taken c.deref.result.now c.index_mut-held.result.now (record { offset = c.index_mut-held.result.now.offset; states = c.index_mut-held.result.now.states; output = c.push.new.self })
    c.args.self.now.all_tasks
    c.requires.sink
    c.requires.first
    (c.deref.ensures.value ∙ c.new-sent.ensures.items)
    c.index_mut-held.ensures.value
    refl
    refl
    c.in_ok-push.ensures.items
    refl
    c.in_ok-queues.ensures.each

pub returns-in_err-push-clause-err : goal.returns-in_err-push-clause-err
returns-in_err-push-clause-err g c =
    on_err c.from_residual-in_err-push.result _
    (unmade g.O.Operator.meaning g.O.Key.Ord.cmp c.args.self.now.job c.args.self.now.configuration (record { tasks = with_item c.args.self.now.configuration.tasks c.args.task (record { offset = c.index_mut-held.result.now.offset; states = c.index_mut-held.result.now.states; output = c.push.new.self }); channels = c.args.self.now.configuration.channels }) c.args.task c.index_mut-held.result.now (record { offset = c.index_mut-held.result.now.offset; states = c.index_mut-held.result.now.states; output = c.push.new.self })
    c.args.self.now.all_tasks
    (sink_within g.O.Operator.meaning g.O.Key.Ord.cmp c.args.self.now.job c.args.self.now.configuration c.args.self.now.configuration c.args.task c.requires.sink)
    c.index_mut-held.ensures.value
    refl
    (λ other. refl)
    c.in_err-push.ensures.items
    refl
    refl)

pub returns-in_err-queues-clause-made : goal.returns-in_err-queues-clause-made
returns-in_err-queues-clause-made g c = no_value c.from_residual.result _ c.from_residual.ensures.0

pub returns-in_err-queues-clause-err : goal.returns-in_err-queues-clause-err
returns-in_err-queues-clause-err g c = on_err c.from_residual.result _ refl

pub returns-in_err-queues-clause-memory : goal.returns-in_err-queues-clause-memory
returns-in_err-queues-clause-memory g c = on_error c.from_residual.result _ (memory_passed c.from_residual.result c.in_err-queues.field-0.0 c.from_residual.ensures.1 c.in_err-queues.ensures.memory)

pub returns-in_err-push-clause-made : goal.returns-in_err-push-clause-made
returns-in_err-push-clause-made g c = no_value c.from_residual-in_err-push.result _ c.from_residual-in_err-push.ensures.0

pub returns-in_err-push-clause-memory : goal.returns-in_err-push-clause-memory
returns-in_err-push-clause-memory g c = on_error c.from_residual-in_err-push.result _ c.from_residual-in_err-push.ensures.1

pub index_mut-held-requires : goal.index_mut-held-requires
index_mut-held-requires g c =
    omega (arith, c.args.self.now.all_tasks, sink_within g.O.Operator.meaning g.O.Key.Ord.cmp c.args.self.now.job c.args.self.now.configuration c.args.self.now.configuration c.args.task c.requires.sink)
