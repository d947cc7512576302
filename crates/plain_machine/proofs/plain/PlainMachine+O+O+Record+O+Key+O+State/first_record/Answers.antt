use Rattle.std.proofs.Common.{Some, None, slice_get, sym, ap, ◌∙◌}
use Rattle.std.specs.Option.{option_copied}
use Rattle.plain_machine.proofs.Lookups.{looked_up, none_at_task, none_at_channel, none_in_queue, first_in_queue, none_without_inputs, none_elsewhere}
use Rattle.plain_machine.proofs.plain.PlainMachine+O+O+Record+O+Key+O+State.first_record.Goals as goal
use Rattle.plain_machine.proofs.plain.PlainMachine+O+O+Record+O+Key+O+State.first_record.Goals.{else-has_inputs-via-then-has_inputs+else-channel-task, else-has_inputs-via-else-has_inputs}

pub returns-in_err-kind : goal.returns-in_err-kind
returns-in_err-kind g c =
    ap option_copied c.from_residual.ensures
    ∙ sym (none_at_task c.args.self.now.job.tasks.items c.args.self.now.job.channels.items c.args.self.now.configuration.channels.items c.args.task c.args.input (looked_up c.args.self.now.job.tasks.items c.deref.result.now c.args.task None c.deref.ensures.value c.in_err-kind.ensures.lookup))

pub returns-in_err-channel : goal.returns-in_err-channel
returns-in_err-channel g c =
    ap option_copied c.from_residual-in_err-channel.ensures
    ∙ sym (none_at_channel c.args.self.now.job.tasks.items c.args.self.now.job.channels.items c.args.self.now.configuration.channels.items c.args.task c.args.input (looked_up c.args.self.now.job.channels.items c.deref-2.result.now c.args.input None c.deref-2.ensures.value c.in_err-channel.ensures.lookup))

pub returns-in_err-get : goal.returns-in_err-get
returns-in_err-get g c =
    ap option_copied c.from_residual-in_err-get.ensures
    ∙ sym (none_in_queue c.args.self.now.job.tasks.items c.args.self.now.job.channels.items c.args.self.now.configuration.channels.items c.args.task c.args.input c.in_ok-kind.kind.now c.in_ok-channel.channel.now
    (looked_up c.args.self.now.job.tasks.items c.deref.result.now c.args.task (Some c.in_ok-kind.kind) c.deref.ensures.value c.in_ok-kind.ensures.lookup)
    (looked_up c.args.self.now.job.channels.items c.deref-2.result.now c.args.input (Some c.in_ok-channel.channel) c.deref-2.ensures.value c.in_ok-channel.ensures.lookup)
    c.has_inputs.result c.has_inputs.ensures
    (looked_up c.args.self.now.configuration.channels.items c.deref-then-channel-task.result.now c.args.input None c.deref-then-channel-task.ensures.value c.in_err-get.ensures.lookup))

pub returns-in_ok-get : goal.returns-in_ok-get
returns-in_ok-get g c =
    c.first.ensures.value
    ∙ ap (λ l. slice_get l 0) c.deref-then-channel-task-2.ensures.value
    ∙ sym (first_in_queue c.args.self.now.job.tasks.items c.args.self.now.job.channels.items c.args.self.now.configuration.channels.items c.args.task c.args.input c.in_ok-kind.kind.now c.in_ok-channel.channel.now
    (looked_up c.args.self.now.job.tasks.items c.deref.result.now c.args.task (Some c.in_ok-kind.kind) c.deref.ensures.value c.in_ok-kind.ensures.lookup)
    (looked_up c.args.self.now.job.channels.items c.deref-2.result.now c.args.input (Some c.in_ok-channel.channel) c.deref-2.ensures.value c.in_ok-channel.ensures.lookup)
    c.has_inputs.result c.has_inputs.ensures
    c.in_ok-get.field-0.now
    (looked_up c.args.self.now.configuration.channels.items c.deref-then-channel-task.result.now c.args.input (Some c.in_ok-get.field-0) c.deref-then-channel-task.ensures.value c.in_ok-get.ensures.lookup)
    c.if-has_inputs.true
    c.if-channel-task.true)

pub returns-else-has_inputs : goal.returns-else-has_inputs
returns-else-has_inputs g c =
    let kind = looked_up c.args.self.now.job.tasks.items c.deref.result.now c.args.task (Some c.in_ok-kind.kind) c.deref.ensures.value c.in_ok-kind.ensures.lookup in
    let channel = looked_up c.args.self.now.job.channels.items c.deref-2.result.now c.args.input (Some c.in_ok-channel.channel) c.deref-2.ensures.value c.in_ok-channel.ensures.lookup in
    elim c.else-has_inputs.branch [
      | else-has_inputs-via-then-has_inputs+else-channel-task w ↦
          sym (none_elsewhere c.args.self.now.job.tasks.items c.args.self.now.job.channels.items c.args.self.now.configuration.channels.items c.args.task c.args.input c.in_ok-kind.kind.now c.in_ok-channel.channel.now kind channel c.has_inputs.result c.has_inputs.ensures w.if-has_inputs.true w.if-channel-task.false)
      | else-has_inputs-via-else-has_inputs w ↦
          sym (none_without_inputs c.args.self.now.job.tasks.items c.args.self.now.job.channels.items c.args.self.now.configuration.channels.items c.args.task c.args.input c.in_ok-kind.kind.now c.in_ok-channel.channel.now kind channel c.has_inputs.result c.has_inputs.ensures w.if-has_inputs.false)
    ]
