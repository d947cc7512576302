use Rattle.std.proofs.Common.{Some, None, sym, ap, ◌∙◌}
use Rattle.plain_machine.specs.Plain.{records_of}
use Rattle.plain_machine.proofs.Lookups.{looked_up}
use Rattle.plain_machine.proofs.plain.PlainMachine+O+O+Record+O+Key+O+State.channel.Goals as goal

pub returns-in-Some : goal.returns-in-Some
returns-in-Some g c =
    c.deref-in-Some.ensures.value
    ∙ ap (λ o. records_of o) (sym (looked_up c.args.self.now.configuration.channels.items c.deref.result.now c.args.number (Some c.in-Some.queue) c.deref.ensures.value c.in-Some.ensures.lookup))

pub returns-in-None : goal.returns-in-None
returns-in-None g c =
    ap (λ o. records_of o) (sym (looked_up c.args.self.now.configuration.channels.items c.deref.result.now c.args.number None c.deref.ensures.value c.in-None.ensures.lookup))
