use Rattle.std.proofs.Common.{Some, None, sym, ap, ◌∙◌}
use Rattle.plain_machine.specs.Plain.{state_of}
use Rattle.plain_machine.proofs.Lookups.{looked_up}
use Rattle.plain_machine.proofs.plain.PlainMachine+O+O+Record+O+Key+O+State.output.Goals as goal

pub returns-in-Some : goal.returns-in-Some
returns-in-Some g c =
    c.deref-in-Some.ensures.value
    ∙ ap (λ o. (state_of g.O.Key.Ord.cmp o).output) (sym (looked_up c.args.self.now.configuration.tasks.items c.deref.result.now c.args.task (Some c.in-Some.held) c.deref.ensures.value c.in-Some.ensures.lookup))

pub returns-in-None : goal.returns-in-None
returns-in-None g c =
    ap (λ o. (state_of g.O.Key.Ord.cmp o).output) (sym (looked_up c.args.self.now.configuration.tasks.items c.deref.result.now c.args.task None c.deref.ensures.value c.in-None.ensures.lookup))
