use Rattle.std.proofs.Common.{Some, sym, ap, ◌∙◌}
use Rattle.job_graph.specs.declared.role.Role.TheVariants as Role
use Rattle.engine_moves.proofs.reads.read_next.Goals as goal

-- a source holds an offset
pub returns-in_default-offset-clause-ends : goal.returns-in_default-offset-clause-ends
returns-in_default-offset-clause-ends g c =
    let held = c.requires.held c.args.task (Role.Source c.in-Some-Source.partition) (sym c.role.ensures ∙ (c.in-Some-Source.is ∙ ap Some c.in-Some-Source.field-0-is)) in
    absurd (c.in_default-offset.ensures.none held.0 held.1)
