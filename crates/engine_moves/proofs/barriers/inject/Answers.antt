use Rattle.std.proofs.Common.{◌<◌, Some, sym, ap, ◌∙◌, subst}
use Rattle.std.proofs.lemmas.Option.{slice_get_within}
use Rattle.job_graph.specs.declared.role.Role.TheVariants as Role
use Rattle.engine_moves.proofs.barriers.inject.Goals as goal

-- a source holds an offset
pub returns-in_default-offset : goal.returns-in_default-offset
returns-in_default-offset g c =
    let held = c.requires.held c.args.task (Role.Source c.in-Some-Source.field-0-0) (sym c.role.ensures ∙ (c.in-Some-Source.is ∙ ap Some c.in-Some-Source.field-0-is)) in
    absurd (c.in_default-offset.ensures.none held.0 held.1)

pub copy_source-requires-clause-copies : goal.copy_source-requires-clause-copies
copy_source-requires-clause-copies g c = subst (λ n. c.args.task < n) (sym c.requires.copies) (slice_get_within _ c.args.task _ (sym c.role.ensures ∙ c.in-Some-Source.is))
