use Rattle.std.proofs.Common.{◌≡◌, [], ◌∷◌, IfOk, length, get_or, sym, subst, rules}
use Rattle.std.specs.List.{AllZip}
use Rattle.job_input.specs.Judged.{GivesRows}
use Rattle.job_input.proofs.Partitioned.{at_each}
use Rattle.job_input.proofs.job.read_group.Goals as goal

pub returns : goal.returns
returns g c =
    let results = c.in_ok-group.group.items in
    let long : length results ≡ length c.args.inputs.items = search rules in
    at_each c.args.inputs.items results (λ pair r. IfOk r (λ one. AllZip (GivesRows g.F.Read.remaining) (pair.1 ∷ []) one.log.rows)) long (λ i d e within.
    let gave = (c.in_ok-group.ensures.each i e within).1 in
    let read : IfOk (get_or results i e) (λ one. AllZip (GivesRows g.F.Read.remaining) (gave.job.1 ∷ []) one.log.rows) = search rules in
    subst (λ pair. IfOk (get_or results i e) (λ one. AllZip (GivesRows g.F.Read.remaining) (pair.1 ∷ []) one.log.rows)) (sym (gave.job_is d)) read)
