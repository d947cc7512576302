use Rattle.std.proofs.Common.{Some, slice_get, slice_set, refl, sym, ap, ◌∙◌, arith}
use Rattle.std.proofs.lemmas.List.{with_items_is}
use Rattle.task_part.specs.declared.part.Part.TheVariants as Part
use Rattle.job_state.specs.Inside.{holdings_of, copies_of}
use Rattle.job_state.specs.Sending.{contents_items}
use Rattle.job_state.proofs.Holds.{puts_at, copies_source_from}
use Rattle.job_state.proofs.Standings.{holder_within}
use Rattle.job_state.proofs.attempt.Attempt.copy_source.Goals as goal

-- the task holds the offset
pub copy_offset-requires : goal.copy_offset-requires
copy_offset-requires g c =
    let holds = ap (λ l. slice_get (holdings_of l) c.args.task) c.deref_mut-2.ensures.value ∙ (ap (λ h. slice_get h.tasks c.args.task) c.self.view_is ∙ c.requires.holds) in
    record { there = holder_within c.deref_mut-2.result.now c.args.task _ holds; holds = holds }

pub returns-clause-ok : goal.returns-clause-ok
returns-clause-ok g c =
    let items = with_items_is c.self.inside.channels c.send_barriers.new.channels (omega arith) in
    let tasks = with_items_is c.self.inside.tasks c.copy_offset.new.tasks (omega arith) in
    let stands = c.deref_mut-2.ensures.value in
    copies_source_from c.args.graph.now c.args.task c.args.offset c.args.checkpoint _ _ _ _ _ c.self.view_is
    (puts_at _ _ (ap (λ l. contents_items l) c.deref_mut.ensures.value) (ap (λ l. contents_items l) (sym items)) (λ k. refl) c.in_ok-send_barriers.ensures.ok)
    (ap (λ l. holdings_of l) tasks ∙ c.copy_offset.ensures.holdings ∙ ap (λ l. holdings_of l) stands)
    (ap (λ l. copies_of l) tasks ∙ c.copy_offset.ensures.copies ∙ ap (λ l. slice_set (copies_of l) c.args.task (Some (Part.Source c.args.offset))) stands)
    refl
