use Rattle.std.proofs.Common.{◌+◌, ◌∷◌, [], slice_get, slice_set, refl, sym, ap, ◌∙◌, arith}
use Rattle.std.proofs.lemmas.List.{with_items_is}
use Rattle.job_state.specs.declared.holding.Holding.TheVariants as Holding
use Rattle.job_state.specs.Inside.{holdings_of, copies_of}
use Rattle.job_state.specs.Sending.{contents_items}
use Rattle.job_state.proofs.Holds.{puts_at, reads_from}
use Rattle.job_state.proofs.Standings.{holder_within}
use Rattle.job_state.proofs.attempt.Attempt.read.Goals as goal

-- the task holds the offset
pub advance-requires : goal.advance-requires
advance-requires g c =
    let holds = ap (λ l. slice_get (holdings_of l) c.args.task) c.deref_mut-2.ensures.value ∙ (ap (λ h. slice_get h.tasks c.args.task) c.self.view_is ∙ c.requires.holds) in
    record { there = holder_within c.deref_mut-2.result.now c.args.task _ holds; holds = (c.args.offset, holds) }

pub returns-clause-ok : goal.returns-clause-ok
returns-clause-ok g c =
    let items = with_items_is c.self.inside.channels c.send_record.new.channels (omega arith) in
    let tasks = with_items_is c.self.inside.tasks c.advance.new.tasks (omega arith) in
    reads_from g.O.Operator.meaning c.args.graph.now c.args.task c.args.offset c.args.row _ _ _ ((0, c.args.row) ∷ []) _ _ c.self.view_is
    refl
    (puts_at _ _ (ap (λ l. contents_items l) c.deref_mut.ensures.value) (ap (λ l. contents_items l) (sym items)) (λ k. refl) c.in_ok-send_record.ensures.ok)
    (ap (λ l. holdings_of l) tasks ∙ c.advance.ensures.holdings ∙ ap (λ l. slice_set (holdings_of l) c.args.task (Holding.Source (c.args.offset + 1))) c.deref_mut-2.ensures.value)
    (ap (λ l. copies_of l) tasks ∙ c.advance.ensures.copies ∙ ap (λ l. copies_of l) c.deref_mut-2.ensures.value)
    refl
