use Rattle.std.proofs.Common.{◌≡◌, Option, Some, None, IsTrue, is_some, unwrap_or, length, slice_get, sym, ap, subst, ◌∙◌, arith}
use Rattle.std.proofs.lemmas.List.{with_items_is}
use Rattle.std.proofs.lemmas.Result.{IfOk-weaker}
use Rattle.task_part.specs.Spelling.{logs_now, part_spelling, PartIsSpelled}
use Rattle.job_state.specs.Held.{copy_at, logs_of, with_logs}
use Rattle.job_state.specs.Inside.{copies_of, part_in}
use Rattle.job_state.proofs.Standings.{copied_within}
use Rattle.job_state.proofs.attempt.Attempt.part.Goals as goal

-- a copy that is there
copied_at : {A : Type 0} (o : Option (Option A)) (p : A) → unwrap_or o None ≡ Some p → o ≡ Some (Some p)
copied_at (Some copy) p is = ap Some is
copied_at None p is = absurd cc

-- a task that has copied is there
pub share_part-requires : goal.share_part-requires
share_part-requires g c =
    let tasks = with_items_is c.self.inside.tasks c.spell_part.new.tasks (omega arith) in
    let here = copied_within c.self.inside.tasks.items c.args.task (subst (λ h. IsTrue (is_some (copy_at h c.args.task))) (sym c.self.view_is) c.requires) in
    omega (arith, here, ap (λ l. length l) (c.deref_mut-2.ensures.value ∙ tasks), ap (λ l. length l) c.deref_mut.ensures.value)

pub returns-clause-spelled : goal.returns-clause-spelled
returns-clause-spelled g c =
    let r = g.O.Record.Codec in
    let k = g.O.Key.Codec in
    let s = g.O.State.Codec in
    let cmp = g.O.Key.Ord.cmp in
    let task = c.args.task in
    let tasks = with_items_is c.self.inside.tasks c.spell_part.new.tasks (omega arith) in
    let same : logs_now c.deref.result.now ≡ logs_of c.args.graph.now c.args.self.now task = ap logs_now c.deref.ensures.value ∙ c.in_ok-logs.ensures ∙ ap (λ h. logs_of c.args.graph.now h task) c.self.view_is in
    IfOk-weaker c.share_part.result _ _ (λ bytes shared. λ p at.
    let copied = ap (λ l. slice_get (copies_of l) task) c.deref_mut.ensures.value ∙ (ap (λ h. slice_get h.copies task) c.self.view_is ∙ copied_at (slice_get c.args.self.now.copies task) p at) in
    let spelled = c.in_ok-spell_part.ensures.spelled p copied in
    subst (λ logs. PartIsSpelled r.HasSpelling cmp k.HasSpelling s.HasSpelling (with_logs logs p) × (bytes ≡ part_spelling r.spelling k.spelling s.spelling (with_logs logs p))) same
    (spelled.0, shared ∙ ap (λ l. part_in l task) (c.deref_mut-2.ensures.value ∙ tasks) ∙ spelled.1))
    c.share_part.ensures.part
