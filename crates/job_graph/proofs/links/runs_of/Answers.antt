use Rattle.std.proofs.Common.{◌≡◌, ℕ, List, [], ◌∷◌, length, map, slice_index, sym, ap, subst, ◌∙◌, arith, inl, inr}
use Rattle.std.proofs.lemmas.Bool.{cases_lt}
use Rattle.std.proofs.lemmas.List.{get_or_push, get_or_append_left, length-append}
use Rattle.job_channels.specs.Channel.{channel_view}
use Rattle.job_graph.specs.Runs.{IsRun}
use Rattle.job_graph.proofs.links.runs_of.Goals as goal

pub loop-place-preserved : goal.loop-place-preserved
loop-place-preserved c =
    let channels = map channel_view c.args.channels.now in
    let numbers = c.args.numbers.now in
    let runs = c.loop-place.runs.items in
    let pushed = c.in_ok-push.ensures.items in
    let seen = λ (n : ℕ). ap (λ (l : List ℕ). slice_index l n) pushed in
    let before = c.loop-place.invariant in (
      omega (arith, ap length pushed, length-append runs (c.run_at.result ∷ []), before.0),
      λ met lt. elim (cases_lt met c.loop-place.place) [
        | inl old ↦ subst (IsRun channels numbers met) (sym (seen met ∙ get_or_append_left runs (c.run_at.result ∷ []) 0 met (omega (arith, old, before.0)))) (before.1 met old)
        | inr new ↦
            let here : met ≡ c.loop-place.place = omega (arith, lt, new) in
            subst (IsRun channels numbers met) (sym (seen met ∙ get_or_push runs c.run_at.result 0 met (omega (arith, here, before.0)))) (subst (λ (n : ℕ). IsRun channels numbers n c.run_at.result) (sym here) c.run_at.ensures)
      ],
    )
