use Rattle.std.proofs.Common.{◌≡◌, ◌<◌, ◌-◌, ◌∙◌, length, sym, subst, arith}
use Rattle.commit_sink.specs.Runs.{IsRunFrom}
use Rattle.commit_sink.proofs.Runs.{run-behind}
use Rattle.commit_sink.proofs.pages.Pages.run_from.Goals as goal

pub returns : goal.returns
returns g c =
    let front = c.self.inside.first.items in
    let count : c.len-2.result ≡ length front = c.len-2.ensures ∙ c.self.inside.first.ok.0 in
    subst (λ all. IsRunFrom all c.args.place c.run_from.result.now) c.self.view_is
    (run-behind front c.self.inside.tail c.run_from.result.now c.args.place (omega (arith, count))
    (subst (λ all. c.args.place < length all) (sym c.self.view_is) c.requires)
    (subst (λ n. IsRunFrom c.self.inside.tail (c.args.place - n) c.run_from.result.now) count c.run_from.ensures))
