use Rattle.std.proofs.Common.{Option, MatchOption, subst, sym}
use Rattle.std.specs.Prelude.{⊤}
use Rattle.published_lists.specs.Rows.{EachBegins}
use Rattle.output_readers.specs.Seeing.{Output}
use Rattle.row_publishing.proofs.Shown.{published_kept}
use Rattle.thread_runner.proofs.station.Station.published_begins.Goals as goal

pub returns-in-Some : goal.returns-in-Some
returns-in-Some g c =
    rw (← c.self.view_is) (published_kept _ _ (subst (λ (o : Option Output). MatchOption o ⊤ (λ w. EachBegins w.published w.appended)) (sym c.in-Some.is) c.published_begins.ensures) c.self.invariant.1)
