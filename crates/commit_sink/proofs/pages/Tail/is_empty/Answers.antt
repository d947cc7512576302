use Rattle.std.proofs.Common.{◌∙◌}
use Rattle.std.proofs.lemmas.Bool.{eq-eqb}
use Rattle.commit_sink.proofs.Paged.{none-joined}
use Rattle.commit_sink.proofs.pages.Tail.is_empty.Goals as goal

pub returns-else-is_empty : goal.returns-else-is_empty
returns-else-is_empty g c = (
  λ yes. absurd (cc (yes, c.if-is_empty.false)),
  λ none.
      let count = none-joined c.self.inside.full.items c.self.inside.last.items c.self.invariant (c.self.view_is ∙ none) in
      c.is_empty.ensures ∙ eq-eqb c.self.inside.full.len 0 (c.self.inside.full.ok.0 ∙ count),
)
