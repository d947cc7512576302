use Rattle.std.proofs.Common.{rules, arith, ◌≡◌, ◌∙◌, ap, not}
use Rattle.std.specs.List.{count_by}
use Rattle.coordinator.proofs.Counts.{All-none_missing, none_missing-All}
use Rattle.coordinator.proofs.coordinator_state.Coordinator.ready.Goals as goal

pub returns-then-is_some : goal.returns-then-is_some
returns-then-is_some c =
    let counted : c.self.inside.missing ≡ count_by not c.args.self.now.acked = c.self.invariant ∙ ap (λ v. count_by not v.acked) c.self.view_is in (
      λ none. (rw (← c.self.view_is) (search rules), All-none_missing _ (grind (arith, counted, none))),
      λ ready. let none = none_missing-All _ ready.1 in grind (arith, counted, none),
    )
