-- A task that holds entries is an operator, and they are the ones that it keeps.
use Rattle.std.proofs.Common.{◌≡◌, ℕ, List, refl, sym, ap, ◌∙◌}
use Rattle.operator_state.specs.Operating.{Operating}
use Rattle.job_state.specs.Kinds.{standing_of}
use Rattle.job_state.specs.Standing.{Standing}
use Rattle.job_state.specs.declared.holding.Holding.TheVariants as holds
use Rattle.job_state.specs.declared.task.Kind.{Kind}
use Rattle.job_state.specs.declared.task.Kind.TheVariants as kind

module _ {R K S : Type 0} where
  pub operator_here : (of : Kind R K S) (bytes : List ℕ) (task : Standing R K S) (entries : List (K × S)) → standing_of of bytes ≡ task → task.holding ≡ holds.Operator entries → (kept : _) × (of ≡ kind.Operator kept)
  operator_here (kind.Source offset copy) bytes task entries seen at =
      let other : holds.Source offset ≡ holds.Operator entries = ap (λ t. t.holding) seen ∙ at in
      absurd cc
  operator_here (kind.Operator kept) bytes task entries seen at = (kept, refl)
  operator_here (kind.Sink sink copy) bytes task entries seen at =
      let other : holds.Sink sink ≡ holds.Operator entries = ap (λ t. t.holding) seen ∙ at in
      absurd cc

  pub kept_here : (of : Kind R K S) (bytes : List ℕ) (kept : Operating K S) (task : Standing R K S) (entries : List (K × S)) → of ≡ kind.Operator kept → standing_of of bytes ≡ task → task.holding ≡ holds.Operator entries → kept.entries ≡ entries
  kept_here of bytes kept task entries is seen at =
      let same : holds.Operator kept.entries ≡ holds.Operator entries = ap (λ (k : Kind R K S). (standing_of k bytes).holding) (sym is) ∙ (ap (λ t. t.holding) seen ∙ at) in
      cc
