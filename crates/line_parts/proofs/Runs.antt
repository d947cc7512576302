-- Runs behind runs.
use Rattle.std.proofs.Common.{◌≡◌, ◌∙◌, ◌⊎◌, inl, inr, ℕ, ◌+◌, List, ◌++◌, Option, ap, Vec}
use Rattle.std.proofs.lemmas.List.Concat.{flat_map-append}
use Rattle.std.specs.declared.alloc.Global.{Global}
use Rattle.line_parts.specs.Lines.{in_runs}

-- where runs stand behind others, so do their items
pub joined : {X F : Type 0} (first second made : List (Vec X Global)) (n m all : ℕ) (next end refused : Option F)
    → ((made ≡ first ++ second) × (all ≡ n + m) × (end ≡ next)) ⊎ ((made ≡ first) × (all ≡ n) × (end ≡ refused))
    → ((in_runs made ≡ in_runs first ++ in_runs second) × (all ≡ n + m) × (end ≡ next)) ⊎ ((in_runs made ≡ in_runs first) × (all ≡ n) × (end ≡ refused))
joined first second made n m all next end refused (inl (same, lines, fault)) = inl (ap in_runs same ∙ flat_map-append (λ run. run.items) first second, lines, fault)
joined first second made n m all next end refused (inr (same, lines, fault)) = inr (ap in_runs same, lines, fault)
