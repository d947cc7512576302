-- Roles that are numbered one after another.
use Rattle.std.proofs.Common.{◌≡◌, ◌∙◌, ℕ, ◌+◌, ◌<◌, ◌⊎◌, List, [], ◌∷◌, ◌++◌, length, take, map, get_or, Some, slice_get, sym, ap, inl, inr, arith}
use Rattle.std.proofs.lemmas.List.{take-append-le, take_more, map_push}
use Rattle.std.proofs.lemmas.Option.{slice_get_within}
use Rattle.std.proofs.Math.Seq.{take-append_seam}
use Rattle.job_graph.specs.declared.role.Role.{Role}
use Rattle.job_graph.specs.declared.role.TaskKind.{TaskKind}
use Rattle.job_graph.specs.Expanded.{IsNumbered, count_like, role_number, task_kind}
use Rattle.job_graph.proofs.LinkLemmas.{slice_get_push}

pub numbered_push : (roles : List Role) (role : Role) → IsNumbered roles → role_number role ≡ count_like roles role → IsNumbered (roles ++ role ∷ [])
numbered_push roles role numbered here = record { each = λ task found is. by task found (slice_get_push roles role task found is) }
  where
    by : (task : ℕ) (found : Role) → (slice_get roles task ≡ Some found) ⊎ ((task ≡ length roles) × (role ≡ found)) → role_number found ≡ count_like (take task (roles ++ role ∷ [])) found
    by task found (inl is) =
        let within = slice_get_within roles task found is in
        let before : take task (roles ++ role ∷ []) ≡ take task roles = take-append-le task roles (role ∷ []) (omega arith) in
        rw before (numbered.each task found is)
    by task found (inr new) = rw (new.0, ← new.1, take-append_seam) here

pub kinds_push : (roles : List Role) (role : Role) (kinds : List TaskKind) (i : ℕ) (d : TaskKind) → i < length kinds → task_kind role ≡ get_or kinds i d → map task_kind roles ≡ take i kinds
    → map task_kind (roles ++ role ∷ []) ≡ take (i + 1) kinds
kinds_push roles role kinds i d within same before = map_push task_kind roles role ∙ ap (λ k. map task_kind roles ++ k ∷ []) same ∙ ap (λ l. l ++ get_or kinds i d ∷ []) before ∙ sym (take_more kinds i d within)
