-- A job leaves the desk.
use Rattle.std.proofs.Common.{◌≡◌, ◌∙◌, ℕ, List, Option, Some, None, slice_index_or, slice_set, ap}
use Rattle.std.specs.Prelude.{IfNone}
use Rattle.std.proofs.lemmas.List.{set-get_or}

-- where none is there, none is put back
pub put_back : {A : Type 0} (items : List (Option A)) (n : ℕ) (job : Option A) → job ≡ slice_index_or items n job → IfNone job (slice_set items n None ≡ items)
put_back items n (Some j) is = tt
put_back items n None is = ap (λ job. slice_set items n job) is ∙ set-get_or items n None
