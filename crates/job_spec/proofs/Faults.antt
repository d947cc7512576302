-- Reading that fails, and a list read item by item.
use Rattle.std.proofs.Common.{◌≡◌, ◌∙◌, ℕ, ◌+◌, ◌<◌, List, ◌∷◌, length, drop, get_or, Result, refl, ap, add-one, drop-cons}
use Rattle.job_spec.specs.declared.fault.JobFault.{JobFault}
use Rattle.job_spec.specs.declared.fault.JobFault.TheVariants as faults
use Rattle.job_spec.specs.Reading.{◌>>=◌, Fails}

-- what fails in its first step fails
pub fails_bind : {A B : Type 0} (e : JobFault) (r : Result A JobFault) (f : A → Result B JobFault) → Fails e r → Fails e (r >>= f)
fails_bind faults.Memory r f h = tt
fails_bind e r f h = ap (λ x. x >>= f) h

pub fails_along : {B : Type 0} (e : JobFault) (r s : Result B JobFault) → r ≡ s → Fails e r → Fails e s
fails_along faults.Memory r s p h = tt
fails_along e r s p h = rw (← p) h

-- the item at the front of what is left
pub drop_item : {X : Type 0} (xs : List X) (i : ℕ) (x : X) → i < length xs → x ≡ get_or xs i x → drop i xs ≡ x ∷ drop (i + 1) xs
drop_item xs i x within is = drop-cons xs i x within ∙ rw (← is, add-one) refl
