-- What has a spelling is refused for memory alone.
use Rattle.std.proofs.Common.{◌≡◌, ◌≢◌, IfErr, Result, Ok, Err, refl}
use Rattle.abs_codec.specs.declared.fault.CodecFault.{CodecFault}
use Rattle.abs_codec.specs.declared.fault.CodecFault.TheVariants.{Memory, TooLong}

pub only_memory : {A : Type 0} (H : Type 0) (r : Result A CodecFault) → H → IfErr r (λ f. f ≢ Memory → (f ≡ TooLong) × ¬ H) → IfErr r (λ f. f ≡ Memory)
only_memory H (Ok x) holds refused = tt
only_memory H (Err Memory) holds refused = refl
only_memory H (Err f) holds refused = absurd ((refused (λ e. absurd cc)).1 holds)
