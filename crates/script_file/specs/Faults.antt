-- Reading that may fail, and what the code answers of it.
use Rattle.std.specs.Prelude.{◌≡◌, Bool, true, Option, Some, None, Result, Ok, Err, if◌then◌else◌}
use Rattle.script_file.specs.declared.fault.ItemFault.{ItemFault}
use Rattle.script_file.specs.declared.fault.ItemFault.TheVariants as one
use Rattle.script_file.specs.declared.fault.ScriptFault.{ScriptFault}
use Rattle.script_file.specs.declared.fault.ScriptFault.TheVariants as whole

-- the first fault ends the reading
infixl 10 ◌>>=◌
abbrev pub ◌>>=◌ : {A B E : Type 0} → Result A E → (A → Result B E) → Result B E
(Ok x) >>= f = f x
(Err e) >>= f = Err e

-- the value, or this fault where there is none
abbrev pub or_fault : {A E : Type 0} → E → Option A → Result A E
or_fault e (Some x) = Ok x
or_fault e None = Err e

abbrev pub wanted : {E : Type 0} → E → Bool → Result Bool E
wanted e b = if b then Ok true else Err e

-- What was answered of a row or a step, seen by view, is what reading gives, unless memory was refused.
abbrev pub FailsItem : {Y : Type 0} → ItemFault → Result Y ItemFault → Type 0
FailsItem one.Memory given = Unit {0}
FailsItem one.Bad given = given ≡ Err one.Bad

abbrev pub FindsItem : {X Y : Type 0} → (X → Y) → Result X ItemFault → Result Y ItemFault → Type 0
FindsItem view (Ok x) given = given ≡ Ok (view x)
FindsItem view (Err e) given = FailsItem e given

-- The same of a script and its parts.
abbrev pub Fails : {Y : Type 0} → ScriptFault → Result Y ScriptFault → Type 0
Fails whole.Memory given = Unit {0}
Fails e given = given ≡ Err e

abbrev pub Gives : {X Y : Type 0} → (X → Y) → Result X ScriptFault → Result Y ScriptFault → Type 0
Gives view (Ok x) given = given ≡ Ok (view x)
Gives view (Err e) given = Fails e given
