-- Lists that stand in pages.
use Rattle.std.specs.Prelude.{◌≡◌, List, Vec, All, length}
use Rattle.std.specs.List.{flat_map}
use Rattle.std.specs.declared.alloc.Global.{Global}
use Rattle.commit_sink.specs.declared.pages.TheConstants.{PAGE}

-- pages one after another
abbrev pub joined : {T : Type 0} → List (Vec T Global) → List T
joined pages = flat_map (λ v. v.items) pages

-- each has as many items as a page has
abbrev pub AreFull : {T : Type 0} → List (Vec T Global) → Type 0
AreFull pages = All (λ v. length v.items ≡ PAGE) pages
