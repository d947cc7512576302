use Rattle.std.proofs.Common.{◌≡◌, All, None}
use Rattle.std.specs.List.{flat_map}
use Rattle.std.specs.Io.KnownBytes.{Appends}
use Rattle.text_parts.proofs.writing.write_parts.Given as goal

-- the parts so far are whole, and written
abbrev pub invariant-loop-part : goal.invariant-loop-part
invariant-loop-part g l =
    All (λ part. part.fault ≡ None) l.yielded
    × Appends (g.W.Write.contents l.fn.out) (g.W.Write.contents l.out) (flat_map (λ part. part.text.items) l.yielded)
