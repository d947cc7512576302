use Rattle.std.proofs.Common.{◌≡◌, length, take, subst, rules, le_refl, take_all}
use Rattle.std.specs.Io.BufRead.{FillKeeps}
use Rattle.std.specs.Io.KnownBytes.{Consumes}
use Rattle.std.proofs.BufReadLemmas.{Consumes_shown}
use Rattle.line_parts.proofs.Kept.{kept}
use Rattle.line_parts.proofs.buffer.append_ready.Goals as goal

pub returns : goal.returns
returns g c =
    let ready = c.in-Ok.ready.now in
    let rested = c.fill_buf.follows.lender-at-none in
    let filled = subst (FillKeeps _ (g.F.Read.remaining rested) (g.F.BufRead.consumable_len rested)) c.in-Ok.is c.fill_buf.follows.holds-at-none in
    let whole : take (length ready) ready ≡ ready = take_all (length ready) ready (le_refl _) in
    let moved = Consumes_shown _ _ _ _ ready (length ready) (le_refl _) c.in-Ok.ensures.front c.in-Ok.ensures.end filled.0 filled.1 c.consume.ensures.bytes in
    record {
      bytes = kept _ _ c.args.text.now.items c.extend_from_slice.new.self.items ready c.in_ok-extend_from_slice.ensures.items (subst (Consumes _ _) whole moved.0);
      end = λ is. moved.1 (search rules);
    }
