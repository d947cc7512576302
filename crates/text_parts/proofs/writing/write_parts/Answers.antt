use Rattle.std.proofs.Common.{◌≡◌, ◌∙◌, ◌∷◌, ◌++◌, [], None, sym, ap, subst, append-nil}
use Rattle.std.specs.List.{flat_map}
use Rattle.std.specs.Io.KnownBytes.{Appends}
use Rattle.std.proofs.KnownBytes.{Appends-trans}
use Rattle.std.proofs.lemmas.List.Elements.{All-push}
use Rattle.std.proofs.lemmas.List.Concat.{flat_map-append}
use Rattle.text_parts.proofs.writing.write_parts.Goals as goal

pub loop-part-preserved : goal.loop-part-preserved
loop-part-preserved g c =
    let before = c.loop-part.invariant in
    let now = c.in_ok-write_part.ensures in
    let text = c.in-Some.part.text.items in
    let more : flat_map (λ part. part.text.items) c.loop-part.yielded ++ text ≡ flat_map (λ part. part.text.items) (c.loop-part.yielded ++ c.in-Some.part ∷ []) =
    ap (λ b. flat_map (λ part. part.text.items) c.loop-part.yielded ++ b) (sym (append-nil text)) ∙ sym (flat_map-append (λ part. part.text.items) c.loop-part.yielded (c.in-Some.part ∷ [])) in (
      All-push (λ part. part.fault ≡ None) c.loop-part.yielded c.in-Some.part before.0 now.whole,
      subst (Appends (g.W.Write.contents c.args.out.now) (g.W.Write.contents c.write_part.new.out)) more (Appends-trans (g.W.Write.contents c.args.out.now) (g.W.Write.contents c.loop-part.out) (g.W.Write.contents c.write_part.new.out) (flat_map (λ part. part.text.items) c.loop-part.yielded) text before.1 now.bytes),
    )
