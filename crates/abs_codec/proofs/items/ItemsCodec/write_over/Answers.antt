use Rattle.std.proofs.Common.{◌≡◌, ◌+◌, ◌^◌, ◌<◌, ◌≤◌, ◌++◌, length, take, subst, sym, ap, ◌∙◌, arith}
use Rattle.std.specs.Int.{w32, to_be_bytes}
use Rattle.std.specs.List.{flat_map, All}
use Rattle.std.proofs.lemmas.List.{take_all}
use Rattle.std.proofs.lemmas.List.Elements.{All-more}
use Rattle.abs_codec.specs.Spelling.{AreSpelled, IsWrittenAt, list_spelling}
use Rattle.abs_codec.proofs.Lists.{text_more}
use Rattle.abs_codec.proofs.Over.{stays, longer}
use Rattle.abs_codec.proofs.items.ItemsCodec.write_over.Goals as goal

pub loop-item-preserved : goal.loop-item-preserved
loop-item-preserved g c =
    let xs = c.deref-item-items.result.now in
    let x = c.item-item.result in
    let i = c.loop-item.item-index in
    let done = c.in_ok-end-2.ensures.written in
    let old = c.args.bytes.now in
    let new = c.write_over.new.bytes in
    record {
      len = c.write_over.ensures.len ∙ c.loop-item.invariant.len;
      within = done.1.1;
      ends = omega (arith, c.loop-item.invariant.ends, done.1.0, longer g.T.Codec.spelling xs i x c.loop-item-test.true c.item-item.is);
      kept = stays c.args.at c.loop-item.end old c.loop-item.bytes new (omega (arith, c.loop-item.invariant.ends)) c.loop-item.invariant.kept c.write_over.ensures.keeps;
      text = text_more g.T.Codec.spelling (to_be_bytes w32 (length xs)) (take c.args.at old) (take c.loop-item.end c.loop-item.bytes) (take c.in_ok-end-2.end new) xs i x c.loop-item-test.true c.item-item.is c.loop-item.invariant.text done.1.2;
      each = All-more g.T.Codec.HasSpelling xs i x c.loop-item-test.true c.loop-item.invariant.each (subst g.T.Codec.HasSpelling c.item-item.is done.0);
    }

pub returns-clause-written : goal.returns-clause-written
returns-clause-written g c =
    let xs = c.deref-item-items.result.now in
    let spelling = g.T.Codec.spelling in
    let kept = take c.args.at c.args.bytes.now in
    let all : take c.loop-item.item-index xs ≡ xs = take_all c.loop-item.item-index xs (omega (arith, c.loop-item-test.false)) in
    let same : xs ≡ c.args.self.now = c.deref-item-items.ensures.value ∙ c.self.view_is in
    let len : length xs < 2 ^ 32 = omega (arith, c.if-len.false, c.len.ensures, c.deref-item-items.ensures.len) in
    subst (λ ys. AreSpelled g.T.Codec.HasSpelling ys × IsWrittenAt c.args.bytes.now c.loop-item.bytes c.args.at (list_spelling spelling ys) c.loop-item.end) same (
      (len, subst (All g.T.Codec.HasSpelling) all c.loop-item.invariant.each),
      (
        omega (arith, c.loop-item.invariant.ends, ap (λ ys. length (flat_map spelling ys)) all),
        c.loop-item.invariant.within,
        c.loop-item.invariant.text ∙ ap (λ ys. kept ++ (to_be_bytes w32 (length xs) ++ flat_map spelling ys)) all,
      ),
    )
