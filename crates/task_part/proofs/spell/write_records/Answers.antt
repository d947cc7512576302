use Rattle.std.proofs.Common.{length, subst}
use Rattle.std.specs.Int.{w32, to_be_bytes}
use Rattle.std.proofs.lemmas.List.Elements.{All-more}
use Rattle.abs_codec.proofs.Lists.{text_more}
use Rattle.task_part.proofs.spell.write_records.Goals as goal

pub loop-row-preserved : goal.loop-row-preserved
loop-row-preserved g c =
    let rows = c.args.records.now in
    let row = c.row-item.result in
    let at = c.loop-row.row-index in
    let done = c.in_ok-write.ensures.appended in
    record {
      text = text_more g.R.Codec.spelling (to_be_bytes w32 (length rows)) c.args.out.now.items c.loop-row.out.items c.write.new.out.items rows at row c.loop-row-test.true c.row-item.is c.loop-row.invariant.text done.1;
      each = All-more g.R.Codec.HasSpelling rows at row c.loop-row-test.true c.loop-row.invariant.each (subst g.R.Codec.HasSpelling c.row-item.is done.0);
    }
