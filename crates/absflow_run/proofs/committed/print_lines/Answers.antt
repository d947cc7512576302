use Rattle.std.proofs.Common.{rules, ◌≡◌, refl, subst, arith}
use Rattle.std.specs.Io.KnownBytes.{Appends}
use Rattle.text_parts.proofs.Joining.{more_written}
use Rattle.absflow_run.specs.Printed.{IsRecordLine}
use Rattle.absflow_run.proofs.RunLines.{put_alone}
use Rattle.absflow_run.proofs.committed.print_lines.Goals as goal

pub loop-done-preserved : goal.loop-done-preserved
loop-done-preserved g c =
    let (within, written) = c.loop-done.invariant in
    let (bytes, lines, text) = c.in_ok-done.ensures.lines in
    let most = c.in_ok-done.ensures.most in
    let few = c.min.ensures in
    let less = c.loop-done-test.true in
    let same : c.put_lines-put.new.text.items ≡ bytes = put_alone bytes c.clear.new.self.items c.put_lines-put.new.text.items text c.clear.ensures.items in
    let out : Appends (g.W.Write.contents c.loop-done.out) (g.W.Write.contents c.write_all.new.self) c.put_lines-put.new.text.items = search rules in (
      omega (arith, most, few, less),
      more_written (IsRecordLine (g.C.CommittedRows.records c.args.lines.now.core.now c.args.lines.now.sink)) 0 c.loop-done.done c.loop-done.done c.in_ok-done.field-0 _ _ _ _ written (omega arith)
          (bytes, lines, subst (Appends (g.W.Write.contents c.loop-done.out) (g.W.Write.contents c.write_all.new.self)) same out) refl,
    )
