use Rattle.std.proofs.Common.{subst}
use Rattle.published_lists.specs.Rows.{EachBegins}
use Rattle.published_lists.specs.Operations.{staged}
use Rattle.published_lists.proofs.EachRow.{each_trans}
use Rattle.output_readers.proofs.output_writer.OutputWriter.published_begins.Goals as goal

pub returns : goal.returns
returns g c =
    let i = c.self.inside in
    let kept = c.self.invariant in
    let shown = i.writer.desk.shown.value in
    let staged = staged shown i.writer.behind i.writer.log.items in
    let begins : EachBegins shown.edition.lists staged.lists = each_trans shown.edition.lists i.last.lists staged.lists kept.named.1 kept.begins in
    rw (← c.self.view_is) (subst (λ l. EachBegins l staged.lists) kept.sealed begins)
