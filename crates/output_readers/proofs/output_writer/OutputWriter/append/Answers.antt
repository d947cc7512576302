use Rattle.std.proofs.Common.{◌≡◌, ℕ, ◌+◌, [], ◌∷◌, Some, drop, set, length, subst, sym, ap, ◌∙◌, rules}
use Rattle.std.specs.Vec.{with_items}
use Rattle.std.specs.List.{All}
use Rattle.std.proofs.lemmas.List.{with_items_is, length-set}
use Rattle.std.proofs.lemmas.List.Sums.{fold-append}
use Rattle.published_lists.specs.declared.lists.Operation.{Operation}
use Rattle.published_lists.specs.declared.lists.Operation.TheVariants.{Append}
use Rattle.left_right.specs.Sides.{view}
use Rattle.published_lists.specs.Rows.{with_row, rows_of, EachBegins, Counts}
use Rattle.published_lists.specs.Editions.{Follows}
use Rattle.published_lists.specs.Holding.{Held, IsSealed}
use Rattle.published_lists.specs.Operations.{after, after_all, staged}
use Rattle.output_readers.specs.Seeing.{Output, IsOpening}
use Rattle.published_lists.proofs.EachRow.{counts-with_row, with_row-begins, each_trans}
use Rattle.output_readers.proofs.output_writer.OutputWriter.append.Goals as goal

pub invariant_of-self-2 : goal.invariant_of-self-2
invariant_of-self-2 g c =
    let i = c.self.inside in
    let w = i.writer in
    let now = c.stage.new.writer in
    let kept = c.self.invariant in
    let n : ℕ = c.appended-rows.result + 1 in
    let s = c.args.subtask in
    let row = c.args.row.items in
    let held : Held = staged w.desk.shown.value w.behind w.log.items in
    let op : Operation = Append s c.args.row in
    let desk : now.desk ≡ w.desk = c.in_ok-stage.ensures.desk in
    let grown : staged now.desk.shown.value now.behind now.log.items ≡ after held op =
    ap (λ d. staged d.shown.value now.behind now.log.items) desk ∙ (ap (after_all w.desk.shown.value) c.in_ok-stage.ensures.last ∙ fold-append after w.desk.shown.value (drop w.behind w.log.items) (op ∷ [])) in
    let noted : (with_items i.counts c.note.new.counts).items ≡ set i.counts.items s n = with_items_is i.counts c.note.new.counts (search rules) ∙ (c.note.ensures ∙ ap (λ l. set l s n) c.as_mut_slice.ensures.value) in
    let is : n ≡ length (rows_of held.lists s) + 1 = ap (λ k. k + 1) (c.appended-rows.ensures ∙ ap (λ (k : Output). length (rows_of k.appended s)) (sym c.self.view_is)) in
    let all : Counts (set i.counts.items s n) (with_row held.lists s row) = counts-with_row i.counts.items held.lists s n row kept.counts is in
    let same_length : length i.counts.items ≡ length (with_items i.counts c.note.new.counts).items = sym (ap length noted ∙ length-set i.counts.items s n) in
    let begins : EachBegins i.last.lists (with_row held.lists s row) = each_trans i.last.lists held.lists (with_row held.lists s row) kept.begins (with_row-begins held.lists s row) in record {
      head = kept.head;
      known = subst (λ d. view d.place ≡ Some d.shown.value.edition) (sym desk) kept.known;
      sealed = subst (λ d. IsSealed d.shown.value) (sym desk) kept.sealed;
      named = subst (λ d. Follows d.shown.value.edition i.last) (sym desk) kept.named;
      begins = subst (λ (h : Held). EachBegins i.last.lists h.lists) (sym grown) begins;
      counts = subst (λ (h : Held). Counts (with_items i.counts c.note.new.counts).items h.lists) (sym grown) (subst (λ l. Counts l (with_row held.lists s row)) (sym noted) all);
      readers = subst (λ k. All (IsOpening i.last.history k) i.readers.items) same_length kept.readers;
    }
