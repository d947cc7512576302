use Rattle.std.proofs.Common.{◌++◌, sym, ap, ◌∙◌}
use Rattle.std.specs.BTreeMap.{insert_entry}
use Rattle.state_table.proofs.Walked.{next_put}
use Rattle.state_table.proofs.table.Table.whole.Goals as goal

pub loop-key-preserved : goal.loop-key-preserved
loop-key-preserved g c =
    let e : g.row.K.Denot × g.row.S.Denot = (c.in-Some.key.now, c.in-Some.state.now) in
    let put = c.in_ok-insert.ensures.entries ∙ ap (λ k. insert_entry g.K.Ord.cmp c.loop-key.whole k c.in_ok-copied-2.field-0) c.in_ok-copied.ensures ∙ ap (insert_entry g.K.Ord.cmp c.loop-key.whole e.0) c.in_ok-copied-2.ensures in
    next_put g.met.K.Ord.total c.loop-key.whole c.next.new.self _ c.args.self.now e c.entries-entries.ensures.ordered (ap (λ l. c.loop-key.whole ++ l) (sym c.in-Some.ensures.steps) ∙ c.loop-key.invariant) put

pub loop-key-preserved-in_ok-insert : goal.loop-key-preserved-in_ok-insert
loop-key-preserved-in_ok-insert g c =
    let e : g.row.K.Denot × g.row.S.Denot = (c.in-Some.key.now, c.in-Some.state.now) in
    let put = c.in_ok-insert.ensures.entries ∙ ap (λ k. insert_entry g.K.Ord.cmp c.loop-key.whole k c.in_ok-copied-2.field-0) c.in_ok-copied.ensures ∙ ap (insert_entry g.K.Ord.cmp c.loop-key.whole e.0) c.in_ok-copied-2.ensures in
    next_put g.met.K.Ord.total c.loop-key.whole c.next.new.self _ c.args.self.now e c.entries-entries.ensures.ordered (ap (λ l. c.loop-key.whole ++ l) (sym c.in-Some.ensures.steps) ∙ c.loop-key.invariant) put
