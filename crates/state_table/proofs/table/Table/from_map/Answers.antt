use Rattle.std.proofs.Common.{◌++◌, sym, ap, subst, ◌∙◌}
use Rattle.std.specs.List.Sorted.{IsStrictlySortedBy}
use Rattle.std.specs.Map.{keys_of}
use Rattle.state_table.proofs.Walked.{next_put}
use Rattle.state_table.proofs.table.Table.from_map.Goals as goal

pub loop-key-preserved : goal.loop-key-preserved
loop-key-preserved g c =
    let e : g.row.K.Denot × g.row.S.Denot = (c.in-Some.key, c.in-Some.state) in
    next_put g.met.K.Ord.total c.loop-key.table c.next.new.self _ _ e (subst (λ l. IsStrictlySortedBy g.K.Ord.cmp (keys_of l)) (sym (c.into_iter-key-iterator.ensures.into_iter_gives.0 ∙ c.into_btree_map-key-items.ensures)) c.len.ensures.ordered) (ap (λ l. c.loop-key.table ++ l) (sym c.in-Some.ensures.steps) ∙ c.loop-key.invariant) c.in_ok-insert.ensures.ok
