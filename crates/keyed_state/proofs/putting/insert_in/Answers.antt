use Rattle.std.proofs.Common.{Some, cond, ap, sym, subst, ◌∙◌}
use Rattle.std.specs.BTreeMap.{is_at}
use Rattle.std.specs.List.Sorted.{IsStrictlySortedBy}
use Rattle.std.specs.Map.{keys_of}
use Rattle.abs_codec.specs.Entries.{value_at}
use Rattle.keyed_state.proofs.Laid.{value_at-insert_entry, insert_entry-rises}
use Rattle.keyed_state.proofs.putting.insert_in.Goals as goal

pub returns-clause-states : goal.returns-clause-states
returns-clause-states g c = λ q.
    let cmp = g.K.Ord.cmp in
    ap (λ l. value_at cmp l q) (c.put.ensures ∙ c.in_ok-done.ensures.ok) ∙ value_at-insert_entry g.met.K.Ord.total c.in_ok-own.own c.args.key c.args.state q
    ∙ ap (λ l. cond (is_at (cmp c.args.key) q) (Some c.args.state) (value_at cmp l q)) c.in_ok-own.ensures.ok

pub returns-clause-ordered : goal.returns-clause-ordered
returns-clause-ordered g c =
    subst (λ l. IsStrictlySortedBy g.K.Ord.cmp (keys_of l)) (sym (c.put.ensures ∙ c.in_ok-done.ensures.ok)) (insert_entry-rises g.met.K.Ord.total c.in_ok-own.own c.args.key c.args.state c.insert-done.ensures.ordered)
