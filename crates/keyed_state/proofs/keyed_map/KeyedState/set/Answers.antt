use Rattle.std.proofs.Common.{ap, sym, ◌∙◌}
use Rattle.abs_codec.specs.Entries.{value_at}
use Rattle.keyed_state.proofs.Laid.{seen_above, seen_below, counted_after, value_at-insert_entry, put_over-rises}
use Rattle.keyed_state.proofs.keyed_map.KeyedState.set.Goals as goal

-- ---- into the overlay

above : goal.returns-then-self-clause-entries
above g c =
    seen_above g.met.K.Ord.total c.self.inside.base c.self.inside.overlay.entries c.args.self.now.entries c.args.key c.args.state (ap (λ m. m.entries) c.self.view_is) c.insert.new.self.entries c.self.invariant.overlay_rises c.in_ok-insert.ensures.entries

pub returns-in_err-insert-clause-ordered : goal.returns-in_err-insert-clause-ordered
returns-in_err-insert-clause-ordered g c = put_over-rises g.met.K.Ord.total c.self.inside.base c.insert.new.self.entries c.self.invariant.base_rises

pub invariant_of-self-then-self : goal.invariant_of-self-then-self
invariant_of-self-then-self g c = record {
  base_rises = c.self.invariant.base_rises;
  overlay_rises = c.insert.ensures.ordered;
  counted = counted_after g.met.K.Ord.total c.self.inside.base c.self.inside.overlay.entries c.args.self.now.entries c.args.key c.args.state (ap (λ m. m.entries) c.self.view_is) c.len_with-len.result _ c.self.invariant.base_rises c.len_with-len.ensures (above g c);
}

pub returns-then-self-clause-entries : goal.returns-then-self-clause-entries
returns-then-self-clause-entries g c = above g c

pub returns-then-self-clause-states : goal.returns-then-self-clause-states
returns-then-self-clause-states g c = λ q.
    ap (λ es. value_at g.K.Ord.cmp es q) (above g c) ∙ value_at-insert_entry g.met.K.Ord.total c.args.self.now.entries c.args.key c.args.state q

pub returns-then-self-clause-ordered : goal.returns-then-self-clause-ordered
returns-then-self-clause-ordered g c = put_over-rises g.met.K.Ord.total c.self.inside.base c.insert.new.self.entries c.self.invariant.base_rises

-- ---- into the base

below : goal.returns-clause-entries
below g c =
    seen_below g.met.K.Ord.total c.self.inside.base c.self.inside.overlay.entries c.args.self.now.entries c.args.key c.args.state (ap (λ m. m.entries) c.self.view_is) c.insert_in.new.map (sym c.contains_key.ensures ∙ c.if-contains_key.false) c.in_ok-insert_in.ensures.entries

pub returns-in_err-insert_in-clause-ordered : goal.returns-in_err-insert_in-clause-ordered
returns-in_err-insert_in-clause-ordered g c = rw c.in_err-insert_in.ensures.err (put_over-rises g.met.K.Ord.total c.self.inside.base c.self.inside.overlay.entries c.self.invariant.base_rises)

pub invariant_of-self-2 : goal.invariant_of-self-2
invariant_of-self-2 g c = record {
  base_rises = c.in_ok-insert_in.ensures.ordered;
  overlay_rises = c.self.invariant.overlay_rises;
  counted = counted_after g.met.K.Ord.total c.self.inside.base c.self.inside.overlay.entries c.args.self.now.entries c.args.key c.args.state (ap (λ m. m.entries) c.self.view_is) c.len_with-len.result _ c.self.invariant.base_rises c.len_with-len.ensures (below g c);
}

pub returns-clause-entries : goal.returns-clause-entries
returns-clause-entries g c = below g c

pub returns-clause-states : goal.returns-clause-states
returns-clause-states g c = λ q.
    ap (λ es. value_at g.K.Ord.cmp es q) (below g c) ∙ value_at-insert_entry g.met.K.Ord.total c.args.self.now.entries c.args.key c.args.state q

pub returns-clause-ordered : goal.returns-clause-ordered
returns-clause-ordered g c = put_over-rises g.met.K.Ord.total c.insert_in.new.map c.self.inside.overlay.entries c.in_ok-insert_in.ensures.ordered
