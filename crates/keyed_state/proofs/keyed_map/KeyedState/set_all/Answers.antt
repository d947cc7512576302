use Rattle.std.proofs.Common.{◌+◌, ◌∙◌, length, count_by, not, ap}
use Rattle.keyed_state.specs.Putting.{has_key}
use Rattle.keyed_state.proofs.Several.{states_put}
use Rattle.keyed_state.proofs.keyed_map.KeyedState.set_all.Goals as goal

pub returns-then-is_empty-clause-states : goal.returns-then-is_empty-clause-states
returns-then-is_empty-clause-states g c =
    states_put g.met.K.Ord.total c.set_all_alone.result c.args.self.now.entries c.args.entries.items c.set_all_alone.new.self.entries c.requires c.set_all_alone.ensures.entries

pub set_all_beside-requires-clause-len : goal.set_all_beside-requires-clause-len
set_all_beside-requires-clause-len g c =
    c.in_ok-len.ensures.len ∙ ap (λ l. length c.args.self.now.entries + count_by (λ e. not (has_key g.K.Ord.cmp c.args.self.now.entries e)) l) c.deref.ensures.value
