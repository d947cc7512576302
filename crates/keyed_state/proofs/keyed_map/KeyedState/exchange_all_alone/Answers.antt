use Rattle.std.proofs.Common.{Err, sym, ap, subst, ◌∙◌}
use Rattle.std.specs.Map.{keys_of}
use Rattle.keyed_state.specs.Comparing.{HaveStates}
use Rattle.keyed_state.proofs.Compared.{seen_alone, told_on}
use Rattle.keyed_state.proofs.keyed_map.KeyedState.exchange_all_alone.Goals as goal

pub returns-in_err-exchange_all_in-clause-changed : goal.returns-in_err-exchange_all_in-clause-changed
returns-in_err-exchange_all_in-clause-changed g c = λ is same.
    let seen = seen_alone g.K.Ord.cmp c.self.inside.base c.self.inside.overlay.entries c.args.self.now.entries c.args.self.now.unmerged (ap (λ m. m.entries) c.self.view_is) (ap (λ m. m.unmerged) c.self.view_is) c.requires.none_left in
    let fault = told_on c.from_residual.result c.in_err-exchange_all_in.field-0.0 _ c.from_residual.ensures.1 is in
    c.exchange_all_in.ensures.changed (c.in_err-exchange_all_in.was ∙ ap (λ f. Err f) fault)
    (subst (λ es. HaveStates g.K.Ord.cmp es (keys_of c.args.entries.now.items) c.args.expected.now) (sym seen) same)

pub returns-clause-expected : goal.returns-clause-expected
returns-clause-expected g c =
    let seen = seen_alone g.K.Ord.cmp c.self.inside.base c.self.inside.overlay.entries c.args.self.now.entries c.args.self.now.unmerged (ap (λ m. m.entries) c.self.view_is) (ap (λ m. m.unmerged) c.self.view_is) c.requires.none_left in
    subst (λ es. HaveStates g.K.Ord.cmp es (keys_of c.args.entries.now.items) c.args.expected.now) seen c.in_ok-exchange_all_in.ensures.expected
