use Rattle.std.proofs.Common.{sym, ap, subst}
use Rattle.std.specs.Prelude.{OnOk}
use Rattle.std.specs.Map.{keys_of}
use Rattle.keyed_state.specs.Comparing.{HaveStates}
use Rattle.operator_state.proofs.operator_state.OperatorState.compare_and_set_all.Goals as goal

pub returns-clause-expected : goal.returns-clause-expected
returns-clause-expected g c =
    let seen = ap (λ o. o.entries) c.self.view_is in
    subst (λ es. OnOk c.compare_and_set_all.result (HaveStates g.K.Ord.cmp es (keys_of c.args.states.now.items) c.args.expected.now)) seen c.compare_and_set_all.ensures.expected

pub returns-clause-changed : goal.returns-clause-changed
returns-clause-changed g c = λ is same.
    let seen = ap (λ o. o.entries) c.self.view_is in
    c.compare_and_set_all.ensures.changed is (subst (λ es. HaveStates g.K.Ord.cmp es (keys_of c.args.states.now.items) c.args.expected.now) (sym seen) same)
