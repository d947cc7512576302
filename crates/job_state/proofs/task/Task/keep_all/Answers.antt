use Rattle.std.proofs.Common.{Err, sym, ap, subst, ◌∙◌}
use Rattle.std.specs.Map.{keys_of}
use Rattle.std.specs.Option.{option_copied}
use Rattle.keyed_state.proofs.Compared.{told_on}
use Rattle.job_state.specs.AtOnce.{HaveExpected}
use Rattle.job_state.proofs.Kept.{operator_here, kept_here}
use Rattle.job_state.proofs.task.Task.keep_all.Goals as goal
use Rattle.job_state.proofs.task.Task.keep_all.Goals.{in-Operator+in_ok-set_expected, in_default}

pub returns-in_err-set_expected-clause-changed : goal.returns-in_err-set_expected-clause-changed
returns-in_err-set_expected-clause-changed g c = λ entries holds is have.
    let fault = told_on c.from_residual.result c.in_err-set_expected.field-0.0 _ c.from_residual.ensures.1 is in
    let same = kept_here c.self.inside.kind c.self.inside.bytes.items c.in-Operator.kept c.args.self.now entries c.in-Operator.is c.self.view_is holds in
    c.set_expected.ensures.changed (c.in_err-set_expected.was ∙ ap (λ f. Err f) fault)
    (subst (λ es. HaveExpected g.K.Ord.cmp es (keys_of c.args.states.now.items) (option_copied c.args.expected)) (sym same) have)

pub returns-clause-expected : goal.returns-clause-expected
returns-clause-expected g c = λ entries holds.
    elim c.match-self.branch [
      | in-Operator+in_ok-set_expected w ↦
          subst (λ es. HaveExpected g.K.Ord.cmp es (keys_of c.args.states.now.items) (option_copied c.args.expected))
          (kept_here c.self.inside.kind c.self.inside.bytes.items w.in-Operator.kept c.args.self.now entries w.in-Operator.is c.self.view_is holds) w.in_ok-set_expected.ensures.expected
      | in_default w ↦
          let at = operator_here c.self.inside.kind c.self.inside.bytes.items c.args.self.now entries c.self.view_is holds in
          absurd (w.in_default.not-Operator at.0 at.1)
    ]
