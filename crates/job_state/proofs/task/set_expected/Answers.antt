use Rattle.keyed_state.specs.declared.comparing.SetFault.TheVariants as SetFault
use Rattle.keyed_state.proofs.Compared.{told_on}
use Rattle.job_state.proofs.task.set_expected.Goals as goal

pub returns-in-Some-clause-expected : goal.returns-in-Some-clause-expected
returns-in-Some-clause-expected g c = rw c.in-Some.is c.exchange_all.ensures.expected

pub returns-in-Some-clause-changed : goal.returns-in-Some-clause-changed
returns-in-Some-clause-changed g c = rw c.in-Some.is c.exchange_all.ensures.changed

pub returns-in_ok-set_all-in-None-clause-expected : goal.returns-in_ok-set_all-in-None-clause-expected
returns-in_ok-set_all-in-None-clause-expected g c = rw c.in-None.is tt

pub returns-in_err-set_all-in-None-clause-changed : goal.returns-in_err-set_all-in-None-clause-changed
returns-in_err-set_all-in-None-clause-changed g c = λ is have.
    let told = told_on c.from_residual.result SetFault.Memory SetFault.Changed c.from_residual.ensures.1 is in
    absurd (cc)
