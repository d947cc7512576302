use Rattle.job_graph.specs.declared.role.Role.TheVariants as role
use Rattle.engine_model.specs.ByTests.{rules_by}
use Rattle.engine_plain.proofs.PlainReads.{plain_read}
use Rattle.engine_plain.proofs.PlainWorks.{plain_operate, plain_put_out}
use Rattle.engine_plain.proofs.PlainCopies.{plain_inject, plain_operator_barrier, plain_sink_barrier}
use Rattle.engine_plain.proofs.PlainCheckpoints.{plain_trigger, plain_persist, plain_persist_some, plain_complete}
use Rattle.engine_plain.proofs.PlainCommits.{plain_commit}
use Rattle.engine_plain.proofs.Stands.{stays_alone}
use Rattle.engine_plain.proofs.calls_are_plain.Goals as goal

pub returns : goal.returns
returns g c = λ lang tests s h runs.
    let rules = rules_by lang tests in
    record {
      read = λ k faults task result ends. plain_read lang s h k faults task runs.holds result ends;
      operate = λ k faults task input channel operator result at ends. plain_operate rules s h k faults task at.number input channel operator runs.keeps runs.holds at.at_task at.is at.leads result ends;
      put_out = λ k ledger faults task input channel subtask result at ends. plain_put_out rules s h k faults task subtask input channel ledger runs.keeps runs.holds at.at_task at.leads result ends;
      inject = λ k faults task result ends. plain_inject rules s h k faults task runs.keeps runs.holds result ends;
      operator_barrier = λ k faults task input channel operator result at ends. plain_operator_barrier rules s h k faults task runs.keeps runs.holds input channel (role.Operator at.number) at.at_task at.leads result ends;
      sink_barrier = λ k ledger faults task input channel subtask result at ends. plain_sink_barrier rules s h k faults task runs.keeps runs.holds input channel subtask ledger at.at_task at.leads result ends;
      trigger = λ k stored faults result ends. plain_trigger lang s h k faults runs.holds stored result ends;
      persist = λ k stored faults task spelling result ends. plain_persist lang s h k faults runs.holds stored task spelling result ends;
      persist_some = λ k stored faults task spelling result ends. plain_persist_some lang s h k faults runs.holds stored task spelling result ends;
      completion = λ k stored faults result ends. plain_complete lang s h k faults runs.holds stored result ends;
      commit = λ k ledger faults subtask result ends. plain_commit rules s h k faults subtask ledger runs.keeps runs.holds result ends;
      append = λ partitions faults. stays_alone lang s partitions faults;
    }
