use Rattle.std.proofs.Common.{true, false, Some, refl, sym, ap, ◌∙◌, arith}
use Rattle.dataflow_model.specs.Machine.{Work}
use Rattle.plain_machine.specs.Plain.{job_of, configuration_of}
use Rattle.plain_machine.proofs.Offered.{none_offered}
use Rattle.plain_machine.proofs.Made.{found_at, works_within, works_at_operator, on_err, no_value, not_both, not_unfit, passed_on, memory_passed}
use Rattle.plain_machine.proofs.plain.PlainMachine+O+O+Record+O+Key+O+State.work.Goals as goal

pub returns-in_default-clause-made : goal.returns-in_default-clause-made
returns-in_default-clause-made g c = λ made. absurd (not_both false refl made)

pub returns-in_default-clause-not_made : goal.returns-in_default-clause-not_made
returns-in_default-clause-not_made g c = λ _. (
  none_offered (job_of g.O.Operator.meaning c.args.self.now.job) (Work c.args.task c.args.input) (configuration_of g.O.Key.Ord.cmp c.args.self.now.configuration) (sym c.in_default.ensures),
  refl,
)

pub returns-in_err-taken-clause-made : goal.returns-in_err-taken-clause-made
returns-in_err-taken-clause-made g c = no_value c.from_residual.result _ c.from_residual.ensures.0

pub returns-in_err-taken-clause-not_made : goal.returns-in_err-taken-clause-not_made
returns-in_err-taken-clause-not_made g c = no_value c.from_residual.result _ c.from_residual.ensures.0

pub returns-in_err-taken-clause-err : goal.returns-in_err-taken-clause-err
returns-in_err-taken-clause-err g c = on_err c.from_residual.result _ refl

pub returns-in_err-taken-clause-unfit : goal.returns-in_err-taken-clause-unfit
returns-in_err-taken-clause-unfit g c = not_unfit c.from_residual.result _ c.from_residual.ensures.1

pub index-requires : goal.index-requires
index-requires g c =
    omega (arith, works_within g.O.Operator.meaning g.O.Key.Ord.cmp c.args.self.now.job c.args.self.now.configuration c.args.self.now.configuration c.args.task c.args.input c.in_ok-taken.taken (sym c.in-Some.ensures ∙ ap Some (sym c.in_ok-taken.ensures)))

pub put_out-requires-clause-sink : goal.put_out-requires-clause-sink
put_out-requires-clause-sink g c =
    found_at g.O.Operator.meaning g.O.Key.Ord.cmp c.args.self.now.job c.args.self.now.configuration c.args.self.now.configuration c.args.task c.index.result.now (works_within g.O.Operator.meaning g.O.Key.Ord.cmp c.args.self.now.job c.args.self.now.configuration c.args.self.now.configuration c.args.task c.args.input c.in_ok-taken.taken (sym c.in-Some.ensures ∙ ap Some (sym c.in_ok-taken.ensures))) c.index.ensures
    ∙ ap Some (c.is_sink.ensures.0 c.if-is_sink.true)

pub put_out-requires-clause-first : goal.put_out-requires-clause-first
put_out-requires-clause-first g c = sym c.in-Some.ensures ∙ ap Some (sym c.in_ok-taken.ensures)

pub operate-requires-clause-operator : goal.operate-requires-clause-operator
operate-requires-clause-operator g c =
    works_at_operator g.O.Operator.meaning g.O.Key.Ord.cmp c.args.self.now.job c.args.self.now.configuration c.args.self.now.configuration c.args.task c.args.input c.in_ok-taken.taken c.index.result.now (sym c.in-Some.ensures ∙ ap Some (sym c.in_ok-taken.ensures)) c.index.ensures
    (λ sink. not_both c.is_sink.result c.if-is_sink.false (c.is_sink.ensures.1 sink))

pub operate-requires-clause-first : goal.operate-requires-clause-first
operate-requires-clause-first g c = sym c.in-Some.ensures ∙ ap Some (sym c.in_ok-taken.ensures)

pub returns-in_err-put_out-clause-made : goal.returns-in_err-put_out-clause-made
returns-in_err-put_out-clause-made g c = no_value c.from_residual-in_err-put_out.result _ c.from_residual-in_err-put_out.ensures.0

pub returns-in_err-put_out-clause-not_made : goal.returns-in_err-put_out-clause-not_made
returns-in_err-put_out-clause-not_made g c = no_value c.from_residual-in_err-put_out.result _ c.from_residual-in_err-put_out.ensures.0

pub returns-in_err-put_out-clause-job : goal.returns-in_err-put_out-clause-job
returns-in_err-put_out-clause-job g c = c.put_out.ensures.job

pub returns-in_err-put_out-clause-err : goal.returns-in_err-put_out-clause-err
returns-in_err-put_out-clause-err g c = on_err c.from_residual-in_err-put_out.result _ c.in_err-put_out.ensures.err

pub returns-in_err-put_out-clause-unfit : goal.returns-in_err-put_out-clause-unfit
returns-in_err-put_out-clause-unfit g c =
    not_unfit c.from_residual-in_err-put_out.result _ (memory_passed c.from_residual-in_err-put_out.result c.in_err-put_out.field-0.0 c.from_residual-in_err-put_out.ensures.1 c.in_err-put_out.ensures.memory)

pub returns-in_err-operate-clause-made : goal.returns-in_err-operate-clause-made
returns-in_err-operate-clause-made g c = no_value c.from_residual-in_err-operate.result _ c.from_residual-in_err-operate.ensures.0

pub returns-in_err-operate-clause-not_made : goal.returns-in_err-operate-clause-not_made
returns-in_err-operate-clause-not_made g c = no_value c.from_residual-in_err-operate.result _ c.from_residual-in_err-operate.ensures.0

pub returns-in_err-operate-clause-job : goal.returns-in_err-operate-clause-job
returns-in_err-operate-clause-job g c = c.operate.ensures.job

pub returns-in_err-operate-clause-err : goal.returns-in_err-operate-clause-err
returns-in_err-operate-clause-err g c = on_err c.from_residual-in_err-operate.result _ c.in_err-operate.ensures.err

pub returns-in_err-operate-clause-unfit : goal.returns-in_err-operate-clause-unfit
returns-in_err-operate-clause-unfit g c =
    passed_on c.from_residual-in_err-operate.result c.in_err-operate.field-0.0 _ c.from_residual-in_err-operate.ensures.1 c.in_err-operate.ensures.unfit

pub returns-in_ok-put_out-clause-made : goal.returns-in_ok-put_out-clause-made
returns-in_ok-put_out-clause-made g c = λ made. c.in_ok-put_out.ensures.made

pub returns-in_ok-put_out-clause-not_made : goal.returns-in_ok-put_out-clause-not_made
returns-in_ok-put_out-clause-not_made g c = λ not_made. absurd (not_both true not_made refl)

pub returns-in_ok-put_out-clause-job : goal.returns-in_ok-put_out-clause-job
returns-in_ok-put_out-clause-job g c = c.put_out.ensures.job

pub returns-in_ok-operate-clause-made : goal.returns-in_ok-operate-clause-made
returns-in_ok-operate-clause-made g c = λ made. c.in_ok-operate.ensures.made

pub returns-in_ok-operate-clause-not_made : goal.returns-in_ok-operate-clause-not_made
returns-in_ok-operate-clause-not_made g c = λ not_made. absurd (not_both true not_made refl)

pub returns-in_ok-operate-clause-job : goal.returns-in_ok-operate-clause-job
returns-in_ok-operate-clause-job g c = c.operate.ensures.job
