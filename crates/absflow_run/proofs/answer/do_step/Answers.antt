use Rattle.std.proofs.Common.{◌≡◌, sym, refl, subst}
use Rattle.script_file.specs.declared.step.ScriptStep.{ScriptStep}
use Rattle.absflow_run.specs.Calls.{Works, MakesStep}
use Rattle.absflow_run.proofs.answer.do_step.Goals as goal

-- src/answer.rt:123:1
pub returns-in-Work : goal.returns-in-Work
returns-in-Work c =
    subst (λ (s : ScriptStep). MakesStep s c.args.core.now c.args.desk.now c.work.new.core c.args.desk.now c.work.result) (sym c.in-Work.is) (c.work.ensures, refl)
