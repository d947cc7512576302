use Rattle.job_state.proofs.Together.{all_fixed}
use Rattle.job_state.proofs.ready.target_of_all.Goals as goal

pub returns-in-Some-clause-all : goal.returns-in-Some-clause-all
returns-in-Some-clause-all g c = all_fixed g.O.Operator.meaning c.args.graph.now c.args.task c.in-Some.number c.args.rows.now c.in-Some.ensures
