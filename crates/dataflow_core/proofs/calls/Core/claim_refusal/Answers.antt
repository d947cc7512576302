use Rattle.engine_model.specs.Language.{language}
use Rattle.dataflow_core.proofs.Offering.{no_memory}
use Rattle.dataflow_core.proofs.calls.Core.claim_refusal.Goals.{in-Ok, in-Err}
use Rattle.dataflow_core.proofs.calls.Core.claim_refusal.Goals as goal

pub returns : goal.returns
returns g c =
    let lang = language g.O.Operator.meaning g.O.Key.Ord.cmp g.O.Record.Codec.spelling g.O.Record.Codec.reading g.O.Key.Codec.reading g.O.State.Codec.reading in
    elim c.match-offered.branch [
      | in-Ok w ↦ rw w.result-is (no_memory lang c.args.self.now c.args.task c.args.input 1 _ w.in-Ok.ensures.ok)
      | in-Err w ↦ rw w.result-is w.in-Err.ensures.err
    ]
