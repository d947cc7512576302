use Rattle.abs_codec.specs.Spelling.{Fits}
use Rattle.operators.specs.Operator.{MayBeSent}
use Rattle.chained_operators.proofs.PassingOn.{all_still_hold}
use Rattle.chained_operators.proofs.chain.ChainOperator.apply.Goals as goal

pub pass_all-requires : goal.pass_all-requires
pass_all-requires g c =
    let P = MayBeSent (Fits g.A.Record.Codec.HasSpelling g.A.Record.Codec.spelling) (g.A.Operator.meaning.ports c.args.self.now.first) in
    let sent = (g.A.Operator.meaning.apply c.args.self.now.first c.args.state.now c.args.item.now).sent in
    let fit = g.met.A.Operator.sent_fits c.args.self.now.first c.args.state.now c.args.item.now c.requires.state c.requires.fits in
    all_still_hold P c.in_ok-outcome.outcome.sent.items sent c.in_ok-outcome.ensures.sent fit
