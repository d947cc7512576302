use Rattle.std.proofs.Common.{arith, refl}
use Rattle.std.proofs.lemmas.Result.{err_from_is_err_and}
use Rattle.engine_model.specs.Language.{language}
use Rattle.dataflow_core.specs.CoreState.{CoreState}
use Rattle.dataflow_core.proofs.Offering.{no_memory, is_left, one_more}
use Rattle.dataflow_core.proofs.calls.Core.claim_in.Goals as goal

pub returns-in_err-keep_claim-clause-err : goal.returns-in_err-keep_claim-clause-err
returns-in_err-keep_claim-clause-err g c =
    let lang = language g.O.Operator.meaning g.O.Key.Ord.cmp g.O.Record.Codec.spelling g.O.Record.Codec.reading g.O.Key.Codec.reading g.O.State.Codec.reading in
    let p = err_from_is_err_and c.from_residual-in_err-keep_claim.result c.from_residual-in_err-keep_claim.ensures.1 in
    rw (p.1, p.2, c.in_err-keep_claim.ensures.err.0) (no_memory lang c.args.self.now c.args.task c.args.input c.args.most _ c.in_ok-work.ensures.ok, rw c.in_err-keep_claim.ensures.err.1 c.self.view_is)

pub invariant_of-self-2 : goal.invariant_of-self-2
invariant_of-self-2 g c =
    let lang = language g.O.Operator.meaning g.O.Key.Ord.cmp g.O.Record.Codec.spelling g.O.Record.Codec.reading g.O.Key.Codec.reading g.O.State.Codec.reading in
    let old : CoreState g.row.O.Denot g.row.O-Record.Denot g.row.O-Key.Denot g.row.O-State.Denot = record { engine = c.self.inside.engine; claims = c.self.inside.claims.items; serials = c.self.inside.serials } in
    let may = rw (← c.self.view_is) at c.in_ok-work.ensures.ok in
    let left = is_left lang old c.args.task c.args.input c.args.most _ may in
    let more = one_more c.self.inside.serials _ c.self.inside.claims.items c.keep_claim.new.claims.items refl c.self.invariant.1 c.self.invariant.2 c.in_ok-keep_claim.ensures.ok in
    (omega (arith, left), more.0, more.1)
