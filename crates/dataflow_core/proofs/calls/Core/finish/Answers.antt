use Rattle.std.proofs.Common.{arith}
use Rattle.std.proofs.lemmas.Option.{slice_get_within}
use Rattle.std.proofs.lemmas.Result.{err_from_is_err_and}
use Rattle.engine_model.specs.Language.{language}
use Rattle.dataflow_core.specs.CoreState.{CoreState}
use Rattle.dataflow_core.proofs.Finishing.{finishes, moves, refuses}
use Rattle.dataflow_core.proofs.calls.Core.finish.Goals as goal

pub returns-in_err-at-clause-ends : goal.returns-in_err-at-clause-ends
returns-in_err-at-clause-ends g c =
    let p = err_from_is_err_and c.from_residual.result c.from_residual.ensures.1 in
    rw (p.1, p.2) (refuses _ _ _ _ _ _ c.in_err-at.ensures.err)

pub end_claim-requires : goal.end_claim-requires
end_claim-requires g c =
    let ticket = rw (← c.self.view_is) at c.in_ok-at.ensures.ok in
    slice_get_within c.self.inside.claims.items c.in_ok-at.at c.in_ok-at.claim ticket.1.1.0

pub invariant_of-self : goal.invariant_of-self
invariant_of-self g c = (c.self.invariant.0, omega (arith, c.end_claim.ensures.fewer, c.self.invariant.1), c.end_claim.ensures.below c.self.inside.serials c.self.invariant.2)

pub returns-clause-step : goal.returns-clause-step
returns-clause-step g c =
    rw (← c.self.view_is)
    (record { goes = c.accept-outcome.ensures.goes; sound = c.accept-outcome.ensures.sound; same = c.accept-outcome.ensures.same; begins = c.accept-outcome.ensures.begins })

pub returns-clause-ends : goal.returns-clause-ends
returns-clause-ends g c =
    let lang = language g.O.Operator.meaning g.O.Key.Ord.cmp g.O.Record.Codec.spelling g.O.Record.Codec.reading g.O.Key.Codec.reading g.O.State.Codec.reading in
    let old : CoreState g.row.O.Denot g.row.O-Record.Denot g.row.O-Key.Denot g.row.O-State.Denot = record { engine = c.self.inside.engine; claims = c.self.inside.claims.items; serials = c.self.inside.serials } in
    let ticket = rw (← c.self.view_is) at c.in_ok-at.ensures.ok in
    rw (← c.self.view_is)
    (finishes lang old c.accept-outcome.new.self c.end_claim.new.claims.items c.args.done.attempt c.args.done.serial c.in_ok-at.at c.in_ok-at.claim c.args.done.worked ticket.1 c.accept-outcome.result ticket.0 c.accept-outcome.ensures.ends c.end_claim.ensures.claims)

pub returns-clause-plain : goal.returns-clause-plain
returns-clause-plain g c =
    let lang = language g.O.Operator.meaning g.O.Key.Ord.cmp g.O.Record.Codec.spelling g.O.Record.Codec.reading g.O.Key.Codec.reading g.O.State.Codec.reading in
    let old : CoreState g.row.O.Denot g.row.O-Record.Denot g.row.O-Key.Denot g.row.O-State.Denot = record { engine = c.self.inside.engine; claims = c.self.inside.claims.items; serials = c.self.inside.serials } in
    let ticket = rw (← c.self.view_is) at c.in_ok-at.ensures.ok in
    rw (← c.self.view_is)
    (moves lang old c.accept-outcome.new.self c.end_claim.new.claims.items c.args.done.attempt c.args.done.serial c.in_ok-at.at c.in_ok-at.claim c.args.done.worked ticket.1 c.accept-outcome.result c.accept-outcome.ensures.ends c.accept-outcome.ensures.plain)
