use Rattle.std.proofs.Common.{◌+◌, inl, refl}
use Rattle.engine_model.specs.Language.{language}
use Rattle.dataflow_core.specs.CoreState.{CoreState}
use Rattle.dataflow_core.proofs.Finishing.{accept_moves}
use Rattle.dataflow_core.proofs.calls.Core.accept.Goals as goal

pub returns-clause-plain : goal.returns-clause-plain
returns-clause-plain g c =
    let lang = language g.O.Operator.meaning g.O.Key.Ord.cmp g.O.Record.Codec.spelling g.O.Record.Codec.reading g.O.Key.Codec.reading g.O.State.Codec.reading in
    let old : CoreState g.row.O.Denot g.row.O-Record.Denot g.row.O-Key.Denot g.row.O-State.Denot = record { engine = c.self.inside.engine; claims = c.self.inside.claims.items; serials = c.self.inside.serials } in
    rw (← c.self.view_is)
    (accept_moves lang old c.accept.new.self (c.self.inside.serials + 1) c.args.task c.args.input c.args.worked c.accept.result c.accept.ensures.ends c.accept.ensures.plain)

pub returns-clause-step : goal.returns-clause-step
returns-clause-step g c =
    rw (← c.self.view_is)
    (record { goes = c.accept.ensures.goes; sound = c.accept.ensures.sound; same = c.accept.ensures.same; begins = c.accept.ensures.begins })

pub returns-clause-ends : goal.returns-clause-ends
returns-clause-ends g c =
    let may = rw (← c.self.view_is) at c.in_ok-may_accept.ensures.ok in
    rw (← c.self.view_is) (inl (may, c.accept.ensures.ends, refl))
