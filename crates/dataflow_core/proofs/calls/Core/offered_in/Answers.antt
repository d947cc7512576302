use Rattle.std.proofs.Common.{◌≡◌, Bool, true, false, subst}
use Rattle.std.specs.Prelude.{IsTrue}
use Rattle.engine_model.specs.Language.{language}
use Rattle.dataflow_core.specs.Claims.{IsBusy}
use Rattle.dataflow_core.specs.CoreState.{CoreState}
use Rattle.dataflow_core.proofs.Offering.{offers_ok, offers_err, offers_spent}
use Rattle.dataflow_core.proofs.calls.Core.offered_in.Goals as goal

pub returns-clause-ok : goal.returns-clause-ok
returns-clause-ok g c =
    let lang = language g.O.Operator.meaning g.O.Key.Ord.cmp g.O.Record.Codec.spelling g.O.Record.Codec.reading g.O.Key.Codec.reading g.O.State.Codec.reading in
    let s : CoreState g.row.O.Denot g.row.O-Record.Denot g.row.O-Key.Denot g.row.O-State.Denot = record { engine = c.self.inside.engine; claims = c.self.inside.claims.items; serials = c.self.inside.serials } in
    let free = λ (busy : IsBusy c.args.task c.self.inside.claims.items). (let told : ◌≡◌ {A = Bool} false true = subst IsTrue c.if-is_busy.false (c.is_busy.ensures.1 (rw c.deref.ensures.value busy)) in let none : ⊥ = cc in none) in
    rw (← c.self.view_is) (offers_ok lang s c.args.task c.args.input c.args.most free c.offer_in-offered.result c.if-self-ge-SERIALS.false c.offer_in-offered.ensures)

pub returns-clause-err : goal.returns-clause-err
returns-clause-err g c =
    let lang = language g.O.Operator.meaning g.O.Key.Ord.cmp g.O.Record.Codec.spelling g.O.Record.Codec.reading g.O.Key.Codec.reading g.O.State.Codec.reading in
    let s : CoreState g.row.O.Denot g.row.O-Record.Denot g.row.O-Key.Denot g.row.O-State.Denot = record { engine = c.self.inside.engine; claims = c.self.inside.claims.items; serials = c.self.inside.serials } in
    let free = λ (busy : IsBusy c.args.task c.self.inside.claims.items). (let told : ◌≡◌ {A = Bool} false true = subst IsTrue c.if-is_busy.false (c.is_busy.ensures.1 (rw c.deref.ensures.value busy)) in let none : ⊥ = cc in none) in
    rw (← c.self.view_is) (offers_err lang s c.args.task c.args.input c.args.most free c.offer_in-offered.result c.if-self-ge-SERIALS.false c.offer_in-offered.ensures)

pub returns-then-self-ge-SERIALS-clause-err : goal.returns-then-self-ge-SERIALS-clause-err
returns-then-self-ge-SERIALS-clause-err g c =
    let lang = language g.O.Operator.meaning g.O.Key.Ord.cmp g.O.Record.Codec.spelling g.O.Record.Codec.reading g.O.Key.Codec.reading g.O.State.Codec.reading in
    let s : CoreState g.row.O.Denot g.row.O-Record.Denot g.row.O-Key.Denot g.row.O-State.Denot = record { engine = c.self.inside.engine; claims = c.self.inside.claims.items; serials = c.self.inside.serials } in
    let free = λ (busy : IsBusy c.args.task c.self.inside.claims.items). (let told : ◌≡◌ {A = Bool} false true = subst IsTrue c.if-is_busy.false (c.is_busy.ensures.1 (rw c.deref.ensures.value busy)) in let none : ⊥ = cc in none) in
    rw (← c.self.view_is, c.spent.ensures) (offers_spent lang s c.args.task c.args.input c.args.most free c.offer_in-offered.result c.if-self-ge-SERIALS.true c.offer_in-offered.ensures)
