use Rattle.std.proofs.Common.{◌≡◌, ◌<◌, length, List, IfSome, sym, ap, subst, ◌∙◌, arith}
use Rattle.std.proofs.lemmas.Bool.{false≢true}
use Rattle.std.specs.List.{zip}
use Rattle.std.specs.List.Sorted.{IsStrictlySortedBy}
use Rattle.std.specs.Map.{keys_of}
use Rattle.job_graph.specs.declared.role.Role.TheVariants as role
use Rattle.job_state.specs.Batch.{Turn, AreLastStates, StandFirst, rows_of, sent_by}
use Rattle.deliveries.specs.Deliveries.{sent_in}
use Rattle.engine_model.proofs.Numbers.{channel_in}
use Rattle.job_state.specs.Sending.{AreLanes}
use Rattle.claims.specs.Carried.{states_given}
use Rattle.claims.specs.Keys.{HavePlaces}
use Rattle.job_state.proofs.Holds.{on_ok}
use Rattle.claims.proofs.Dues.{within_gates}
use Rattle.claims.proofs.Expected.{none_so, told_where}
use Rattle.claims.proofs.LastKeys.{last_have_places}
use Rattle.claims.proofs.Turns.{rows_of-turns, length-turns}
use Rattle.claims.proofs.accepts.operate.Goals as goal

pub operate_some-requires : goal.operate_some-requires
operate_some-requires g c =
    let p = c.args.operand.now in
    let graph = c.args.graph.now in
    let attempt = c.args.attempt.now in
    let asked = c.requires.1.1.1.1 in
    let shape = asked.0.2 in
    let due = asked.0.3 in
    let made = asked.1.1.0 in
    let meaning = g.O.Operator.meaning in
    let given = states_given g.O.Key.Ord.cmp p.states in
    let is = asked.1.1.1 in
    let rows : p.rows.items ≡ rows_of g.turns = sym (ap (λ (ts : List (Turn g.row.O-Record.Denot g.row.O-Key.Denot g.row.O-State.Denot)). rows_of ts) is ∙ rows_of-turns meaning p.operator p.rows.items given) in
    let long : length g.turns ≡ length p.rows.items = ap (λ (ts : List (Turn g.row.O-Record.Denot g.row.O-Key.Denot g.row.O-State.Denot)). length ts) is ∙ length-turns meaning p.operator p.rows.items given in
    let counted : c.len-count.result ≡ length g.turns = omega (arith, c.len-count.ensures, p.rows.ok.0) in
    λ lifetimes lives. (
      lives.0,
      (
        lives.1.0,
        (
          lives.1.1.0,
          (
            lives.1.1.1,
            (
              (asked.0.1, due.was),
              (
                within_gates graph attempt shape.gate_fits c.args.task c.args.input c.args.channel (role.Operator due.number) due.is_operator due.leads,
                (
                  channel_in graph c.args.task c.args.input c.args.channel attempt.logs due.leads shape.logs,
                  (
                    shape.channels,
                    (
                      counted,
                      (
                        subst (λ rs. StandFirst c.args.channel rs attempt) rows due.first.1,
                        (
                          made.rising,
                          (
                            subst (λ ts. AreLastStates meaning.same_key ts c.args.outcomes.now.states.items) (sym is) made.last,
                            (
                              made.sent ∙ sym (ap (λ (ts : List (Turn g.row.O-Record.Denot g.row.O-Key.Denot g.row.O-State.Denot)). sent_by ts) is),
                              (
                                subst (λ ls. AreLanes meaning (sent_in c.args.outcomes.now.sent) ls) (sym c.as_slice.ensures) made.lanes,
                                made.fanned,
                              ),
                            ),
                          ),
                        ),
                      ),
                    ),
                  ),
                ),
              ),
            ),
          ),
        ),
      ),
    )

pub returns-then-not-has_uncompared-clause-changed : goal.returns-then-not-has_uncompared-clause-changed
returns-then-not-has_uncompared-clause-changed g c = λ entries held is same.
    false≢true (sym c.if-not-has_uncompared.true ∙ (c.has_uncompared.ensures entries held).1 (none_so c.under_entries-expected.result same))

pub returns-clause-same : goal.returns-clause-same
returns-clause-same g c = λ entries held.
    let asked = c.requires.1.1.1.1 in
    let named = subst (λ (es : List (g.row.O-Key.Denot × g.row.O-State.Denot)). IfSome c.under_entries-expected.result (λ b. (length b.now ≡ length es) × (zip (keys_of es) b.now ≡ c.args.operand.now.states))) c.deref.ensures.value (c.under_entries-expected.ensures g.met.O.Operator.key_is_exact) in
    let none = (c.has_uncompared.ensures entries held).0 c.if-not-has_uncompared.false in
    let told = told_where g.met.O.Key.Ord.total g.met.O.Operator.key_is_exact entries c.args.outcomes.now.states.items c.under_entries-expected.result c.args.operand.now.states asked.1.1.0.rising named none in
    let some : 0 < c.len-count.result = omega (arith, asked.1.0.some, c.len-count.ensures, c.args.operand.now.rows.ok.0) in
    on_ok c.operate_some.result told.0 (c.operate_some.ensures.expected some entries held)

pub returns-clause-changed : goal.returns-clause-changed
returns-clause-changed g c = λ entries held is same.
    let asked = c.requires.1.1.1.1 in
    let named = subst (λ (es : List (g.row.O-Key.Denot × g.row.O-State.Denot)). IfSome c.under_entries-expected.result (λ b. (length b.now ≡ length es) × (zip (keys_of es) b.now ≡ c.args.operand.now.states))) c.deref.ensures.value (c.under_entries-expected.ensures g.met.O.Operator.key_is_exact) in
    let none = (c.has_uncompared.ensures entries held).0 c.if-not-has_uncompared.false in
    let told = told_where g.met.O.Key.Ord.total g.met.O.Operator.key_is_exact entries c.args.outcomes.now.states.items c.under_entries-expected.result c.args.operand.now.states asked.1.1.0.rising named none in
    c.operate_some.ensures.changed entries held is (told.1 same)

-- the keys of the last states are among those of the work
pub under_entries-expected-requires : goal.under_entries-expected-requires
under_entries-expected-requires g c =
    let p = c.args.operand.now in
    let asked = c.requires.1.1.1.1 in
    let made = asked.1.1.0 in
    let meaning = g.O.Operator.meaning in
    let places = last_have_places meaning g.met.O.Key.Ord.total g.met.O.Operator.key_is_exact g.met.O.Operator.same_key p.operator p.states p.rows.items c.args.outcomes.now.states.items asked.1.0.keyed made.last made.rising in
    record {
      rising = subst (λ (es : List (g.row.O-Key.Denot × g.row.O-State.Denot)). IsStrictlySortedBy g.O.Key.Ord.cmp (keys_of es)) (sym c.deref.ensures.value) made.rising;
      places = subst (λ (es : List (g.row.O-Key.Denot × g.row.O-State.Denot)). HavePlaces g.O.Key.Ord.cmp es p.states) (sym c.deref.ensures.value) places;
    }
