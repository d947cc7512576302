use Rattle.std.proofs.Common.{sym, subst}
use Rattle.std.specs.List.{All}
use Rattle.claims.specs.Keys.{HasItsKey}
use Rattle.claims.proofs.Keys.{carried_under}
use Rattle.claims.proofs.offers.operand_of.Goals as goal

pub returns-clause-carried : goal.returns-clause-carried
returns-clause-carried g c = λ entries held.
    let gathered = c.in_ok-rows.field-0 in
    let keyed = subst (λ operator. All (HasItsKey g.O.Operator.meaning operator gathered.keys.items) gathered.rows.items) (sym c.in_ok-copy.ensures) c.in_ok-rows.ensures.keys in
    carried_under g.O.Operator.meaning g.O.Key.Ord.cmp g.met.O.Key.Ord.total g.met.O.Operator.key_is_exact entries gathered.keys.items (record { operator = c.in_ok-copy.field-0; states = c.in_ok-states_of.field-0; rows = gathered.rows }) (c.in_ok-states_of.ensures entries held) keyed
