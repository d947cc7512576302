use Rattle.std.proofs.Props.{props}
use Rattle.chained_operators.specs.Exact.{same_parts}
use Rattle.chained_operators.proofs.chain.ChainOperator.copy.Goals as goal

pub returns : goal.returns
returns g c =
    let old = c.args.self.now in
    same_parts (λ a b p. record { first = a; second = b; can_be_chained = p }) (λ a b. hlevel props) c.in_ok-copy.field-0 old.first c.in_ok-copy-2.field-0 old.second _ old.can_be_chained c.in_ok-copy.ensures c.in_ok-copy-2.ensures
