use Rattle.engine.proofs.Opening.{blank_is}
use Rattle.engine.proofs.calls.are_new.Goals as goal

pub returns-then-is_new : goal.returns-then-is_new
returns-then-is_new g c =
    let store = c.is_new.ensures in
    let none = c.is_new-then-is_new.ensures in
    let blank = blank_is (g.X.Transactions.state c.args.transactions.now) (g.met.X.Transactions.ordered c.args.transactions.now) in
    (λ is. (store.0 c.if-is_new.true, blank.0 (none.0 is)), λ both. none.1 (blank.1 both.1))
