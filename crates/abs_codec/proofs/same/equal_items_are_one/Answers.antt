use Rattle.abs_codec.specs.Same.{equal_lists}
use Rattle.abs_codec.proofs.same.equal_items_are_one.Goals as goal

pub returns : goal.returns
returns g c = equal_lists g.T.PartialEq.eq
