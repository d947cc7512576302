use Rattle.std.proofs.Common.{◌&&◌}
use Rattle.abs_codec.specs.Same.{equal_lists, equal_pairs}
use Rattle.abs_codec.proofs.same.equal_maps_are_one.Goals as goal

pub returns : goal.returns
returns g c = λ keys values. equal_lists (λ p q. g.K.PartialEq.eq p.0 q.0 && g.V.PartialEq.eq p.1 q.1) (equal_pairs g.K.PartialEq.eq g.V.PartialEq.eq keys values)
