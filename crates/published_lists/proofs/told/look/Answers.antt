use Rattle.published_lists.proofs.Growing.{peeks}
use Rattle.published_lists.proofs.told.look.Goals as goal

pub enter_as-requires : goal.enter_as-requires
enter_as-requires c x = peeks _ _ c.place.inside.edition x c.place.invariant
