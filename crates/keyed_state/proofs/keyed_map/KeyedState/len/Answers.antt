use Rattle.keyed_state.proofs.Laid.{put_over-rises}
use Rattle.keyed_state.proofs.keyed_map.KeyedState.len.Goals as goal

pub returns-clause-ordered : goal.returns-clause-ordered
returns-clause-ordered g c = rw (← c.self.view_is) (put_over-rises g.met.K.Ord.total c.self.inside.base c.self.inside.overlay.entries c.self.invariant.base_rises)
