use Rattle.claims.proofs.Places.{kept_here, put_here}
use Rattle.claims.proofs.left.put_at.Goals as goal

pub returns-clause-given : goal.returns-clause-given
returns-clause-given g c = kept_here c.args.places.now c.args.place c.args.state c.index-places-place.result c.requires.place

pub returns-clause-left : goal.returns-clause-left
returns-clause-left g c = put_here g.met.K.Ord.total c.args.places.now c.args.place c.args.state c.index-places-place.result c.requires.rising
