use Rattle.snapshot_store.proofs.Noted.{fits_at}
use Rattle.snapshot_store.proofs.numbers.place_of.Goals as goal

pub returns-clause-absent : goal.returns-clause-absent
returns-clause-absent c = fits_at c.args.numbers.now c.args.number c.binary_search.result c.requires c.binary_search.ensures.bound c.binary_search.ensures.position
