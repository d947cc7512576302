use Rattle.abs_codec.specs.Spelling.{Fits}
use Rattle.source_log.specs.Rows.{lists_of}
use Rattle.source_log.proofs.Appending.{fit_kept}
use Rattle.source_log.proofs.rows.Rows.push_all.Goals as goal

pub invariant_of-self : goal.invariant_of-self
invariant_of-self g c = fit_kept (Fits g.R.Codec.HasSpelling g.R.Codec.spelling) (lists_of c.self.inside.partitions.items) (lists_of c.push_rows.new.partitions.items) c.args.partition c.args.rows.items c.self.invariant c.requires.fits c.push_rows.result c.push_rows.ensures.ok c.push_rows.ensures.err
