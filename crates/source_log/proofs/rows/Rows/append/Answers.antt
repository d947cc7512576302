use Rattle.abs_codec.specs.Spelling.{Fits}
use Rattle.source_log.specs.Rows.{lists_of}
use Rattle.source_log.proofs.Appending.{fit_joined_kept}
use Rattle.source_log.proofs.rows.Rows.append.Goals as goal

pub invariant_of-self : goal.invariant_of-self
invariant_of-self g c =
    fit_joined_kept (Fits g.R.Codec.HasSpelling g.R.Codec.spelling) (lists_of c.self.inside.partitions.items) (lists_of c.more.inside.partitions.items) (lists_of c.append_lists.new.partitions.items) c.self.invariant c.more.invariant c.append_lists.result c.append_lists.ensures.ok c.append_lists.ensures.err
