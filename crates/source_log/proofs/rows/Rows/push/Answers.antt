use Rattle.std.proofs.Common.{[], ◌∷◌}
use Rattle.std.proofs.lemmas.List.Elements.{All-nil, All-cons}
use Rattle.abs_codec.specs.Spelling.{Fits}
use Rattle.source_log.specs.Rows.{lists_of}
use Rattle.source_log.proofs.Appending.{fit_kept}
use Rattle.source_log.proofs.rows.Rows.push.Goals as goal

pub invariant_of-self : goal.invariant_of-self
invariant_of-self g c =
    let RecordFits = Fits g.R.Codec.HasSpelling g.R.Codec.spelling in
    fit_kept RecordFits (lists_of c.self.inside.partitions.items) (lists_of c.push_row.new.partitions.items) c.args.partition (c.args.row ∷ []) c.self.invariant (All-cons RecordFits c.args.row [] c.requires.fits (All-nil RecordFits)) c.push_row.result c.push_row.ensures.ok c.push_row.ensures.err
