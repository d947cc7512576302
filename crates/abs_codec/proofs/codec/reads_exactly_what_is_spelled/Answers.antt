use Rattle.abs_codec.proofs.Whole.{reads_exactly}
use Rattle.abs_codec.proofs.codec.reads_exactly_what_is_spelled.Goals as goal

pub returns : goal.returns
returns g c = let t = g.T.Codec in reads_exactly t.HasSpelling t.spelling t.reading g.met.T.Codec.code
