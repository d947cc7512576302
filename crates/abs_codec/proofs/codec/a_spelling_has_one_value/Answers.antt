use Rattle.abs_codec.proofs.Whole.{one_value}
use Rattle.abs_codec.proofs.codec.a_spelling_has_one_value.Goals as goal

pub returns : goal.returns
returns g c = let t = g.T.Codec in one_value t.HasSpelling t.spelling t.reading g.met.T.Codec.code
