use Rattle.recovery.proofs.Readable.{read_whole}
use Rattle.recovery.proofs.parts.decoded.Goals as goal

pub returns-clause-ok : goal.returns-clause-ok
returns-clause-ok g c = let t = g.T.Codec in read_whole t.HasSpelling t.spelling t.reading g.met.T.Codec.code c.args.bytes.now c.decode_all.result c.decode_all.ensures.found
