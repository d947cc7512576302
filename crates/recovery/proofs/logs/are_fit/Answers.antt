use Rattle.std.proofs.Common.{rules, All, refl}
use Rattle.std.proofs.lemmas.Iterator.{cases_from_all, YieldsList-from_slice}
use Rattle.abs_codec.specs.Spelling.{Fits}
use Rattle.recovery.proofs.Channels.{tells_all}
use Rattle.recovery.proofs.logs.are_fit.Goals as goal

pub returns : goal.returns
returns g c =
    let Good = λ (log : _ × _). All (Fits g.R.Codec.HasSpelling g.R.Codec.spelling) log.1 in
    tells_all Good c.all.result c.args.logs.now (cases_from_all _ _ c.all.result Good (λ log. Good log → ⊥) c.all.ensures.ran (YieldsList-from_slice c.args.logs.now cc) (λ x q called. (refl, search (rules, called))) (λ x q called. search (rules, called)))
