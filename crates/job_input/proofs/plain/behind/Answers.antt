use Rattle.std.proofs.Common.{Option, None, Some, IfSome, MatchOption}
use Rattle.std.proofs.lemmas.Bool.Decides.{Decides-eqb}
use Rattle.std.proofs.lemmas.Slice.Eq.{strip_prefix_is}
use Rattle.job_input.proofs.plain.behind.Goals as goal

some_of : {A : Type 0} (N : Type 0) (P : A → Type 0) (r : Option A) → MatchOption r N P → IfSome r P
some_of N P None h = tt
some_of N P (Some x) h = h

pub returns : goal.returns
returns c = some_of _ _ c.strip_prefix.result (strip_prefix_is Decides-eqb c.args.text.now c.args.front.now c.strip_prefix.result c.strip_prefix.ensures.cases)
