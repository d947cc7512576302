use Rattle.std.proofs.lemmas.Bool.{false≢true}
use Rattle.std.proofs.Common.{sym, ◌∙◌, rules}
use Rattle.json_members.proofs.Utf8.{json_of-text, json_of-none}
use Rattle.json_members.proofs.json.json_of.Goals as goal

pub returns-in-Ok : goal.returns-in-Ok
returns-in-Ok c = rw (json_of-text _ c.in-Ok.ensures.ok.0, c.in-Ok.ensures.ok.1) (search rules)

pub returns-in-Err-2 : goal.returns-in-Err-2
returns-in-Err-2 c = rw (json_of-none _ (c.in-Err.ensures.err (λ m. let t = c.is_memory.ensures.1 m in absurd (false≢true (sym c.if-is_memory.false ∙ t))))) (search rules)
