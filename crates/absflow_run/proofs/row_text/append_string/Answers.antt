use Rattle.std.proofs.Common.{◌≡◌, ◌∙◌, ℕ, List, [], ◌∷◌, ◌++◌, ap, ap₂, append-nil}
use Rattle.json.specs.Token.{string}
use Rattle.json.specs.Print.{print, print_from, quoted}
use Rattle.absflow_run.proofs.row_text.append_string.Goals as goal

-- what a writer prints of one string
one_string : (s : List ℕ) → print (string s ∷ []) ≡ quoted s
unfolding print_from
one_string s = append-nil (quoted s)

pub returns : goal.returns
returns c =
    let written = c.in_ok-string.ensures.ok ∙ ap (λ t. t ++ string c.args.string.now ∷ []) c.new-out.ensures.tokens in
    let kept = c.in_ok-string.ensures.room.0 ∙ c.new-out.ensures.before in
    c.into_inner.ensures.items ∙ ap₂ (λ b t. b ++ print t) kept written ∙ ap (λ t. c.args.text.items ++ t) (one_string c.args.string.now)
