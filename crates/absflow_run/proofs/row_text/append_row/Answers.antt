use Rattle.std.proofs.Common.{rules, ◌≡◌, ◌∙◌, ℕ, ℤ, pos, negsuc, List, [], ◌∷◌, ◌++◌, FitsSigned, ap, ap₂, refl, append_assoc}
use Rattle.std.specs.Fmt.{signed_decimal}
use Rattle.std.specs.Int.{w64}
use Rattle.std.proofs.lemmas.Int.{to_z-of_z}
use Rattle.json.specs.Print.{escape_byte, quoted}
use Rattle.absflow_run.specs.RowText.{row_text}
use Rattle.absflow_run.proofs.row_text.append_row.Goals as goal

abbrev before_key : List ℕ
before_key = 123 ∷ 34 ∷ 107 ∷ 34 ∷ 58 ∷ []

abbrev before_value : List ℕ
before_value = 44 ∷ 34 ∷ 118 ∷ 34 ∷ 58 ∷ []

row_pieces : (k : List ℕ) (v : ℤ) → before_key ++ (quoted k ++ (before_value ++ (signed_decimal v ++ 125 ∷ []))) ≡ row_text (record { k = k; v = v })
unfolding escape_byte
row_pieces k (pos n) = refl
row_pieces k (negsuc n) = refl

one_after_another : (t a b c d e : List ℕ) → ((((t ++ a) ++ b) ++ c) ++ d) ++ e ≡ t ++ (a ++ (b ++ (c ++ (d ++ e))))
one_after_another t a b c d e =
    append_assoc (((t ++ a) ++ b) ++ c) d e ∙ (append_assoc ((t ++ a) ++ b) c (d ++ e) ∙ (append_assoc (t ++ a) b (c ++ (d ++ e)) ∙ append_assoc t a (b ++ (c ++ (d ++ e)))))

pub returns : goal.returns
returns c =
    let k = c.args.row.now.k in
    let fits : FitsSigned w64 c.args.row.now.v = search rules in
    let digits = c.as_bytes.ensures.value ∙ c.format.ensures.text ∙ ap signed_decimal (to_z-of_z w64 c.args.row.now.v fits) in
    let first = c.in_ok-extend_from_slice.ensures.items in
    let second = c.in_ok-text.ensures ∙ ap₂ (λ t s. t ++ quoted s) first c.as_str.ensures.value in
    let third = c.in_ok-extend_from_slice-2.ensures.items ∙ ap (λ t. t ++ before_value) second in
    let fourth = c.in_ok-extend_from_slice-3.ensures.items ∙ ap₂ (λ t d. t ++ d) third digits in
    let fifth = c.in_ok-push.ensures.items ∙ ap (λ t. t ++ 125 ∷ []) fourth in
    fifth ∙ (one_after_another c.args.text.items before_key (quoted k) before_value (signed_decimal c.args.row.now.v) (125 ∷ []) ∙ ap (λ t. c.args.text.items ++ t) (row_pieces k c.args.row.now.v))
