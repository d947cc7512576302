use Rattle.std.proofs.Common.{rules, ◌≡◌, ◌++◌, ◌∙◌, true, length, drop, take, ◌-◌, take_all, length-drop, sym, ap, ap₂, arith, append_assoc, subst}
use Rattle.std.specs.Int.{w32, w64, to_be_bytes}
use Rattle.std.proofs.lemmas.Int.{to_z-of_z}
use Rattle.std.proofs.lemmas.List.{take-append-drop}
use Rattle.std.specs.List.{IsSplitAt}
use Rattle.abs_codec.specs.Spelling.{signed_spelling}
use Rattle.absflow_run.specs.RecordText.{IsPlainRecord, are_plain}
use Rattle.absflow_run.proofs.PlainText.{utf8_plain}
use Rattle.absflow_run.proofs.record_text.plain_parts.Goals as goal

pub returns : goal.returns
returns c =
    let key = c.in_ok-key.key.now in
    let plain : are_plain key ≡ true = search rules in
    let head = c.in-Ok.ensures.found.1.parts in
    let tail = c.in-Ok-decode_all.ensures.found in
    let rest = drop c.in-Ok.start c.args.spelled.now in
    let whole : take (length c.args.spelled.now - c.in-Ok.start) rest ≡ rest = take_all _ _ (omega (arith, length-drop c.in-Ok.start c.args.spelled.now)) in
    let split = subst (λ xs. IsSplitAt xs c.in-Ok.len key c.in_ok-key.value.now) whole c.in_ok-key.ensures.cases in
    let len : length key ≡ c.in-Ok.len = split.3 in
    let behind = sym (take-append-drop c.in-Ok.len rest) ∙ ap₂ (λ a b. a ++ b) (sym split.1) (sym split.2) in
    let halves : c.args.spelled.now ≡ to_be_bytes w32 c.in-Ok.len ++ (key ++ c.in_ok-key.value.now) = head ∙ ap (λ l. to_be_bytes w32 c.in-Ok.len ++ l) behind in
    subst (IsPlainRecord c.args.spelled.now key) (sym (to_z-of_z w64 c.in-Ok-decode_all.v tail.0)) (record {
      spelled = ((omega (arith, len, c.if-len-gt-KEY_LIMIT.false), utf8_plain key plain), tail.0);
      text = halves ∙ ap₂ (λ n s. to_be_bytes w32 n ++ (key ++ s)) (sym len) tail.1 ∙ sym (append_assoc (to_be_bytes w32 (length key)) key (signed_spelling w64 c.in-Ok-decode_all.v));
      plain = plain;
    })
