use Rattle.std.proofs.Common.{◌∙◌, ◌++◌, ap}
use Rattle.std.specs.Int.{w64}
use Rattle.std.proofs.lemmas.Int.{to_z-of_z}
use Rattle.absflow_run.specs.RecordText.{plain_line}
use Rattle.absflow_run.proofs.PlainText.{line_plain}
use Rattle.absflow_run.proofs.record_text.append_line.Goals as goal

pub returns-in-Some : goal.returns-in-Some
returns-in-Some c =
    let is = c.in-Some.ensures in
    let key = c.in-Some.key.now in
    let value = ap (λ z. c.args.text.now.items ++ plain_line key z) (to_z-of_z w64 c.in-Some.v is.spelled.1) in
    record {
      row = record { k = key; v = c.in-Some.v };
      spelled = is.spelled;
      text = is.text;
      line = c.in_ok-append_plain.ensures ∙ value ∙ ap (λ l. c.args.text.now.items ++ l) (line_plain key c.in-Some.v is.plain);
    }
