use Rattle.std.proofs.Common.{take, sym, ap, ◌++◌, ◌∙◌, take-append-drop}
use Rattle.job_input.proofs.rounds.put_whole_lines.Goals as goal

pub returns-clause-text : goal.returns-clause-text
returns-clause-text g c =
    let full = c.args.buffer.now.text.items in
    let count = c.whole_len-count.result in (
      take count full,
      sym (take-append-drop count full) ∙ ap (λ l. take count full ++ l) (sym c.in_ok-put_lines.ensures.rest),
      c.whole_len-count.ensures.end,
      c.in_ok-put_lines.ensures.text,
    )
