use Rattle.std.proofs.Common.{◌≡◌, [], OnOk, is_none, ap, sym, subst}
use Rattle.line_parts.specs.Lines.{in_runs, BeginsWithLines}
use Rattle.job_input.specs.Lines.{HasRow, PutsLines}
use Rattle.job_input.proofs.Texts.{lines_put, all_fit}
use Rattle.job_input.proofs.rounds.put_taken.Goals as goal
use Rattle.job_input.proofs.rounds.put_taken.Goals.{in-Some, in-None}
use Rattle.source_log.specs.Partitions.{appended_all}

pub returns-in-Err-clause-fits : goal.returns-in-Err-clause-fits
returns-in-Err-clause-fits g c =
    let (rest, lines, whole) = c.read_beside-put.ensures.reads in
    all_fit _ _ rest _ lines

pub returns-clause-fits : goal.returns-clause-fits
returns-clause-fits g c =
    let (rest, lines, whole) = c.read_beside-put.ensures.reads in
    all_fit _ _ rest _ lines

pub returns-clause-text : goal.returns-clause-text
returns-clause-text g c =
    let (rest, lines, whole) = c.read_beside-put.ensures.reads in
    let n = c.read_beside-put.result.1.lines in
    let p = c.args.partition in
    let text = c.args.taken.now in
    let rows = in_runs c.read_beside-put.result.1.runs.items in
    let old = appended_all c.args.log.now.rows p (in_runs c.args.pending.runs.items) in
    let put : OnOk c.read_beside-put.result.0 (c.read_beside-put.new.log.rows ≡ old) = c.read_beside-put.ensures.rows in
    let same : c.read_beside-put.new.log.rows ≡ old = subst (λ r. OnOk r (c.read_beside-put.new.log.rows ≡ old)) c.in_default.is put in
    elim c.match-fault.branch [
      | in-Some w ↦ rw w.read-is tt
      | in-None w ↦
          let none : rest ≡ [] = whole (ap is_none w.in-None.is) in
          let text_put = lines_put p n text rows old (subst (BeginsWithLines HasRow n text rows) none lines) in
          rw w.read-is (n, subst (λ ps. PutsLines n p text old (appended_all ps p rows)) (sym same) text_put)
    ]
