use Rattle.std.proofs.Common.{◌≡◌, ◌<◌, ◌^◌, ◌++◌, ℕ, List, length, subst, append_assoc, sym, ap, ◌∙◌}
use Rattle.std.proofs.lemmas.List.{take_all, length-map}
use Rattle.std.proofs.lemmas.Result.{err_from_is_err_and}
use Rattle.std.specs.Int.{w32, to_be_bytes}
use Rattle.std.proofs.lemmas.List.Elements.{All-more}
use Rattle.abs_codec.proofs.Lists.{text_more}
use Rattle.task_part.specs.Spelling.{log_now, log_spelling, LogIsSpelled}
use Rattle.task_part.proofs.Logs.{one_unspelled, all_written, all_spelled}
use Rattle.task_part.proofs.spell.write_logs.Goals as goal

-- a number, and then its log
both : (last now old number rows : List ℕ) → now ≡ old ++ number → last ≡ now ++ rows → last ≡ old ++ (number ++ rows)
both last now old number rows first second = second ∙ ap (λ bytes. bytes ++ rows) first ∙ append_assoc old number rows

pub loop-log-preserved : goal.loop-log-preserved
loop-log-preserved g c =
    let logs = c.args.logs.now in
    let log = c.log-item.result in
    let at = c.loop-log.log-index in
    let number = c.in_ok-write.ensures.appended in
    let rows = c.in_ok-write_records.ensures.appended in
    record {
      text = text_more (λ log. log_spelling g.R.Codec.spelling (log_now log)) (to_be_bytes w32 (length logs)) c.args.out.now.items c.loop-log.out.items c.write_records.new.out.items logs at log c.loop-log-test.true c.log-item.is c.loop-log.invariant.text
          (both _ _ _ _ _ number.1 rows.1);
      each = All-more (λ log. LogIsSpelled g.R.Codec.HasSpelling (log_now log)) logs at log c.loop-log-test.true c.loop-log.invariant.each (subst (λ log. LogIsSpelled g.R.Codec.HasSpelling (log_now log)) c.log-item.is (number.0, rows.0));
    }

-- a log has no spelling
pub returns-in_err-write-clause-too_long : goal.returns-in_err-write-clause-too_long
returns-in_err-write-clause-too_long g c =
    let failed = err_from_is_err_and c.from_residual-in_err-write.result c.from_residual-in_err-write.ensures.1 in
    rw (failed.1, failed.2) (λ other.
    let why = c.in_err-write.ensures.too_long other in
    (why.0, one_unspelled g.R.Codec.HasSpelling g.R.Codec.spelling c.args.logs.now c.loop-log.log-index c.log-item.result c.loop-log-test.true c.log-item.is (λ spelled. why.1 spelled.0)))

pub returns-in_err-write_records-clause-too_long : goal.returns-in_err-write_records-clause-too_long
returns-in_err-write_records-clause-too_long g c =
    let failed = err_from_is_err_and c.from_residual-in_err-write_records.result c.from_residual-in_err-write_records.ensures.1 in
    rw (failed.1, failed.2) (λ other.
    let why = c.in_err-write_records.ensures.too_long other in
    (why.0, one_unspelled g.R.Codec.HasSpelling g.R.Codec.spelling c.args.logs.now c.loop-log.log-index c.log-item.result c.loop-log-test.true c.log-item.is (λ spelled. why.1 spelled.1)))

-- all logs are written
pub returns-clause-appended : goal.returns-clause-appended
returns-clause-appended g c =
    let logs = c.args.logs.now in
    let at = c.loop-log.log-index in
    let all = take_all at logs c.loop-log-test.false in
    let H = g.R.Codec.HasSpelling in
    let s = g.R.Codec.spelling in (
      (subst (λ n. n < 2 ^ 32) (sym (length-map logs log_now)) c.in_ok-write_count.ensures.appended.0, all_spelled H s logs at c.args.out.now.items c.loop-log.out.items all c.loop-log.invariant.each),
      all_written H s logs at c.args.out.now.items c.loop-log.out.items all c.loop-log.invariant.text,
    )
