use Rattle.std.proofs.Common.{take, slice_index, ap, ◌∙◌, arith, add-one}
use Rattle.job_state.specs.Sending.{waiting_in}
use Rattle.job_state.proofs.FannedOut.{waiting_in_more}
use Rattle.job_state.proofs.fans.reserve_each.Goals as goal

pub loop-number-preserved : goal.loop-number-preserved
loop-number-preserved g c =
    let numbers = c.args.numbers.now in
    let i = c.loop-number.number-index in
    let n = slice_index numbers i in
    record {
      same = c.reserve_run.ensures.same ∙ c.loop-number.invariant.same;
      room = λ k. omega (arith, c.loop-number.invariant.room k, c.in_ok-reserve_run.ensures.room k, waiting_in_more numbers i c.args.count k (omega arith), ap (λ m. waiting_in (take m numbers) c.args.count k) (add-one i));
    }
