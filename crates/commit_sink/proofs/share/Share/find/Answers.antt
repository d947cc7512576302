use Rattle.commit_sink.proofs.Ends.{first_above, rows_of-before, rows_of-past}
use Rattle.commit_sink.proofs.share.Share.find.Goals as goal

pub returns-then-place-ends-clause-none : goal.returns-then-place-ends-clause-none
returns-then-place-ends-clause-none c =
    rw (← c.as_slice-ends.ensures) (rows_of-past c.as_slice-ends.result.now c.place_of-place.result c.args.index c.if-place-ends.true c.place_of-place.ensures.below)

pub overflow_sub-result : goal.overflow_sub-result
overflow_sub-result c =
    rw c.rows_of.ensures (rows_of-before c.as_slice-ends.result.now c.place_of-place.result c.args.index c.place_of-place.ensures.within c.place_of-place.ensures.below)

pub returns-clause-some : goal.returns-clause-some
returns-clause-some c =
    rw (c.rows_of.ensures, ← c.as_slice-ends.ensures) (c.place_of-place.result, first_above c.as_slice-ends.result.now c.place_of-place.result c.args.index _ c.place_of-place.ensures.within c.if-place-ends.false c.place_of-place.ensures.below c.place_of-place.ensures.above)
