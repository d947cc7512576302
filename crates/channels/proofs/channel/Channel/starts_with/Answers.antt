use Rattle.std.proofs.Common.{◌≡◌, ◌≤◌, length, true, refl, sym, ap, ◌∙◌, inl, inr, arith}
use Rattle.std.specs.Slice.Iter.{iter_rest}
use Rattle.std.specs.VecDeque.Iter.{deque_iter_rest}
use Rattle.std.specs.Iterator.Adapters.{zip_first, zip_second}
use Rattle.std.proofs.lemmas.Bool.{false≢true, not-true, not-false}
use Rattle.channels.specs.Items.{leading_records}
use Rattle.channels.proofs.Queues.{leading_within}
use Rattle.channels.proofs.First.{none_begin, walked_more, walked_first, walked_rest, stand_within, stand_from_queue, queue_from_stand}
use Rattle.channels.proofs.channel.Channel.starts_with.Goals as goal

pub returns-then-before_barrier-records : goal.returns-then-before_barrier-records
returns-then-before_barrier-records g c = λ exact. (
  λ e. absurd (false≢true e),
  λ stand. absurd (omega (arith, stand_within c.args.records.now c.args.self.now.items stand)),
)

pub loop-own-init : goal.loop-own-init
loop-own-init g c =
    let rows = c.args.records.now in
    let barriers = c.self.inside.barriers.items in
    let records = c.self.inside.records.items in
    let seen : length rows ≤ length (leading_records c.args.self.now.items) = omega arith in
    let few = rw (← c.self.view_is) at seen in
    let all : deque_iter_rest (zip_first c.into_iter-own-iterator.result) ≡ records = cc in
    let each : iter_rest (zip_second c.into_iter-own-iterator.result) ≡ rows = cc in
    record {
      long = rw (all, each) (omega (arith, few, leading_within barriers records));
      each = λ exact begin. rw (← c.self.view_is) (stand_from_queue barriers records rows few (rw (all, each) at begin));
      some = λ stand. rw (all, each) (queue_from_stand barriers records rows few (rw (← c.self.view_is) at stand));
    }

pub loop-own-preserved : goal.loop-own-preserved
loop-own-preserved g c =
    let own = c.in-Some.own.now in
    let row = c.in-Some.record.now in
    let steps = c.in-Some.ensures.steps in
    let equal : g.R.PartialEq.eq own row ≡ true = not-false (g.R.PartialEq.eq own row) (sym c.ne.ensures ∙ c.if-ne.false) in
    record {
      long = omega (arith, ap length steps.0, ap length steps.1);
      each = λ exact begin. c.loop-own.invariant.each exact (walked_more _ _ _ _ _ _ steps.0 steps.1 (exact own row equal) begin);
      some = λ stand. walked_rest _ _ _ _ _ _ steps.0 steps.1 (c.loop-own.invariant.some stand);
    }

pub returns-then-ne : goal.returns-then-ne
returns-then-ne g c = λ exact. (
  λ e. absurd (false≢true e),
  λ stand.
      let own = c.in-Some.own.now in
      let row = c.in-Some.record.now in
      let steps = c.in-Some.ensures.steps in
      let same : own ≡ row = walked_first _ _ _ _ _ _ steps.0 steps.1 (c.loop-own.invariant.some stand) in
      sym (not-true (g.R.PartialEq.eq own row) (sym c.if-ne.ensures)) ∙ ap (λ x. g.R.PartialEq.eq x row) same ∙ g.met.R.Eq.laws.refl row,
)

pub returns : goal.returns
returns g c = λ exact. (
  λ _. c.loop-own.invariant.each exact (none_begin _ _ (elim c.in-None.ensures.steps [ inl a ↦ omega (arith, a.1.0, c.loop-own.invariant.long) | inr b ↦ b.1.0 ])),
  λ _. refl,
)
