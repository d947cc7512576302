use Rattle.std.proofs.Common.{◌≡◌, ◌<◌, length, drop, slice_get, refl, sym, ap, arith}
use Rattle.channels.specs.Items.{leading_records}
use Rattle.channels.specs.Queues.{gaps}
use Rattle.channels.proofs.Queues.{nothing_first, barrier_popped, gaps_popped, leading_within, record_first, records_skipped, last_skipped, contents}
use Rattle.channels.proofs.channel.Channel.pop.Goals as goal
use Rattle.channels.proofs.channel.Channel.pop.Goals.{in-Some, in-None}

pub returns-in_err-barrier-clause-taken : goal.returns-in_err-barrier-clause-taken
returns-in_err-barrier-clause-taken g c =
    let seen : length (leading_records c.args.self.now.items) ≡ 0 = omega arith in
    let none : length c.self.inside.barriers.items ≡ 0 = omega (arith, c.in_err-barrier.ensures.cases) in
    rw (c.from_residual.ensures, ← c.self.view_is) (nothing_first c.self.inside.barriers.items c.self.inside.records.items none (rw (← c.self.view_is) at seen))

pub invariant_of-self-then-before_barrier-eq0 : goal.invariant_of-self-then-before_barrier-eq0
invariant_of-self-then-before_barrier-eq0 g c =
    let seen : length (leading_records c.args.self.now.items) ≡ 0 = omega arith in
    let barriers = c.self.inside.barriers.items in
    let rest = c.pop_front.new.self.items in
    let popped = barrier_popped c.in_ok-barrier.barrier rest barriers c.self.inside.records.items c.in_ok-barrier.ensures.items (rw (← c.self.view_is) at seen) (omega arith) in
    let kept : gaps rest ≡ gaps barriers = gaps_popped c.in_ok-barrier.barrier rest barriers c.in_ok-barrier.ensures.items popped.0 in
    let fewer = c.in_ok-barrier.ensures.cases in
    let capacity = c.in_ok-barrier.ensures.capacity in
    (omega arith, omega arith, omega arith, omega arith, omega arith)

pub returns-then-before_barrier-eq0-clause-taken : goal.returns-then-before_barrier-eq0-clause-taken
returns-then-before_barrier-eq0-clause-taken g c =
    let seen : length (leading_records c.args.self.now.items) ≡ 0 = omega arith in
    let popped = barrier_popped c.in_ok-barrier.barrier c.pop_front.new.self.items c.self.inside.barriers.items c.self.inside.records.items c.in_ok-barrier.ensures.items (rw (← c.self.view_is) at seen) (omega arith) in
    rw (← c.self.view_is) (sym (ap (λ l. slice_get l 0) popped.1))

pub returns-then-before_barrier-eq0-clause-rest : goal.returns-then-before_barrier-eq0-clause-rest
returns-then-before_barrier-eq0-clause-rest g c =
    let seen : length (leading_records c.args.self.now.items) ≡ 0 = omega arith in
    let popped = barrier_popped c.in_ok-barrier.barrier c.pop_front.new.self.items c.self.inside.barriers.items c.self.inside.records.items c.in_ok-barrier.ensures.items (rw (← c.self.view_is) at seen) (omega arith) in
    rw (← c.self.view_is) (ap (λ l. contents l c.self.inside.room) (sym (ap (λ l. drop 1 l) popped.1)))

pub returns-in_err-record-clause-taken : goal.returns-in_err-record-clause-taken
returns-in_err-record-clause-taken g c =
    let seen : 0 < length (leading_records c.args.self.now.items) = omega arith in
    let leads = rw (← c.self.view_is) at seen in
    absurd (omega (arith, leading_within c.self.inside.barriers.items c.self.inside.records.items, c.in_err-record.ensures.cases))

pub returns-in_err-record-clause-rest : goal.returns-in_err-record-clause-rest
returns-in_err-record-clause-rest g c =
    let seen : 0 < length (leading_records c.args.self.now.items) = omega arith in
    let leads = rw (← c.self.view_is) at seen in
    absurd (omega (arith, leading_within c.self.inside.barriers.items c.self.inside.records.items, c.in_err-record.ensures.cases))

pub returns-clause-taken : goal.returns-clause-taken
returns-clause-taken g c =
    let seen : 0 < length (leading_records c.args.self.now.items) = omega arith in
    rw (← c.self.view_is) (record_first c.self.inside.barriers.items c.self.inside.records.items c.in_ok-record.record c.pop_front-2.new.self.items c.in_ok-record.ensures.items (rw (← c.self.view_is) at seen))

pub returns-clause-rest : goal.returns-clause-rest
returns-clause-rest g c =
    let seen : 0 < length (leading_records c.args.self.now.items) = omega arith in
    let leads = rw (← c.self.view_is) at seen in
    let barriers = c.self.inside.barriers.items in
    let records = c.self.inside.records.items in
    let rest = c.pop_front-2.new.self.items in
    let left : rest ≡ drop 1 records = sym (ap (λ l. drop 1 l) c.in_ok-record.ensures.items) in
    elim c.match-front_mut.branch [
      | in-Some w ↦
          rw (w.self-is, ← c.self.view_is)
          (ap (λ l. contents l c.self.inside.room) (records_skipped 1 w.in-Some.barrier.now barriers records rest left (omega (arith, w.in-Some.ensures.variant.0 refl)) w.in-Some.ensures.value (omega arith) (omega (arith, leads))))
      | in-None w ↦
          rw (w.self-is, ← c.self.view_is)
          (ap (λ l. contents l c.self.inside.room) (last_skipped 1 barriers records rest left (omega (arith, w.in-None.ensures.item))))
    ]
