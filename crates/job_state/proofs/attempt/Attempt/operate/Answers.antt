use Rattle.std.proofs.Common.{slice_get, slice_set, refl, sym, ap, ◌∙◌, arith}
use Rattle.std.proofs.lemmas.List.{with_items_is}
use Rattle.std.specs.Vec.{with_items}
use Rattle.alignment.specs.Table.{is_logged}
use Rattle.job_state.specs.Held.{log_with}
use Rattle.job_state.specs.Inside.{gate_in, records_of, holdings_of, copies_of}
use Rattle.job_state.specs.Sending.{contents_items, items_at, without_head, put_into}
use Rattle.job_state.proofs.Putting.{has_room_at}
use Rattle.job_state.proofs.Received.{received_is_put}
use Rattle.job_state.proofs.Holds.{held_kept, puts_at, operates_from}
use Rattle.job_state.proofs.Standings.{holder_within}
use Rattle.job_state.proofs.attempt.Attempt.operate.Goals as goal

-- the task holds states
pub keep-requires : goal.keep-requires
keep-requires g c =
    let holds = ap (λ l. slice_get (holdings_of l) c.args.task) c.deref_mut-2.ensures.value ∙ (ap (λ h. slice_get h.tasks c.args.task) c.self.view_is ∙ c.requires.holds.1) in
    record { there = holder_within c.deref_mut-2.result.now c.args.task _ holds; holds = (c.requires.holds.0, holds) }

pub returns-in_default-clause-err : goal.returns-in_default-clause-err
returns-in_default-clause-err g c =
    let items = with_items_is c.self.inside.channels c.reserve_deliveries.new.channels (omega arith) in
    let tasks = with_items_is c.self.inside.tasks c.keep.new.tasks (omega arith) in
    let left = with_items_is (with_items c.self.inside.channels c.reserve_deliveries.new.channels) c.release_all.new.channels (omega arith) in
    (held_kept _ c.args.self.now _ _ _ _ _ c.self.view_is
    (ap (λ l. holdings_of l) tasks ∙ c.in_default.ensures.err ∙ ap (λ l. holdings_of l) c.deref_mut-2.ensures.value)
    (ap (λ l. contents_items l) left ∙ c.release_all.ensures.same ∙ ap (λ l. contents_items l) (c.deref_mut-in_default.ensures.value ∙ items) ∙ c.in_ok-puts.ensures.same ∙ ap (λ l. contents_items l) c.deref_mut.ensures.value)
    c.reserve_log.ensures.came c.reserve_log.ensures.logged
    (ap (λ l. copies_of l) tasks ∙ c.keep.ensures.copies ∙ ap (λ l. copies_of l) c.deref_mut-2.ensures.value))

pub pass_on-taken-requires : goal.pass_on-taken-requires
pass_on-taken-requires g c =
    let items = with_items_is c.self.inside.channels c.reserve_deliveries.new.channels (omega arith) in
    has_room_at c.in_ok-puts.puts.items (c.deref_mut-3.ensures.value ∙ items) c.in_ok-puts.ensures.room

pub returns-clause-ok : goal.returns-clause-ok
returns-clause-ok g c = λ row head.
    let meaning = g.O.Operator.meaning in
    let channel = c.args.channel in
    let items = with_items_is c.self.inside.channels c.reserve_deliveries.new.channels (omega arith) in
    let passed = with_items_is (with_items c.self.inside.channels c.reserve_deliveries.new.channels) c.pass_on-taken.new.channels (omega arith) in
    let tasks = with_items_is c.self.inside.tasks c.keep.new.tasks (omega arith) in
    let stands = c.deref_mut-2.ensures.value in
    let kept = c.in-Ok.ensures.ok in
    let stood = ap (λ l. contents_items l) (c.deref_mut-3.ensures.value ∙ items) ∙ (c.in_ok-puts.ensures.same ∙ ap (λ l. contents_items l) c.deref_mut.ensures.value) in
    let taken = c.pass_on-taken.ensures.taken ∙ ap (λ l. slice_get (items_at l channel) 0) (stood ∙ ap (λ h. h.channels) c.self.view_is) ∙ head in
    let logs_it = c.is_logged-logged.ensures ∙ ap (λ gates. is_logged (gate_in gates c.args.task) c.args.input) c.deref.ensures.value in
    operates_from meaning c.args.graph.now c.args.task g.O.Key.Ord.cmp c.args.input channel row c.args.key c.args.state c.args.sent.items _ _ _ kept.0 kept.1 _ _ c.self.view_is
    (ap (λ l. slice_get (holdings_of l) c.args.task) (sym stands) ∙ kept.2) kept.4
    (puts_at _ _ (ap (λ l. without_head channel l) stood) (ap (λ l. contents_items l) (sym passed)) (λ k. ap (put_into k) c.in_ok-puts.ensures.puts ∙ received_is_put meaning c.args.graph.now c.args.task c.args.sent.items k) c.pass_on-taken.ensures.puts)
    (c.log_taken.ensures.came ∙ c.reserve_log.ensures.came)
    (c.log_taken.ensures.logged row taken ∙ ap (λ l. log_with c.is_logged-logged.result channel row l) c.reserve_log.ensures.logged ∙ ap (λ b. log_with b channel row (records_of c.self.inside.logs)) logs_it)
    (ap (λ l. holdings_of l) tasks ∙ kept.3 ∙ ap (λ l. slice_set (holdings_of l) c.args.task kept.1) stands)
    (ap (λ l. copies_of l) tasks ∙ c.keep.ensures.copies ∙ ap (λ l. copies_of l) stands)
    refl
