use Rattle.std.proofs.Common.{◌≡◌, take, length, slice_get, slice_set, subst, refl, sym, ap, ◌∙◌, arith}
use Rattle.std.proofs.lemmas.List.{with_items_is, length-map}
use Rattle.std.specs.Vec.{with_items}
use Rattle.alignment.specs.Table.{is_logged}
use Rattle.keyed_state.specs.declared.comparing.SetFault.TheVariants as SetFault
use Rattle.keyed_state.proofs.Compared.{told_on}
use Rattle.job_state.specs.AtOnce.{without_first, log_with_all}
use Rattle.job_state.specs.Batch.{rows_of}
use Rattle.job_state.specs.Inside.{gate_in, records_of, holdings_of, copies_of}
use Rattle.deliveries.specs.Deliveries.{sent_in}
use Rattle.job_state.specs.Sending.{contents_items, items_at, put_into, HasPlace}
use Rattle.job_state.proofs.AtOnce.{keeps_in_turn, equal_keys, operates_all_from}
use Rattle.job_state.proofs.Batches.{all_are_each, none_is_each}
use Rattle.job_state.proofs.Departures.{leads}
use Rattle.job_state.proofs.Received.{received_is_put}
use Rattle.job_state.proofs.Holds.{on_err, held_kept, puts_at}
use Rattle.job_state.proofs.Standings.{holder_within}
use Rattle.job_state.proofs.attempt.Attempt.operate_some.Goals as goal

-- nothing is to be done
pub returns-then-count-eq0-clause-ok : goal.returns-then-count-eq0-clause-ok
returns-then-count-eq0-clause-ok g c =
    let order = g.met.O.Key.Ord.total in
    let counted = c.requires.1.1.1.1.1.1.1.1.0 in
    none_is_each g.O.Operator.meaning g.O.Key.Ord.cmp (equal_keys order g.O.Operator.meaning.same_key g.met.O.Operator.same_key) c.args.graph.now c.args.task c.args.input c.args.channel g.turns c.args.self.now c.args.self.now (sym counted ∙ c.if-count-eq0.true) refl

pub returns-then-count-eq0-clause-expected : goal.returns-then-count-eq0-clause-expected
returns-then-count-eq0-clause-expected g c = λ some. absurd (omega (arith, some, c.if-count-eq0.true))

pub returns-then-count-eq0-clause-changed : goal.returns-then-count-eq0-clause-changed
returns-then-count-eq0-clause-changed g c = λ entries at is have. absurd (cc)

-- memory is refused
pub returns-in_err-reserve_log-clause-changed : goal.returns-in_err-reserve_log-clause-changed
returns-in_err-reserve_log-clause-changed g c = λ entries at is have.
    let told = told_on c.from_residual.result SetFault.Memory SetFault.Changed c.from_residual.ensures.1 is in
    absurd (cc)

pub returns-in_err-ready-clause-changed : goal.returns-in_err-ready-clause-changed
returns-in_err-ready-clause-changed g c = λ entries at is have.
    let told = told_on c.from_residual-in_err-ready.result SetFault.Memory SetFault.Changed c.from_residual-in_err-ready.ensures.1 is in
    absurd (cc)

-- a state is not the expected one
pub returns-in-Err-clause-changed : goal.returns-in-Err-clause-changed
returns-in-Err-clause-changed g c = λ entries at is have.
    let holds = ap (λ l. slice_get (holdings_of l) c.args.task) c.deref_mut-2.ensures.value ∙ (ap (λ h. slice_get h.tasks c.args.task) c.self.view_is ∙ at) in
    c.keep_all.ensures.changed entries holds (c.in-Err.is ∙ is) have

pub returns-clause-expected : goal.returns-clause-expected
returns-clause-expected g c = λ some entries at.
    let holds = ap (λ l. slice_get (holdings_of l) c.args.task) c.deref_mut-2.ensures.value ∙ (ap (λ h. slice_get h.tasks c.args.task) c.self.view_is ∙ at) in
    c.in_default.ensures.expected entries holds

pub keep_all-requires-clause-exact : goal.keep_all-requires-clause-exact
keep_all-requires-clause-exact g c = g.met.O.Operator.state_is_exact

-- the task holds states
pub keep_all-requires-clause-there : goal.keep_all-requires-clause-there
keep_all-requires-clause-there g c =
    let was = c.requires.1.1.1.1.0 in
    let holds = ap (λ l. slice_get (holdings_of l) c.args.task) c.deref_mut-2.ensures.value ∙ (ap (λ h. slice_get h.tasks c.args.task) c.self.view_is ∙ was.1) in
    holder_within c.deref_mut-2.result.now c.args.task _ holds

pub keep_all-requires-clause-holds : goal.keep_all-requires-clause-holds
keep_all-requires-clause-holds g c =
    let was = c.requires.1.1.1.1.0 in
    let holds = ap (λ l. slice_get (holdings_of l) c.args.task) c.deref_mut-2.ensures.value ∙ (ap (λ h. slice_get h.tasks c.args.task) c.self.view_is ∙ was.1) in
    (was.0, holds)

pub returns-in-Err-clause-err : goal.returns-in-Err-clause-err
returns-in-Err-clause-err g c =
    let items = with_items_is c.self.inside.channels c.make_ready.new.channels (omega arith) in
    let tasks = with_items_is c.self.inside.tasks c.keep_all.new.tasks (omega arith) in
    let left = with_items_is (with_items c.self.inside.channels c.make_ready.new.channels) c.release_all.new.channels (omega arith) in
    (held_kept _ c.args.self.now _ _ _ _ _ c.self.view_is
    (ap (λ l. holdings_of l) tasks ∙ c.in-Err.ensures.err ∙ ap (λ l. holdings_of l) c.deref_mut-2.ensures.value)
    (ap (λ l. contents_items l) left ∙ c.release_all.ensures.same ∙ ap (λ l. contents_items l) (c.deref_mut-in-Err.ensures.value ∙ items) ∙ c.in_ok-ready.ensures.same ∙ ap (λ l. contents_items l) c.deref_mut.ensures.value)
    c.reserve_log.ensures.came c.reserve_log.ensures.logged
    (ap (λ l. copies_of l) tasks ∙ c.keep_all.ensures.copies ∙ ap (λ l. copies_of l) c.deref_mut-2.ensures.value))

pub returns-in_err-ready-clause-err : goal.returns-in_err-ready-clause-err
returns-in_err-ready-clause-err g c =
    let items = with_items_is c.self.inside.channels c.make_ready.new.channels (omega arith) in
    on_err c.from_residual-in_err-ready.result _
    (held_kept _ c.args.self.now _ _ _ _ _ c.self.view_is refl
    (ap (λ l. contents_items l) items ∙ c.in_err-ready.ensures.same ∙ ap (λ l. contents_items l) c.deref_mut.ensures.value)
    c.reserve_log.ensures.came c.reserve_log.ensures.logged refl)

pub pass_on_all-requires : goal.pass_on_all-requires
pass_on_all-requires g c =
    let given = c.requires.1.1.1.1.1.1 in
    let rows = rows_of g.turns in
    let channels = c.deref_mut-3.result.now in
    let stands = items_at (contents_items channels) c.args.channel in
    let items = with_items_is c.self.inside.channels c.make_ready.new.channels (omega arith) in
    let passed = c.deref_mut-3.ensures.value ∙ items in
    let stood = ap (λ l. contents_items l) passed ∙ (c.in_ok-ready.ensures.same ∙ ap (λ l. contents_items l) c.deref_mut.ensures.value) ∙ ap (λ h. h.channels) c.self.view_is in
    let many : c.args.count ≡ length rows = given.1.1.0 ∙ sym (length-map g.turns (λ t. t.row)) in
    let first = ap (λ l. take (length rows) (items_at l c.args.channel)) stood ∙ given.1.1.1.0 in
    record {
      within = omega (arith, given.0, ap (λ l. length l) c.reserve_log.ensures.logged, length-map c.reserve_log.new.logs (λ l. l.records), length-map c.self.inside.logs (λ l. l.records), ap (λ h. length h.logs) c.self.view_is);
      spare = c.in_ok-reserve_log.ensures.room;
      records = omega (arith, many, leads rows stands first);
      place = subst (λ cs. HasPlace cs c.in_ok-ready.ready) (sym passed) c.in_ok-ready.ensures.place;
    }

pub returns-clause-ok : goal.returns-clause-ok
returns-clause-ok g c =
    let given = c.requires.1.1.1.1.1.1 in
    let counted = given.1.1.0 in
    let stands_first = given.1.1.1.0 in
    let rising = given.1.1.1.1.0 in
    let last = given.1.1.1.1.1.0 in
    let sends = given.1.1.1.1.1.1.0 in
    let meaning = g.O.Operator.meaning in
    let order = g.met.O.Key.Ord.total in
    let channel = c.args.channel in
    let rows = rows_of g.turns in
    let items = with_items_is c.self.inside.channels c.make_ready.new.channels (omega arith) in
    let passed = with_items_is (with_items c.self.inside.channels c.make_ready.new.channels) c.pass_on_all.new.channels (omega arith) in
    let tasks = with_items_is c.self.inside.tasks c.keep_all.new.tasks (omega arith) in
    let stands = c.deref_mut-2.ensures.value in
    let kept = c.in_default.ensures.ok in
    let stood = ap (λ l. contents_items l) (c.deref_mut-3.ensures.value ∙ items) ∙ (c.in_ok-ready.ensures.same ∙ ap (λ l. contents_items l) c.deref_mut.ensures.value) in
    let many : c.args.count ≡ length rows = counted ∙ sym (length-map g.turns (λ t. t.row)) in
    let first = ap (λ l. take c.args.count (items_at l channel)) (stood ∙ ap (λ h. h.channels) c.self.view_is) ∙ ap (λ n. take n (items_at c.args.self.now.channels channel)) many ∙ stands_first in
    let logs_it = c.is_logged-logged.ensures ∙ ap (λ gates. is_logged (gate_in gates c.args.task) c.args.input) c.deref.ensures.value in
    let law = equal_keys order meaning.same_key g.met.O.Operator.same_key in
    all_are_each meaning g.O.Key.Ord.cmp law c.args.graph.now c.args.task c.args.input channel g.turns c.args.self.now _ (omega (arith, counted, c.if-count-eq0.false)) given.0 stands_first
    (operates_all_from meaning c.args.graph.now c.args.task g.O.Key.Ord.cmp c.args.input channel c.args.count g.turns c.args.states.now.items (sent_in c.args.sent.now) _ c.args.self.now _ kept.0 kept.1 _ _ c.self.view_is
    (ap (λ l. slice_get (holdings_of l) c.args.task) (sym stands) ∙ kept.2) kept.4
    (keeps_in_turn order meaning.same_key g.met.O.Operator.same_key g.turns c.args.states.now.items kept.4.entries kept.4.kept rising last kept.4.keeps)
    counted sends
    (puts_at _ _ (ap (λ l. without_first c.args.count channel l) stood) (ap (λ l. contents_items l) (sym passed)) (λ k. ap (put_into k) c.in_ok-ready.ensures.puts ∙ received_is_put meaning c.args.graph.now c.args.task (sent_in c.args.sent.now) k) c.pass_on_all.ensures.puts)
    (c.pass_on_all.ensures.came ∙ c.reserve_log.ensures.came)
    (c.pass_on_all.ensures.logged rows many first ∙ ap (λ l. log_with_all c.is_logged-logged.result channel rows l) c.reserve_log.ensures.logged ∙ ap (λ b. log_with_all b channel rows (records_of c.self.inside.logs)) logs_it)
    (ap (λ l. holdings_of l) tasks ∙ kept.3 ∙ ap (λ l. slice_set (holdings_of l) c.args.task kept.1) stands)
    (ap (λ l. copies_of l) tasks ∙ c.keep_all.ensures.copies ∙ ap (λ l. copies_of l) stands)
    refl)
