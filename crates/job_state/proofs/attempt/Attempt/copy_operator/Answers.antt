use Rattle.std.proofs.Common.{[], Some, slice_get, slice_set, refl, sym, ap, ◌∙◌, arith}
use Rattle.std.proofs.lemmas.List.{with_items_is}
use Rattle.std.specs.Vec.{with_items}
use Rattle.alignment.specs.Inputs.{with_barrier}
use Rattle.alignment.specs.Table.{after, effect_of}
use Rattle.task_part.specs.declared.part.Part.TheVariants as Part
use Rattle.job_state.specs.Inside.{gate_in, holdings_of, copies_of}
use Rattle.job_state.specs.Sending.{contents_items, without_head, put_into}
use Rattle.job_state.proofs.Putting.{has_room_at}
use Rattle.job_state.proofs.Received.{barriers_put}
use Rattle.job_state.proofs.Holds.{held_kept, puts_at, copies_from}
use Rattle.job_state.proofs.Standings.{holder_within}
use Rattle.job_state.proofs.attempt.Attempt.copy_operator.Goals as goal

-- the task holds states
pub copy_states-requires : goal.copy_states-requires
copy_states-requires g c =
    let holds = ap (λ l. slice_get (holdings_of l) c.args.task) c.deref_mut-2.ensures.value ∙ (ap (λ h. slice_get h.tasks c.args.task) c.self.view_is ∙ c.requires.holds.1) in
    record { there = holder_within c.deref_mut-2.result.now c.args.task _ holds; holds = (c.requires.holds.0, holds) }

pub returns-in_default-clause-err : goal.returns-in_default-clause-err
returns-in_default-clause-err g c =
    let items = with_items_is c.self.inside.channels c.reserve_barriers.new.channels (omega arith) in
    let tasks = with_items_is c.self.inside.tasks c.copy_states.new.tasks (omega arith) in
    let stands = c.deref_mut-2.ensures.value in
    let left = with_items_is (with_items c.self.inside.channels c.reserve_barriers.new.channels) c.release_all.new.channels (omega arith) in
    (held_kept _ c.args.self.now _ _ _ _ _ c.self.view_is
    (ap (λ l. holdings_of l) tasks ∙ c.copy_states.ensures.holdings ∙ ap (λ l. holdings_of l) stands)
    (ap (λ l. contents_items l) left ∙ c.release_all.ensures.same ∙ ap (λ l. contents_items l) (c.deref_mut-in_default.ensures.value ∙ items) ∙ c.in_ok-puts.ensures.same ∙ ap (λ l. contents_items l) c.deref_mut.ensures.value)
    refl refl
    (ap (λ l. copies_of l) tasks ∙ c.in_default.ensures.err ∙ ap (λ l. copies_of l) stands))

-- there is room for the barriers
pub pass_on-requires : goal.pass_on-requires
pass_on-requires g c =
    let items = with_items_is c.self.inside.channels c.reserve_barriers.new.channels (omega arith) in
    has_room_at c.in_ok-puts.puts.items (c.deref_mut-3.ensures.value ∙ items) c.in_ok-puts.ensures.room

pub returns-clause-ok : goal.returns-clause-ok
returns-clause-ok g c =
    let task = c.args.task in
    let channel = c.args.channel in
    let entries = c.requires.holds.0 in
    let items = with_items_is c.self.inside.channels c.reserve_barriers.new.channels (omega arith) in
    let passed = with_items_is (with_items c.self.inside.channels c.reserve_barriers.new.channels) c.pass_on.new.channels (omega arith) in
    let tasks = with_items_is c.self.inside.tasks c.copy_states.new.tasks (omega arith) in
    let gates = with_items_is c.self.inside.gates c.note_barrier.new.gates (omega arith) in
    let stands = c.deref_mut-2.ensures.value in
    let stood = ap (λ l. contents_items l) (c.deref_mut-3.ensures.value ∙ items) ∙ (c.in_ok-puts.ensures.same ∙ ap (λ l. contents_items l) c.deref_mut.ensures.value) in
    let holds = ap (λ l. slice_get (holdings_of l) task) stands ∙ (ap (λ h. slice_get h.tasks task) c.self.view_is ∙ c.requires.holds.1) in
    copies_from c.args.graph.now task c.args.input channel c.args.checkpoint _ _ _ entries _ _ c.self.view_is c.requires.holds.1
    (puts_at _ _ (ap (λ l. without_head channel l) stood) (ap (λ l. contents_items l) (sym passed)) (λ k. ap (put_into k) c.in_ok-puts.ensures.puts ∙ barriers_put g.row.O-Record.Denot c.args.graph.now task c.args.checkpoint k) c.pass_on.ensures.puts)
    (gates ∙ c.note_barrier.ensures ∙ ap (λ l. slice_set l task (after (effect_of (gate_in l task) c.args.input) c.args.checkpoint (with_barrier (gate_in l task).inputs c.args.input))) c.deref_mut-4.ensures.value)
    c.close.ensures.came c.close.ensures.logged
    (ap (λ l. holdings_of l) tasks ∙ c.copy_states.ensures.holdings ∙ ap (λ l. holdings_of l) stands)
    (ap (λ l. copies_of l) tasks ∙ c.in-Ok.ensures.ok entries holds ∙ ap (λ l. slice_set (copies_of l) task (Some (Part.Operator entries []))) stands)
    refl
