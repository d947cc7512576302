use Rattle.std.proofs.Common.{◌≡◌, true, refl, ◌∙◌}
use Rattle.job_state.specs.Held.{came_at}
use Rattle.engine_settling.specs.Awaiting.{IsAwaited}
use Rattle.engine_settling.proofs.Bringing.{brings_none, brings_both, part_early, holds_running}
use Rattle.engine_settling.proofs.Parts.{barrier_done, barrier_fails}
use Rattle.engine_settling.proofs.Works.{no_head}
use Rattle.engine_model.proofs.RulesOf.{rules_of}
use Rattle.engine_settling.proofs.taking.up_to_barrier.Goals as goal

pub working-init : goal.working-init
working-init g c =
    let rules = rules_of g.O.Operator g.O.Key.Ord g.O.Record.Codec g.O.Key.Codec g.O.State.Codec in record {
      brings = brings_none rules c.args.engine.now (holds_running c.args.engine.now (λ graph h. IsAwaited graph h c.args.task c.args.input c.args.channel) c.requires.awaited);
      so_far = c.requires.awaited;
      faults = refl;
    }

pub working-preserved : goal.working-preserved
working-preserved g c =
    let rules = rules_of g.O.Operator g.O.Key.Ord g.O.Record.Codec g.O.Key.Codec g.O.State.Codec in
    let one = c.in-Ok.ensures.ends in record {
      brings = brings_both rules c.args.engine.now c.working.engine c.work_first.new.engine c.working.invariant.brings one.0;
      so_far = one.1;
      faults = c.in-Ok.ensures.counted ∙ c.working.invariant.faults;
    }

pub returns-in-Err-clause-ends : goal.returns-in-Err-clause-ends
returns-in-Err-clause-ends g c =
    let rules = rules_of g.O.Operator g.O.Key.Ord g.O.Record.Codec g.O.Key.Codec g.O.State.Codec in
    part_early rules c.args.engine.now c.working.engine c.work_first.new.engine (λ graph h. IsAwaited graph h c.args.task c.args.input c.args.channel) (λ graph h. came_at h c.args.channel ≡ true) c.in-Err.fault c.working.invariant.brings c.in-Err.ensures.ends

pub returns-in-Ok-take_barrier-clause-ends : goal.returns-in-Ok-take_barrier-clause-ends
returns-in-Ok-take_barrier-clause-ends g c =
    let rules = rules_of g.O.Operator g.O.Key.Ord g.O.Record.Codec g.O.Key.Codec g.O.State.Codec in
    let e = c.in-Ok-take_barrier.ensures in
    let done = barrier_done rules c.working.engine c.take_barrier.new.self c.is_fresh.ensures.kept (record { goes = e.goes; sound = e.sound; begins = e.begins }) c.args.task c.args.input c.args.channel c.working.invariant.so_far e.stays c.in-Ok-take_barrier.field-0 e.ends in
    (brings_both rules c.args.engine.now c.working.engine c.take_barrier.new.self c.working.invariant.brings done.0, done.1)

pub returns-in-Err-take_barrier-clause-ends : goal.returns-in-Err-take_barrier-clause-ends
returns-in-Err-take_barrier-clause-ends g c =
    let rules = rules_of g.O.Operator g.O.Key.Ord g.O.Record.Codec g.O.Key.Codec g.O.State.Codec in
    let e = c.in-Err-take_barrier.ensures in
    let failed = barrier_fails rules c.working.engine c.take_barrier.new.self c.is_fresh.ensures.kept (record { goes = e.goes; sound = e.sound; begins = e.begins }) c.args.task c.args.input c.args.channel c.working.invariant.so_far e.stays c.in-Err-take_barrier.fault
    (no_head c.working.engine.held c.args.channel c.working-test.ensures.1 (holds_running c.working.engine (λ graph h. IsAwaited graph h c.args.task c.args.input c.args.channel) c.working.invariant.so_far)) e.ends in
    part_early rules c.args.engine.now c.working.engine c.take_barrier.new.self (λ graph h. came_at h c.args.channel ≡ true) (λ graph h. came_at h c.args.channel ≡ true) c.in-Err-take_barrier.fault c.working.invariant.brings failed
