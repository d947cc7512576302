use Rattle.engine_moves.proofs.Taking.{gate_awaits}
use Rattle.engine_moves.proofs.barriers.operator_barrier.Goals as goal

-- the task's gate awaits the barrier
pub effect-effect-requires : goal.effect-effect-requires
effect-effect-requires g c =
    let awaits = gate_awaits c.args.graph.now c.args.attempt.now c.args.task c.requires.gate c.args.input c.args.channel c.requires.leads c.requires.came c.in_ok-checkpoint.checkpoint c.in_ok-checkpoint.ensures.ok.1 in
    record { within = awaits.input_in; awaited = awaits.awaited }

pub copy_operator-requires : goal.copy_operator-requires
copy_operator-requires g c =
    let awaits = gate_awaits c.args.graph.now c.args.attempt.now c.args.task c.requires.gate c.args.input c.args.channel c.requires.leads c.requires.came c.in_ok-checkpoint.checkpoint c.in_ok-checkpoint.ensures.ok.1 in
    record {
      holds = c.requires.holds;
      gates = awaits.task_in;
      within = awaits.input_in;
      awaited = awaits.awaited;
      number = awaits.is_for;
      came = awaits.channel_in;
      copies = c.requires.copies;
      channels = c.requires.channels;
    }

pub take_barrier-requires : goal.take_barrier-requires
take_barrier-requires g c =
    let awaits = gate_awaits c.args.graph.now c.args.attempt.now c.args.task c.requires.gate c.args.input c.args.channel c.requires.leads c.requires.came c.in_ok-checkpoint.checkpoint c.in_ok-checkpoint.ensures.ok.1 in
    record { gates = awaits.task_in; within = awaits.input_in; awaited = awaits.awaited; number = awaits.is_for; came = awaits.channel_in }
