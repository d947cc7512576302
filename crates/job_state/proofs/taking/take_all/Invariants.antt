use Rattle.std.proofs.Common.{◌≡◌, ◌≤◌, ◌+◌, ℕ, true}
use Rattle.backedge_log.specs.Recorded.{log_at}
use Rattle.job_state.specs.AtOnce.{without_first}
use Rattle.job_state.specs.Inside.{came_of, records_of}
use Rattle.job_state.specs.Sending.{contents_items, room_at}
use Rattle.job_state.proofs.AtOnce.{IsLogged}
use Rattle.job_state.proofs.taking.take_all.Given as goal

abbrev pub invariant-loop : goal.invariant-loop
invariant-loop g l = record {
  taken : contents_items l.channels ≡ without_first l.counter l.channel (contents_items l.fn.channels);
  room : (number : ℕ) → room_at l.fn.channels number ≤ room_at l.channels number;
  came : came_of l.logs ≡ came_of l.fn.logs;
  spare : l.is_logged ≡ true → l.count ≤ (log_at l.logs l.channel).room + l.counter;
  logged : IsLogged l.is_logged l.channel l.count l.counter (contents_items l.fn.channels) (records_of l.fn.logs) (records_of l.logs);
}
