use Rattle.row_publishing.proofs.Shown.{none_shown}
use Rattle.thread_runner.proofs.station.Station.with_readers.Goals as goal

pub opened-requires-clause-shows : goal.opened-requires-clause-shows
opened-requires-clause-shows g c = none_shown _ _ c.sinks.result c.in-Ok.ensures.lists.1 c.sinks.ensures
