use Rattle.published_lists.proofs.Growing.{forks, merges}
use Rattle.output_readers.proofs.output_writer.relay.Goals as goal

pub learn-requires-clause-rule : goal.learn-requires-clause-rule
learn-requires-clause-rule g c = merges _ _ _ _

pub tell-requires : goal.tell-requires
tell-requires g c = forks _ _
