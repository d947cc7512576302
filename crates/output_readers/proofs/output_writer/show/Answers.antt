use Rattle.published_lists.proofs.Growing.{looks_at}
use Rattle.output_readers.proofs.output_writer.show.Goals as goal

pub publish_as-requires : goal.publish_as-requires
publish_as-requires g c next is = looks_at _ _ c.args.writer.desk.shown.value _ next is c.requires.0 c.requires.1
