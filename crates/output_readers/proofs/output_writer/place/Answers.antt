use Rattle.published_lists.proofs.Growing.{admits}
use Rattle.output_readers.proofs.output_writer.place.Goals as goal

pub reader-requires : goal.reader-requires
reader-requires g l = admits
