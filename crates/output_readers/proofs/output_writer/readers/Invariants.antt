use Rattle.std.proofs.Common.{◌≡◌, vec_len}
use Rattle.std.specs.List.{All}
use Rattle.left_right.specs.Sides.{view}
use Rattle.output_readers.specs.Seeing.{IsOpening}
use Rattle.output_readers.proofs.output_writer.readers.Given as goal

abbrev pub invariant-loop : goal.invariant-loop
invariant-loop g l = record {
  opening : All (IsOpening l.fn.writer.desk.shown.value.edition.history l.subtasks) l.all.items;
  count : vec_len l.all ≡ l.counter;
  same : (l.writer.desk.shown ≡ l.fn.writer.desk.shown) × (l.writer.log ≡ l.fn.writer.log) × (l.writer.behind ≡ l.fn.writer.behind) × (view l.writer.desk.place ≡ view l.fn.writer.desk.place);
}
