use Rattle.job_state.specs.Held.{logs_of, with_logs}
use Rattle.task_part.specs.Laws.{part_code}
use Rattle.task_part.specs.Spelling.{part_spelling, part_at, PartIsSpelled}
use Rattle.engine_checkpoints.proofs.Readable.{whole_again}
use Rattle.engine_checkpoints.proofs.checkpoints.put_part.Goals as goal

-- what the codecs' laws say
pub returns-in-Ok-clause-readable : goal.returns-in-Ok-clause-readable
returns-in-Ok-clause-readable g c = λ p is.
    let r = g.O.Record.Codec in
    let k = g.O.Key.Codec in
    let s = g.O.State.Codec in
    let cmp = g.O.Key.Ord.cmp in
    whole_again (PartIsSpelled r.HasSpelling cmp k.HasSpelling s.HasSpelling) (part_spelling r.spelling k.spelling s.spelling) (part_at r.reading cmp k.reading s.reading)
    (part_code r.HasSpelling r.spelling r.reading g.met.O.Record.Codec.code cmp g.met.O.Key.Ord.total k.HasSpelling k.spelling k.reading g.met.O.Key.Codec.code s.HasSpelling s.spelling s.reading g.met.O.State.Codec.code)
    (with_logs (logs_of c.args.graph.now c.args.attempt.now c.args.task) p) (c.in_ok-bytes.ensures.spelled p is).0

pub returns-in-Err-Device-clause-readable : goal.returns-in-Err-Device-clause-readable
returns-in-Err-Device-clause-readable g c = λ p is.
    let r = g.O.Record.Codec in
    let k = g.O.Key.Codec in
    let s = g.O.State.Codec in
    let cmp = g.O.Key.Ord.cmp in
    whole_again (PartIsSpelled r.HasSpelling cmp k.HasSpelling s.HasSpelling) (part_spelling r.spelling k.spelling s.spelling) (part_at r.reading cmp k.reading s.reading)
    (part_code r.HasSpelling r.spelling r.reading g.met.O.Record.Codec.code cmp g.met.O.Key.Ord.total k.HasSpelling k.spelling k.reading g.met.O.Key.Codec.code s.HasSpelling s.spelling s.reading g.met.O.State.Codec.code)
    (with_logs (logs_of c.args.graph.now c.args.attempt.now c.args.task) p) (c.in_ok-bytes.ensures.spelled p is).0
