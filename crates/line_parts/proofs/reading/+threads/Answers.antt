use Rattle.std.proofs.Common.{ap}
use Rattle.line_parts.specs.Lines.{in_runs}
use Rattle.line_parts.proofs.Joining.{together}
use Rattle.line_parts.proofs.Runs.{joined}
use Rattle.line_parts.proofs.reading.+threads.Goals as goal

pub returns-clause-reads : goal.returns-clause-reads
returns-clause-reads g t c =
    let first = c.join-last.result.1 in
    let last = c.join-last.result.0 in
    let made = c.and.result in
    together (g.L.LineReader.HasItem c.args.reader.now) c.args.text.now c.cut.result.0.now c.cut.result.1.now first.lines last.lines made.lines
    (in_runs first.runs.items) (in_runs last.runs.items) (in_runs made.runs.items) first.fault last.fault made.fault _ c.cut.ensures.all c.cut.ensures.end
    c.join-last.ensures.second.0 c.join-last.ensures.first.0
    (λ other. let same = c.and.ensures.faulty other in (ap (λ p. in_runs p.runs.items) same, ap (λ p. p.lines) same, ap (λ p. p.fault) same))
    (λ none. joined first.runs.items last.runs.items made.runs.items first.lines last.lines made.lines last.fault made.fault _ (c.and.ensures.whole none))
