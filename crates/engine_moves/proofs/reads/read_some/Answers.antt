use Rattle.std.proofs.Common.{◌≡◌, ◌+◌, ℕ, List, suc, Some, Ok, Err, sym, ap, subst, ◌∙◌, arith}
use Rattle.job_graph.specs.declared.role.Role.TheVariants as Role
use Rattle.engine_model.specs.Calls.{EndsRead}
use Rattle.engine_model.proofs.RulesOf.{rules_of}
use Rattle.engine_moves.specs.Reading.{ReadsInTurn}
use Rattle.engine_moves.proofs.Reading.{no_fault, next_fits, one_more, refused_after}
use Rattle.engine_moves.proofs.reads.read_some.Goals as goal

-- a source holds an offset
pub returns-in_default-offset-clause-ends : goal.returns-in_default-offset-clause-ends
returns-in_default-offset-clause-ends g c =
    let held = c.requires.held c.args.task (Role.Source c.in-Some-Source.partition) (sym c.role.ensures ∙ (c.in-Some-Source.is ∙ ap Some c.in-Some-Source.field-0-is)) in
    absurd (c.in_default-offset.ensures.none held.0 held.1)

pub returns-in-Err-clause-ends : goal.returns-in-Err-clause-ends
returns-in-Err-clause-ends g c =
    let all = rules_of g.O.Operator g.O.Key.Ord g.O.Record.Codec g.O.Key.Codec g.O.State.Codec in
    let before = c.loop-count in
    let after = c.read_at.new in
    let ends = subst (λ (ps : List (List g.row.O-Record.Denot)). EndsRead c.args.graph.now c.args.task before.attempt after.attempt all.lang ps (Err c.in-Err.fault)) before.invariant.same c.in-Err.ensures.ends in
    refused_after all c.args.graph.now c.args.task (g.P.Partitions.records c.args.log.now) before.count c.args.most (omega (arith, c.loop-count-test.true)) c.args.attempt.now before.attempt after.attempt before.count c.in-Err.fault before.invariant.reads ends

pub loop-count-preserved : goal.loop-count-preserved
loop-count-preserved g c =
    let all = rules_of g.O.Operator g.O.Key.Ord g.O.Record.Codec g.O.Key.Codec g.O.State.Codec in
    let partitions = g.P.Partitions.records c.args.log.now in
    let before = c.loop-count in
    let after = c.read_at.new in
    let now = c.in_default-read_at.ensures in
    let at = sym c.role.ensures ∙ (c.in-Some-Source.is ∙ ap Some c.in-Some-Source.field-0-is) in
    let ends = subst (λ (ps : List (List g.row.O-Record.Denot)). EndsRead c.args.graph.now c.args.task before.attempt after.attempt all.lang ps (Ok tt)) before.invariant.same now.ends in
    let e : suc before.count ≡ before.count + 1 = omega arith in
    let fits = next_fits all c.args.graph.now c.args.task (g.P.Partitions.records before.log) before.attempt c.in-Some-Source.partition before.offset at before.invariant.holds now.fits in
    record {
      holds = now.moved;
      channels = now.channels;
      reads = subst (λ (n : ℕ). ReadsInTurn all c.args.graph.now c.args.task partitions n c.args.attempt.now after.attempt (before.count + 1) (Ok tt)) e
          (one_more all c.args.graph.now c.args.task partitions before.count c.args.attempt.now before.attempt after.attempt before.count before.invariant.reads (rw before.invariant.same at fits) ends);
      same = now.same ∙ before.invariant.same;
      told = now.told (λ e. no_fault _ e) ∙ before.invariant.told;
    }
