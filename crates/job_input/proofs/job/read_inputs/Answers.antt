use Rattle.std.proofs.Common.{◌≡◌, ◌∙◌, length, arith, rules}
use Rattle.std.proofs.lemmas.Slice.Zip.{AllZip-long}
use Rattle.job_input.specs.Judged.{GivesRows}
use Rattle.job_input.proofs.Partitioned.{group_given, more_given, all_given}
use Rattle.job_input.proofs.job.read_inputs.Goals as goal

pub loop-alloc-preserved : goal.loop-alloc-preserved
loop-alloc-preserved g c =
    let (so_far, all, given) = c.loop-alloc.invariant in
    let (more, put, each) = c.in_ok-append_group.ensures in
    let taken = c.split_off.new.self.items in
    more_given (GivesRows g.F.Read.remaining) c.args.inputs.items so_far c.loop-alloc.group.items taken c.in_ok-rest.rest.items c.clamp-size.result c.loop-alloc.log.rows c.append_group.new.log.rows more all given c.in_ok-rest.ensures.items c.in_ok-rest.ensures.tail put
    (group_given taken c.in_ok-read_group.field-0.items more (GivesRows g.F.Read.remaining) (λ one. one.log.rows) c.in_ok-read_group.ensures each)

pub returns-clause-rows : goal.returns-clause-rows
returns-clause-rows g c =
    let (so_far, all, given) = c.loop-alloc.invariant in
    let none : length c.loop-alloc.group.items ≡ 0 = search rules in
    all_given (GivesRows g.F.Read.remaining) c.args.inputs.items so_far c.loop-alloc.group.items c.loop-alloc.log.rows all none given

pub returns-clause-want : goal.returns-clause-want
returns-clause-want g c =
    let (so_far, all, given) = c.loop-alloc.invariant in
    let none : length c.loop-alloc.group.items ≡ 0 = search rules in
    let many : length c.args.inputs.items ≡ c.args.want = omega (arith, c.len-got.ensures) in
    AllZip-long (GivesRows g.F.Read.remaining) c.args.inputs.items c.loop-alloc.log.rows (all_given (GivesRows g.F.Read.remaining) c.args.inputs.items so_far c.loop-alloc.group.items c.loop-alloc.log.rows all none given) ∙ many
