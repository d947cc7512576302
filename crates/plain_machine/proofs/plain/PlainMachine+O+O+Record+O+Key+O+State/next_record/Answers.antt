use Rattle.std.proofs.Common.{◌≡◌, ◌<◌, Some, None, slice_get, length, refl, sym, ap, ap₂, ◌∙◌, arith}
use Rattle.std.specs.Option.{option_copied}
use Rattle.std.proofs.lemmas.Option.{slice_get_read}
use Rattle.plain_machine.specs.Plain.{job_of, state_of, records_of}
use Rattle.plain_machine.proofs.Lookups.{looked_up, next_found}
use Rattle.plain_machine.proofs.plain.PlainMachine+O+O+Record+O+Key+O+State.next_record.Goals as goal

pub index-requires : goal.index-requires
index-requires g c =
    omega (arith, c.in-Some-Source.ensures.lookup.3.0, ap length c.deref.ensures.value, c.args.self.now.all_tasks)

pub returns-in_err-get-in-Some-Source : goal.returns-in_err-get-in-Some-Source
returns-in_err-get-in-Some-Source g c =
    ap option_copied c.from_residual.ensures
    ∙ sym (next_found c.args.self.now.job.tasks.items (job_of g.O.Operator.meaning c.args.self.now.job).partitions c.args.task (state_of g.O.Key.Ord.cmp (slice_get c.args.self.now.configuration.tasks.items c.args.task)).offset c.in-Some-Source.partition c.in-Some-Source.field-0.now (looked_up c.args.self.now.job.tasks.items c.deref.result.now c.args.task (Some c.in-Some-Source.field-0) c.deref.ensures.value c.in-Some-Source.ensures.lookup) c.in-Some-Source.field-0-is
    ∙ ap (λ rows. slice_get (records_of rows) (state_of g.O.Key.Ord.cmp (slice_get c.args.self.now.configuration.tasks.items c.args.task)).offset) (looked_up c.args.self.now.job.partitions.items c.deref-in-Some-Source.result.now c.in-Some-Source.partition None c.deref-in-Some-Source.ensures.value c.in_err-get-in-Some-Source.ensures.lookup))

pub returns-in_ok-get-in-Some-Source : goal.returns-in_ok-get-in-Some-Source
returns-in_ok-get-in-Some-Source g c =
    let rows = c.in_ok-get-in-Some-Source.field-0 in
    let held = c.index.result.now in
    let tasks = c.args.self.now.configuration.tasks.items in
    let within : c.args.task < length tasks = omega (arith, c.in-Some-Source.ensures.lookup.3.0, ap length c.deref.ensures.value, c.args.self.now.all_tasks) in
    let here : slice_get tasks c.args.task ≡ Some held = slice_get_read tasks (length tasks) c.args.task held refl within c.index.ensures in
    sym (looked_up rows.now.items c.deref-in-Some-Source-2.result.now held.offset c.get-in-Some-Source-2.result c.deref-in-Some-Source-2.ensures.value c.get-in-Some-Source-2.ensures.lookup)
    ∙ sym (next_found c.args.self.now.job.tasks.items (job_of g.O.Operator.meaning c.args.self.now.job).partitions c.args.task (state_of g.O.Key.Ord.cmp (slice_get c.args.self.now.configuration.tasks.items c.args.task)).offset c.in-Some-Source.partition c.in-Some-Source.field-0.now (looked_up c.args.self.now.job.tasks.items c.deref.result.now c.args.task (Some c.in-Some-Source.field-0) c.deref.ensures.value c.in-Some-Source.ensures.lookup) c.in-Some-Source.field-0-is
    ∙ ap₂ (λ r h. slice_get (records_of r) (state_of g.O.Key.Ord.cmp h).offset) (looked_up c.args.self.now.job.partitions.items c.deref-in-Some-Source.result.now c.in-Some-Source.partition (Some rows) c.deref-in-Some-Source.ensures.value c.in_ok-get-in-Some-Source.ensures.lookup) here)
