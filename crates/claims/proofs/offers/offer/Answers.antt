use Rattle.std.proofs.Common.{◌≡◌, Some, min, take, refl, sym, ap, ◌∙◌, arith}
use Rattle.std.specs.Option.{option_copied}
use Rattle.channels.specs.Items.{leading_records}
use Rattle.job_graph.specs.declared.role.Role.TheVariants as role
use Rattle.job_state.specs.Sending.{items_at}
use Rattle.claims.specs.declared.parts.Given.TheVariants as given
use Rattle.claims.proofs.Dues.{offered, offered_whole, operator_found, within_gates}
use Rattle.engine_model.proofs.RulesOf.{rules_of}
use Rattle.claims.proofs.offers.offer.Goals as goal

-- each operator task has an operator
pub returns-in_default-operator_of : goal.returns-in_default-operator_of
returns-in_default-operator_of g c =
    absurd (operator_found c.args.graph.now c.args.operators.now c.requires.expanded c.requires.given c.args.task c.in-Some-Operator.number (sym c.role.ensures ∙ (c.in-Some-Operator.is ∙ ap Some c.in-Some-Operator.field-0-is)) (sym c.operator_of.ensures ∙ ap option_copied c.in_default-operator_of.is))

pub free_records-requires : goal.free_records-requires
free_records-requires g c = within_gates c.args.graph.now c.args.attempt.now c.requires.shape.gate_fits c.args.task c.args.input c.in-Some.channel (role.Operator c.in-Some-Operator.number) (sym c.role.ensures ∙ (c.in-Some-Operator.is ∙ ap Some c.in-Some-Operator.field-0-is)) (sym c.input_of.ensures ∙ c.in-Some.is)

pub first_record-requires : goal.first_record-requires
first_record-requires g c =
    within_gates c.args.graph.now c.args.attempt.now c.requires.shape.gate_fits c.args.task c.args.input c.in-Some-input_of.channel (role.Sink c.in-Some-Sink.field-0-0) (sym c.role.ensures ∙ (c.in-Some-Sink.is ∙ ap Some c.in-Some-Sink.field-0-is)) (sym c.input_of-in-Some-Sink.ensures ∙ c.in-Some-input_of.is)

pub invariant_of-result : goal.invariant_of-result
invariant_of-result g c =
    let all = rules_of g.O.Operator g.O.Key.Ord g.O.Record.Codec g.O.Key.Codec g.O.State.Codec in
    let at = (sym c.role.ensures ∙ (c.in-Some-Operator.is ∙ ap Some c.in-Some-Operator.field-0-is)) in
    let held = c.requires.shape.forms c.args.task (role.Operator c.in-Some-Operator.number) at in
    let free = c.in_ok-free_records-in-Some-Operator in
    let made = c.in_ok-operand-in-Some-Operator in
    let least : c.min-count.result ≡ min free.field-0 c.args.most = omega (arith, c.min-count.ensures) in
    let rows = made.ensures.rows ∙ ap (λ n. take n (leading_records (items_at c.args.attempt.now.channels c.in-Some.channel))) least in
    offered_whole all c.args.graph.now c.args.operators.now c.args.task c.args.input c.args.attempt.now c.in-Some.channel c.in-Some-Operator.number held.0 c.in-Some-operator_of.operator.now free.field-0 c.args.most made.operand free.ensures.due.0 at (sym c.operator_of.ensures ∙ ap option_copied c.in-Some-operator_of.is) held.1 free.ensures.due.1 made.ensures.operator free.ensures.all c.requires.some rows (made.ensures.carried held.0 held.1) c.requires.shape

pub returns-in_ok-operand-in-Some-Operator : goal.returns-in_ok-operand-in-Some-Operator
returns-in_ok-operand-in-Some-Operator g c =
    let all = rules_of g.O.Operator g.O.Key.Ord g.O.Record.Codec g.O.Key.Codec g.O.State.Codec in
    let at = (sym c.role.ensures ∙ (c.in-Some-Operator.is ∙ ap Some c.in-Some-Operator.field-0-is)) in
    let held = c.requires.shape.forms c.args.task (role.Operator c.in-Some-Operator.number) at in
    let free = c.in_ok-free_records-in-Some-Operator in
    let made = c.in_ok-operand-in-Some-Operator in
    let least : c.min-count.result ≡ min free.field-0 c.args.most = omega (arith, c.min-count.ensures) in
    let rows = made.ensures.rows ∙ ap (λ n. take n (leading_records (items_at c.args.attempt.now.channels c.in-Some.channel))) least in
    offered all c.args.graph.now c.args.operators.now c.args.task c.args.input c.args.attempt.now c.in-Some.channel c.in-Some-Operator.number held.0 c.in-Some-operator_of.operator.now free.field-0 c.args.most made.operand free.ensures.due.0 at (sym c.operator_of.ensures ∙ ap option_copied c.in-Some-operator_of.is) held.1 free.ensures.due.1 made.ensures.operator free.ensures.all c.requires.some rows (made.ensures.carried held.0 held.1)
    (sym c.input_of.ensures ∙ c.in-Some.is) (given.Operator made.operand) refl
