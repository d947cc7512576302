use Rattle.std.proofs.Common.{rules, arith, ◌≡◌, ℕ, Some, get_or, length, map, filter, take, slice_get, subst, sym, refl, ap, ◌∙◌}
use Rattle.std.proofs.lemmas.Bool.{false≢true}
use Rattle.std.proofs.lemmas.Option.{slice_get-get_or, slice_get_within}
use Rattle.job_graph.specs.Expanded.{meets, is_marked, inputs_of}
use Rattle.recovery.proofs.Channels.{as_many, met_marked, met_other, met_stops, none_left, left_none}
use Rattle.recovery.proofs.logs.are_of_marked.Goals.{then-is_marked+else-not-is_log_of, else-is_marked}
use Rattle.recovery.proofs.logs.are_of_marked.Goals as goal

pub returns-then-not-is_log_of : goal.returns-then-not-is_log_of
returns-then-not-is_log_of g c =
    let inputs = inputs_of c.args.graph.now c.args.task in
    let channels = map (λ log. log.0) c.args.logs.now in
    let i = c.loop-number.number-index in
    let number = get_or c.inputs-number-items.result.now i 0 in
    let at : slice_get inputs i ≡ Some number = ap (λ xs. slice_get xs i) (sym c.inputs-number-items.ensures) ∙ slice_get-get_or c.inputs-number-items.result.now i 0 (omega arith) in
    let within = as_many c.args.logs.now in (
      λ e. absurd (false≢true e),
      λ are. absurd (met_stops (meets is_marked c.args.graph.now.channels) channels inputs i c.loop-number.met c.loop-number.invariant.so_far number at (omega (arith, within, c.loop-number.invariant.within)) (sym c.if-is_marked.ensures)
          (λ there. false≢true (sym c.if-not-is_log_of.true ∙ c.is_log_of.ensures.1 there)) are),
    )

pub overflow_add-met : goal.overflow_add-met
overflow_add-met g c =
    let channels = map (λ log. log.0) c.args.logs.now in
    let long = as_many c.args.logs.now in
    let within = slice_get_within channels c.loop-number.met (get_or c.inputs-number-items.result.now c.loop-number.number-index 0) (c.if-not-is_log_of.ensures.0 refl) in
    omega (arith, long, within)

pub loop-number-preserved : goal.loop-number-preserved
loop-number-preserved g c =
    let marked = meets is_marked c.args.graph.now.channels in
    let inputs = inputs_of c.args.graph.now c.args.task in
    let channels = map (λ log. log.0) c.args.logs.now in
    let i = c.loop-number.number-index in
    let number = get_or c.inputs-number-items.result.now i 0 in
    let at : slice_get inputs i ≡ Some number = ap (λ xs. slice_get xs i) (sym c.inputs-number-items.ensures) ∙ slice_get-get_or c.inputs-number-items.result.now i 0 (omega arith) in
    let long = as_many c.args.logs.now in
    elim c.if-is_marked.branch [
      | then-is_marked+else-not-is_log_of w ↦
          let there = w.if-not-is_log_of.ensures.0 refl in
          let within = slice_get_within channels c.loop-number.met number there in
          rw w.met-is (record { so_far = met_marked marked channels inputs i c.loop-number.met c.loop-number.invariant.so_far number at (sym w.if-is_marked.ensures) there; within = omega (arith, long, within) })
      | else-is_marked w ↦
          rw w.met-is (record { so_far = met_other marked channels inputs i c.loop-number.met c.loop-number.invariant.so_far number at (sym w.if-is_marked.ensures); within = c.loop-number.invariant.within })
    ]

pub returns : goal.returns
returns g c =
    let marked = meets is_marked c.args.graph.now.channels in
    let inputs = inputs_of c.args.graph.now c.args.task in
    let channels = map (λ log. log.0) c.args.logs.now in
    let long = as_many c.args.logs.now in
    let as_long = ap length c.inputs-number-items.ensures in
    let at_end : c.loop-number.number-index ≡ length inputs = omega (arith, as_long) in
    let so_far = subst (λ (i : ℕ). filter marked (take i inputs) ≡ take c.loop-number.met channels) at_end c.loop-number.invariant.so_far in (
      λ e. let all : c.loop-number.met ≡ length c.args.logs.now = search (rules, e) in none_left marked channels inputs c.loop-number.met so_far (omega (arith, all, long)),
      λ are. let none = left_none marked channels inputs c.loop-number.met so_far (omega (arith, long, c.loop-number.invariant.within)) are in let all : c.loop-number.met ≡ length c.args.logs.now = omega (arith, none, long) in search (rules, all),
    )
