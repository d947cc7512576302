use Rattle.std.proofs.Common.{◌≡◌, ◌<◌, ◌%◌, ◌∷◌, [], ℕ, zero, suc, length, slice_index, refl, ap, ◌∙◌, arith}
use Rattle.job_graph.specs.Expanded.{meets, takes}
use Rattle.deliveries.proofs.Delivered.{run_delivers}
use Rattle.deliveries.proofs.Runs.{run_target, only_passes}
use Rattle.deliveries.proofs.by_run.run_target.Goals as goal

-- there is one channel alone
pub returns-then-numbers-eq1 : goal.returns-then-numbers-eq1
returns-then-numbers-eq1 g c =
    let meaning = g.O.Operator.meaning in
    let graph = c.args.graph.now in
    let row = c.args.row.now in
    let numbers = c.args.numbers.now in
    let passes = only_passes (meets (takes (meaning.lane row)) graph.channels) numbers c.if-numbers-eq1.true (c.requires.run.each c.if-numbers-eq1.true (meaning.lane row)) in
    run_delivers meaning graph c.args.task c.args.port row numbers (slice_index numbers 0 ∷ []) c.requires.run.are passes

-- the channels share the lanes
pub returns : goal.returns
returns g c =
    let meaning = g.O.Operator.meaning in
    let graph = c.args.graph.now in
    let row = c.args.row.now in
    let numbers = c.args.numbers.now in
    let several : 1 < length numbers = several-of (length numbers) c.requires.run.run.some c.if-numbers-eq1.false in
    let is : c.turn.result ≡ meaning.lane row % length numbers = c.turn.ensures ∙ ap (λ l. l % length numbers) c.lane_of.ensures in
    run_delivers meaning graph c.args.task c.args.port row numbers (slice_index numbers c.turn.result ∷ []) c.requires.run.are (run_target graph.channels numbers 0 (length numbers) (meaning.lane row) c.requires.run.run several ∙ ap (λ n. slice_index numbers n ∷ []) (omega (arith, is)))
  where
    several-of : (n : ℕ) → 0 < n → (n ≡ 1 → ⊥) → 1 < n
    several-of zero some many = absurd (omega (arith, some))
    several-of (suc zero) some many = absurd (many refl)
    several-of (suc (suc n)) some many = omega arith
