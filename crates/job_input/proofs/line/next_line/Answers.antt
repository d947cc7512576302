use Rattle.std.proofs.Common.{rules, ◌≡◌, ◌≢◌, ℕ, List, [], ◌++◌, All, Ok, Option, Some, None, IfSome, drop, length, true, refl, sym, subst, ◌∙◌}
use Rattle.std.proofs.lemmas.List.Elements.{All-append}
use Rattle.std.specs.Io.BufRead.{take_through}
use Rattle.std.proofs.KnownBytes.{starts_with_rest, Consumes-more}
use Rattle.std.proofs.BufReadLemmas.{Consumes_through}
use Rattle.job_input.proofs.line.next_line.Goals as goal

weakened : (known : Option (List ℕ)) (P Q : List ℕ → Type 0) → ((xs : List ℕ) → P xs → Q xs) → IfSome known P → IfSome known Q
weakened None P Q f h = tt
weakened (Some xs) P Q f h = f xs h

pub returns-then-is_whole-clause-line : goal.returns-then-is_whole-clause-line
returns-then-is_whole-clause-line g c =
    let step = c.append_ready.ensures in
    let done : c.append_ready.result ≡ Ok true = search rules in
    let read = Consumes_through 10 _ _ _ _ _ c.loop.invariant.1 c.loop.invariant.0 step.bytes step.stops (step.done_at_end done) (step.end done) in
    let old = c.loop.line.items in
    let new = c.append_ready.new.line.items in
    weakened (g.R.Read.remaining c.args.file.now) (λ xs. old ++ drop (length old) new ≡ take_through 10 xs) (λ xs. new ≡ take_through 10 xs) (λ xs e. starts_with_rest new old step.appends ∙ e) read.0

pub returns-then-is_whole-clause-rest : goal.returns-then-is_whole-clause-rest
returns-then-is_whole-clause-rest g c =
    let step = c.append_ready.ensures in
    let done : c.append_ready.result ≡ Ok true = search rules in
    (Consumes_through 10 _ _ _ _ _ c.loop.invariant.1 c.loop.invariant.0 step.bytes step.stops (step.done_at_end done) (step.end done)).1

pub loop-preserved : goal.loop-preserved
loop-preserved g c =
    let step = c.append_ready.ensures in
    let old = c.loop.line.items in
    let new = c.append_ready.new.line.items in (
      subst (All (λ x. x ≢ 10)) (sym (starts_with_rest new old step.appends)) (All-append (λ x. x ≢ 10) _ _ c.loop.invariant.0 (step.no_end_unless_done (search rules))),
      Consumes-more _ _ _ [] old new refl step.appends c.loop.invariant.1 step.bytes,
    )
