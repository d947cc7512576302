use Rattle.std.proofs.Common.{◌≡◌, ℕ, List, ◌++◌, ◌∷◌, [], ap, ◌∙◌, append_assoc}
use Rattle.task_part.proofs.part.PartCodec.write.Goals as goal

-- a tag was appended, and then the rest
behind : (whole now old tag rest : List ℕ) → now ≡ old ++ tag → whole ≡ now ++ rest → whole ≡ old ++ (tag ++ rest)
behind whole now old tag rest first second = second ∙ ap (λ bytes. bytes ++ rest) first ∙ append_assoc old tag rest

pub returns-in_ok-write_both-in-Operator-clause-appended : goal.returns-in_ok-write_both-in-Operator-clause-appended
returns-in_ok-write_both-in-Operator-clause-appended g c =
    let both = c.in_ok-write_both-in-Operator.ensures.appended in
    rw c.in-Operator.is (both.0, behind _ _ c.args.out.now.items (1 ∷ []) _ c.in_ok-push-in-Operator.ensures.items both.1)

pub returns-in_ok-write_both-in-Sink-clause-appended : goal.returns-in_ok-write_both-in-Sink-clause-appended
returns-in_ok-write_both-in-Sink-clause-appended g c =
    let both = c.in_ok-write_both-in-Sink.ensures.appended in
    rw c.in-Sink.is (both.0, behind _ _ c.args.out.now.items (2 ∷ []) _ c.in_ok-push-in-Sink.ensures.items both.1)
