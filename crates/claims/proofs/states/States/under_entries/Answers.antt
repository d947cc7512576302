use Rattle.std.proofs.Common.{subst, ◌∙◌}
use Rattle.std.specs.List.Sorted.{IsStrictlySortedBy}
use Rattle.std.specs.Map.{keys_of}
use Rattle.claims.proofs.LastKeys.{under_same}
use Rattle.claims.proofs.states.States.under_entries.Goals as goal

pub returns-then-entries-keys : goal.returns-then-entries-keys
returns-then-entries-keys g c = λ exact.
    let rises = subst (λ es. IsStrictlySortedBy g.K.Ord.cmp (keys_of es)) c.in-Some.ensures c.columns.ensures.rising in
    under_same g.met.K.Ord.total exact c.args.entries.now c.columns.result.0.now c.columns.result.1.now c.args.self.now (c.columns.ensures.entries ∙ c.in-Some.ensures) rises c.requires.rising c.requires.places c.if-states-keys.true c.if-entries-keys.true
