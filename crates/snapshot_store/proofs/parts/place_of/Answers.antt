use Rattle.std.proofs.Common.{rules}
use Rattle.std.proofs.lemmas.List.Sorted.{answers_always}
use Rattle.snapshot_store.proofs.Held.{found_at, fits_at}
use Rattle.snapshot_store.proofs.parts.place_of.Goals as goal

pub returns-clause-found : goal.returns-clause-found
returns-clause-found c =
    let facts = c.binary_search_by_key.ensures in
    found_at c.args.entries.now (c.args.number, c.args.task) c.requires c.binary_search_by_key.result facts.bound (facts.position (λ e. e.0) (answers_always _ _ _ (λ f a r g called. search rules)))

pub returns-clause-absent : goal.returns-clause-absent
returns-clause-absent c =
    let facts = c.binary_search_by_key.ensures in
    fits_at c.args.entries.now (c.args.number, c.args.task) c.requires c.binary_search_by_key.result facts.bound (facts.position (λ e. e.0) (answers_always _ _ _ (λ f a r g called. search rules)))
