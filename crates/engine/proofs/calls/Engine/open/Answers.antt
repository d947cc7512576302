use Rattle.std.proofs.Common.{refl, ap, ◌∙◌}
use Rattle.commit_sink.specs.Ledger as ledgers
use Rattle.snapshot_store.specs.Store as stores
use Rattle.engine_model.proofs.Calls.Opens.{keeps_open}
use Rattle.engine_model.proofs.Sounds.{down_is_sound, grown_is_legal}
use Rattle.engine.proofs.calls.Engine.open.Goals as goal

pub invariant_of-result : goal.invariant_of-result
invariant_of-result g c =
    keeps_open _ _ c.tasks.ensures.expanded c.requires.operators c.requires.partitions c.requires.tasks (g.met.S.SnapshotStore.numbered c.args.store) c.requires.subtasks (g.met.X.Transactions.ordered c.args.transactions) refl
    (λ fresh. (let both = c.are_new-is_fresh.ensures.0 fresh in (both.0 ∙ ap stores.blank c.requires.tasks, both.1 ∙ ap ledgers.blank c.requires.subtasks)))

pub returns-clause-legal : goal.returns-clause-legal
returns-clause-legal g c = λ former grown legal. down_is_sound _ _ refl (grown_is_legal _ _ _ former _ _ _ grown legal)
