use Rattle.engine_model.proofs.Calls.Fails.{keeps_appended}
use Rattle.engine.proofs.Appending.{appends_or_not}
use Rattle.engine.proofs.Plain.{append_stays}
use Rattle.engine_model.proofs.Sounds.{keeps_as_fresh, sound_as_fresh}
use Rattle.engine.proofs.calls.Engine.append.Goals as goal

pub invariant_of-self : goal.invariant_of-self
invariant_of-self g c =
    keeps_appended _ _ c.self.invariant _ (g.P.Partitions.records c.append.new.self) c.args.partition c.args.row
    (appends_or_not (g.P.Partitions.records c.self.inside.log) (g.P.Partitions.records c.append.new.self) _ _ _ _ c.append.result c.append.ensures.ends)

pub returns-clause-stays : goal.returns-clause-stays
returns-clause-stays g c = rw (← c.self.view_is) (append_stays _ _ c.self.invariant (g.P.Partitions.records c.append.new.self))

pub returns-clause-sound : goal.returns-clause-sound
returns-clause-sound g c =
    rw (← c.self.view_is)
    (λ sound. sound_as_fresh _ _ (keeps_appended _ _ (keeps_as_fresh _ _ c.self.invariant sound) _ (g.P.Partitions.records c.append.new.self) c.args.partition c.args.row
    (appends_or_not (g.P.Partitions.records c.self.inside.log) (g.P.Partitions.records c.append.new.self) _ _ _ _ c.append.result c.append.ensures.ends)))
