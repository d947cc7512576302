-- The cut of the last complete checkpoint with the sinks' outputs: a plain run comes to it.
use Rattle.std.specs.Prelude.{◌≡◌, ℕ, Bool, List, [], ◌∷◌, ◌++◌, map, None}
use Rattle.dataflow_model.specs.Graph.{Job}
use Rattle.dataflow_model.specs.Machine.{Configuration, Move, Reaches, start}
use Rattle.checkpoint_model.specs.Laws.{HasReceivers}
use Rattle.checkpoint_model.specs.Durable.{Devices, joined, settled, IsSink, IsCutOf}
use Rattle.checkpoint_model.specs.EngineLaws.{IsSettled}
use Rattle.checkpoint_model.specs.Headline.{Engine, IsRestored}
use Rattle.checkpoint_model.specs.Pruned.{IsPrunedSound, pruned_start}
use Rattle.checkpoint_model.specs.Seen.{IsSeenRestored}

module _ {R K S O B : Type 0} where
  -- A plain run comes to the cut of this checkpoint. There each sink's output is what it has settled: its committed transactions, and those that are
  -- pre-committed for a complete checkpoint.
  pub record IsReachedCut (job : Job R K S O) (spell : R → B) (devices : Devices R K S B) (n : ℕ) : Type 0 where
    pub moves : List Move
    pub cut : Configuration R K S
    pub reached : Reaches job moves start cut
    pub parts : IsCutOf job devices.store n cut
    pub outputs : (task : ℕ) → IsSink job task → map spell (cut.tasks task).output ≡ joined (settled devices.store.line (devices.sinks task))

  -- of a sound engine the last complete checkpoint's is
  abbrev pub LastCutsAreReached : Job R K S O → (R → B) → Type 0
  LastCutsAreReached job spell =
      (is_logged : ℕ → Bool) (engine : Engine R K S B) (front : List ℕ) (n : ℕ) → IsPrunedSound job is_logged spell engine.devices engine.running →
      engine.devices.store.line ≡ front ++ n ∷ [] → IsReachedCut job spell engine.devices n

  -- A plain run comes to where an attempt starts from, with each sink's committed records as its output.
  pub record IsReachedStart (job : Job R K S O) (spell : R → B) (devices : Devices R K S B) (seen : Configuration R K S) : Type 0 where
    pub moves : List Move
    pub base : Configuration R K S
    pub reached : Reaches job moves start base
    pub restored : IsRestored job spell devices base
    pub is_seen : pruned_start base ≡ pruned_start seen

  -- so it does where a sound engine restarts
  abbrev pub RestartsAreReached : Job R K S O → (R → B) → Type 0
  RestartsAreReached job spell =
      (is_logged : ℕ → Bool) (devices : Devices R K S B) (seen : Configuration R K S) → HasReceivers job → ((task : ℕ) → IsSink job task → IsSettled (devices.sinks task)) →
      IsPrunedSound job is_logged spell devices None → IsSeenRestored job devices seen → IsReachedStart job spell devices seen
