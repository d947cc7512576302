-- How the parts of settling end.
use Rattle.std.specs.Prelude.{◌≡◌, List, Some, None, Result, Ok, Err, MatchOption}
use Rattle.dataflow_model.specs.Machine.{Move}
use Rattle.job_graph.specs.Expanded.{Expanded}
use Rattle.job_state.specs.Held.{Held}
use Rattle.engine_model.specs.AllRules.{AllRules}
use Rattle.engine_model.specs.State.{State}
use Rattle.engine_model.specs.declared.fault.CoreFault.{CoreFault}
use Rattle.engine_model.specs.declared.fault.CoreFault.TheVariants.{NotReady, Memory, Device}
use Rattle.engine_rounds.specs.Works.{Works}
use Rattle.engine_settling.specs.Advancing.{Advances}
use Rattle.engine_settling.specs.Resting.{IsStill}

-- what is refused since it was done already is done
abbrev pub done_as : Result Unit CoreFault → Result Unit CoreFault
done_as (Ok u) = Ok u
done_as (Err NotReady) = Ok tt
done_as (Err other) = Err other

module _ {R K S O : Type 0} where
  -- the job runs, and this holds of its graph and of what it holds
  abbrev pub Holds : State O R K S → (Expanded → Held R K S → Type 0) → Type 0
  Holds s Here = MatchOption s.held ⊥ (λ h. Here s.graph h)

  module _ (rules : AllRules R K S O) (old new : State O R K S) where
    -- Calls on a running job make plain steps, if any; the pending checkpoint goes on, and what is still stays still.
    pub record Brings : Type 0 where
      pub before : Held R K S
      pub after : Held R K S
      pub was : old.held ≡ Some before
      pub is : new.held ≡ Some after
      pub moves : List Move
      pub works : Works rules moves old new
      pub advances : Advances before after
      pub still : IsStill old.graph old.partitions before → IsStill old.graph old.partitions after

    -- calls on a running job, of which the last has taken it down
    abbrev pub WentDown : Type 0
    WentDown = (moves : List Move) × Works rules moves old new × (new.held ≡ None)

    -- So ends a part of settling: what it was to do is done, or memory was refused, or a device failed.
    abbrev pub EndsPart : {T : Type 0} → (Expanded → Held R K S → Type 0) → Result T CoreFault → Type 0
    EndsPart Done (Ok v) = Brings × Holds new Done
    EndsPart Done (Err Memory) = Brings
    EndsPart Done (Err Device) = WentDown
    EndsPart Done (Err other) = ⊥
