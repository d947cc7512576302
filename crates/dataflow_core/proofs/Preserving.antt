-- What calls preserve, whatever they are.
use Rattle.std.proofs.Common.{◌≡◌, Option, Result, ℕ, List, [], ◌++◌, slice_get, sym, ap, subst, ◌∙◌, append_assoc}
use Rattle.std.proofs.lemmas.List.{append-nil}
use Rattle.commit_sink.specs.Ledger.{committed_rows}
use Rattle.engine_model.specs.AllRules.{AllRules}
use Rattle.engine_model.specs.Sound.{IsSound}
use Rattle.engine_model.specs.State.{State}
use Rattle.engine_model.specs.declared.fault.CoreFault.{CoreFault}
use Rattle.dataflow_model.specs.Graph.{Begins}
use Rattle.job_graph.specs.Expanded.{Expanded}
use Rattle.dataflow_core.specs.Steps.{IsStep, IsRestart, Preserves}

begins_on : {A : Type 0} (xs ys zs : List A) → Begins xs ys → Begins ys zs → Begins xs zs
begins_on xs ys zs one two = (one.0 ++ two.0, two.1 ∙ ap (λ l. l ++ two.0) one.1 ∙ append_assoc xs one.0 two.0)

begins_same : {A : Type 0} (xs ys : List A) → ys ≡ xs → Begins xs ys
begins_same xs ys e = ([], e ∙ sym (append-nil xs))

module _ {R K S O : Type 0} (rules : AllRules R K S O) where
  pub of_step : (old new : State O R K S) → IsStep rules old new → Preserves rules old new
  of_step old new s = record { same = s.same; sound = s.sound; begins = s.begins }

  pub of_restart : (old new : State O R K S) (result : Result (Option ℕ) CoreFault) → IsRestart rules old new result → Preserves rules old new
  of_restart old new result s = record { same = s.same; sound = s.sound; begins = λ task subtask at. s.begins subtask }

  -- where nothing changes
  pub of_none : (old new : State O R K S) → new ≡ old → Preserves rules old new
  of_none old new e =
      record {
        same = (ap (λ (s : State O R K S). s.graph) e, ap (λ (s : State O R K S). s.operators) e, ap (λ (s : State O R K S). s.is_fresh) e);
        sound = λ sound. subst (λ (s : State O R K S). IsSound rules s) (sym e) sound;
        begins = λ task subtask at. begins_same (committed_rows old.ledger subtask) (committed_rows new.ledger subtask) (ap (λ (s : State O R K S). committed_rows s.ledger subtask) e);
      }

  -- a record is put last in a partition, and the committed rows stay
  pub of_append : (old new : State O R K S) → new ≡ record old { partitions = new.partitions; faults = new.faults } → (IsSound rules old → IsSound rules new) → Preserves rules old new
  of_append old new e sound =
      record {
        same = (ap (λ (s : State O R K S). s.graph) e, ap (λ (s : State O R K S). s.operators) e, ap (λ (s : State O R K S). s.is_fresh) e);
        sound = sound;
        begins = λ task subtask at. begins_same (committed_rows old.ledger subtask) (committed_rows new.ledger subtask) (ap (λ (s : State O R K S). committed_rows s.ledger subtask) e);
      }

  pub of_both : (old middle new : State O R K S) → Preserves rules old middle → Preserves rules middle new → Preserves rules old new
  of_both old middle new one two =
      record {
        same = (two.same.0 ∙ one.same.0, two.same.1 ∙ one.same.1, two.same.2 ∙ one.same.2);
        sound = λ sound. two.sound (one.sound sound);
        begins = λ task subtask at.
            begins_on (committed_rows old.ledger subtask) (committed_rows middle.ledger subtask) (committed_rows new.ledger subtask) (one.begins task subtask at)
            (two.begins task subtask (ap (λ (graph : Expanded). slice_get graph.tasks task) one.same.0 ∙ at));
      }
