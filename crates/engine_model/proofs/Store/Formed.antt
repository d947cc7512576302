-- The parts in the store are what their tasks' roles ask for, whatever call changes the store.
use Rattle.std.proofs.Common.{◌≡◌, ◌==◌, ◌&&◌, inl, inr, cond, if◌then◌else◌, Option, Some, None, Ok, slice_get, ℕ, Bool, true, false, List, sym, ap, subst, ◌∙◌}
use Rattle.std.specs.FinMap as fin
use Rattle.std.specs.Prelude.{nat_lt}
use Rattle.std.proofs.lemmas.Bool.{cases_Bool}
use Rattle.std.proofs.lemmas.Bool.Decides.{eqb_tells}
use Rattle.std.proofs.lemmas.Option.{none-some, same_Some}
use Rattle.abs_codec.specs.Reading.{whole_of}
use Rattle.job_graph.specs.Expanded.{Expanded}
use Rattle.job_graph.specs.declared.role.Role.{Role}
use Rattle.snapshot_store.specs.Store.{Stored, key_cmp, blank, part_of, with_part, discarded_below}
use Rattle.snapshot_store.specs.StoreLaws.{part_of-with_part}
use Rattle.task_part.specs.declared.part.Part.{Part}
use Rattle.engine_model.specs.AllRules.{AllRules}
use Rattle.engine_model.specs.Calls.{tidied}
use Rattle.engine_model.specs.Keeps.{PartAs, PartsAreFormed}
use Rattle.engine_model.proofs.Store.Trigger.{part_of-discarded}

module _ {R K S O : Type 0} (rules : AllRules R K S O) (graph : Expanded) where
  pub formed_blank : (tasks : ℕ) → PartsAreFormed rules graph (blank tasks)
  formed_blank tasks n task r bytes is there = absurd (none-some bytes (sym (fin.get-empty key_cmp (n, task)) ∙ there))

  formed_discarded : (stored : Stored) (last : ℕ) → PartsAreFormed rules graph stored → PartsAreFormed rules graph (discarded_below stored last)
  formed_discarded stored last formed n task r bytes is there =
      let kept = sym (part_of-discarded stored last n task) ∙ there in
      elim (cases_Bool (nat_lt n last)) [
        | inl gone ↦ absurd (none-some bytes (ap (λ (b : Bool). if b then None else part_of stored n task) (sym gone) ∙ kept))
        | inr stays ↦ formed n task r bytes is (ap (λ (b : Bool). if b then None else part_of stored n task) (sym stays) ∙ kept)
      ]

  pub formed_tidied : (last : Option ℕ) (stored : Stored) → PartsAreFormed rules graph stored → PartsAreFormed rules graph (tidied last stored)
  formed_tidied None stored formed = formed
  formed_tidied (Some last) stored formed = formed_discarded stored last formed

  pub formed_put : (stored : Stored) (checkpoint put : ℕ) (bytes : List ℕ) (p : Part R K S) → whole_of rules.lang.read_part bytes ≡ Ok p → ((r : Role) → slice_get graph.tasks put ≡ Some r → PartAs rules.RecordFits graph put r p)
      → PartsAreFormed rules graph stored → PartsAreFormed rules graph (with_part stored checkpoint put bytes)
  formed_put stored checkpoint put bytes p reads form formed n task r found is there =
      let now : cond ((n == checkpoint) && (task == put)) (Some bytes) (part_of stored n task) ≡ Some found = sym (part_of-with_part stored checkpoint put bytes n task) ∙ there in
      elim (cases_Bool ((n == checkpoint) && (task == put))) [
        | inl here ↦
            let same : bytes ≡ found = same_Some bytes found (ap (λ (b : Bool). cond b (Some bytes) (part_of stored n task)) (sym here) ∙ now) in
            (p, ap (whole_of rules.lang.read_part) (sym same) ∙ reads, subst (λ (t : ℕ). PartAs rules.RecordFits graph t r p) (sym (same_task here)) (form r (ap (slice_get graph.tasks) (sym (same_task here)) ∙ is)))
        | inr off ↦ formed n task r found is (ap (λ (b : Bool). cond b (Some bytes) (part_of stored n task)) (sym off) ∙ now)
      ]
    where
      same_task : ((n == checkpoint) && (task == put)) ≡ true → task ≡ put
      same_task h = by (n == checkpoint) h
        where
          second : (task == put) ≡ true → task ≡ put
          second e = elim (eqb_tells task put) [ inl same ↦ same.1 | inr apart ↦ absurd (cc (sym e ∙ apart.0)) ]

          by : (b : Bool) → (b && (task == put)) ≡ true → task ≡ put
          by true e = second e
          by false e = absurd (cc e)
