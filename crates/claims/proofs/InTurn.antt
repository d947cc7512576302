-- Records that an operator works at once are so many of its steps.
use Rattle.std.proofs.Common.{◌≡◌, ℕ, List, [], ◌∷◌, Option, Some, slice_get, refl, sym, ap, subst, ◌∙◌}
use Rattle.std.proofs.lemmas.Option.{slice_get_within}
use mathlib.Core.Path.{fun_ext}
use Rattle.abs_codec.specs.Entries.{value_at}
use Rattle.alignment.specs.Table.{is_blocked}
use Rattle.dataflow_model.specs.Machine.{kept_under, state_under}
use Rattle.job_graph.specs.Expanded.{Expanded}
use Rattle.job_state.specs.Held.{Held, gate_at, Operates}
use Rattle.job_state.specs.declared.holding.Holding.{Holding}
use Rattle.job_state.specs.declared.holding.Holding.TheVariants as holds
use Rattle.job_state.proofs.Places.{get_set_same}
use Rattle.engine_model.specs.Batch.{OperatesOn}
use Rattle.engine_model.specs.Calls.{IsBlocked}
use Rattle.engine_model.specs.Language.{Language}
use Rattle.job_state.specs.Batch.{OperatesEach, turns_of}

pub same_entries : {K S : Type 0} (a b : List (K × S)) → ◌≡◌ {A = Option (Holding K S)} (Some (holds.Operator a)) (Some (holds.Operator b)) → a ≡ b
same_entries a b e = cc

module _ {R K S O : Type 0} (lang : Language R K S O) (operator : O) (graph : Expanded) (task input channel : ℕ) where
  pub worked_in_turn : (rows : List R) (states : K → Option S) (entries : List (K × S)) (old new : Held R K S) →
      ¬ IsBlocked task input old → slice_get old.tasks task ≡ Some (holds.Operator entries) → value_at lang.cmp entries ≡ states →
      OperatesEach lang.meaning lang.cmp graph task input channel (turns_of lang.meaning operator rows states) old new →
      OperatesOn lang operator graph task input channel rows old new
  worked_in_turn [] states entries old new free was same each = each
  worked_in_turn (row ∷ rows) states entries old new free was same each =
      let next = each.0 in
      let moved = each.2 in
      let key = lang.meaning.key operator row in
      let worked = λ (f : K → Option S). lang.meaning.apply operator (state_under key (lang.meaning.fresh operator) f) row in
      let still : ¬ IsBlocked task input next = λ blocked. free (sym (ap (λ (h : Held R K S). is_blocked (gate_at h task) input) moved.ends) ∙ blocked) in
      let then = ap (λ (h : Held R K S). slice_get h.tasks task) moved.ends ∙ get_set_same old.tasks task (holds.Operator moved.kept) (slice_get_within old.tasks task (holds.Operator entries) was) in
      let from = ap (value_at lang.cmp) (sym (same_entries entries moved.entries (sym was ∙ moved.was))) ∙ same in
      let goes_on = fun_ext (λ q. moved.keeps q ∙ ap (λ (f : K → Option S). kept_under lang.meaning.same_key key (worked states).state f q) from) in (
        next,
        record {
          row = row;
          entries = entries;
          free = free;
          head = each.1;
          was = was;
          operates = subst (λ (f : K → Option S). Operates lang.meaning lang.cmp graph task input channel row key (worked f).state (worked f).sent old next) (sym same) moved;
        },
        refl,
        worked_in_turn rows (kept_under lang.meaning.same_key key (worked states).state states) moved.kept next new still then goes_on each.3,
      )
