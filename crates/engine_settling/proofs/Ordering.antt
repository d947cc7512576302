-- The order of the tasks, and what goes along it while a checkpoint is pending.
use Rattle.std.proofs.Common.{◌≡◌, ◌≢◌, ◌<◌, ◌+◌, inl, inr, Some, None, slice_get, length, All, ℕ, Bool, true, false, List, refl, sym, ap, subst, ◌∙◌, arith}
use Rattle.std.specs.List.{range_with_len, Contains}
use Rattle.std.proofs.lemmas.Bool.{cases_Bool, cases_lt}
use Rattle.std.proofs.lemmas.List.Elements.{All-get_or, All-from_get_or}
use Rattle.std.proofs.lemmas.List.FromFn.{length-range_with_len, get_or-range_with_len}
use Rattle.std.proofs.lemmas.List.Sorted.{length_permutation, All-permutation, Contains-permutation}
use Rattle.std.proofs.lemmas.Option.{same_Some, slice_get_within, slice_get-get_or, get_or_from_slice_get}
use Rattle.job_graph.specs.Expanded.{Expanded, IsExpanded, StandsBefore}
use Rattle.job_state.specs.Held.{Held, copy_at}
use Rattle.engine_model.specs.AllRules.{AllRules}
use Rattle.engine_model.specs.Keeps.{Shape}
use Rattle.engine_settling.specs.Advancing.{Advances, HaveSourcesCopied, HaveCopiedBefore, HaveCopied, HaveSendersCopied, HaveCome, HaveComeBefore, HaveAllCome, HaveAckedBefore}
use Rattle.engine_settling.proofs.Gating.{unmarked_came}

-- ---- the order has each task once

module _ (graph : Expanded) (expanded : IsExpanded graph) where
  -- the order is as long as there are tasks
  pub order_length : length graph.order ≡ length graph.tasks
  order_length = length_permutation (range_with_len 0 (length graph.tasks)) graph.order expanded.whole ∙ length-range_with_len 0 (length graph.tasks)

  all_below : All (λ (task : ℕ). task < length graph.tasks) (range_with_len 0 (length graph.tasks))
  all_below =
      All-from_get_or (λ (task : ℕ). task < length graph.tasks) (range_with_len 0 (length graph.tasks)) 0
      (λ i within. omega (arith, within, length-range_with_len 0 (length graph.tasks), get_or-range_with_len 0 (length graph.tasks) i 0 (omega (arith, within, length-range_with_len 0 (length graph.tasks)))))

  -- what stands in the order is a task
  pub order_within : (place task : ℕ) → slice_get graph.order place ≡ Some task → task < length graph.tasks
  order_within place task at =
      let all : All (λ (t : ℕ). t < length graph.tasks) graph.order =
      All-permutation (λ (t : ℕ). t < length graph.tasks) (range_with_len 0 (length graph.tasks)) graph.order expanded.whole all_below in
      subst (λ (t : ℕ). t < length graph.tasks) (get_or_from_slice_get graph.order place task task at)
      (All-get_or (λ (t : ℕ). t < length graph.tasks) graph.order place task (slice_get_within graph.order place task at) all)

  range_contains : (task : ℕ) → task < length graph.tasks → Contains (range_with_len 0 (length graph.tasks)) task
  range_contains task within =
      (task, omega (arith, within, length-range_with_len 0 (length graph.tasks)), get_or-range_with_len 0 (length graph.tasks) task task within ∙ omega arith)

  -- each task has a place in the order
  pub in_order : (task : ℕ) → task < length graph.tasks → (place : ℕ) × (place < length graph.order) × (slice_get graph.order place ≡ Some task)
  in_order task within =
      let has : Contains graph.order task = Contains-permutation (range_with_len 0 (length graph.tasks)) graph.order task expanded.whole (range_contains task within) in
      (has.0, has.1, slice_get-get_or graph.order has.0 task has.1 ∙ ap (λ (t : ℕ). Some t) has.2)

-- ---- along the order

module _ {R K S : Type 0} (graph : Expanded) (h : Held R K S) where
  -- where the tasks before a place have copied, so have the senders of the unmarked inputs of the task at it
  pub senders_copied : IsExpanded graph → (place task : ℕ) → slice_get graph.order place ≡ Some task → HaveCopiedBefore graph h place → HaveSendersCopied graph h false task
  senders_copied expanded place task at before number channel is to unmarked =
      let s : StandsBefore graph.order channel.sender place = expanded.ordered number channel place is unmarked (at ∙ ap (λ (t : ℕ). Some t) (sym to)) in
      before s.before channel.sender s.less s.is

  -- the task at the place has copied too
  pub copied_more : (place task : ℕ) → slice_get graph.order place ≡ Some task → HaveCopiedBefore graph h place → copy_at h task ≢ None → HaveCopiedBefore graph h (place + 1)
  copied_more place task at before copied earlier other less is =
      elim (cases_lt earlier place) [
        | inl sooner ↦ before earlier other sooner is
        | inr later ↦
            let here : earlier ≡ place = omega (arith, less, later) in
            let same : task ≡ other = same_Some task other (sym at ∙ ap (slice_get graph.order) (sym here) ∙ is) in
            subst (λ (t : ℕ). copy_at h t ≢ None) same copied
      ]

  -- where the tasks before the end of the order have copied, all have
  pub copied_all : IsExpanded graph → HaveCopiedBefore graph h (length graph.order) → HaveCopied graph h
  copied_all expanded before task within = let p = in_order graph expanded task within in before p.0 task p.1 p.2

  -- the barriers of the marked inputs of the task at the place were taken too
  pub come_more : (place task : ℕ) → slice_get graph.order place ≡ Some task → HaveComeBefore graph h place → HaveCome graph h true task → HaveComeBefore graph h (place + 1)
  come_more place task at before come earlier other less is =
      elim (cases_lt earlier place) [
        | inl sooner ↦ before earlier other sooner is
        | inr later ↦
            let here : earlier ≡ place = omega (arith, less, later) in
            let same : task ≡ other = same_Some task other (sym at ∙ ap (slice_get graph.order) (sym here) ∙ is) in
            subst (λ (t : ℕ). HaveCome graph h true t) same come
      ]

  -- where all tasks have copied, so have the senders of a task's marked inputs
  pub senders_of_all : IsExpanded graph → HaveCopied graph h → (task : ℕ) → HaveSendersCopied graph h true task
  senders_of_all expanded copied task number channel is to marked =
      let sender = (expanded.joined number channel is).sender in
      copied channel.sender (slice_get_within graph.tasks channel.sender sender.role sender.is)

module _ {R K S O : Type 0} (rules : AllRules R K S O) (graph : Expanded) (operators : List O) (h : Held R K S) (expanded : IsExpanded graph) (shape : Shape rules graph operators h) where
  -- where all tasks have copied and those before the end of the order have taken the barriers of their marked inputs, each barrier was taken
  pub come_all : HaveCopied graph h → HaveComeBefore graph h (length graph.order) → HaveAllCome graph h
  come_all copied before number channel is =
      let receiver = (expanded.joined number channel is).receiver in
      let within : channel.receiver < length graph.tasks = slice_get_within graph.tasks channel.receiver receiver.role receiver.is in
      elim (cases_Bool channel.marked) [
        | inl marked ↦
            let p = in_order graph expanded channel.receiver within in
            before p.0 channel.receiver p.1 p.2 number channel is refl marked
        | inr unmarked ↦ unmarked_came rules graph operators h expanded shape channel.receiver within (copied channel.receiver within) number channel is refl unmarked
      ]

-- ---- a checkpoint that goes on

module _ {R K S : Type 0} where
  -- a checkpoint goes on where nothing is done,
  pub advances_none : (h : Held R K S) → Advances h h
  advances_none h = record { pending = refl; copied = λ task copied. copied; came = λ number came. came; acked = λ task acked. acked }

  -- and by one step after another
  pub advances_both : (h k l : Held R K S) → Advances h k → Advances k l → Advances h l
  advances_both h k l first second = record {
    pending = second.pending ∙ first.pending;
    copied = λ task copied. second.copied task (first.copied task copied);
    came = λ number came. second.came number (first.came number came);
    acked = λ task acked. second.acked task (first.acked task acked);
  }

module _ {R K S : Type 0} (graph : Expanded) (h k : Held R K S) where
  -- while it goes on, the sources that have copied have,
  pub sources_kept : HaveSourcesCopied graph h → Advances h k → HaveSourcesCopied graph k
  sources_kept copied goes task partition is = goes.copied task (copied task partition is)

  -- and the tasks before a place,
  pub copied_before_kept : (place : ℕ) → HaveCopiedBefore graph h place → Advances h k → HaveCopiedBefore graph k place
  copied_before_kept place copied goes before task less is = goes.copied task (copied before task less is)

  -- and all tasks,
  pub copied_kept : HaveCopied graph h → Advances h k → HaveCopied graph k
  copied_kept copied goes task within = goes.copied task (copied task within)

  -- and the senders of a task's inputs;
  pub senders_kept : (marked : Bool) (task : ℕ) → HaveSendersCopied graph h marked task → Advances h k → HaveSendersCopied graph k marked task
  senders_kept marked task copied goes number channel is to mark = goes.copied channel.sender (copied number channel is to mark)

  -- the barriers that were taken from a task's inputs were,
  pub come_kept : (marked : Bool) (task : ℕ) → HaveCome graph h marked task → Advances h k → HaveCome graph k marked task
  come_kept marked task come goes number channel is to mark = goes.came number (come number channel is to mark)

  -- and from the marked inputs of the tasks before a place,
  pub come_before_kept : (place : ℕ) → HaveComeBefore graph h place → Advances h k → HaveComeBefore graph k place
  come_before_kept place come goes before task less is number channel at to mark = goes.came number (come before task less is number channel at to mark)

  -- and from all channels;
  pub all_come_kept : HaveAllCome graph h → Advances h k → HaveAllCome graph k
  all_come_kept come goes number channel is = goes.came number (come number channel is)

  -- and the tasks that have acknowledged have
  pub acked_kept : (tasks : ℕ) → HaveAckedBefore graph h tasks → Advances h k → HaveAckedBefore graph k tasks
  acked_kept tasks acked goes task less = goes.acked task (acked task less)
