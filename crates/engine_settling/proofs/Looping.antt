-- How far the loops of settling are.
use Rattle.std.proofs.Common.{◌≡◌, ◌≢◌, ◌<◌, ◌≤◌, ◌+◌, inl, inr, Option, Some, None, ℕ, Bool, true, false, not, List, [], ◌∷◌, zero, suc, slice_get, length, refl, sym, ap, subst, ◌∙◌, arith}
use mathlib.Core.Bool.{beq}
use Rattle.std.proofs.Math.Nat.{eq-or-lt_of_le}
use Rattle.std.proofs.lemmas.Bool.{true≢false, false≢true}
use Rattle.std.proofs.lemmas.Option.{none-some, same_Some, slice_get_within}
use Rattle.claims.specs.Due.{WorksFrom}
use Rattle.coordinator.specs.Coordinator.{has_acked}
use Rattle.dataflow_model.specs.Graph.{Channel}
use Rattle.engine.specs.Readers.{came_in}
use Rattle.job_graph.specs.Expanded.{Expanded, IsExpanded, inputs_of, meets, is_marked, is_source}
use Rattle.job_graph.specs.declared.role.Role.{Role}
use Rattle.job_graph.specs.declared.role.Role.TheVariants as role
use Rattle.job_state.specs.Held.{Held, copy_at, came_at}
use Rattle.engine_model.specs.AllRules.{AllRules}
use Rattle.engine_model.specs.Keeps.{Keeps}
use Rattle.engine_model.specs.State.{State}
use Rattle.engine_settling.specs.Advancing.{Advances, IsPending, HaveSourcesCopied, HaveCopiedBefore, HaveCopied, HaveSendersCopied, HaveCome, HaveComeBefore, HaveAllCome, HaveAckedBefore, HaveAcked, HaveEnded}
use Rattle.engine_settling.specs.Awaiting.{IsAwaited, HasCome}
use Rattle.engine_settling.specs.Bringing.{Holds, Brings}
use Rattle.engine_settling.proofs.Bringing.{holds_map, holds_two, holds_kept, holds_running, brings_none, brings_both, shape_at}
use Rattle.engine_settling.proofs.Gating.{channel_input, input_channel, copied_by, marked_as}
use Rattle.engine_settling.proofs.Ordering.{order_length, order_within, senders_copied, copied_more, copied_all, come_more, come_all, senders_of_all, copied_kept, come_before_kept}

pending_kept : {R K S : Type 0} (h k : Held R K S) → Advances h k → IsPending h → IsPending k
pending_kept h k goes is none = is (sym goes.pending ∙ none)

module _ {R K S : Type 0} where
  -- ---- the sources

  -- a checkpoint is pending, and the sources among the first so many tasks have copied
  pub record SourcesBefore (graph : Expanded) (h : Held R K S) (tasks : ℕ) : Type 0 where
    pub pending : IsPending h
    pub copied : (task partition : ℕ) → task < tasks → slice_get graph.tasks task ≡ Some (role.Source partition) → copy_at h task ≢ None

  -- ---- the inputs of a task

  -- a checkpoint is pending, the senders of the task's inputs that are marked so have copied, and so many inputs of it have had their barriers taken
  pub record InputsBefore (graph : Expanded) (h : Held R K S) (marked : Bool) (task inputs : ℕ) : Type 0 where
    pub pending : IsPending h
    pub senders : HaveSendersCopied graph h marked task
    pub come : (input : ℕ) → input < inputs → HasCome graph h task input marked

  -- ---- the tasks

  pub record CopiesBefore (graph : Expanded) (h : Held R K S) (place : ℕ) : Type 0 where
    pub pending : IsPending h
    pub sources : HaveSourcesCopied graph h
    pub copied : HaveCopiedBefore graph h place

  pub record LogsBefore (graph : Expanded) (h : Held R K S) (place : ℕ) : Type 0 where
    pub pending : IsPending h
    pub copied : HaveCopied graph h
    pub come : HaveComeBefore graph h place

  pub record AcksBefore (graph : Expanded) (h : Held R K S) (tasks : ℕ) : Type 0 where
    pub ended : HaveEnded graph h
    pub acked : HaveAckedBefore graph h tasks

-- marks that differ, and marks that do not
pub differ : (a b : Bool) → not (beq a b) ≡ true → a ≢ b
differ true true e same = false≢true e
differ false false e same = false≢true e
differ true false e same = false≢true (sym same)
differ false true e same = false≢true same

pub agree : (a b : Bool) → not (beq a b) ≡ false → a ≡ b
agree true true e = refl
agree false false e = refl
agree true false e = absurd (true≢false e)
agree false true e = absurd (true≢false e)

-- a task below the number of tasks is there
no_task : (tasks : List Role) (task : ℕ) → task < length tasks → slice_get tasks task ≡ None → ⊥
no_task [] task within none = omega (arith, within)
no_task (r ∷ tasks) zero within none = none-some r (sym none)
no_task (r ∷ tasks) (suc task) within none = no_task tasks task (omega (arith, within)) none

-- the last of so many, or one before
last_or : {P : ℕ → Type 0} (n : ℕ) → P n → ((i : ℕ) → i < n → P i) → (i : ℕ) → i < n + 1 → P i
last_or {P} n last before i below =
    elim (eq-or-lt_of_le (omega (arith, below))) [
      | inl same ↦ subst P (sym same) last
      | inr less ↦ before i less
    ]

module _ {R K S O : Type 0} (rules : AllRules R K S O) where
  abbrev Bring : State O R K S → State O R K S → Type 0
  Bring old new = Brings rules old new

  -- ---- the sources

  pub sources_start : (s : State O R K S) → Holds s (λ g h. IsPending h) → Holds s (λ g h. SourcesBefore g h 0)
  sources_start s p = holds_map s (λ g h. IsPending h) (λ g h. SourcesBefore g h 0) p (λ h is pending. record { pending = pending; copied = λ task partition below. absurd (omega (arith, below)) })

  sources_kept_to : (old new : State O R K S) (n : ℕ) → Bring old new → Holds old (λ g h. SourcesBefore g h n) → Holds new (λ g h. SourcesBefore g h n)
  sources_kept_to old new n b p =
      holds_kept rules old new (λ g h. SourcesBefore g h n) b p (λ h k goes s. record { pending = pending_kept h k goes s.pending; copied = λ task partition below is. goes.copied task (s.copied task partition below is) })

  pub sources_more : (old new : State O R K S) (n : ℕ) → Bring old new → Holds old (λ g h. SourcesBefore g h n) → Holds new (λ g h. copy_at h n ≢ None) → Holds new (λ g h. SourcesBefore g h (n + 1))
  sources_more old new n b p copied =
      holds_two new (λ g h. SourcesBefore g h n) (λ g h. copy_at h n ≢ None) (λ g h. SourcesBefore g h (n + 1)) (sources_kept_to old new n b p) copied
      (λ h is s here. record {
        pending = s.pending;
        copied = λ task partition below at. elim (eq-or-lt_of_le (omega (arith, below))) [
          | inl same ↦ subst (λ (t : ℕ). copy_at h t ≢ None) (sym same) here
          | inr less ↦ s.copied task partition less at
        ];
      })

  pub sources_skip : (s : State O R K S) (n : ℕ) → ((partition : ℕ) → slice_get s.graph.tasks n ≢ Some (role.Source partition)) → Holds s (λ g h. SourcesBefore g h n) → Holds s (λ g h. SourcesBefore g h (n + 1))
  sources_skip s n none p =
      holds_map s (λ g h. SourcesBefore g h n) (λ g h. SourcesBefore g h (n + 1)) p
      (λ h is b. record {
        pending = b.pending;
        copied = λ task partition below at. elim (eq-or-lt_of_le (omega (arith, below))) [
          | inl same ↦ absurd (none partition (sym (ap (slice_get s.graph.tasks) same) ∙ at))
          | inr less ↦ b.copied task partition less at
        ];
      })

  pub sources_all : (s : State O R K S) (n : ℕ) → length s.graph.tasks ≤ n → Holds s (λ g h. SourcesBefore g h n) → Holds s HaveSourcesCopied
  sources_all s n all p =
      holds_map s (λ g h. SourcesBefore g h n) HaveSourcesCopied p (λ h is b task partition at. b.copied task partition (let within = slice_get_within s.graph.tasks task (role.Source partition) at in omega (arith, all, within)) at)

  pub sources_pending : (s : State O R K S) (n : ℕ) → Holds s (λ g h. SourcesBefore g h n) → Holds s (λ g h. IsPending h)
  sources_pending s n p = holds_map s (λ g h. SourcesBefore g h n) (λ g h. IsPending h) p (λ h is b. b.pending)

  -- ---- the inputs of a task

  module _ (marked : Bool) (task : ℕ) where
    abbrev Sent : Expanded → Held R K S → Type 0
    Sent g h = IsPending h × HaveSendersCopied g h marked task

    abbrev Inputs : ℕ → Expanded → Held R K S → Type 0
    Inputs n g h = InputsBefore g h marked task n

    pub inputs_start : (s : State O R K S) → Holds s Sent → Holds s (λ g h. InputsBefore g h marked task 0)
    inputs_start s p = holds_map s Sent (Inputs 0) p (λ h is a. record { pending = a.0; senders = a.1; come = λ input below. absurd (omega (arith, below)) })

    pub inputs_sent : (s : State O R K S) (n : ℕ) → Holds s (λ g h. InputsBefore g h marked task n) → Holds s (λ g h. IsPending h × HaveSendersCopied g h marked task)
    inputs_sent s n p = holds_map s (Inputs n) Sent p (λ h is b. (b.pending, b.senders))

    pub inputs_more : (old new : State O R K S) (n : ℕ) → Bring old new → Holds old (λ g h. InputsBefore g h marked task n) → Holds new (λ g h. HasCome g h task n marked) → Holds new (λ g h. InputsBefore g h marked task (n + 1))
    inputs_more old new n b p come =
        holds_two new (Inputs n) (λ g h. HasCome g h task n marked) (Inputs (n + 1))
        (holds_kept rules old new (Inputs n) b p (λ h k goes a. record {
          pending = pending_kept h k goes a.pending;
          senders = λ number channel is to mark. goes.copied channel.sender (a.senders number channel is to mark);
          come = λ input below number leads mark. goes.came number (a.come input below number leads mark);
        }))
        come
        (λ h is a here. record { pending = a.pending; senders = a.senders; come = last_or {P = λ input. HasCome new.graph h task input marked} n here a.come })

    pub inputs_all : (s : State O R K S) (n : ℕ) → length (inputs_of s.graph task) ≤ n → Holds s (λ g h. InputsBefore g h marked task n) → Holds s (λ g h. HaveCome g h marked task)
    inputs_all s n all p =
        holds_map s (Inputs n) (λ g h. HaveCome g h marked task) p
        (λ h is a number channel at to mark.
        let input = channel_input s.graph number channel at in
        let leads : slice_get (inputs_of s.graph task) input.0 ≡ Some number = subst (λ (t : ℕ). slice_get (inputs_of s.graph t) input.0 ≡ Some number) to input.2 in
        let within : input.0 < length (inputs_of s.graph task) = slice_get_within (inputs_of s.graph task) input.0 number leads in
        a.come input.0 (omega (arith, within, all)) number leads (marked_as s.graph number channel at ∙ mark))

    -- whether its barrier came
    pub came_holds : (s : State O R K S) (number : ℕ) (b : Bool) → Holds s (λ g h. IsPending h × HaveSendersCopied g h marked task) → came_in s.held number ≡ b → Holds s (λ g h. came_at h number ≡ b)
    came_holds s number b p e = holds_map s Sent (λ g h. came_at h number ≡ b) p (λ h is a. sym (ap (λ (o : Option (Held R K S)). came_in o number) is) ∙ e)

    -- one input: its barrier is awaited, came already, or it is not marked so, or there is none
    pub input_awaited : (s : State O R K S) (input number : ℕ) → WorksFrom s.graph task input number → meets is_marked s.graph.channels number ≡ marked → Holds s (λ g h. IsPending h × HaveSendersCopied g h marked task)
        → Holds s (λ g h. came_at h number ≡ false) → Holds s (λ g h. IsAwaited g h task input number)
    input_awaited s input number works mark p missing =
        holds_two s Sent (λ g h. came_at h number ≡ false) (λ g h. IsAwaited g h task input number) p missing
        (λ h is a awaited. record {
          works = works;
          pending = a.0;
          sent = λ channel at.
              let to = input_channel s.graph task input number works.1 in
              let same : to.0 ≡ channel = same_Some to.0 channel (sym to.1 ∙ at) in
              a.1 number channel at (sym (ap (λ (c : Channel). c.receiver) same) ∙ to.2) (sym (marked_as s.graph number channel at) ∙ mark);
          missing = awaited;
        })

    pub input_other : (s : State O R K S) (input number : ℕ) → WorksFrom s.graph task input number → meets is_marked s.graph.channels number ≢ marked → Holds s (λ g h. IsPending h × HaveSendersCopied g h marked task) → Holds s (λ g h. HasCome g h task input marked)
    input_other s input number works not p =
        holds_map s Sent (λ g h. HasCome g h task input marked) p
        (λ h is a other leads mark. absurd (not (subst (λ (c : ℕ). meets is_marked s.graph.channels c ≡ marked) (same_Some other number (sym leads ∙ works.1)) mark)))

    pub input_came : (s : State O R K S) (input number : ℕ) → WorksFrom s.graph task input number → Holds s (λ g h. came_at h number ≡ true) → Holds s (λ g h. HasCome g h task input marked)
    input_came s input number works came =
        holds_map s (λ g h. came_at h number ≡ true) (λ g h. HasCome g h task input marked) came (λ h is here other leads mark. subst (λ (c : ℕ). came_at h c ≡ true) (same_Some number other (sym works.1 ∙ leads)) here)

    pub input_none : (s : State O R K S) (input : ℕ) → ((number : ℕ) → WorksFrom s.graph task input number → ⊥) → ((number : ℕ) → slice_get (inputs_of s.graph task) input ≡ Some number → WorksFrom s.graph task input number)
        → Holds s (λ g h. IsPending h × HaveSendersCopied g h marked task) → Holds s (λ g h. HasCome g h task input marked)
    input_none s input none works p = holds_map s Sent (λ g h. HasCome g h task input marked) p (λ h is a number leads mark. absurd (none number (works number leads)))

  -- ---- the tasks, in order

  abbrev Copies : ℕ → Expanded → Held R K S → Type 0
  Copies n g h = CopiesBefore g h n

  pub copies_start : (s : State O R K S) → Holds s (λ g h. IsPending h × HaveSourcesCopied g h) → Holds s (λ g h. CopiesBefore g h 0)
  copies_start s p = holds_map s (λ g h. IsPending h × HaveSourcesCopied g h) (Copies 0) p (λ h is a. record { pending = a.0; sources = a.1; copied = λ before task below. absurd (omega (arith, below)) })

  pub copies_sent : (s : State O R K S) (place task : ℕ) → IsExpanded s.graph → slice_get s.graph.order place ≡ Some task → Holds s (λ g h. CopiesBefore g h place) → Holds s (λ g h. IsPending h × HaveSendersCopied g h false task)
  copies_sent s place task expanded at p = holds_map s (Copies place) (λ g h. IsPending h × HaveSendersCopied g h false task) p (λ h is a. (a.pending, senders_copied s.graph h expanded place task at a.copied))

  -- a task whose unmarked inputs have had their barriers taken has copied
  task_copied : (s : State O R K S) (h : Held R K S) → s.held ≡ Some h → Keeps rules s → IsPending h → HaveSourcesCopied s.graph h → (task : ℕ) → task < length s.graph.tasks → HaveCome s.graph h false task → copy_at h task ≢ None
  task_copied s h is keeps pending sources task within come = of (slice_get s.graph.tasks task) refl
    where
      copied : (r : Role) → slice_get s.graph.tasks task ≡ Some r → is_source r ≡ false → copy_at h task ≢ None
      copied r at takes = copied_by rules s.graph s.operators h keeps.expanded (shape_at rules s h is keeps) task (record { role = r; is = at; takes = takes }) pending come

      of : (o : Option Role) → slice_get s.graph.tasks task ≡ o → copy_at h task ≢ None
      of None at = absurd (no_task s.graph.tasks task within at)
      of (Some (role.Source partition)) at = sources task partition at
      of (Some (role.Operator number)) at = copied (role.Operator number) at refl
      of (Some (role.Sink subtask)) at = copied (role.Sink subtask) at refl

  pub copies_more : (old new : State O R K S) (place task : ℕ) → Bring old new → Keeps rules new → slice_get new.graph.order place ≡ Some task → Holds old (λ g h. CopiesBefore g h place) → Holds new (λ g h. HaveCome g h false task)
      → Holds new (λ g h. CopiesBefore g h (place + 1))
  copies_more old new place task b keeps at p come =
      holds_two new (Copies place) (λ g h. HaveCome g h false task) (Copies (place + 1))
      (holds_kept rules old new (Copies place) b p (λ h k goes a. record {
        pending = pending_kept h k goes a.pending;
        sources = λ t partition is. goes.copied t (a.sources t partition is);
        copied = λ before t below is. goes.copied t (a.copied before t below is);
      }))
      come
      (λ h is a here. record {
        pending = a.pending;
        sources = a.sources;
        copied = copied_more new.graph h place task at a.copied (task_copied new h is keeps a.pending a.sources task (order_within new.graph keeps.expanded place task at) here);
      })

  pub copies_skip : (s : State O R K S) (place : ℕ) → slice_get s.graph.order place ≡ None → Holds s (λ g h. CopiesBefore g h place) → Holds s (λ g h. CopiesBefore g h (place + 1))
  copies_skip s place none p =
      holds_map s (Copies place) (Copies (place + 1)) p
      (λ h is a. record {
        pending = a.pending;
        sources = a.sources;
        copied = λ before task below at. elim (eq-or-lt_of_le (omega (arith, below))) [
          | inl same ↦ absurd (none-some task (sym none ∙ sym (ap (slice_get s.graph.order) same) ∙ at))
          | inr less ↦ a.copied before task less at
        ];
      })

  pub copies_all : (s : State O R K S) (place : ℕ) → IsExpanded s.graph → length s.graph.tasks ≤ place → Holds s (λ g h. CopiesBefore g h place) → Holds s HaveCopied
  copies_all s place expanded all p =
      holds_map s (Copies place) HaveCopied p (λ h is a. copied_all s.graph h expanded (λ before task below at. a.copied before task (omega (arith, below, all, order_length s.graph expanded)) at))

  abbrev Logs : ℕ → Expanded → Held R K S → Type 0
  Logs n g h = LogsBefore g h n

  pub logs_start : (s : State O R K S) → Holds s (λ g h. IsPending h × HaveCopied g h) → Holds s (λ g h. LogsBefore g h 0)
  logs_start s p = holds_map s (λ g h. IsPending h × HaveCopied g h) (Logs 0) p (λ h is a. record { pending = a.0; copied = a.1; come = λ before task below. absurd (omega (arith, below)) })

  pub logs_sent : (s : State O R K S) (place task : ℕ) → IsExpanded s.graph → Holds s (λ g h. LogsBefore g h place) → Holds s (λ g h. IsPending h × HaveSendersCopied g h true task)
  logs_sent s place task expanded p = holds_map s (Logs place) (λ g h. IsPending h × HaveSendersCopied g h true task) p (λ h is a. (a.pending, senders_of_all s.graph h expanded a.copied task))

  pub logs_more : (old new : State O R K S) (place task : ℕ) → Bring old new → slice_get new.graph.order place ≡ Some task → Holds old (λ g h. LogsBefore g h place) → Holds new (λ g h. HaveCome g h true task) → Holds new (λ g h. LogsBefore g h (place + 1))
  logs_more old new place task b at p come =
      holds_two new (Logs place) (λ g h. HaveCome g h true task) (Logs (place + 1))
      (holds_kept rules old new (Logs place) b p (λ h k goes a. record {
        pending = pending_kept h k goes a.pending;
        copied = copied_kept old.graph h k a.copied goes;
        come = come_before_kept old.graph h k place a.come goes;
      }))
      come
      (λ h is a here. record { pending = a.pending; copied = a.copied; come = come_more new.graph h place task at a.come here })

  pub logs_skip : (s : State O R K S) (place : ℕ) → slice_get s.graph.order place ≡ None → Holds s (λ g h. LogsBefore g h place) → Holds s (λ g h. LogsBefore g h (place + 1))
  logs_skip s place none p =
      holds_map s (Logs place) (Logs (place + 1)) p
      (λ h is a. record {
        pending = a.pending;
        copied = a.copied;
        come = λ before task below at. elim (eq-or-lt_of_le (omega (arith, below))) [
          | inl same ↦ absurd (none-some task (sym none ∙ sym (ap (slice_get s.graph.order) same) ∙ at))
          | inr less ↦ a.come before task less at
        ];
      })

  pub logs_all : (s : State O R K S) (place : ℕ) → Keeps rules s → length s.graph.tasks ≤ place → Holds s (λ g h. LogsBefore g h place) → Holds s HaveAllCome
  logs_all s place keeps all p =
      holds_map s (Logs place) HaveAllCome p
      (λ h is a. come_all rules s.graph s.operators h keeps.expanded (shape_at rules s h is keeps) a.copied
      (λ before task below at. a.come before task (omega (arith, below, all, order_length s.graph keeps.expanded)) at))

  -- ---- the parts

  abbrev Acks : ℕ → Expanded → Held R K S → Type 0
  Acks n g h = AcksBefore g h n

  ended_kept : (graph : Expanded) (h k : Held R K S) → Advances h k → HaveEnded graph h → HaveEnded graph k
  ended_kept graph h k goes a = record { pending = pending_kept h k goes a.pending; copied = λ task within. goes.copied task (a.copied task within); come = λ number channel is. goes.came number (a.come number channel is) }

  pub ended_all : (old new : State O R K S) → Bring old new → Holds old HaveEnded → Holds new HaveEnded
  ended_all old new b p = holds_kept rules old new HaveEnded b p (λ h k goes a. ended_kept old.graph h k goes a)

  pub acks_start : (s : State O R K S) → Holds s HaveEnded → Holds s (λ g h. AcksBefore g h 0)
  acks_start s p = holds_map s HaveEnded (Acks 0) p (λ h is a. record { ended = a; acked = λ task below. absurd (omega (arith, below)) })

  pub acks_ended : (s : State O R K S) (n : ℕ) → Holds s (λ g h. AcksBefore g h n) → Holds s HaveEnded
  acks_ended s n p = holds_map s (Acks n) HaveEnded p (λ h is a. a.ended)

  pub acks_more : (old new : State O R K S) (n : ℕ) → Bring old new → Holds old (λ g h. AcksBefore g h n) → Holds new (λ g h. has_acked h.coordination n ≡ true) → Holds new (λ g h. AcksBefore g h (n + 1))
  acks_more old new n b p acked =
      holds_two new (Acks n) (λ g h. has_acked h.coordination n ≡ true) (Acks (n + 1))
      (holds_kept rules old new (Acks n) b p (λ h k goes a. record { ended = ended_kept old.graph h k goes a.ended; acked = λ task below. goes.acked task (a.acked task below) }))
      acked
      (λ h is a here. record { ended = a.ended; acked = last_or {P = λ task. has_acked h.coordination task ≡ true} n here a.acked })

  pub acks_all : (s : State O R K S) (n : ℕ) → length s.graph.tasks ≤ n → Holds s (λ g h. AcksBefore g h n) → Holds s HaveAcked
  acks_all s n all p = holds_map s (Acks n) HaveAcked p (λ h is a task below. a.acked task (omega (arith, below, all)))

  -- ---- one part after another

  -- where a checkpoint is pending, nothing done brings nothing
  pub pending_all : (s : State O R K S) → Holds s (λ g h. IsPending h) → Bring s s
  pending_all s p = brings_none rules s (holds_running s (λ g h. IsPending h) p)

  pub pending_on : (old new : State O R K S) → Bring old new → Holds old (λ g h. IsPending h) → Holds new (λ g h. IsPending h)
  pending_on old new b p = holds_kept rules old new (λ g h. IsPending h) b p (λ h k goes pending. pending_kept h k goes pending)

  pub sources_ready : (old new : State O R K S) → Bring old new → Holds old (λ g h. IsPending h) → Holds new HaveSourcesCopied → Holds new (λ g h. IsPending h × HaveSourcesCopied g h)
  sources_ready old new b p copied = holds_two new (λ g h. IsPending h) HaveSourcesCopied (λ g h. IsPending h × HaveSourcesCopied g h) (pending_on old new b p) copied (λ h is one two. (one, two))

  pub copies_ready : (old new : State O R K S) → Bring old new → Holds old (λ g h. IsPending h) → Holds new HaveCopied → Holds new (λ g h. IsPending h × HaveCopied g h)
  copies_ready old new b p copied = holds_two new (λ g h. IsPending h) HaveCopied (λ g h. IsPending h × HaveCopied g h) (pending_on old new b p) copied (λ h is one two. (one, two))

  pub ended_of : (old middle new : State O R K S) → Bring old middle → Bring middle new → Holds old (λ g h. IsPending h) → Holds middle HaveCopied → Holds new HaveAllCome → Holds new HaveEnded
  ended_of old middle new one two p copied come =
      holds_two new (λ g h. IsPending h × HaveCopied g h) HaveAllCome HaveEnded
      (copies_ready old new (brings_both rules old middle new one two) p (holds_kept rules middle new HaveCopied two copied (λ h k goes a. copied_kept middle.graph h k a goes)))
      come
      (λ h is a here. record { pending = a.0; copied = a.1; come = here })
