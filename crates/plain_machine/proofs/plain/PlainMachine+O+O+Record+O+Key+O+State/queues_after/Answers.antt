use Rattle.std.proofs.Common.{◌≡◌, ◌+◌, ◌<◌, ◌++◌, ◌∷◌, ◌==◌, ℕ, zero, suc, Bool, true, false, List, [], Some, if◌then◌else◌, slice_get, length, drop, append-nil, refl, sym, ap, ap₂, ◌∙◌, subst, arith, inl, inr, Vec, Global}
use Rattle.std.proofs.lemmas.Option.{slice_get_past, slice_get-map}
use Rattle.std.proofs.lemmas.Bool.Decides.{leb_tells}
use Rattle.std.specs.Option.{option_map}
use borrow.Author.Count.{below_more}
use Rattle.plain_machine.specs.declared.job.Configuration as code_configuration
use Rattle.plain_machine.specs.declared.job.Job as code_job
use Rattle.dataflow_model.specs.Graph.{Meaning}
use Rattle.dataflow_model.specs.Machine.{Move, Read, Work, mover, left, received}
use Rattle.plain_machine.specs.Plain.{channel_of, records_of, move_of, IsQueueAfter}
use Rattle.plain_machine.proofs.Made.{on_error, no_value, memory_passed}
use Rattle.plain_machine.proofs.plain.PlainMachine+O+O+Record+O+Key+O+State.queues_after.Goals as goal

get_within : {A : Type 0} (xs : List A) (x : A) (k : ℕ) → k < length xs → slice_get (xs ++ x ∷ []) k ≡ slice_get xs k
get_within [] x k within = absurd (omega (arith, within))
get_within (y ∷ xs) x zero within = refl
get_within (y ∷ xs) x (suc k) within = get_within xs x k (omega (arith, within))

get_last : {A : Type 0} (xs : List A) (x : A) → slice_get (xs ++ x ∷ []) (length xs) ≡ Some x
get_last [] x = refl
get_last (y ∷ xs) x = get_last xs x

length_more : {A : Type 0} (xs : List A) (x : A) → length (xs ++ x ∷ []) ≡ length xs + 1
length_more [] x = refl
length_more (y ∷ xs) x = omega (arith, length_more xs x)

if_nothing : {R : Type 0} (b : Bool) (none : List R) → none ≡ [] → (if b then drop 1 none else none) ≡ []
if_nothing true none e = rw e refl
if_nothing false none e = e

nothing_left : {R : Type 0} (move : Move) (k : ℕ) → left {R = R} move k [] ≡ []
nothing_left (Read task) k = refl
nothing_left (Work task input) k = if_nothing (k == input) [] refl

module _ {O R K S : Type 0} (meaning : Meaning R K S O) (job : code_job.Job O R) (c : code_configuration.Configuration R K S) (move : Move) (sent : List (ℕ × R)) where
  one_queue_more : (queues more : List (Vec R Global)) (queue : Vec R Global) (n : ℕ) → more ≡ queues ++ queue ∷ [] → length queues ≡ n →
      ((k : ℕ) → k < n → IsQueueAfter meaning job c move sent k (records_of (slice_get queues k))) → IsQueueAfter meaning job c move sent n queue.items →
      (k : ℕ) → k < n + 1 → IsQueueAfter meaning job c move sent k (records_of (slice_get more k))
  one_queue_more queues more queue n more_is count each last =
      below_more (λ k. IsQueueAfter meaning job c move sent k (records_of (slice_get more k))) n
      (λ k within. subst (λ o. IsQueueAfter meaning job c move sent k (records_of o)) (sym (ap (λ l. slice_get l k) more_is ∙ get_within queues queue k (omega (arith, count, within)))) (each k within))
      (subst (λ o. IsQueueAfter meaning job c move sent n (records_of o)) (sym (ap₂ (λ l k. slice_get l k) more_is (sym count) ∙ get_last queues queue)) last)

  -- of no channel there is a queue
  all_queues : (queues : List (Vec R Global)) → length c.channels.items ≡ length job.channels.items → length queues ≡ length job.channels.items →
      ((k : ℕ) → k < length job.channels.items → IsQueueAfter meaning job c move sent k (records_of (slice_get queues k))) →
      (k : ℕ) → IsQueueAfter meaning job c move sent k (records_of (slice_get queues k))
  all_queues queues same count each k =
      elim (leb_tells (suc k) (length job.channels.items)) [
        | inl h ↦ each k (omega (arith, h.1))
        | inr h ↦
            ap (λ o. records_of o) (slice_get_past queues k (omega (arith, h.1, count)))
            ∙ sym (ap₂ (λ q o. left move k (records_of q) ++ received meaning (mover move) sent o) (slice_get_past c.channels.items k (omega (arith, h.1, same))) (slice_get-map channel_of job.channels.items k ∙ ap (option_map channel_of) (slice_get_past job.channels.items k (omega (arith, h.1))))
            ∙ append-nil (left move k [])
            ∙ nothing_left move k)
      ]

pub returns-in_err-queue_after-clause-len : goal.returns-in_err-queue_after-clause-len
returns-in_err-queue_after-clause-len g c = no_value c.from_residual.result _ c.from_residual.ensures.0

pub returns-in_err-queue_after-clause-each : goal.returns-in_err-queue_after-clause-each
returns-in_err-queue_after-clause-each g c = no_value c.from_residual.result _ c.from_residual.ensures.0

pub returns-in_err-queue_after-clause-memory : goal.returns-in_err-queue_after-clause-memory
returns-in_err-queue_after-clause-memory g c = on_error c.from_residual.result _ (memory_passed c.from_residual.result c.in_err-queue_after.field-0.0 c.from_residual.ensures.1 c.in_err-queue_after.ensures.memory)

pub returns-in_err-push-clause-len : goal.returns-in_err-push-clause-len
returns-in_err-push-clause-len g c = no_value c.from_residual-in_err-push.result _ c.from_residual-in_err-push.ensures.0

pub returns-in_err-push-clause-each : goal.returns-in_err-push-clause-each
returns-in_err-push-clause-each g c = no_value c.from_residual-in_err-push.result _ c.from_residual-in_err-push.ensures.0

pub returns-in_err-push-clause-memory : goal.returns-in_err-push-clause-memory
returns-in_err-push-clause-memory g c = on_error c.from_residual-in_err-push.result _ c.from_residual-in_err-push.ensures.1

pub loop-channel-init : goal.loop-channel-init
loop-channel-init g c = (ap length c.new-queues.ensures.items, λ k within. absurd (omega (arith, within)))

pub loop-channel-preserved : goal.loop-channel-preserved
loop-channel-preserved g c =
    let count = ap length c.in_ok-push.ensures.items ∙ length_more c.loop-channel.queues.items c.in_ok-queue_after.field-0 ∙ ap (λ n. n + 1) c.loop-channel.invariant.0 in (
      count,
      one_queue_more g.O.Operator.meaning c.args.self.now.job c.args.self.now.configuration (move_of c.args.step.now) c.args.sent.now c.loop-channel.queues.items c.push.new.self.items c.in_ok-queue_after.field-0 c.loop-channel.channel c.in_ok-push.ensures.items c.loop-channel.invariant.0 c.loop-channel.invariant.1 c.in_ok-queue_after.ensures.ok,
    )

pub returns-clause-len : goal.returns-clause-len
returns-clause-len g c =
    omega (arith, c.loop-channel.invariant.0, c.loop-channel-test.false, c.loop-channel.auto.channel-end, c.len-channel-end.ensures, c.args.self.now.job.channels.ok.0)

pub returns-clause-each : goal.returns-clause-each
returns-clause-each g c =
    let all : c.loop-channel.channel ≡ length c.args.self.now.job.channels.items = omega (arith, c.loop-channel-test.false, c.loop-channel.auto.channel-end, c.len-channel-end.ensures, c.args.self.now.job.channels.ok.0) in
    all_queues g.O.Operator.meaning c.args.self.now.job c.args.self.now.configuration (move_of c.args.step.now) c.args.sent.now c.loop-channel.queues.items c.args.self.now.all_channels (c.loop-channel.invariant.0 ∙ all)
    (λ k within. c.loop-channel.invariant.1 k (omega (arith, within, all)))
