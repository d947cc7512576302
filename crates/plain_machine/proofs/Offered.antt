-- What the plain program looks up is what a move takes.
use Rattle.std.proofs.Common.{◌≡◌, ℕ, ◌==◌, ◌&&◌, Bool, true, false, slice_get, Option, Some, None, if◌then◌else◌, refl, sym, ap, ◌∙◌}
use Rattle.std.proofs.lemmas.Option.{none-some}
use Rattle.std.proofs.lemmas.Bool.{eqb-true, eq-eqb}
use Rattle.dataflow_model.specs.Graph.{Task, SourceTask, OperatorTask, SinkTask, Channel, Job}
use Rattle.dataflow_model.specs.Machine.{Configuration, Move, Read, Work, mover, HasInputs, handled, after, Takes, Step, IsPossible}
use Rattle.plain_machine.specs.Offered.{has_inputs, next_of, first_of, offered}

module _ {R K S O : Type 0} (job : Job R K S O) where
  inputs : (kind : Task O) → HasInputs kind → has_inputs kind ≡ true
  inputs (SourceTask partition) h = elim h [ ]
  inputs (OperatorTask operator) h = refl
  inputs SinkTask h = refl

  inputs_back : (kind : Task O) → has_inputs kind ≡ true → HasInputs kind
  inputs_back (SourceTask partition) h = cc
  inputs_back (OperatorTask operator) h = tt
  inputs_back SinkTask h = tt

  pub offered_of : (move : Move) (kind : Task O) (r : R) (c : Configuration R K S) → slice_get job.graph.tasks (mover move) ≡ Some kind → Takes job move kind r c → offered job move c ≡ Some r
  offered_of (Read task) kind r c is t =
      ap (λ k. next_of job.partitions k (c.tasks task).offset) (is ∙ ap Some t.1) ∙ t.2
  offered_of (Work task input) kind r c is t =
      let e : (t.0.receiver == task) ≡ true = eq-eqb t.0.receiver task t.3 in
      ap (λ k. first_of k (slice_get job.graph.channels input) task (c.channels input)) is
      ∙ ap (λ k. first_of (Some kind) k task (c.channels input)) t.2
      ∙ rw (inputs kind t.1, e) t.4

  takes_next : (kind : Task O) (task : ℕ) (r : R) (c : Configuration R K S) → next_of job.partitions (Some kind) (c.tasks task).offset ≡ Some r → Takes job (Read task) kind r c
  takes_next (SourceTask partition) task r c h = (partition, refl, h)
  takes_next (OperatorTask operator) task r c h = absurd (none-some r h)
  takes_next SinkTask task r c h = absurd (none-some r h)

  takes_first : (kind : Task O) (channel : Option Channel) (task input : ℕ) (r : R) (c : Configuration R K S) → slice_get job.graph.channels input ≡ channel → first_of (Some kind) channel task (c.channels input) ≡ Some r → Takes job (Work task input) kind r c
  takes_first kind None task input r c is h = absurd (none-some r h)
  takes_first kind (Some channel) task input r c is h = tests (has_inputs kind) (channel.receiver == task) refl refl h
    where
      tests : (a b : Bool) → has_inputs kind ≡ a → (channel.receiver == task) ≡ b → (if a && b then slice_get (c.channels input) 0 else None) ≡ Some r → Takes job (Work task input) kind r c
      tests true true p q e = (channel, inputs_back kind p, is, eqb-true channel.receiver task q, e)
      tests true false p q e = absurd (none-some r e)
      tests false b p q e = absurd (none-some r e)

  pub takes_offered : (move : Move) (kind : Task O) (r : R) (c : Configuration R K S) → slice_get job.graph.tasks (mover move) ≡ Some kind → offered job move c ≡ Some r → Takes job move kind r c
  takes_offered (Read task) kind r c is h = takes_next kind task r c (ap (λ k. next_of job.partitions k (c.tasks task).offset) (sym is) ∙ h)
  takes_offered (Work task input) kind r c is h =
      takes_first kind (slice_get job.graph.channels input) task input r c refl (ap (λ k. first_of k (slice_get job.graph.channels input) task (c.channels input)) (sym is) ∙ h)

  pub step_of : (move : Move) (kind : Task O) (r : R) (old new : Configuration R K S) → slice_get job.graph.tasks (mover move) ≡ Some kind → offered job move old ≡ Some r → new ≡ after job move (handled job.meaning kind (old.tasks (mover move)) r) old → Step job move old new
  step_of move kind r old new is h ends =
      record { kind = kind; taken = r; is_task = is; takes = takes_offered move kind r old is h; ends = ends }

  pub none_offered : (move : Move) (old : Configuration R K S) → offered job move old ≡ None → ¬ IsPossible job move old
  none_offered move old h possible =
      let s = possible.1 in
      none-some s.taken (sym h ∙ offered_of move s.kind s.taken old s.is_task s.takes)
