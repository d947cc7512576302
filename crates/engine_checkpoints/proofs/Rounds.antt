-- Rounds of a commit, one after another.
use Rattle.std.proofs.Common.{◌≡◌, ◌<◌, Option, None, Some, Ok, Err, slice_get, drop, length, ℕ, inl, inr, ◌==◌, ◌||◌, Bool, true, false, List, [], ◌∷◌, ◌++◌, refl, sym, ap, subst, ◌∙◌, arith}
use Rattle.std.proofs.lemmas.Bool.Decides.{eqb_tells}
use Rattle.std.proofs.lemmas.Option.{slice_get_within, same_Some}
use Rattle.checkpoint_model.specs.Durable.{is_on}
use Rattle.commit_sink.specs.Ledger.{Ledger, IsOrdered, after_commit}
use Rattle.commit_sink.specs.Sink.{Sinking}
use Rattle.commit_sink.specs.declared.sink.Pending.{Pending}
use Rattle.job_graph.specs.Expanded.{Expanded}
use Rattle.job_graph.specs.declared.role.Role.TheVariants as role
use Rattle.job_state.specs.Held.{Held}
use Rattle.job_state.specs.declared.holding.Holding.{Holding}
use Rattle.job_state.specs.declared.holding.Holding.TheVariants as holds
use Rattle.engine_model.specs.Commits.{CommitsOne, CommitsEach, EndsCommit}
use Rattle.engine_model.specs.Keeps.{SinkIn}
use Rattle.engine_model.specs.declared.fault.CoreFault.{CoreFault}
use Rattle.engine_model.specs.declared.fault.CoreFault.TheVariants.{CommitFault}
use Rattle.engine_checkpoints.specs.Rounds.{EndsRound}
use Rattle.engine_model.proofs.Ledger.Commit.{commit_in}
use Rattle.engine_model.proofs.Lists.{get_set_same}

module _ {K S : Type 0} where
  -- a sink that a holding says
  abbrev sink_of : Holding K S → Sinking → Sinking
  sink_of (holds.Source offset) sink = sink
  sink_of (holds.Operator entries) sink = sink
  sink_of (holds.Sink other) sink = other

  same_sink : (a b : Sinking) → ◌≡◌ {A = Holding K S} (holds.Sink a) (holds.Sink b) → a ≡ b
  same_sink a b e = ap (λ (x : Holding K S). sink_of x a) e

  -- how many are pending
  abbrev pub pending_in : Option (Holding K S) → ℕ
  pending_in (Some (holds.Sink sink)) = length sink.pending
  pending_in (Some (holds.Source offset)) = 0
  pending_in (Some (holds.Operator entries)) = 0
  pending_in None = 0

module _ {R K S : Type 0} (task : ℕ) where
  -- one more round
  pub each_more : (h m : Held R K S) (old mid : Ledger) (rounds : List (Held R K S × Ledger)) (k : Held R K S) (new : Ledger) → CommitsEach task h old rounds m mid → CommitsOne task m mid k new → CommitsEach task h old (rounds ++ (k, new) ∷ []) k new
  each_more h m old mid [] k new each one = (subst (λ (l : Ledger). CommitsOne task h l k new) each.1 (subst (λ (x : Held R K S). CommitsOne task x mid k new) each.0 one), (refl, refl))
  each_more h m old mid (next ∷ rounds) k new each one = (each.0, each_more next.0 m next.1 mid rounds k new each.1 one)

  -- the sink after a round
  pub sink_after : (h k : Held R K S) (old new : Ledger) (c : CommitsOne task h old k new) (sink : Sinking) → slice_get k.tasks task ≡ Some (holds.Sink sink) → sink ≡ record c.sink { pending = drop 1 (c.sink).pending }
  sink_after h k old new c sink at =
      let now : Holding K S = holds.Sink (record c.sink { pending = drop 1 (c.sink).pending }) in
      let there : slice_get k.tasks task ≡ Some now = ap (λ (x : Held R K S). slice_get x.tasks task) c.ends ∙ get_set_same h.tasks task now (slice_get_within h.tasks task (holds.Sink c.sink) (c.is_next).was) in
      same_sink sink (record c.sink { pending = drop 1 (c.sink).pending }) (same_Some (holds.Sink sink) now (sym at ∙ there))

  -- a round keeps what is kept of the sink
  pub sinks_kept : (subtask : ℕ) (h k : Held R K S) (old new : Ledger) → IsOrdered old → CommitsOne task h old k new → ((sink : Sinking) → slice_get h.tasks task ≡ Some (holds.Sink sink) → SinkIn old subtask sink)
      → (sink : Sinking) → slice_get k.tasks task ≡ Some (holds.Sink sink) → SinkIn new subtask sink
  sinks_kept subtask h k old new ordered c sinks sink at =
      let kept = (commit_in old _ subtask c.sink c.next ((c.next).checkpoint ∷ []) ordered (sinks c.sink (c.is_next).was) (c.is_next).oldest (on (c.next).checkpoint) refl).sink_in in
      subst (λ (l : Ledger). SinkIn l subtask sink) (sym c.commits) (subst (λ (x : Sinking). SinkIn (after_commit old (c.next).transaction) subtask x) (sym (sink_after h k old new c sink at)) kept)
    where
      same : (n : ℕ) → (n == n) ≡ true
      same n = elim (eqb_tells n n) [ inl e ↦ e.0 | inr e ↦ absurd (e.1 refl) ]

      on : (n : ℕ) → is_on (n ∷ []) n ≡ true
      on n = ap (λ (b : Bool). b || false) (same n)

  -- a round leaves one fewer
  pub fewer : (h k : Held R K S) (old new : Ledger) → CommitsOne task h old k new → pending_in (slice_get k.tasks task) < pending_in (slice_get h.tasks task)
  fewer h k old new c =
      let now : Holding K S = holds.Sink (record c.sink { pending = drop 1 (c.sink).pending }) in
      let there : slice_get k.tasks task ≡ Some now = ap (λ (x : Held R K S). slice_get x.tasks task) c.ends ∙ get_set_same h.tasks task now (slice_get_within h.tasks task (holds.Sink c.sink) (c.is_next).was) in
      let after : pending_in (slice_get k.tasks task) ≡ length (drop 1 (c.sink).pending) = ap pending_in there in
      let before : pending_in (slice_get h.tasks task) ≡ length (c.sink).pending = ap pending_in (c.is_next).was in
      omega (arith, after, before, shorter (c.sink).pending c.next (c.is_next).oldest)
    where
      shorter : (pending : List Pending) (p : Pending) → slice_get pending 0 ≡ Some p → length (drop 1 pending) < length pending
      shorter [] p e = absurd cc
      shorter (x ∷ xs) p e = omega arith

  -- after these rounds the device failed
  pub ends_failed : (graph : Expanded) (subtask : ℕ) → slice_get graph.tasks task ≡ Some (role.Sink subtask) → (h m : Held R K S) (old mid : Ledger) (rounds : List (Held R K S × Ledger)) → CommitsEach task h old rounds m mid
      → (k : Held R K S) (new : Ledger) (fault : CoreFault) → EndsRound task m k mid new (Err fault) → EndsCommit graph subtask h k old new (Err fault)
  ends_failed graph subtask is h m old mid rounds each k new CommitFault fails = (task, is, record { rounds = rounds; middle = (m, mid); each = each; fails = fails })
  ends_failed graph subtask is h m old mid rounds each k new other ends = absurd ends

  -- a round that answers true has committed one
  pub one_round : (h k : Held R K S) (old new : Ledger) (more : Bool) → more ≡ true → EndsRound task h k old new (Ok more) → CommitsOne task h old k new
  one_round h k old new true is ends = ends
  one_round h k old new false is ends = absurd cc
