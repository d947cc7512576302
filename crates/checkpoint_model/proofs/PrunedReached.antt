-- What a sound engine stands for is reached, and what its sinks have committed.
use Rattle.std.proofs.Common.{◌≡◌, ℕ, Bool, true, false, ◌⊎◌, inl, inr, List, [], ◌∷◌, ◌++◌, filter, length, All, Option, Some, None, refl, sym, ap, ◌∙◌, subst, append-nil}
use Rattle.std.proofs.lemmas.Option.{none-some, same_Some}
use Rattle.std.proofs.lemmas.List.Concat.{flat_map-append}
use Rattle.std.proofs.lemmas.List.Elements.{All-head, All-tail}
use Rattle.dataflow_model.specs.Graph.{Job}
use Rattle.dataflow_model.specs.Machine.{Configuration, Move, Reaches, start}
use Rattle.dataflow_model.proofs.Runs.{join}
use Rattle.checkpoint_model.specs.Attempt.{bare}
use Rattle.checkpoint_model.specs.Consistent.{cut_so_far}
use Rattle.checkpoint_model.specs.Durable.{Transaction, Devices, is_on, joined, transactions_of, settled, last_from, Succeed}
use Rattle.checkpoint_model.specs.Engine.{Running, IsRunning, IsSound}
use Rattle.checkpoint_model.specs.Seen.{seen_run}
use Rattle.checkpoint_model.specs.Pruned.{pruned_run, pruned_running, IsPrunedSound}
use Rattle.checkpoint_model.specs.PrunedLaws.{IsBare, SoundEnginesAreReached, SoundSinksHaveOneOpen, PrunedRunsKeepSound, PrunedCommittedUpToLast, PrunedSinksCommitTheirOutput}
use Rattle.checkpoint_model.proofs.Settled.{filter_no}
use Rattle.checkpoint_model.proofs.Moments.{plain_elsewhere}
use Rattle.checkpoint_model.proofs.Seen.{runs_sound, sinks_commit}
use Rattle.checkpoint_model.proofs.PrunedPlain.{pruned_bare}
use Rattle.checkpoint_model.proofs.Pruned.{seen_from_pruned, pruned_from_seen}

pub pending_or_not : (b : Bool) → (b ≡ true) ⊎ (b ≡ false)
pending_or_not true = inl refl
pending_or_not false = inr refl

filter_none : {A : Type 0} (p : A → Bool) (xs : List A) → All (λ x. p x ≡ false) xs → filter p xs ≡ []
filter_none p [] a = refl
filter_none p (x ∷ xs) a = filter_no p x xs (All-head (λ x. p x ≡ false) x xs a) ∙ filter_none p xs (All-tail (λ x. p x ≡ false) x xs a)

module _ {R K S O : Type 0} where
  to_last : (job : Job R K S O) (old : Configuration R K S) (cuts : List (Configuration R K S)) → Succeed job old cuts → (moves : List Move) × Reaches job moves old (last_from old cuts)
  to_last job old [] s = ([], refl)
  to_last job old (cut ∷ cuts) s =
      let rest = to_last job cut cuts s.1 in
      (s.0.0 ++ rest.0, join job s.0.0 rest.0 old cut (last_from cut cuts) s.0.1 rest.1)

module _ {R K S O B : Type 0} where
  from_base : (job : Job R K S O) (is_logged : ℕ → Bool) (spell : R → B) (base : Configuration R K S) (devices : Devices R K S B) (run : Running R K S) → IsRunning job is_logged spell base devices run → (moves : List Move) × Reaches job moves base (bare run.attempt)
  from_base job is_logged spell base devices run r =
      elim (pending_or_not run.attempt.pending) [
        | inl e ↦
            let c = r.consistent.1 e in
            (c.before.0 ++ c.since.0, join job c.before.0 c.since.0 base (cut_so_far job run.attempt) (bare run.attempt) c.before.1 c.since.2)
        | inr e ↦ (r.consistent.0 e).run
      ]

  -- what a running engine that is sound holds, with its outputs
  abbrev pub Whole : Job R K S O → (ℕ → Bool) → (R → B) → Devices R K S B → Running R K S → Type 0
  Whole job is_logged spell devices run = (full : Running R K S) × (pruned_run full ≡ run) × IsSound job is_logged spell devices (Some full)

  pub whole : (job : Job R K S O) (is_logged : ℕ → Bool) (spell : R → B) (devices : Devices R K S B) (run : Running R K S) → IsPrunedSound job is_logged spell devices (Some run) → Whole job is_logged spell devices run
  whole job is_logged spell devices run s = from s.running s.is_pruned s.sound
    where
      from : (running : Option (Running R K S)) → pruned_running running ≡ Some run → IsSound job is_logged spell devices running → Whole job is_logged spell devices run
      from None e s = absurd (none-some run e)
      from (Some full) e s = (full, same_Some (pruned_run full) run e, s)

  -- the plain configuration of an attempt, with no output but at sinks
  pub sound_reached : (job : Job R K S O) (spell : R → B) → SoundEnginesAreReached job spell
  sound_reached job spell is_logged devices run s =
      let w = whole job is_logged spell devices run s in
      let full = w.0 in
      let sound = w.2 in
      let base = last_from start sound.cuts in
      let first = to_last job start sound.cuts sound.legal.successive in
      let rest = from_base job is_logged spell base devices full sound.runs in
      let moves = first.0 ++ rest.0 in
      let reached : Reaches job moves start (bare full.attempt) = join job first.0 rest.0 start base (bare full.attempt) first.1 rest.1 in
      let b : IsBare job spell devices full (bare full.attempt) =
      record {
        offsets = λ task. refl;
        states = λ task. refl;
        channels = λ channel. refl;
        outputs =
            λ task sink.
            let f = sound.runs.sinks task sink in
            let k = devices.sinks task in
            let before = k.committed ++ transactions_of k.pre_committed in
            f.output
            ∙ ap (λ l. joined before ++ l) (sym (append-nil f.one.records))
            ∙ sym (flat_map-append (λ (t : Transaction B). t.records) before (f.one ∷ []))
            ∙ ap (λ l. joined (before ++ l)) (sym f.one_open);
        elsewhere = (plain_elsewhere job moves (bare full.attempt) reached).outputs;
      } in
      (moves, bare full.attempt, reached, subst (λ x. IsBare job spell devices x (bare full.attempt)) w.1 (pruned_bare job spell devices full (bare full.attempt) b))

  pub sound_one_open : (job : Job R K S O) (spell : R → B) → SoundSinksHaveOneOpen job spell
  sound_one_open job spell is_logged devices run task s sink =
      let f = (whole job is_logged spell devices run s).2.runs.sinks task sink in
      (f.one, f.one_open)

  pub pruned_runs_sound : (job : Job R K S O) (spell : R → B) → PrunedRunsKeepSound job spell
  pruned_runs_sound job spell is_logged old new run next receivers step s =
      pruned_from_seen job is_logged spell new (Some (seen_run next)) (runs_sound job spell is_logged old new run next receivers step (seen_from_pruned job is_logged spell old (Some run) s))

  pub pruned_up_to_last : (job : Job R K S O) (spell : R → B) → PrunedCommittedUpToLast job spell
  pruned_up_to_last job spell is_logged engine task s sink none =
      let k = engine.devices.sinks task in
      let line = engine.devices.store.line in
      let all : settled line k ≡ k.committed = ap (λ l. k.committed ++ transactions_of l) (filter_none (λ p. is_on line p.checkpoint) k.pre_committed none) ∙ append-nil k.committed in
      ap length (sym all) ∙ s.sound.legal.settled_each task sink

  pub pruned_sinks_commit : (job : Job R K S O) (spell : R → B) → PrunedSinksCommitTheirOutput job spell
  pruned_sinks_commit job spell is_logged engine task sink s = sinks_commit job spell is_logged engine task sink (seen_from_pruned job is_logged spell engine.devices engine.running s)
