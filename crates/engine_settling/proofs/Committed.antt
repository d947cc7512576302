-- The last complete checkpoint, and that a sink which has committed all has committed it.
use Rattle.std.proofs.Common.{◌≡◌, ◌≢◌, ◌≤◌, ◌<◌, ◌==◌, ◌++◌, inl, inr, cond, Bool, true, false, Option, Some, None, Ok, ℕ, suc, List, [], ◌∷◌, filter, slice_get, length, refl, sym, ap, subst, ◌∙◌, append-nil, arith}
use Rattle.std.proofs.lemmas.Bool.{cases_eq, cases_lt, ne_eqb}
use Rattle.std.proofs.lemmas.List.Elements.{filter-append}
use Rattle.commit_sink.specs.Ledger.{Ledger, Transaction, transaction_at, is_of}
use Rattle.job_graph.specs.Expanded.{Expanded}
use Rattle.job_graph.specs.declared.role.Role.TheVariants as role
use Rattle.job_state.specs.Held.{Held}
use Rattle.snapshot_store.specs.Store.{Stored, IsNumbered, is_complete}
use Rattle.engine_model.specs.AllRules.{AllRules}
use Rattle.engine_model.specs.Calls.{EndsComplete}
use Rattle.engine_model.specs.Commits.{CommitsOne, CommitsEach, EndsCommit}
use Rattle.engine_model.specs.Keeps.{Keeps, PendingIn, RunsIn, SinkIn}
use Rattle.engine_model.specs.Language.{Language}
use Rattle.engine_model.specs.LastCommitted.{committed_of, complete_numbers, last_of_first, last_committed}
use Rattle.engine_model.specs.Sound.{IsSound}
use Rattle.engine_model.specs.State.{State}
use Rattle.engine_model.proofs.Calls.Commits.{keeps_round}
use Rattle.engine_model.proofs.Calls.Goes.{after, runs_of}
use Rattle.engine_model.proofs.Calls.Lasts.{commits_reach}
use Rattle.engine_model.proofs.Ledger.Calls.{committed_one, with_committed, commit_now, commit_stays}
use Rattle.engine_model.proofs.Ledger.Places.{Writes, writes}
use Rattle.engine_model.proofs.Ledger.Sinks.{first_pending}
use Rattle.engine_model.proofs.Sounds.{keeps_as_fresh}
use Rattle.engine_model.proofs.Store.Complete.{completed_last, numbered_pending_completed}
use Rattle.engine_model.proofs.Store.Runs.{runs_pending}
use Rattle.engine_model.proofs.Store.View.{last_of_line}

-- ---- the last complete checkpoint

pub at_end : (front : List ℕ) (n : ℕ) → slice_get (front ++ n ∷ []) (length front) ≡ Some n
at_end [] n = refl
at_end (x ∷ front) n = at_end front n

pub length_end : (front : List ℕ) (n : ℕ) → length (front ++ n ∷ []) ≡ suc (length front)
length_end [] n = refl
length_end (x ∷ front) n = ap suc (length_end front n)

-- The greatest complete number is the last of all that are complete.
pub last_is : (stored : Stored) (n : ℕ) → IsNumbered stored → is_complete stored n ≡ true → ((other : ℕ) → is_complete stored other ≡ true → other ≤ n)
    → last_of_first stored (length (complete_numbers stored)) ≡ Some n
last_is stored n numbered complete greatest =
    let line = last_of_line stored n numbered complete greatest in
    ap (last_of_first stored) (ap (λ (xs : List ℕ). length xs) line.1 ∙ length_end line.0 n) ∙ ap (λ (xs : List ℕ). slice_get xs (length line.0)) line.1 ∙ at_end line.0 n

-- A subtask that has committed once for each complete checkpoint has committed the last one.
pub committed_last : (stored : Stored) (ledger : Ledger) (subtask n : ℕ) → IsNumbered stored → is_complete stored n ≡ true → ((other : ℕ) → is_complete stored other ≡ true → other ≤ n)
    → length (committed_of ledger subtask) ≡ length (complete_numbers stored) → last_committed stored ledger subtask ≡ Some n
committed_last stored ledger subtask n numbered complete greatest each = ap (last_of_first stored) each ∙ last_is stored n numbered complete greatest

module _ {R K S O : Type 0} (lang : Language R K S O) where
  -- A checkpoint that completes is the greatest complete one, and nothing is pending after it.
  pub completed_is : (graph : Expanded) (h k : Held R K S) (old new : Stored) (n : ℕ) → PendingIn lang graph old h n → IsNumbered old → EndsComplete h k old new (Ok n)
      → (is_complete new n ≡ true) × ((other : ℕ) → is_complete new other ≡ true → other ≤ n) × (k.coordination.pending ≡ None) × IsNumbered new
  completed_is graph h k old new n pending numbered ends =
      let last = completed_last lang graph old h n pending in
      let at = ap (λ (x : Stored). is_complete x n) ends.2 ∙ last.0 in
      let above : (other : ℕ) → is_complete new other ≡ true → other ≤ n = λ other e. last.1 other (sym (ap (λ (x : Stored). is_complete x other) ends.2) ∙ e) in
      (at, above, ap (λ (x : Held R K S). x.coordination.pending) ends.3, subst IsNumbered (sym ends.2) (numbered_pending_completed lang graph old h n pending numbered))

  -- So it is of a running engine.
  pub completed_runs : (s : State O R K S) (h k : Held R K S) (new : Stored) (n : ℕ) → RunsIn lang s h → IsNumbered s.stored → EndsComplete h k s.stored new (Ok n)
      → (is_complete new n ≡ true) × ((other : ℕ) → is_complete new other ≡ true → other ≤ n) × (k.coordination.pending ≡ None) × IsNumbered new
  completed_runs s h k new n runs numbered ends = completed_is s.graph h k s.stored new n (runs_pending lang s h runs n ends.0) numbered ends

-- ---- commits

-- whose a transaction is
abbrev is_subtask_in : ℕ → Option Transaction → Bool
is_subtask_in subtask o = elim o [ None ↦ false | Some t ↦ t.subtask == subtask ]

filter_same : (p q : ℕ → Bool) (xs : List ℕ) → ((x : ℕ) → p x ≡ q x) → filter p xs ≡ filter q xs
filter_same p q [] same = refl
filter_same p q (x ∷ xs) same = ap (λ (b : Bool). cond b (x ∷ filter p xs) (filter p xs)) (same x) ∙ ap (λ (ys : List ℕ). cond (q x) (x ∷ ys) ys) (filter_same p q xs same)

-- a transaction that becomes committed stays its subtask's
module _ (old : Ledger) (n : ℕ) (u : Transaction) (at : transaction_at old n ≡ Some u) where
  abbrev now : Ledger
  now = with_committed old n u

  same_owner : (other m : ℕ) → is_of now other m ≡ is_of old other m
  same_owner other m =
      let w : Writes old now n (committed_one u) = writes old now n u (committed_one u) at refl in
      elim (cases_eq m n) [
        | inl same ↦
            ap (λ (k : ℕ). is_of now other k) same ∙ ap (is_subtask_in other) w.here ∙ sym (ap (is_subtask_in other) at) ∙ sym (ap (λ (k : ℕ). is_of old other k) same)
        | inr apart ↦ ap (is_subtask_in other) (w.elsewhere m apart)
      ]

  committed_apart : (other : ℕ) → (other ≡ u.subtask → ⊥) → committed_of now other ≡ committed_of old other
  committed_apart other apart =
      let not_its : is_of old other n ≡ false = ap (is_subtask_in other) at ∙ ne_eqb u.subtask other (λ e. apart (sym e)) in
      let dropped : filter (is_of old other) (n ∷ []) ≡ [] = ap (λ (b : Bool). cond b (n ∷ []) []) not_its in
      filter_same (is_of now other) (is_of old other) (old.committed ++ n ∷ []) (same_owner other) ∙ filter-append (is_of old other) old.committed (n ∷ [])
      ∙ ap (λ (xs : List ℕ). committed_of old other ++ xs) dropped ∙ append-nil (committed_of old other)

module _ {R K S O : Type 0} (rules : AllRules R K S O) (task sink other : ℕ) (apart : other ≢ sink) where
  apart_one : (s : State O R K S) (h : Held R K S) → Keeps rules s → s.held ≡ Some h → slice_get s.graph.tasks task ≡ Some (role.Sink sink)
      → (k : Held R K S) (ledger : Ledger) → CommitsOne task h s.ledger k ledger → committed_of ledger other ≡ committed_of s.ledger other
  apart_one s h keeps was is k ledger c =
      let sink_in : SinkIn s.ledger sink c.sink = (runs_of rules s keeps h was).sinks task sink c.sink is c.is_next.was in
      let p = c.next in
      let i = first_pending s.ledger sink c.sink p sink_in c.is_next.oldest in
      elim i.3 [
        | inl pre ↦
            ap (λ (l : Ledger). committed_of l other) (c.commits ∙ commit_now s.ledger p.transaction i.0 i.1 p.checkpoint pre)
            ∙ committed_apart s.ledger p.transaction i.0 i.1 other (λ e. apart (e ∙ i.2))
        | inr already ↦ ap (λ (l : Ledger). committed_of l other) (c.commits ∙ commit_stays s.ledger p.transaction i.0 i.1 already)
      ]

  apart_each : (rounds : List (Held R K S × Ledger)) (s : State O R K S) (h : Held R K S) → Keeps rules s → s.held ≡ Some h → slice_get s.graph.tasks task ≡ Some (role.Sink sink)
      → (k : Held R K S) (ledger : Ledger) → CommitsEach task h s.ledger rounds k ledger → committed_of ledger other ≡ committed_of s.ledger other
  apart_each [] s h keeps was is k ledger c = ap (λ (l : Ledger). committed_of l other) c.1
  apart_each (next ∷ rest) s h keeps was is k ledger c =
      apart_each rest (after s (Some next.0) s.stored next.1 0) next.0 (keeps_round rules task sink 0 s keeps h was is next.0 next.1 c.0).0 refl is k ledger c.1
      ∙ apart_one s h keeps was is next.0 next.1 c.0

module _ {R K S O : Type 0} (rules : AllRules R K S O) (s : State O R K S) (keeps : Keeps rules s) (h : Held R K S) (was : s.held ≡ Some h) where
  -- A commit at one sink subtask leaves what another has committed.
  pub commits_apart : (sink : ℕ) (k : Held R K S) (ledger : Ledger) (u : Unit {0}) → EndsCommit s.graph sink h k s.ledger ledger (Ok u) → (other : ℕ) → other ≢ sink → committed_of ledger other ≡ committed_of s.ledger other
  commits_apart sink k ledger u ends other apart = apart_each rules ends.0 sink other apart (ends.2).rounds s h keeps was ends.1 k ledger (ends.2).each

  -- A commit that is answered Ok at a sound engine leaves its subtask with as many committed transactions as there are complete checkpoints.
  pub commits_reach_sound : IsSound rules s → (sink : ℕ) (k : Held R K S) (ledger : Ledger) (u : Unit {0}) → EndsCommit s.graph sink h k s.ledger ledger (Ok u)
      → length (committed_of ledger sink) ≡ length (complete_numbers s.stored)
  commits_reach_sound sound sink k ledger u ends =
      commits_reach rules (record s { is_fresh = true }) (keeps_as_fresh rules s keeps sound) refl h was sink k ledger u ends

  -- So commits at one sink subtask after another, in their order, leave each with as many.
  pub commits_through : IsSound rules s → (sink : ℕ) (k : Held R K S) (ledger : Ledger) (u : Unit {0}) → EndsCommit s.graph sink h k s.ledger ledger (Ok u)
      → ((done : ℕ) → done < sink → length (committed_of s.ledger done) ≡ length (complete_numbers s.stored))
      → (done : ℕ) → done < suc sink → length (committed_of ledger done) ≡ length (complete_numbers s.stored)
  commits_through sound sink k ledger u ends before done within =
      elim (cases_lt done sink) [
        | inl less ↦ ap (λ (xs : List ℕ). length xs) (commits_apart sink k ledger u ends done (λ e. omega (arith, less, e))) ∙ before done less
        | inr more ↦
            let same : done ≡ sink = omega (arith, within, more) in
            ap (λ (m : ℕ). length (committed_of ledger m)) same ∙ commits_reach_sound sound sink k ledger u ends
      ]
