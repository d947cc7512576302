-- Calls one after another.
use Rattle.std.proofs.Common.{◌≡◌, ◌≢◌, Option, Some, None, Result, Err, MatchOption, ℕ, List, [], ◌∷◌, ◌++◌, refl, sym, ap, subst, ◌∙◌, append_assoc}
use Rattle.std.proofs.lemmas.List.{append-nil}
use Rattle.commit_sink.specs.Ledger.{Ledger, committed_rows}
use Rattle.dataflow_model.specs.Graph.{Begins}
use Rattle.dataflow_model.specs.Machine.{Configuration, Move, Reaches}
use Rattle.dataflow_model.proofs.Runs.{join}
use Rattle.job_state.specs.Held.{Held}
use Rattle.snapshot_store.specs.Store.{Stored}
use Rattle.engine_model.specs.AllRules.{AllRules}
use Rattle.engine_model.specs.Language.{Language}
use Rattle.engine_model.specs.State.{State}
use Rattle.engine_model.specs.View.{job_of}
use Rattle.engine_model.specs.declared.fault.CoreFault.{CoreFault}
use Rattle.engine_model.specs.declared.fault.CoreFault.TheVariants.{NotRunning}
use Rattle.engine_model.proofs.Calls.Goes.{after, goes_on}
use Rattle.engine_plain.specs.Plain.{StandsFor, StepsBy, Stays}
use Rattle.engine_plain.proofs.Stands.{stays_same}
use Rattle.engine.specs.Running.{WhileRunning}
use Rattle.engine_rounds.specs.Works.{MovesBy, Works}

match_map : {A : Type 0} {P Q : A → Type 0} (o : Option A) → ((a : A) → P a → Q a) → MatchOption o (Unit {0}) P → MatchOption o (Unit {0}) Q
match_map None f m = tt
match_map (Some a) f m = f a m

match_any : {A P : Type 0} (o : Option A) → P → MatchOption o (Unit {0}) (λ a. P)
match_any None p = tt
match_any (Some a) p = p

begins_on : {A : Type 0} (xs ys zs : List A) → Begins xs ys → Begins ys zs → Begins xs zs
begins_on xs ys zs one two = (one.0 ++ two.0, two.1 ∙ ap (λ l. l ++ two.0) one.1 ∙ append_assoc xs one.0 two.0)

pub begins_same : {A : Type 0} (xs ys : List A) → ys ≡ xs → Begins xs ys
begins_same xs ys e = ([], e ∙ sym (append-nil xs))

module _ {R K S O : Type 0} where
  -- all but what calls on a running job change is as before
  abbrev pub IsLike : State O R K S → State O R K S → Type 0
  IsLike old new = new ≡ record old { stored = new.stored; ledger = new.ledger; held = new.held; faults = new.faults }

  pub like_same : (old new : State O R K S) → new ≡ old → IsLike old new
  like_same old new same = subst (λ (x : State O R K S). IsLike old x) (sym same) refl

  pub like_after : (old new : State O R K S) (held : Option (Held R K S)) (stored : Stored) (ledger : Ledger) (n : ℕ) → new ≡ after old held stored ledger n → IsLike old new
  like_after old new held stored ledger n same = subst (λ (x : State O R K S). IsLike old x) (sym same) refl

  module _ {T : Type 0} (old new : State O R K S) (Ends : Held R K S → Held R K S → Result T CoreFault → Type 0) (result : Result T CoreFault) (leaves : Held R K S → State O R K S) (ends : WhileRunning old new Ends result leaves) where
    -- such a call on a running job
    pub record Ran : Type 0 where
      pub h : Held R K S
      pub k : Held R K S
      pub was : old.held ≡ Some h
      pub ended : Ends h k result
      pub is : new ≡ leaves k

    pub ran : old.held ≢ None → Ran
    ran running = of old.held refl ends
      where
        of : (o : Option (Held R K S)) → old.held ≡ o → MatchOption o ((result ≡ Err NotRunning) × (new ≡ old)) (λ h. (k : Held R K S) × Ends h k result × (new ≡ leaves k)) → Ran
        of None none e = absurd (running none)
        of (Some h) some e = record { h = h; k = e.0; was = some; ended = e.1; is = e.2 }

    pub like : ((k : Held R K S) → IsLike old (leaves k)) → IsLike old new
    like each = of old.held ends
      where
        of : (o : Option (Held R K S)) → MatchOption o ((result ≡ Err NotRunning) × (new ≡ old)) (λ h. (k : Held R K S) × Ends h k result × (new ≡ leaves k)) → IsLike old new
        of None e = like_same old new e.1
        of (Some h) e = subst (λ (x : State O R K S). IsLike old x) (sym e.2) (each e.0)

    pub stays_down : old.held ≡ None → new.held ≡ None
    stays_down down =
        let e = subst (λ (o : Option (Held R K S)). MatchOption o ((result ≡ Err NotRunning) × (new ≡ old)) (λ h. (k : Held R K S) × Ends h k result × (new ≡ leaves k))) down ends in
        ap (λ (s : State O R K S). s.held) e.1 ∙ down

module _ {R K S O : Type 0} (lang : Language R K S O) where
  pub moves_none : (old new : State O R K S) → Stays lang old new → MovesBy lang [] old new
  moves_none old new stays at stands = match_map new.held (λ (h : Held R K S) (s : StandsFor lang new at). (at, refl, s)) (stays at stands)

  pub moves_one : (move : Move) (old new : State O R K S) → StepsBy lang move old new → MovesBy lang (move ∷ []) old new
  moves_one move old new steps at stands =
      let s = steps at stands in
      match_any new.held (s.0, (s.0, s.1, refl), s.2)

module _ {R K S O : Type 0} (rules : AllRules R K S O) where
  -- nothing is done
  pub works_none : (old new : State O R K S) → new ≡ old → Works rules [] old new
  works_none old new same =
      subst (λ (x : State O R K S). Works rules [] old x) (sym same)
      (record {
        goes = ([], refl);
        sound = λ sound. sound;
        same = refl;
        down = λ down. down;
        begins = λ task subtask at. begins_same (committed_rows old.ledger subtask) (committed_rows old.ledger subtask) refl;
        moves_by = moves_none rules.lang old old (stays_same rules.lang old old refl);
      })

  -- one call after another
  module _ (one two : List Move) (old new : State O R K S) where
    abbrev Moved : Configuration R K S → List Move → State O R K S → Type 0
    Moved at moves s = (last : Configuration R K S) × Reaches (job_of rules.lang old) moves at last × StandsFor rules.lang s last

    both_after : (held : Option (Held R K S)) (stored : Stored) (ledger : Ledger) (n : ℕ) → Works rules one old (after old held stored ledger n) → Works rules two (after old held stored ledger n) new
        → Works rules (one ++ two) old new
    both_after held stored ledger n first then =
        record {
          goes = goes_on rules.lang old held stored ledger n new first.goes then.goes;
          sound = λ sound. then.sound (first.sound sound);
          same = then.same;
          down = λ down. then.down (first.down down);
          begins = λ task subtask at. begins_on (committed_rows old.ledger subtask) (committed_rows ledger subtask) (committed_rows new.ledger subtask) (first.begins task subtask at) (then.begins task subtask at);
          moves_by = λ at stands. of held refl at (first.moves_by at stands);
        }
      where
        middle : State O R K S
        middle = after old held stored ledger n

        of : (o : Option (Held R K S)) → held ≡ o → (at : Configuration R K S) → MatchOption o (Unit {0}) (λ h. Moved at one middle) → MatchOption new.held (Unit {0}) (λ h. Moved at (one ++ two) new)
        of None none at m = subst (λ (o : Option (Held R K S)). MatchOption o (Unit {0}) (λ h. Moved at (one ++ two) new)) (sym (then.down none)) tt
        of (Some h) some at m =
            match_map new.held (λ (k : Held R K S) (rest : Moved m.0 two new). (rest.0, join (job_of rules.lang old) one two at m.0 rest.0 m.1 rest.1, rest.2)) (then.moves_by m.0 m.2)

    pub works_both : (middle : State O R K S) → Works rules one old middle → Works rules two middle new → Works rules (one ++ two) old new
    works_both middle first then =
        both_after middle.held middle.stored middle.ledger middle.faults
        (subst (λ (x : State O R K S). Works rules one old x) first.same first)
        (subst (λ (x : State O R K S). Works rules two x new) first.same then)
