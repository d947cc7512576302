-- A plain run comes to the cut of the last complete checkpoint.
use Rattle.std.proofs.Common.{◌≡◌, ℕ, suc, ◌+◌, List, [], ◌∷◌, ◌++◌, length, take, slice_get, Option, Some, None, refl, sym, ap, ◌∙◌, subst, arith, length-append, take_at}
use Rattle.std.proofs.lemmas.List.{append-nil}
use Rattle.std.proofs.lemmas.Option.{none-some}
use Rattle.dataflow_model.specs.Graph.{Job}
use Rattle.checkpoint_model.specs.Attempt.{Attempt}
use Rattle.checkpoint_model.specs.Cuts.{LastCutsAreReached, RestartsAreReached}
use Rattle.checkpoint_model.specs.Durable.{joined, settled}
use Rattle.checkpoint_model.specs.Engine.{Running, IsSound}
use Rattle.checkpoint_model.specs.Pruned.{pruned, pruned_running, pruned_run}
use Rattle.checkpoint_model.proofs.Headline.{get_within}
use Rattle.checkpoint_model.proofs.Moments.{successive, plain_elsewhere}
use Rattle.checkpoint_model.proofs.Restarting.{restarts}
use Rattle.checkpoint_model.proofs.Seen.{one_seen_base}

-- what stands behind the first ones
at_end : (front : List ℕ) (n : ℕ) → slice_get (front ++ n ∷ []) (length front) ≡ Some n
at_end [] n = refl
at_end (x ∷ front) n = at_end front n

take_all : {A : Type 0} (xs : List A) (k : ℕ) → length xs ≡ k → take k xs ≡ xs
take_all xs k e = ap (take k) (sym (append-nil xs)) ∙ take_at xs [] k e

down_is : {R K S : Type 0} (running : Option (Running R K S)) → pruned_running running ≡ None → running ≡ None
down_is None e = refl
down_is (Some run) e = absurd (none-some (pruned_run run) (sym e))

module _ {R K S O B : Type 0} where
  pub last_cuts : (job : Job R K S O) (spell : R → B) → LastCutsAreReached job spell
  last_cuts job spell is_logged engine front n s e =
      let sound = s.sound in
      let l = sound.legal in
      let devices = engine.devices in
      let long : length devices.store.line ≡ length front + 1 = ap length e ∙ length-append front (n ∷ []) in
      let m = successive job sound.cuts l.successive in
      let cut = get_within sound.cuts (length front) (omega (arith, long, l.one_each)) in
      let moment = get_within m.1 (length front) (omega (arith, long, l.one_each, m.2.one_each)) in
      let at = m.2.at_each (length front) moment.0 cut.0 cut.1 moment.1 in
      record {
        moves = take moment.0 m.0;
        cut = cut.0;
        reached = at.1;
        parts = l.parts (length front) cut.0 n cut.1 (ap (λ (line : List ℕ). slice_get line (length front)) e ∙ at_end front n) (l.last_parts front n e);
        outputs = λ task sink.
            let all = settled devices.store.line (devices.sinks task) in
            let many : length all ≡ suc (length front) = omega (arith, l.settled_each task sink, long) in
            l.outputs (length front) cut.0 task cut.1 sink ∙ ap joined (take_all all (suc (length front)) many);
      }

  pub restarts_reached : (job : Job R K S O) (spell : R → B) → RestartsAreReached job spell
  restarts_reached job spell is_logged devices seen receivers settled_all s restored =
      let sound = subst (λ (r : Option (Running R K S)). IsSound job is_logged spell devices r) (down_is s.running s.is_pruned) s.sound in
      let r = restarts job spell is_logged devices 0 (λ task. []) settled_all sound in
      let plain = plain_elsewhere job r.1 r.0 r.2 in
      let same = one_seen_base job spell devices sound.cuts r.0 seen receivers sound.legal r.3 r.4 plain.tasks plain.channels restored in
      let begin : Attempt R K S → Running R K S = λ a. record { attempt = pruned a; number = 0; named = λ task. [] } in
      record {
        moves = r.1;
        base = r.0;
        reached = r.2;
        restored = record { parts = r.3; from_start = r.4; outputs = r.5; elsewhere = plain };
        is_seen = ap begin same;
      }
