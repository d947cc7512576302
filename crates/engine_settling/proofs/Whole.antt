-- Where the last complete checkpoint's cut is at rest and each sink has committed it, each sink has committed the whole output of a run that has ended.
use Rattle.std.proofs.Common.{◌≡◌, Some, slice_get, length, take, map, ℕ, suc, List, refl, sym, ap, subst, ◌∙◌, arith}
use Rattle.std.proofs.lemmas.Option.{same_Some}
use Rattle.checkpoint_model.specs.Durable.{Store, HasParts, IsCutOf}
use Rattle.checkpoint_model.proofs.Headline.{get_within}
use Rattle.commit_sink.specs.Ledger.{committed_rows}
use Rattle.dataflow_model.specs.Graph.{Task, Job}
use Rattle.dataflow_model.specs.Machine.{Configuration, Move, Read, Work, start, mover, handled, after, Takes, Reaches, IsAtRest}
use Rattle.dataflow_model.proofs.Runs.{ends}
use Rattle.snapshot_store.specs.Store.{IsNumbered}
use Rattle.engine_model.specs.ExactlyOnce.{IsExactlyOnce}
use Rattle.engine_model.specs.Language.{Language}
use Rattle.engine_model.specs.LastCommitted.{complete_numbers}
use Rattle.engine_model.specs.State.{State}
use Rattle.engine_model.specs.View.{job_of, store_of}
use Rattle.engine_model.proofs.Store.View.{last_of_line}
use Rattle.engine_settling.specs.Resting.{CutRests}
use Rattle.engine_settling.specs.Settled.{IsCompleted, IsCommitted}
use Rattle.engine_settling.specs.Whole.{IsWhole}
use Rattle.engine_settling.proofs.Committed.{at_end, length_end}

-- what can be done at one cut of a checkpoint can be done at another
module _ {R K S O : Type 0} (job : Job R K S O) (store : Store R K S) (n : ℕ) (parts : HasParts job store n) (c d : Configuration R K S) (one : IsCutOf job store n c) (two : IsCutOf job store n d) where
  takes_as : (move : Move) (kind : Task O) (r : R) → slice_get job.graph.tasks (mover move) ≡ Some kind → Takes job move kind r d → Takes job move kind r c
  takes_as (Read task) kind r is t =
      let part = parts task kind is in
      let same : (c.tasks task).offset ≡ (d.tasks task).offset = one.offsets task part.0 kind is part.1 ∙ sym (two.offsets task part.0 kind is part.1) in
      (t.0, t.1, ap (slice_get (job.partitions t.0)) same ∙ t.2)
  takes_as (Work task input) kind r is t =
      let part = parts t.0.receiver kind (ap (slice_get job.graph.tasks) t.3 ∙ is) in
      let same : c.channels input ≡ d.channels input = one.channels input t.0 part.0 t.2 part.1 ∙ sym (two.channels input t.0 part.0 t.2 part.1) in
      (t.0, t.1, t.2, t.3, ap (λ (rows : List R). slice_get rows 0) same ∙ t.4)

  pub rests_as : IsAtRest job c → IsAtRest job d
  rests_as rests move possible =
      let step = possible.1 in
      rests move (
        after job move (handled job.meaning step.kind (c.tasks (mover move)) step.taken) c,
        record { kind = step.kind; taken = step.taken; is_task = step.is_task; takes = takes_as move step.kind step.taken step.is_task step.takes; ends = refl },
      )

module _ {R K S O : Type 0} (lang : Language R K S O) (s : State O R K S) where
  -- what one run has put out at its end is one list
  output_one : (moves : List Move) (a b : Configuration R K S) (task : ℕ) (rows : List (List ℕ)) → Reaches (job_of lang s) moves start a → Reaches (job_of lang s) moves start b
      → map lang.spelling (b.tasks task).output ≡ rows → map lang.spelling (a.tasks task).output ≡ rows
  output_one moves a b task rows one two is = ap (λ (c : Configuration R K S). map lang.spelling (c.tasks task).output) (ends (job_of lang s) moves start a b one two) ∙ is

  pub is_whole : (n : ℕ) → IsNumbered s.stored → IsExactlyOnce lang s → IsCompleted s n → CutRests lang s n → IsCommitted s n → IsWhole lang s
  is_whole n numbered exact completed rests committed =
      let line = last_of_line s.stored n numbered completed.complete completed.last in
      let j : ℕ = length line.0 in
      let many : length (complete_numbers s.stored) ≡ suc j = ap (λ (xs : List ℕ). length xs) line.1 ∙ length_end line.0 n in
      let on : slice_get (complete_numbers s.stored) j ≡ Some n = ap (λ (xs : List ℕ). slice_get xs j) line.1 ∙ at_end line.0 n in
      let moment = get_within exact.moments j (omega (arith, many, exact.one_each)) in
      let cut = exact.cuts j n moment.0 on moment.1 rests.parts in
      record {
        moves = take moment.0 exact.moves;
        last = cut.0;
        reached = cut.1.1;
        rests = rests_as (job_of lang s) (store_of lang s.stored) n rests.parts rests.cut cut.0 rests.is_cut cut.2 rests.rests;
        whole = λ task subtask is.
            let x = exact.exactly task subtask j is ((committed task subtask is).1 ∙ many) in
            let same : x.0 ≡ moment.0 = same_Some x.0 moment.0 (sym x.2 ∙ moment.1) in
            output_one (take moment.0 exact.moves) cut.0 x.1 task (committed_rows s.ledger subtask) cut.1.1 (subst (λ (m : ℕ). Reaches (job_of lang s) (take m exact.moves) start x.1) same x.3.1) x.4;
      }
