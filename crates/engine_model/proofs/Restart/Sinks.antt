-- What settling transactions leaves, on any engine.
use Rattle.std.proofs.Common.{◌≡◌, ◌⊎◌, ◌+◌, inl, inr, Option, Some, slice_get, length, ℕ, suc, List, [], ◌∷◌, ◌++◌, refl, sym, ap, ◌∙◌, subst, append-nil, arith}
use Rattle.std.proofs.lemmas.Bool.Decides.{eqb_tells}
use Rattle.std.proofs.lemmas.List.{length-append}
use Rattle.std.proofs.lemmas.Option.{same_Some, slice_get_within}
use Rattle.checkpoint_model.specs.Durable as durable
use Rattle.checkpoint_model.specs.Durable.{joined, AbortsOpen, AbortsPreCommitted}
use Rattle.checkpoint_model.proofs.Settled.{begins_more}
use Rattle.commit_sink.specs.Ledger.{Ledger, IsOrdered, begun, unsettled_of}
use Rattle.commit_sink.specs.Sink.{Sinking}
use Rattle.dataflow_model.specs.Graph.{Begins}
use Rattle.job_graph.proofs.LinkLemmas.{slice_get_push}
use Rattle.job_graph.specs.Expanded.{Expanded, IsExpanded}
use Rattle.job_graph.specs.declared.role.Role.TheVariants as role
use Rattle.job_state.specs.declared.holding.Holding.{Holding}
use Rattle.job_state.specs.declared.holding.Holding.TheVariants as holds
use Rattle.task_part.specs.Spelling.{Logs}
use Rattle.engine_model.specs.Keeps.{SinkIn}
use Rattle.engine_model.specs.Restart.{InTurn, CommitsNext, AbortsNext, Settles, SettlesPartly, NamesOther, Takes, Settling}
use Rattle.engine_model.specs.declared.start.Start.{Start}
use Rattle.engine_model.specs.declared.start.Start.TheVariants as start
use Rattle.engine_model.proofs.Ledger.Calls.{commit_now, commit_stays, abort_now}
use Rattle.engine_model.proofs.Ledger.Devices.{sinks_apart}
use Rattle.engine_model.proofs.Ledger.Settle.{abort_first, first_there, begin_settled, all_named, named_none}
use Rattle.engine_model.proofs.Ledger.Shares.{share}
use Rattle.engine_model.proofs.Restart.Starts.{takes_one}
use Rattle.engine_model.proofs.Restart.Rows.{may_commit, commit_begins, commit_keeps_settled}

-- ---- the rows

-- no committed record is withdrawn, and the ledger stays ordered
pub record KeepsRows (old new : Ledger) : Type 0 where
  pub ordered : IsOrdered new
  pub subtasks : new.subtasks ≡ old.subtasks
  pub rows : (s : ℕ) → Begins (joined (share old s).committed) (joined (share new s).committed)

pub rows_same : (old new : Ledger) → IsOrdered old → new ≡ old → KeepsRows old new
rows_same old new ordered e = record {
  ordered = subst IsOrdered (sym e) ordered;
  subtasks = ap (λ (l : Ledger). l.subtasks) e;
  rows = λ s. ([], ap (λ (l : Ledger). joined (share l s).committed) e ∙ sym (append-nil (joined (share old s).committed)));
}

pub rows_then : (old middle new : Ledger) → KeepsRows old middle → KeepsRows middle new → KeepsRows old new
rows_then old middle new first rest = record {
  ordered = rest.ordered;
  subtasks = rest.subtasks ∙ first.subtasks;
  rows = λ s. begins_more (joined (share old s).committed) (joined (share middle s).committed) (joined (share new s).committed) (first.rows s) (rest.rows s);
}

-- the sinks of other subtasks that have settled stay so
abbrev pub OthersSettled : ℕ → Ledger → Ledger → Type 0
OthersSettled subtask old new = (other : ℕ) (sink : Sinking) → (other ≡ subtask → ⊥) → sink.pending ≡ [] → SinkIn old other sink → SinkIn new other sink

-- what is left once one subtask's transactions were settled, or some of them
pub record Leaves (subtask : ℕ) (old new : Ledger) : Type 0 where
  pub rows : KeepsRows old new
  pub others : OthersSettled subtask old new

pub leaves_same : (subtask : ℕ) (old new : Ledger) → IsOrdered old → new ≡ old → Leaves subtask old new
leaves_same subtask old new ordered e = record { rows = rows_same old new ordered e; others = λ other sink apart none s. subst (λ (l : Ledger). SinkIn l other sink) (sym e) s }

pub leaves_then : (subtask : ℕ) (old middle new : Ledger) → Leaves subtask old middle → Leaves subtask middle new → Leaves subtask old new
leaves_then subtask old middle new first rest = record {
  rows = rows_then old middle new first.rows rest.rows;
  others = λ other sink apart none s. rest.others other sink apart none (first.others other sink apart none s);
}

-- ---- commits

leaves_commit : (subtask n : ℕ) (old new : Ledger) → IsOrdered old → CommitsNext n old new → Leaves subtask old new
leaves_commit subtask n old new ordered c = record {
  rows = record {
    ordered = c.ordered;
    subtasks =
        let m = may_commit old n c.may in
        elim m.is [
          | inl is ↦ ap (λ (l : Ledger). l.subtasks) (c.ends ∙ commit_stays old n m.was m.at is)
          | inr is ↦ ap (λ (l : Ledger). l.subtasks) (c.ends ∙ commit_now old n m.was m.at is.0 is.1)
        ];
    rows = λ s. commit_begins old new n s ordered c.may c.ends;
  };
  others = λ other sink apart none s. commit_keeps_settled old new n other sink ordered c.may c.ends none s;
}

pub leaves_commits : (subtask : ℕ) (names : List ℕ) (old new : Ledger) → IsOrdered old → InTurn CommitsNext names old new → Leaves subtask old new
leaves_commits subtask [] old new ordered e = leaves_same subtask old new ordered e
leaves_commits subtask (n ∷ names) old new ordered e =
    leaves_then subtask old e.0 new (leaves_commit subtask n old e.0 ordered e.1) (leaves_commits subtask names e.0 new (e.1).ordered e.2)

-- ---- aborts

pub record LeavesAborted (subtask : ℕ) (more : List (ℕ × Option ℕ)) (old new : Ledger) : Type 0 where
  pub leaves : Leaves subtask old new
  pub left : unsettled_of new subtask ≡ more

leaves_abort : (subtask : ℕ) (n : ℕ × Option ℕ) (more : List (ℕ × Option ℕ)) (old new : Ledger) → IsOrdered old → unsettled_of old subtask ≡ n ∷ more → AbortsNext n old new → LeavesAborted subtask more old new
leaves_abort subtask n more old new ordered unsettled a =
    let f = abort_first old new subtask [] n more ordered (all_named [] old subtask (named_none old subtask)) unsettled a.ends in
    let there = first_there old subtask n more unsettled in
    record {
      leaves = record {
        rows = record {
          ordered = a.ordered;
          subtasks = ap (λ (l : Ledger). l.subtasks) (a.ends ∙ abort_now old n.0 there.0 there.1);
          rows = λ s. ([], ap joined (same_committed s (f.call) f.others) ∙ sym (append-nil (joined (share old s).committed)));
        };
        others = λ other sink apart none s. f.other_sinks other sink apart s;
      };
      left = f.unsettled;
    }
  where
    same_committed : (s : ℕ) → AbortsOpen (share old subtask) (share new subtask) ⊎ AbortsPreCommitted [] (share old subtask) (share new subtask) → ((other : ℕ) → (other ≡ subtask → ⊥) → share new other ≡ share old other)
        → (share new s).committed ≡ (share old s).committed
    same_committed s call others =
        elim (eqb_tells s subtask) [
          | inl same ↦
              let here : (share new subtask).committed ≡ (share old subtask).committed = elim call [
                | inl o ↦ ap (λ (x : durable.SinkTransactions (List ℕ)). x.committed) o.ends
                | inr p ↦ ap (λ (x : durable.SinkTransactions (List ℕ)). x.committed) p.ends
              ] in
              subst (λ (k : ℕ). (share new k).committed ≡ (share old k).committed) (sym same.1) here
          | inr apart ↦ ap (λ (x : durable.SinkTransactions (List ℕ)). x.committed) (others s apart.1)
        ]

pub leaves_aborts : (subtask : ℕ) (done more : List (ℕ × Option ℕ)) (old new : Ledger) → IsOrdered old → unsettled_of old subtask ≡ done ++ more → InTurn AbortsNext done old new → LeavesAborted subtask more old new
leaves_aborts subtask [] more old new ordered unsettled e =
    record { leaves = leaves_same subtask old new ordered e; left = ap (λ (l : Ledger). unsettled_of l subtask) e ∙ unsettled }
leaves_aborts subtask (n ∷ done) more old new ordered unsettled e =
    let first = leaves_abort subtask n (done ++ more) old e.0 ordered unsettled e.1 in
    let rest = leaves_aborts subtask done more e.0 new (e.1).ordered first.left e.2 in
    record { leaves = leaves_then subtask old e.0 new first.leaves rest.leaves; left = rest.left }

-- ---- one sink

pub record LeavesSettled (subtask opened : ℕ) (old new : Ledger) : Type 0 where
  pub leaves : Leaves subtask old new
  pub sink_in : SinkIn new subtask (record { open_one = opened; pending = [] })

leaves_begin : (subtask : ℕ) (old new : Ledger) → IsOrdered old → IsOrdered new → unsettled_of old subtask ≡ [] → new ≡ begun old subtask → LeavesSettled subtask (length old.transactions + 1) old new
leaves_begin subtask old new ordered now unsettled e =
    let b = begin_settled old new subtask ordered unsettled e in
    record {
      leaves = record {
        rows = record {
          ordered = now;
          subtasks = ap (λ (l : Ledger). l.subtasks) e;
          rows = λ s. (
            [],
            ap joined (elim (eqb_tells s subtask) [
              | inl same ↦ subst (λ (k : ℕ). (share new k).committed ≡ (share old k).committed) (sym same.1) (ap (λ (x : durable.SinkTransactions (List ℕ)). x.committed) b.call)
              | inr apart ↦ ap (λ (x : durable.SinkTransactions (List ℕ)). x.committed) (b.others s apart.1)
            ]) ∙ sym (append-nil (joined (share old s).committed)),
          );
        };
        others = λ other sink apart none s. b.other_sinks other sink apart s;
      };
      sink_in = b.sink_in;
    }

pub settles_leave : (names : List ℕ) (subtask opened : ℕ) (old new : Ledger) → IsOrdered old → Settles names subtask opened old new → LeavesSettled subtask opened old new
settles_leave names subtask opened old new ordered s =
    let commits = leaves_commits subtask names old s.named ordered s.commits in
    let aborts = leaves_aborts subtask (unsettled_of s.named subtask) [] s.named s.rest commits.rows.ordered (sym (append-nil (unsettled_of s.named subtask))) s.aborts in
    let begins = leaves_begin subtask s.rest new aborts.leaves.rows.ordered s.ordered aborts.left s.begins in
    record {
      leaves = leaves_then subtask old s.named new commits (leaves_then subtask s.named s.rest new aborts.leaves begins.leaves);
      sink_in = subst (λ (n : ℕ). SinkIn new subtask (record { open_one = n; pending = [] })) (sym s.is_next) begins.sink_in;
    }

pub partly_leaves : (names : List ℕ) (subtask : ℕ) (old new : Ledger) → IsOrdered old → SettlesPartly names subtask old new → Leaves subtask old new
partly_leaves names subtask old new ordered s =
    elim s [
      | inl c ↦ leaves_commits subtask c.done old new ordered c.turns
      | inr more ↦ elim more [
        | inl a ↦
            let commits = leaves_commits subtask names old a.named ordered a.commits in
            leaves_then subtask old a.named new commits (leaves_aborts subtask a.aborts.done a.aborts.rest a.named new commits.rows.ordered a.aborts.are a.aborts.turns).leaves
        | inr whole ↦ (settles_leave names subtask whole.0 old new ordered whole.1).leaves
      ]
    ]

pub refused_leaves : (names : List ℕ) (subtask : ℕ) (old new : Ledger) → IsOrdered old → NamesOther names old new → Leaves subtask old new
refused_leaves names subtask old new ordered r = leaves_commits subtask r.commits.done old new ordered r.commits.turns

-- ---- the tasks, one after another

same_subtask : (a b : ℕ) → role.Sink a ≡ role.Sink b → a ≡ b
same_subtask a b e = cc

module _ {K S : Type 0} (graph : Expanded) where
  -- the sinks of the tasks so far have nothing pending, and their open transactions are their only ones that are not settled
  abbrev pub AreSettled : Settling K S → Type 0
  AreSettled s = (place subtask : ℕ) (sink : Sinking) → slice_get graph.tasks place ≡ Some (role.Sink subtask) → slice_get s.tasks place ≡ Some (holds.Sink sink) → SinkIn s.ledger subtask sink × (sink.pending ≡ [])

  pub record TakesLeave (old new : Settling K S) : Type 0 where
    pub rows : KeepsRows old.ledger new.ledger
    pub settled : AreSettled new

module _ {R K S : Type 0} (graph : Expanded) where
  -- a start of a sink, from this place on, is for the task of its subtask
  abbrev pub AreFor : ℕ → List (Start R K S) → Type 0
  AreFor place starts = (k subtask : ℕ) (names : List ℕ) (logs : Logs R) → slice_get starts k ≡ Some (start.Sink subtask names logs) → slice_get graph.tasks (place + k) ≡ Some (role.Sink subtask)

same_sink : {K S : Type 0} (x y : Sinking) → ◌≡◌ {A = Holding K S} (holds.Sink x) (holds.Sink y) → x ≡ y
same_sink x y e = cc

module _ {K S : Type 0} (graph : Expanded) (expanded : IsExpanded graph) where
  -- a task that is no sink
  holds_other : (h : Holding K S) (old new : Settling K S) → ((sink : Sinking) → h ≡ holds.Sink sink → ⊥) → IsOrdered old.ledger → AreSettled graph old → new ≡ record { ledger = old.ledger; tasks = old.tasks ++ h ∷ [] } → TakesLeave graph old new
  holds_other h old new no_sink ordered settled e = subst (TakesLeave graph old) (sym e) (record {
    rows = rows_same old.ledger old.ledger ordered refl;
    settled = λ place subtask sink is at.
        elim (slice_get_push old.tasks h place (holds.Sink sink) at) [
          | inl was ↦ settled place subtask sink is was
          | inr new ↦ absurd (no_sink sink new.1)
        ];
  })

module _ {R K S : Type 0} (graph : Expanded) (expanded : IsExpanded graph) where
  takes_one_leaves : (st : Start R K S) (old new : Settling K S) → ((subtask : ℕ) (names : List ℕ) (logs : Logs R) → st ≡ start.Sink subtask names logs → slice_get graph.tasks (length old.tasks) ≡ Some (role.Sink subtask))
      → IsOrdered old.ledger → AreSettled graph old → Takes st old new → TakesLeave graph old new
  takes_one_leaves (start.Source offset) old new for ordered settled e = holds_other graph expanded (holds.Source offset) old new (λ sink h. absurd cc) ordered settled e
  takes_one_leaves (start.Operator entries logs) old new for ordered settled e = holds_other graph expanded (holds.Operator entries) old new (λ sink h. absurd cc) ordered settled e
  takes_one_leaves (start.Sink subtask names logs) old new for ordered settled e =
      let left = settles_leave names subtask e.0 old.ledger new.ledger ordered e.1 in
      let mine : Sinking = record { open_one = e.0; pending = [] } in
      let here = for subtask names logs refl in
      record {
        rows = left.leaves.rows;
        settled = λ place other sink is at.
            elim (slice_get_push old.tasks (holds.Sink mine) place (holds.Sink sink) (sym (ap (λ (l : List (Holding K S)). slice_get l place) e.2) ∙ at)) [
              | inl was ↦
                  let before = settled place other sink is was in
                  let less = slice_get_within old.tasks place (holds.Sink sink) was in
                  let apart = sinks_apart graph (length old.tasks) place subtask other expanded here is (λ q. omega (arith, less, q)) in
                  (left.leaves.others other sink apart before.1 before.0, before.1)
              | inr new_one ↦
                  let k : mine ≡ sink = same_sink {K = K} {S = S} mine sink new_one.1 in
                  let n : subtask ≡ other = same_subtask subtask other (same_Some (role.Sink subtask) (role.Sink other) (sym here ∙ ap (slice_get graph.tasks) (sym new_one.0) ∙ is)) in
                  (subst (λ (m : ℕ). SinkIn new.ledger m sink) n (subst (λ (x : Sinking). SinkIn new.ledger subtask x) k left.sink_in), ap (λ (x : Sinking). x.pending) (sym k))
            ];
      }

  pub takes_leave : (starts : List (Start R K S)) (old new : Settling K S) → AreFor graph (length old.tasks) starts → IsOrdered old.ledger → AreSettled graph old → InTurn Takes starts old new → TakesLeave graph old new
  takes_leave [] old new for ordered settled e = subst (TakesLeave graph old) (sym e) (record { rows = rows_same old.ledger old.ledger ordered refl; settled = settled })
  takes_leave (st ∷ starts) old new for ordered settled e =
      let middle = e.0 in
      let none : length old.tasks + 0 ≡ length old.tasks = omega arith in
      let first = takes_one_leaves st old middle (λ subtask names logs is. subst (λ (k : ℕ). slice_get graph.tasks k ≡ Some (role.Sink subtask)) none (for 0 subtask names logs (ap (λ (x : Start R K S). Some x) is))) ordered settled e.1 in
      let one = takes_one st old middle e.1 in
      let long = ap length one.1 in
      let more = length-append old.tasks (one.0 ∷ []) in
      let plus : (k : ℕ) → length old.tasks + suc k ≡ length middle.tasks + k = λ k. omega (arith, long, more) in
      let rest = takes_leave starts middle new (λ k subtask names logs at. subst (λ (m : ℕ). slice_get graph.tasks m ≡ Some (role.Sink subtask)) (plus k) (for (suc k) subtask names logs at)) first.rows.ordered first.settled e.2 in
      record { rows = rows_then old.ledger middle.ledger new.ledger first.rows rest.rows; settled = rest.settled }
