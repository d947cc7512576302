-- What settling transactions does, as calls of the model's devices, where the names are those of the last complete checkpoint.
use Rattle.std.proofs.Common.{◌≡◌, ◌+◌, inl, inr, Option, Some, None, slice_get, length, ◌<◌, ℕ, suc, List, [], ◌∷◌, ◌++◌, refl, sym, ap, ◌∙◌, subst, append-nil, arith}
use Rattle.std.proofs.lemmas.Bool.Decides.{eqb_tells}
use Rattle.std.proofs.lemmas.List.{length-append}
use Rattle.std.proofs.lemmas.Option.{same_Some}
use Rattle.checkpoint_model.specs.Durable as durable
use Rattle.checkpoint_model.specs.Durable.{Commits, AbortsOpen, AbortsPreCommitted, Call, Begin, Commit, AbortOpen, AbortPreCommitted, Does}
use Rattle.checkpoint_model.specs.EngineLaws.{IsSettled}
use Rattle.checkpoint_model.specs.Headline.{Engine}
use Rattle.checkpoint_model.specs.Pruned.{PrunedCalls, PrunedLeads}
use Rattle.commit_sink.specs.Ledger.{Ledger, IsOrdered, unsettled_of}
use Rattle.job_graph.specs.Expanded.{IsExpanded}
use Rattle.job_graph.specs.declared.role.Role.{Role}
use Rattle.job_graph.specs.declared.role.Role.TheVariants as role
use Rattle.job_state.specs.declared.holding.Holding.{Holding}
use Rattle.job_state.specs.declared.holding.Holding.TheVariants as holds
use Rattle.task_part.specs.Spelling.{Logs}
use Rattle.engine_model.specs.Language.{Language}
use Rattle.engine_model.specs.Restart.{InTurn, CommitsNext, AbortsNext, Settles, SettlesPartly, NamesOther, Takes, Settling}
use Rattle.engine_model.specs.State.{State}
use Rattle.engine_model.specs.View.{job_of, is_logged_in}
use Rattle.engine_model.specs.declared.start.Start.{Start}
use Rattle.engine_model.specs.declared.start.Start.TheVariants as start
use Rattle.engine_model.proofs.Calls.Goes.{leads_on}
use Rattle.engine_model.proofs.Ledger.Devices.{devices_with, changes_sink, sinks_apart}
use Rattle.engine_model.proofs.Ledger.Restart.{NamedIn, complete_ones, commit_named, named_not_refused}
use Rattle.engine_model.proofs.Ledger.Settle.{abort_first, begin_settled, all_named, named_same}
use Rattle.engine_model.proofs.Ledger.Shares.{share}
use Rattle.engine_model.proofs.Restart.Sinks.{AreFor}
use Rattle.engine_model.proofs.Restart.Starts.{IsOfKind}
use Rattle.engine_model.proofs.Store.View.{line_of}

same_subtask : (a b : ℕ) → role.Sink a ≡ role.Sink b → a ≡ b
same_subtask a b e = cc

module _ {R K S O : Type 0} (lang : Language R K S O) (s : State O R K S) (expanded : IsExpanded s.graph) where
  -- the engine that is down, with these transactions
  abbrev pub down_with : Ledger → Engine R K S (List ℕ)
  down_with l = record { devices = devices_with lang s.graph s.stored l; running = None }

  -- it goes from one to the other by calls of its devices
  abbrev pub GoesDown : Ledger → Ledger → Type 0
  GoesDown old new = (engines : List (Engine R K S (List ℕ))) × PrunedLeads (job_of lang s) (is_logged_in s) lang.spelling (down_with old) engines (down_with new)

  pub down_stays : (old new : Ledger) → new ≡ old → GoesDown old new
  down_stays old new e = ([], ap down_with e)

  pub down_then : (old middle new : Ledger) → GoesDown old middle → GoesDown middle new → GoesDown old new
  down_then old middle new first rest = (
    first.0 ++ rest.0,
    leads_on (job_of lang s) (is_logged_in s) lang.spelling first.0 rest.0 (down_with old) (down_with middle) (down_with new) first.1 rest.1,
  )

  down_by : (call : Call R K S (List ℕ)) (old new : Ledger) → Does call (devices_with lang s.graph s.stored old) (devices_with lang s.graph s.stored new) → GoesDown old new
  down_by call old new does = (down_with new ∷ [], (PrunedCalls call refl refl does, refl))

  abbrev line : List ℕ
  line = line_of s.stored

  abbrev OthersSame : ℕ → Ledger → Ledger → Type 0
  OthersSame subtask old new = (other : ℕ) → (other ≡ subtask → ⊥) → share new other ≡ share old other

  pub record Reached (subtask : ℕ) (old new : Ledger) : Type 0 where
    pub goes : GoesDown old new
    pub others : OthersSame subtask old new

  reached_then : (subtask : ℕ) (old middle new : Ledger) → Reached subtask old middle → Reached subtask middle new → Reached subtask old new
  reached_then subtask old middle new first rest = record { goes = down_then old middle new first.goes rest.goes; others = λ other apart. rest.others other apart ∙ first.others other apart }

  reached_same : (subtask : ℕ) (old new : Ledger) → new ≡ old → Reached subtask old new
  reached_same subtask old new e = record { goes = down_stays old new e; others = λ other apart. ap (λ (l : Ledger). share l other) e }

  -- ---- one sink

  module _ (task subtask : ℕ) (is : slice_get s.graph.tasks task ≡ Some (role.Sink subtask)) where
    pub record ReachedNamed (rest : List ℕ) (old new : Ledger) : Type 0 where
      pub reached : Reached subtask old new
      pub named : NamedIn line rest new subtask
      pub ordered : IsOrdered new

    pub commits_go : (done rest : List ℕ) (old new : Ledger) → IsOrdered old → NamedIn line (done ++ rest) old subtask → InTurn CommitsNext done old new → ReachedNamed rest old new
    commits_go [] rest old new ordered named e = record { reached = reached_same subtask old new e; named = subst (λ (l : Ledger). NamedIn line rest l subtask) (sym e) named; ordered = subst IsOrdered (sym e) ordered }
    commits_go (n ∷ done) rest old new ordered named e =
        let c = commit_named old e.0 subtask line n (done ++ rest) ordered named (e.1).ends in
        let goes : GoesDown old e.0 = elim c.call [
          | inl same ↦ down_stays old e.0 same
          | inr call ↦ down_by (Commit task) old e.0 (changes_sink lang s.graph s.stored task subtask is expanded (λ a b. Commits line a b) old e.0 call c.others)
        ] in
        let more = commits_go done rest e.0 new (e.1).ordered c.named e.2 in
        record { reached = reached_then subtask old e.0 new (record { goes = goes; others = c.others }) more.reached; named = more.named; ordered = more.ordered }

    pub record ReachedAborted (more : List (ℕ × Option ℕ)) (old new : Ledger) : Type 0 where
      pub reached : Reached subtask old new
      pub unsettled : unsettled_of new subtask ≡ more
      pub complete : complete_ones line (share new subtask).pre_committed ≡ []
      pub ordered : IsOrdered new

    pub aborts_go : (done more : List (ℕ × Option ℕ)) (old new : Ledger) → IsOrdered old → complete_ones line (share old subtask).pre_committed ≡ [] → unsettled_of old subtask ≡ done ++ more → InTurn AbortsNext done old new → ReachedAborted more old new
    aborts_go [] more old new ordered complete unsettled e = record {
      reached = reached_same subtask old new e;
      unsettled = ap (λ (l : Ledger). unsettled_of l subtask) e ∙ unsettled;
      complete = ap (λ (l : Ledger). complete_ones line (share l subtask).pre_committed) e ∙ complete;
      ordered = subst IsOrdered (sym e) ordered;
    }
    aborts_go (n ∷ done) more old new ordered complete unsettled e =
        let a = abort_first old e.0 subtask line n (done ++ more) ordered complete unsettled (e.1).ends in
        let goes : GoesDown old e.0 = elim a.call [
          | inl call ↦ down_by (AbortOpen task) old e.0 (changes_sink lang s.graph s.stored task subtask is expanded (λ x y. AbortsOpen x y) old e.0 call a.others)
          | inr call ↦ down_by (AbortPreCommitted task) old e.0 (changes_sink lang s.graph s.stored task subtask is expanded (λ x y. AbortsPreCommitted line x y) old e.0 call a.others)
        ] in
        let rest = aborts_go done more e.0 new (e.1).ordered a.complete a.unsettled e.2 in
        record { reached = reached_then subtask old e.0 new (record { goes = goes; others = a.others }) rest.reached; unsettled = rest.unsettled; complete = rest.complete; ordered = rest.ordered }

    pub record ReachedSettled (old new : Ledger) : Type 0 where
      pub reached : Reached subtask old new
      pub settled : IsSettled (share new subtask)
      pub ordered : IsOrdered new

    -- of names, no one is left
    all_commits : (names : List ℕ) (old new : Ledger) → IsOrdered old → NamedIn line names old subtask → InTurn CommitsNext names old new → ReachedNamed [] old new
    all_commits names old new ordered named e = commits_go names [] old new ordered (subst (λ (l : List ℕ). NamedIn line l old subtask) (sym (append-nil names)) named) e

    pub settles_go : (names : List ℕ) (opened : ℕ) (old new : Ledger) → IsOrdered old → NamedIn line names old subtask → Settles names subtask opened old new → ReachedSettled old new
    settles_go names opened old new ordered named x =
        let c = all_commits names old x.named ordered named x.commits in
        let a = aborts_go (unsettled_of x.named subtask) [] x.named x.rest c.ordered (all_named line x.named subtask c.named) (sym (append-nil (unsettled_of x.named subtask))) x.aborts in
        let b = begin_settled x.rest new subtask a.ordered a.unsettled x.begins in
        let began : Reached subtask x.rest new = record { goes = down_by (Begin task (length (x.rest).transactions + 1)) x.rest new (changes_sink lang s.graph s.stored task subtask is expanded (λ p q. q ≡ durable.begun (length (x.rest).transactions + 1) p) x.rest new b.call b.others); others = b.others } in
        record {
          reached = reached_then subtask old x.named new c.reached (reached_then subtask x.named x.rest new a.reached began);
          settled = b.settled;
          ordered = x.ordered;
        }

    pub partly_go : (names : List ℕ) (old new : Ledger) → IsOrdered old → NamedIn line names old subtask → SettlesPartly names subtask old new → GoesDown old new
    partly_go names old new ordered named x =
        elim x [
          | inl c ↦ (commits_go c.done c.rest old new ordered (subst (λ (l : List ℕ). NamedIn line l old subtask) c.are named) c.turns).reached.goes
          | inr more ↦ elim more [
            | inl a ↦
                let c = all_commits names old a.named ordered named a.commits in
                down_then old a.named new c.reached.goes (aborts_go a.aborts.done a.aborts.rest a.named new c.ordered (all_named line a.named subtask c.named) a.aborts.are a.aborts.turns).reached.goes
            | inr whole ↦ (settles_go names whole.0 old new ordered named whole.1).reached.goes
          ]
        ]

    -- those that are named may be committed
    pub never_refused : (names : List ℕ) (old new : Ledger) → IsOrdered old → NamedIn line names old subtask → NamesOther names old new → ⊥
    never_refused names old new ordered named r =
        let c = commits_go r.commits.done r.commits.rest old new ordered (subst (λ (l : List ℕ). NamedIn line l old subtask) r.commits.are named) r.commits.turns in
        r.refused (named_not_refused new subtask line r.name r.more c.ordered (subst (λ (l : List ℕ). NamedIn line l new subtask) r.next c.named))

  -- ---- the tasks, one after another

  -- each sink from this place on names what may be committed
  abbrev pub AreNamed : List (Start R K S) → Ledger → Type 0
  AreNamed starts l = (k subtask : ℕ) (names : List ℕ) (logs : Logs R) → slice_get starts k ≡ Some (start.Sink subtask names logs) → NamedIn line names l subtask

  -- each sink before it has settled its transactions
  abbrev pub HaveSettled : ℕ → Ledger → Type 0
  HaveSettled count l = (place subtask : ℕ) → slice_get s.graph.tasks place ≡ Some (role.Sink subtask) → place < count → IsSettled (share l subtask)

  -- from this place on, each start is of its task's kind
  abbrev pub AreKinds : ℕ → List (Start R K S) → Type 0
  AreKinds place starts = (k : ℕ) (r : Role) (st : Start R K S) → slice_get s.graph.tasks (place + k) ≡ Some r → slice_get starts k ≡ Some st → IsOfKind r st

  pub record AreReady (place : ℕ) (starts : List (Start R K S)) (l : Ledger) : Type 0 where
    pub for : AreFor {R = R} {K = K} {S = S} s.graph place starts
    pub kinds : AreKinds place starts
    pub named : AreNamed starts l
    pub settled : HaveSettled place l
    pub ordered : IsOrdered l

  pub record TakesTo (rest : List (Start R K S)) (old new : Settling K S) : Type 0 where
    pub goes : GoesDown old.ledger new.ledger
    pub ready : AreReady (length new.tasks) rest new.ledger

  plus_none : (n : ℕ) → n + 0 ≡ n
  plus_none n = omega arith

  shift : (n k : ℕ) → n + suc k ≡ (n + 1) + k
  shift n k = omega arith

  one_longer : (tasks : List (Holding K S)) (h : Holding K S) → length (tasks ++ h ∷ []) ≡ length tasks + 1
  one_longer tasks h = length-append tasks (h ∷ [])

  -- what is left is ready for the places behind
  behind : (n : ℕ) (st : Start R K S) (rest : List (Start R K S)) (old new : Ledger) → AreReady n (st ∷ rest) old → AreNamed rest new → HaveSettled (n + 1) new → IsOrdered new → AreReady (n + 1) rest new
  behind n st rest old new ready named settled ordered = record {
    for = λ k subtask names logs at. ap (slice_get s.graph.tasks) (sym (shift n k)) ∙ ready.for (suc k) subtask names logs at;
    kinds = λ k r x is at. ready.kinds (suc k) r x (ap (slice_get s.graph.tasks) (shift n k) ∙ is) at;
    named = named;
    settled = settled;
    ordered = ordered;
  }

  -- a task that is no sink
  other_goes : (st : Start R K S) (h : Holding K S) (rest : List (Start R K S)) (old new : Settling K S) → ((subtask : ℕ) → IsOfKind (role.Sink subtask) st → ⊥) → AreReady (length old.tasks) (st ∷ rest) old.ledger → new ≡ record { ledger = old.ledger; tasks = old.tasks ++ h ∷ [] } → TakesTo rest old new
  other_goes st h rest old new no_sink ready e = subst (TakesTo rest old) (sym e) (record {
    goes = down_stays old.ledger old.ledger refl;
    ready = subst (λ (n : ℕ). AreReady n rest old.ledger) (sym (one_longer old.tasks h)) (behind (length old.tasks) st rest old.ledger old.ledger ready (λ k subtask names logs at. ready.named (suc k) subtask names logs at) settled ready.ordered);
  })
    where
      settled : HaveSettled (length old.tasks + 1) old.ledger
      settled place subtask is less =
          elim (eqb_tells place (length old.tasks)) [
            | inl same ↦ absurd (no_sink subtask (ready.kinds 0 (role.Sink subtask) st (ap (slice_get s.graph.tasks) (plus_none (length old.tasks) ∙ sym same.1) ∙ is) refl))
            | inr apart ↦ ready.settled place subtask is (let differs = apart.1 in before place (length old.tasks) less differs)
          ]
        where
          before : (m n : ℕ) → m < n + 1 → (m ≡ n → ⊥) → m < n
          before m n lt ne = omega (arith, lt, ne)

  sink_goes : (subtask : ℕ) (names : List ℕ) (logs : Logs R) (rest : List (Start R K S)) (old new : Settling K S) → AreReady (length old.tasks) (start.Sink subtask names logs ∷ rest) old.ledger → Takes (start.Sink subtask names logs) old new → TakesTo rest old new
  sink_goes subtask names logs rest old new ready e =
      let here : slice_get s.graph.tasks (length old.tasks) ≡ Some (role.Sink subtask) = ap (slice_get s.graph.tasks) (sym (plus_none (length old.tasks))) ∙ ready.for 0 subtask names logs refl in
      let x = settles_go (length old.tasks) subtask here names e.0 old.ledger new.ledger ready.ordered (ready.named 0 subtask names logs refl) e.1 in
      let long : length new.tasks ≡ length old.tasks + 1 = ap length e.2 ∙ one_longer old.tasks (holds.Sink (record { open_one = e.0; pending = [] })) in
      record {
        goes = x.reached.goes;
        ready = subst (λ (n : ℕ). AreReady n rest new.ledger) (sym long) (behind (length old.tasks) (start.Sink subtask names logs) rest old.ledger new.ledger ready (named here x.reached.others) (settled here x.reached.others x.settled) x.ordered);
      }
    where
      named : slice_get s.graph.tasks (length old.tasks) ≡ Some (role.Sink subtask) → OthersSame subtask old.ledger new.ledger → AreNamed rest new.ledger
      named here others k other names' logs' at =
          let there = ready.for (suc k) other names' logs' at in
          named_same line names' old.ledger new.ledger other
          (others other (sinks_apart s.graph (length old.tasks) (length old.tasks + suc k) subtask other expanded here there (λ q. omega (arith, q))))
          (ready.named (suc k) other names' logs' at)

      settled : slice_get s.graph.tasks (length old.tasks) ≡ Some (role.Sink subtask) → OthersSame subtask old.ledger new.ledger → IsSettled (share new.ledger subtask) → HaveSettled (length old.tasks + 1) new.ledger
      settled here others mine place other is less =
          elim (eqb_tells place (length old.tasks)) [
            | inl same ↦ subst (λ (n : ℕ). IsSettled (share new.ledger n)) (same_subtask subtask other (same_Some (role.Sink subtask) (role.Sink other) (sym here ∙ ap (slice_get s.graph.tasks) (sym same.1) ∙ is))) mine
            | inr apart ↦
                subst IsSettled (sym (others other (sinks_apart s.graph (length old.tasks) place subtask other expanded here is apart.1)))
                (ready.settled place other is (let differs = apart.1 in before place (length old.tasks) less differs))
          ]
        where
          before : (m n : ℕ) → m < n + 1 → (m ≡ n → ⊥) → m < n
          before m n lt ne = omega (arith, lt, ne)

  one_goes : (st : Start R K S) (rest : List (Start R K S)) (old new : Settling K S) → AreReady (length old.tasks) (st ∷ rest) old.ledger → Takes st old new → TakesTo rest old new
  one_goes (start.Source offset) rest old new ready e = other_goes (start.Source offset) (holds.Source offset) rest old new (λ subtask kind. kind) ready e
  one_goes (start.Operator entries logs) rest old new ready e = other_goes (start.Operator entries logs) (holds.Operator entries) rest old new (λ subtask kind. kind) ready e
  one_goes (start.Sink subtask names logs) rest old new ready e = sink_goes subtask names logs rest old new ready e

  pub takes_go : (done rest : List (Start R K S)) (old new : Settling K S) → AreReady (length old.tasks) (done ++ rest) old.ledger → InTurn Takes done old new → TakesTo rest old new
  takes_go [] rest old new ready e = subst (TakesTo rest old) (sym e) (record { goes = down_stays old.ledger old.ledger refl; ready = ready })
  takes_go (st ∷ done) rest old new ready e =
      let first = one_goes st (done ++ rest) old e.0 ready e.1 in
      let more = takes_go done rest e.0 new first.ready e.2 in
      record { goes = down_then old.ledger (e.0).ledger new.ledger first.goes more.goes; ready = more.ready }
