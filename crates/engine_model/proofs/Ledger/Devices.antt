-- The calls on a sink's transactions as the model's calls on the devices.
use Rattle.std.proofs.Common.{◌≡◌, ◌⊎◌, ◌<◌, ◌+◌, inl, inr, Option, Some, None, cond, slice_get, length, take, count_by, ℕ, zero, suc, List, [], ◌∷◌, ◌++◌, refl, sym, ap, ◌∙◌, subst, arith}
use Rattle.std.proofs.lemmas.Option.{none-some, same_Some}
use Rattle.std.proofs.lemmas.Bool.{cases_eq, cases_order}
use Rattle.std.proofs.lemmas.List.Sums.{sum_by-cons}
use Rattle.checkpoint_model.specs.Durable as durable
use Rattle.checkpoint_model.specs.Durable.{AreLast, transactions_of, numbers_of, IsSink, PreCommits, Commits, ChangesSink, SinkTransactions}
use Rattle.checkpoint_model.specs.Engine.{Running, IsSound}
use Rattle.checkpoint_model.specs.Pruned.{IsPrunedSound, pruned_run, pruned_running}
use Rattle.checkpoint_model.proofs.Restarting.{names_settled}
use Rattle.commit_sink.specs.Ledger.{Ledger}
use Rattle.commit_sink.specs.Sink.{Sinking, names_with_open}
use Rattle.job_graph.specs.Expanded.{Expanded, IsExpanded, is_sink}
use Rattle.job_graph.specs.PlainGraph.{task_of}
use Rattle.job_graph.specs.declared.role.Role.{Role}
use Rattle.job_graph.specs.declared.role.Role.TheVariants.{Source, Operator, Sink}
use Rattle.snapshot_store.specs.Store.{Stored}
use Rattle.engine_model.specs.Language.{Language}
use Rattle.engine_model.specs.Keeps.{SinkIn}
use Rattle.engine_model.specs.State.{State}
use Rattle.engine_model.specs.View.{store_of, transactions_at, devices_of, job_of, is_logged_in}
use Rattle.job_state.specs.declared.holding.Holding.{Holding}
use Rattle.job_state.specs.declared.holding.Holding.TheVariants as holds
use Rattle.engine_model.proofs.Ledger.Lists.{get_in_map}
use Rattle.engine_model.proofs.Ledger.Shares.{share}
use Rattle.engine_model.proofs.Ledger.Copy.{Copied}
use Rattle.engine_model.proofs.Ledger.Commit.{CommitsFirst}
use Rattle.engine_model.proofs.Ledger.Restart.{NamedIn, complete_ones}

-- ---- each sink task has a subtask of its own

count_less : (tasks : List Role) (i j s : ℕ) → slice_get tasks i ≡ Some (Sink s) → i < j → count_by is_sink (take i tasks) < count_by is_sink (take j tasks)
count_less [] i j s at less = absurd (none-some (Sink s) at)
count_less (r ∷ tasks) i zero s at less = absurd (omega (arith, less))
count_less (r ∷ tasks) zero (suc j) s at less =
    let more = sum_by-cons (λ (x : Role). cond (is_sink x) 1 0) r (take j tasks) in
    let one : ◌≡◌ {A = ℕ} (cond (is_sink r) 1 0) 1 = ap (λ (x : Role). (let n : ℕ = cond (is_sink x) 1 0 in n)) (same_Some r (Sink s) at) in
    omega (arith, more, one)
count_less (r ∷ tasks) (suc i) (suc j) s at less =
    let here = sum_by-cons (λ (x : Role). cond (is_sink x) 1 0) r (take i tasks) in
    let there = sum_by-cons (λ (x : Role). cond (is_sink x) 1 0) r (take j tasks) in
    let rest = count_less tasks i j s at (omega (arith, less)) in
    omega (arith, here, there, rest)

pub sinks_apart : (graph : Expanded) (task other subtask number : ℕ) → IsExpanded graph → slice_get graph.tasks task ≡ Some (Sink subtask) → slice_get graph.tasks other ≡ Some (Sink number) → (other ≡ task → ⊥) → number ≡ subtask → ⊥
sinks_apart graph task other subtask number expanded is is' apart same =
    let one = expanded.numbered.each task (Sink subtask) is in
    let two = expanded.numbered.each other (Sink number) is' in
    elim (cases_order other task) [
      | inl e ↦ apart e
      | inr less ↦
          elim less [
            | inl below ↦ let counts = count_less graph.tasks other task number is' below in omega (arith, counts, one, two, same)
            | inr above ↦ let counts = count_less graph.tasks task other subtask is above in omega (arith, counts, one, two, same)
          ]
    ]

-- the devices with this store and these transactions: `devices_of` of an engine with them
abbrev pub devices_with : {R K S O : Type 0} → Language R K S O → Expanded → Stored → Ledger → durable.Devices R K S (List ℕ)
devices_with lang graph stored ledger = record { store = store_of lang stored; sinks = λ task. transactions_at ledger (slice_get graph.tasks task) }

module _ (graph : Expanded) (task subtask : ℕ) (is : slice_get graph.tasks task ≡ Some (Sink subtask)) where
  -- what is so of the subtask's share is so of the task's transactions
  pub of_task : (P : SinkTransactions (List ℕ) → SinkTransactions (List ℕ) → Type 0) (old new : Ledger) → P (share old subtask) (share new subtask) → P (transactions_at old (slice_get graph.tasks task)) (transactions_at new (slice_get graph.tasks task))
  of_task P old new h = subst (λ (o : Option Role). P (transactions_at old o) (transactions_at new o)) (sym is) h

  -- the names of the last complete checkpoint's part, by `NamesAreSettled` of the engine's devices
  pub named_from : (line names : List ℕ) (l : Ledger) → (before more : List ℕ) × (numbers_of (transactions_at l (slice_get graph.tasks task)).committed ≡ before ++ more)
      × (names ≡ more ++ numbers_of (transactions_of (complete_ones line (transactions_at l (slice_get graph.tasks task)).pre_committed))) → NamedIn line names l subtask
  named_from line names l named =
      let P : SinkTransactions (List ℕ) → Type 0 = λ a. (before more : List ℕ) × (numbers_of a.committed ≡ before ++ more) × (names ≡ more ++ numbers_of (transactions_of (complete_ones line a.pre_committed))) in
      let at = subst (λ (o : Option Role). P (transactions_at l o)) is named in
      record { before = at.0; more = at.1; committed_are = at.2; names_are = at.3 }

  -- and the other tasks' transactions stay
  pub other_tasks : IsExpanded graph → (old new : Ledger) → ((number : ℕ) → (number ≡ subtask → ⊥) → share new number ≡ share old number)
      → (other : ℕ) → (other ≡ task → ⊥) → transactions_at new (slice_get graph.tasks other) ≡ transactions_at old (slice_get graph.tasks other)
  other_tasks expanded old new others other apart = by (slice_get graph.tasks other) refl
    where
      by : (o : Option Role) → slice_get graph.tasks other ≡ o → transactions_at new o ≡ transactions_at old o
      by None at = refl
      by (Some (Source partition)) at = refl
      by (Some (Operator number)) at = refl
      by (Some (Sink number)) at = others number (sinks_apart graph task other subtask number expanded is at apart)

module _ {R K S O : Type 0} (lang : Language R K S O) (graph : Expanded) (stored : Stored) (task subtask : ℕ) (is : slice_get graph.tasks task ≡ Some (Sink subtask)) (expanded : IsExpanded graph) where
  abbrev with_ledger : Ledger → durable.Devices R K S (List ℕ)
  with_ledger ledger = devices_with lang graph stored ledger

  pub changes_sink : (Changes : SinkTransactions (List ℕ) → SinkTransactions (List ℕ) → Type 0) (old new : Ledger) → Changes (share old subtask) (share new subtask)
      → ((number : ℕ) → (number ≡ subtask → ⊥) → share new number ≡ share old number) → ChangesSink task Changes (with_ledger old) (with_ledger new)
  changes_sink Changes old new change others =
      record { store = refl; sink = of_task graph task subtask is Changes old new change; others = other_tasks graph task subtask is expanded old new others }

  -- ---- a copy

  pub record CopiesDevices (line : List ℕ) (checkpoint : ℕ) (names : List ℕ) (old middle new : Ledger) : Type 0 where
    pub begins : ChangesSink task (λ a b. b ≡ durable.begun (length old.transactions + 1) a) (with_ledger old) (with_ledger middle)
    pub pre : ChangesSink task (λ a b. PreCommits line checkpoint a b) (with_ledger middle) (with_ledger new)
    pub is_first : pre.sink.front ≡ []
    pub names_last : AreLast names ((with_ledger new).sinks task).committed (((with_ledger new).sinks task).committed ++ transactions_of ((with_ledger new).sinks task).pre_committed)

  pub copies_devices : (line : List ℕ) (checkpoint : ℕ) (sink : Sinking) (old middle new : Ledger) → Copied line checkpoint subtask sink old middle new → CopiesDevices line checkpoint (names_with_open sink) old middle new
  copies_devices line checkpoint sink old middle new c =
      let First : SinkTransactions (List ℕ) → SinkTransactions (List ℕ) → Type 0 = λ a b. (p : PreCommits line checkpoint a b) × (p.front ≡ []) in
      let first = of_task graph task subtask is First middle new (c.call, c.is_first) in
      record {
        begins = changes_sink (λ a b. b ≡ durable.begun (length old.transactions + 1) a) old middle c.began c.others_began;
        pre = record { store = refl; sink = first.0; others = other_tasks graph task subtask is expanded middle new c.others };
        is_first = first.1;
        names_last = of_task graph task subtask is (λ a b. AreLast (names_with_open sink) b.committed (b.committed ++ transactions_of b.pre_committed)) new new c.names_last;
      }

  -- ---- a commit

  pub record CommitsDevices (line : List ℕ) (old new : Ledger) : Type 0 where
    pub commits : ChangesSink task (λ a b. Commits line a b) (with_ledger old) (with_ledger new)
    pub is_first : commits.sink.front ≡ []

  pub commits_devices : (line : List ℕ) (sink : Sinking) (old new : Ledger) → CommitsFirst line subtask sink old new → (new ≡ old) ⊎ CommitsDevices line old new
  commits_devices line sink old new c =
      elim c.call [
        | inl e ↦ inl e
        | inr called ↦
            let First : SinkTransactions (List ℕ) → SinkTransactions (List ℕ) → Type 0 = λ a b. (p : Commits line a b) × (p.front ≡ []) in
            let first = of_task graph task subtask is First old new called in
            inr (record {
              commits = record { store = refl; sink = first.0; others = other_tasks graph task subtask is expanded old new c.others };
              is_first = first.1;
            })
      ]

-- these are the devices of an engine
pub devices_are : {R K S O : Type 0} (lang : Language R K S O) (s : State O R K S) → devices_of lang s ≡ devices_with lang s.graph s.stored s.ledger
devices_are lang s = refl

-- ---- every sink that runs

-- what a running job keeps of its sinks, `sinks` of `RunsIn`
abbrev pub SinksIn : {K S : Type 0} → Expanded → List (Holding K S) → Ledger → Type 0
SinksIn graph tasks ledger = (task subtask : ℕ) (sink : Sinking) → slice_get graph.tasks task ≡ Some (Sink subtask) → slice_get tasks task ≡ Some (holds.Sink sink) → SinkIn ledger subtask sink

same_subtask : (m n : ℕ) → Sink m ≡ Sink n → m ≡ n
same_subtask m n e = cc

same_sink : {K S : Type 0} (a b : Sinking) → ◌≡◌ {A = Holding K S} (holds.Sink a) (holds.Sink b) → a ≡ b
same_sink a b e = cc

-- A call on one sink keeps all of them.
pub sinks_stay : {K S : Type 0} (graph : Expanded) (task subtask : ℕ) (sink : Sinking) (tasks tasks' : List (Holding K S)) (old new : Ledger) → IsExpanded graph → slice_get graph.tasks task ≡ Some (Sink subtask)
    → slice_get tasks' task ≡ Some (holds.Sink sink) → ((other : ℕ) → (other ≡ task → ⊥) → slice_get tasks' other ≡ slice_get tasks other)
    → SinkIn new subtask sink → ((number : ℕ) (sink' : Sinking) → (number ≡ subtask → ⊥) → SinkIn old number sink' → SinkIn new number sink')
    → SinksIn graph tasks old → SinksIn graph tasks' new
sinks_stay graph task subtask sink tasks tasks' old new expanded is at elsewhere own others every other number sink' is' at' =
    elim (cases_eq other task) [
      | inl same ↦
          let n : subtask ≡ number = same_subtask subtask number (same_Some (Sink subtask) (Sink number) (sym is ∙ ap (slice_get graph.tasks) (sym same) ∙ is')) in
          let k : sink ≡ sink' = same_sink sink sink' (same_Some (holds.Sink sink) (holds.Sink sink') (sym at ∙ ap (slice_get tasks') (sym same) ∙ at')) in
          subst (λ (m : ℕ). SinkIn new m sink') n (subst (λ (x : Sinking). SinkIn new subtask x) k own)
      | inr apart ↦ others number sink' (sinks_apart graph task other subtask number expanded is is' apart) (every other number sink' is' (sym (elsewhere other apart) ∙ at'))
    ]

-- ---- what a restart may commit

pub is_sink_task : {R K S O : Type 0} (lang : Language R K S O) (s : State O R K S) (task subtask : ℕ) → slice_get s.graph.tasks task ≡ Some (Sink subtask) → IsSink (job_of lang s) task
is_sink_task lang s task subtask is = get_in_map (task_of s.operators) s.graph.tasks task (Sink subtask) is

-- The engine is down: what the last complete checkpoint's part of a sink names is what may be committed.
pub names_in : {R K S O : Type 0} (lang : Language R K S O) (s : State O R K S) (front : List ℕ) (n task subtask : ℕ) (part : durable.Part R K S) → IsPrunedSound (job_of lang s) (is_logged_in s) lang.spelling (devices_of lang s) None
    → (devices_of lang s).store.line ≡ front ++ n ∷ [] → slice_get s.graph.tasks task ≡ Some (Sink subtask) → (devices_of lang s).store.parts n task ≡ Some part
    → NamedIn (devices_of lang s).store.line part.names s.ledger subtask
names_in {R} {K} {S} {O} lang s front n task subtask part sound last is copy = by sound.running sound.is_pruned sound.sound
  where
    by : (running : Option (Running R K S)) → pruned_running running ≡ None → IsSound (job_of lang s) (is_logged_in s) lang.spelling (devices_of lang s) running → NamedIn (devices_of lang s).store.line part.names s.ledger subtask
    by None down whole =
        named_from s.graph task subtask is (devices_of lang s).store.line part.names s.ledger
        (names_settled (job_of lang s) lang.spelling (is_logged_in s) (devices_of lang s) front n task part whole last (is_sink_task lang s task subtask is) copy)
    by (Some run) down whole = absurd (none-some (pruned_run run) (sym down))
