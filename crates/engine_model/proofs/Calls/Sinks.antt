-- A sink's calls change the transactions of its task, and of no other.
use Rattle.std.proofs.Common.{◌≡◌, inl, inr, Option, Some, None, slice_get, ℕ, List, [], ◌∷◌, ◌++◌, refl, sym, ap, subst, ◌∙◌}
use Rattle.std.proofs.lemmas.Bool.Decides.{eqb_tells}
use Rattle.std.proofs.lemmas.Option.{same_Some}
use Rattle.checkpoint_model.specs.Durable.{Devices, SinkTransactions, ChangesSink}
use Rattle.commit_sink.specs.Ledger.{Ledger, Transaction, transaction_at, with_transaction, appended, pre_committed}
use Rattle.commit_sink.specs.declared.transactions.Progress.TheVariants.{PreCommitted}
use Rattle.commit_sink.specs.Sink.{Sinking}
use Rattle.job_graph.specs.Expanded.{IsExpanded}
use Rattle.job_graph.specs.declared.role.Role.{Role}
use Rattle.job_graph.specs.declared.role.Role.TheVariants as role
use Rattle.job_state.specs.declared.holding.Holding.{Holding}
use Rattle.job_state.specs.declared.holding.Holding.TheVariants as holds
use Rattle.engine_model.specs.Keeps.{SinkIn}
use Rattle.engine_model.specs.Language.{Language}
use Rattle.engine_model.specs.State.{State}
use Rattle.engine_model.specs.View.{store_of, transactions_at}
use Rattle.engine_model.proofs.Ledger.Shares.{share}
use Rattle.engine_model.proofs.Calls.Tasks.{one_subtask}

-- the subtasks stay, whatever becomes of a transaction
pub changed_subtasks : (l : Ledger) (n : ℕ) (change : Transaction → Transaction) (o : Option Transaction) → (let x : Ledger = elim o [ None ↦ l | Some t ↦ with_transaction l n (change t) ] in x.subtasks) ≡ l.subtasks
changed_subtasks l n change None = refl
changed_subtasks l n change (Some t) = refl

pub appended_subtasks : (l : Ledger) (n : ℕ) (bytes : List ℕ) (t : Transaction) → transaction_at l n ≡ Some t → (appended l n bytes).subtasks ≡ l.subtasks
appended_subtasks l n bytes t at = changed_subtasks l n (λ x. record x { records = x.records ++ bytes ∷ [] }) (transaction_at l n)

pub pre_committed_subtasks : (l : Ledger) (n checkpoint : ℕ) (t : Transaction) → transaction_at l n ≡ Some t → (pre_committed l n checkpoint).subtasks ≡ l.subtasks
pre_committed_subtasks l n checkpoint t at = changed_subtasks l n (λ x. record x { progress = PreCommitted checkpoint }) (transaction_at l n)

pub same_sink : {K S : Type 0} (a b : Sinking) → ◌≡◌ {A = Holding K S} (holds.Sink a) (holds.Sink b) → a ≡ b
same_sink a b e = cc

module _ {R K S O : Type 0} (lang : Language R K S O) (s : State O R K S) (expanded : IsExpanded s.graph) (task subtask : ℕ) (at_task : slice_get s.graph.tasks task ≡ Some (role.Sink subtask)) where
  -- the devices with this ledger
  abbrev pub devices_with : Ledger → Devices R K S (List ℕ)
  devices_with l = record { store = store_of lang s.stored; sinks = λ t. transactions_at l (slice_get s.graph.tasks t) }

  pub others_same : (old new : Ledger) → ((other : ℕ) → (other ≡ subtask → ⊥) → share new other ≡ share old other) → (t : ℕ) → (t ≡ task → ⊥) → transactions_at new (slice_get s.graph.tasks t) ≡ transactions_at old (slice_get s.graph.tasks t)
  others_same old new same t apart = of (slice_get s.graph.tasks t) refl
    where
      of : (o : Option Role) → slice_get s.graph.tasks t ≡ o → transactions_at new o ≡ transactions_at old o
      of None e = refl
      of (Some (role.Source partition)) e = refl
      of (Some (role.Operator number)) e = refl
      of (Some (role.Sink m)) e = same m (λ here. apart (one_subtask s.graph expanded t task subtask (e ∙ ap (λ (x : ℕ). Some (role.Sink x)) here) at_task))

  pub changes_sink : (Changes : SinkTransactions (List ℕ) → SinkTransactions (List ℕ) → Type 0) (old new : Ledger) → Changes (share old subtask) (share new subtask) → ((other : ℕ) → (other ≡ subtask → ⊥) → share new other ≡ share old other)
      → ChangesSink task Changes (devices_with old) (devices_with new)
  changes_sink Changes old new change same = record {
    store = refl;
    sink = subst (λ (o : Option Role). Changes (transactions_at old o) (transactions_at new o)) (sym at_task) change;
    others = others_same old new same;
  }

  -- each sink is in the ledger
  pub sinks_in : (tasks : List (Holding K S)) (old new : Ledger) (sink : Sinking) → slice_get tasks task ≡ Some (holds.Sink sink) → SinkIn new subtask sink
      → ((other : ℕ) (sink' : Sinking) → (other ≡ subtask → ⊥) → SinkIn old other sink' → SinkIn new other sink')
      → ((t m : ℕ) (sink' : Sinking) → (t ≡ task → ⊥) → slice_get s.graph.tasks t ≡ Some (role.Sink m) → slice_get tasks t ≡ Some (holds.Sink sink') → SinkIn old m sink')
      → (t m : ℕ) (sink' : Sinking) → slice_get s.graph.tasks t ≡ Some (role.Sink m) → slice_get tasks t ≡ Some (holds.Sink sink') → SinkIn new m sink'
  sinks_in tasks old new sink was here others there t m sink' is at =
      elim (eqb_tells m subtask) [
        | inl e ↦
            let one : t ≡ task = one_subtask s.graph expanded t task subtask (is ∙ ap (λ (x : ℕ). Some (role.Sink x)) e.1) at_task in
            let sinks : sink' ≡ sink = same_sink sink' sink (same_Some (holds.Sink sink') (holds.Sink sink) (sym at ∙ ap (slice_get tasks) one ∙ was)) in
            rw (e.1, sinks) here
        | inr e ↦ others m sink' e.1 (there t m sink' (λ one. e.1 (same_role m subtask (same_Some (role.Sink m) (role.Sink subtask) (sym is ∙ ap (slice_get s.graph.tasks) one ∙ at_task)))) is at)
      ]
    where
      same_role : (a b : ℕ) → role.Sink a ≡ role.Sink b → a ≡ b
      same_role a b e = cc
