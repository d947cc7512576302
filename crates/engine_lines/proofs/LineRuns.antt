-- Every moment of a plain run of a line.
use Rattle.std.proofs.Common.{◌≡◌, ℕ, zero, suc, List, [], ◌∷◌, ◌++◌, take, drop, slice_get, Some, refl, sym, ap, ap₂, ◌∙◌, subst, arith, append_assoc, append-nil}
use Rattle.std.proofs.lemmas.Option.{none-some, same_Some, slice_get_within}
use Rattle.dataflow_model.specs.Graph.{Meaning, Task, SourceTask, OperatorTask, SinkTask, Route, Channel, Job, admitted}
use Rattle.dataflow_model.specs.Machine.{Configuration, Move, Read, Work, mover, HasInputs, handled, after, Takes, Reaches, start}
use Rattle.engine_lines.specs.Line.{on_first_port, no_states, outcome_under, states_after, sent_along, states_along, applied, line_channel, TakesAll, IsLineAt}
use Rattle.engine_lines.specs.PlainLaws.{LinesApply}
use Rattle.engine_lines.proofs.Along.{take_more, first_and_rest, sent_along-append, states_along-append, admitted-line}

operator_no_source : {O : Type 0} (operator : O) (partition : ℕ) → OperatorTask operator ≡ SourceTask partition → ⊥
operator_no_source operator partition e = cc

sink_no_source : {O : Type 0} (kind : Task O) (partition : ℕ) → SinkTask ≡ kind → kind ≡ SourceTask partition → ⊥
sink_no_source kind partition e f = cc

abbrev partition_of : {O : Type 0} → Task O → ℕ
partition_of (SourceTask partition) = partition
partition_of (OperatorTask operator) = 0
partition_of SinkTask = 0

module _ {R K S O : Type 0} (meaning : Meaning R K S O) (partitions : ℕ → List R) (partition : ℕ) (operator : O) (first second : Route) (first_takes : TakesAll first) (second_takes : TakesAll second) where
  abbrev line : Job R K S O
  line = record { meaning = meaning; graph = record { tasks = SourceTask partition ∷ OperatorTask operator ∷ SinkTask ∷ []; channels = line_channel 0 first ∷ line_channel 1 second ∷ [] }; partitions = partitions }

  abbrev rows : List R
  rows = partitions partition

  abbrev At : Configuration R K S → Type 0
  At c = IsLineAt line partition operator c

  abbrev then_at : Configuration R K S → Move → Task O → R → Configuration R K S
  then_at old move kind r = after line move (handled meaning kind (old.tasks (mover move)) r) old

  reads : (old : Configuration R K S) (r : R) → slice_get rows (old.tasks 0).offset ≡ Some r → At old → At (then_at old (Read 0) (SourceTask partition) r)
  reads old r is i =
      let a = (old.tasks 2).output in
      let b = old.channels 1 in
      let c = old.channels 0 in
      let s = (old.tasks 1).states in
      let o = (old.tasks 0).offset in
      let more = take_more rows o r is in
      let one : admitted meaning (line_channel 0 first) ((0, r) ∷ []) ≡ r ∷ [] = admitted-line meaning operator 0 first ((0, r) ∷ []) first_takes in
      record {
        read = omega (arith, slice_get_within rows o r is);
        sent =
            ap (λ (x : List R). a ++ (b ++ []) ++ sent_along meaning operator s (c ++ x)) one
            ∙ ap₂ (λ x y. a ++ x ++ y) (append-nil b) (sent_along-append meaning operator s c (r ∷ []))
            ∙ sym (append_assoc (a ++ b) (sent_along meaning operator s c) (sent_along meaning operator (states_along meaning operator s c) (r ∷ [])))
            ∙ ap₂ (λ x y. x ++ sent_along meaning operator y (r ∷ [])) i.sent i.states
            ∙ sym (sent_along-append meaning operator no_states (take o rows) (r ∷ []))
            ∙ ap (λ l. applied meaning operator l) (sym more);
        states =
            ap (λ (x : List R). states_along meaning operator s (c ++ x)) one
            ∙ states_along-append meaning operator s c (r ∷ [])
            ∙ ap (λ y. states_along meaning operator y (r ∷ [])) i.states
            ∙ sym (states_along-append meaning operator no_states (take o rows) (r ∷ []))
            ∙ ap (λ l. states_along meaning operator no_states l) (sym more);
      }

  operates : (old : Configuration R K S) (r : R) → slice_get (old.channels 0) 0 ≡ Some r → At old → At (then_at old (Work 1 0) (OperatorTask operator) r)
  operates old r is i =
      let a = (old.tasks 2).output in
      let b = old.channels 1 in
      let c = old.channels 0 in
      let s = (old.tasks 1).states in
      let next = states_after meaning operator s r in
      let sent = (outcome_under meaning operator s r).sent in
      let split = first_and_rest c r is in
      let rest = drop 1 c in
      record {
        read = i.read;
        sent =
            ap₂ (λ x y. a ++ (b ++ x) ++ sent_along meaning operator next y) (admitted-line meaning operator 1 second sent second_takes) (append-nil rest)
            ∙ ap (λ l. l ++ sent_along meaning operator next rest) (sym (append_assoc a b (on_first_port sent)))
            ∙ append_assoc (a ++ b) (on_first_port sent) (sent_along meaning operator next rest)
            ∙ ap (λ l. a ++ b ++ sent_along meaning operator s l) (sym split)
            ∙ i.sent;
        states = ap (λ l. states_along meaning operator next l) (append-nil rest) ∙ ap (λ l. states_along meaning operator s l) (sym split) ∙ i.states;
      }

  puts_out : (old : Configuration R K S) (r : R) → slice_get (old.channels 1) 0 ≡ Some r → At old → At (then_at old (Work 2 1) SinkTask r)
  puts_out old r is i =
      let a = (old.tasks 2).output in
      let b = old.channels 1 in
      let c = old.channels 0 in
      let s = (old.tasks 1).states in
      let split = first_and_rest b r is in
      record {
        read = i.read;
        sent =
            ap₂ (λ x y. (a ++ r ∷ []) ++ x ++ sent_along meaning operator s y) (append-nil (drop 1 b)) (append-nil c)
            ∙ ap (λ l. l ++ sent_along meaning operator s c) (append_assoc a (r ∷ []) (drop 1 b) ∙ ap (λ l. a ++ l) (sym split))
            ∙ i.sent;
        states = ap (λ l. states_along meaning operator s l) (append-nil c) ∙ i.states;
      }

  step_kept : (old : Configuration R K S) (move : Move) (kind : Task O) (r : R) → slice_get line.graph.tasks (mover move) ≡ Some kind → Takes line move kind r old → At old → At (then_at old move kind r)
  step_kept old (Read zero) kind r is t i =
      let k = same_Some (SourceTask partition) kind is in
      let same : t.0 ≡ partition = sym (ap partition_of (k ∙ t.1)) in
      subst (λ x. At (then_at old (Read 0) x r)) k (reads old r (subst (λ p. slice_get (partitions p) (old.tasks 0).offset ≡ Some r) same t.2) i)
  step_kept old (Read (suc zero)) kind r is t i = absurd (operator_no_source operator t.0 (same_Some (OperatorTask operator) kind is ∙ t.1))
  step_kept old (Read (suc (suc zero))) kind r is t i = absurd (sink_no_source kind t.0 (same_Some SinkTask kind is) t.1)
  step_kept old (Read (suc (suc (suc task)))) kind r is t i = absurd (none-some kind is)
  step_kept old (Work zero input) kind r is t i = absurd (subst HasInputs (sym (same_Some (SourceTask partition) kind is)) t.1)
  step_kept old (Work (suc zero) zero) kind r is t i =
      subst (λ x. At (then_at old (Work 1 0) x r)) (same_Some (OperatorTask operator) kind is) (operates old r t.4 i)
  step_kept old (Work (suc zero) (suc zero)) kind r is t i =
      let e : 2 ≡ 1 = ap (λ (c : Channel). c.receiver) (same_Some (line_channel 1 second) t.0 t.2) ∙ t.3 in absurd (omega (arith, e))
  step_kept old (Work (suc zero) (suc (suc input))) kind r is t i = absurd (none-some t.0 t.2)
  step_kept old (Work (suc (suc zero)) zero) kind r is t i =
      let e : 1 ≡ 2 = ap (λ (c : Channel). c.receiver) (same_Some (line_channel 0 first) t.0 t.2) ∙ t.3 in absurd (omega (arith, e))
  step_kept old (Work (suc (suc zero)) (suc zero)) kind r is t i =
      subst (λ x. At (then_at old (Work 2 1) x r)) (same_Some SinkTask kind is) (puts_out old r t.4 i)
  step_kept old (Work (suc (suc zero)) (suc (suc input))) kind r is t i = absurd (none-some t.0 t.2)
  step_kept old (Work (suc (suc (suc task))) input) kind r is t i = absurd (none-some kind is)

  run_kept : (moves : List Move) (old new : Configuration R K S) → Reaches line moves old new → At old → At new
  run_kept [] old new e i = subst At (sym e) i
  run_kept (move ∷ moves) old new reached i =
      let s = reached.1 in
      let here : At reached.0 = subst At (sym s.ends) (step_kept old move s.kind s.taken s.is_task s.takes i) in
      run_kept moves reached.0 new reached.2 here

  starts : At start
  starts = record { read = omega arith; sent = refl; states = refl }

  from_start : (moves : List Move) (at : Configuration R K S) → Reaches line moves start at → At at
  from_start moves at reached = run_kept moves start at reached starts

module _ {R K S O : Type 0} where
  pub lines_apply : (job : Job R K S O) → LinesApply job
  lines_apply job partition operator moves at is reached =
      let build : List (Task O) → List Channel → Job R K S O = λ ts cs. record { meaning = job.meaning; graph = record { tasks = ts; channels = cs }; partitions = job.partitions } in
      let same : job ≡ line job.meaning job.partitions partition operator is.first is.second is.first_takes is.second_takes = ap₂ build is.tasks is.channels in
      subst (λ (j : Job R K S O). Reaches j moves start at → IsLineAt j partition operator at) (sym same) (from_start job.meaning job.partitions partition operator is.first is.second is.first_takes is.second_takes moves at) reached
