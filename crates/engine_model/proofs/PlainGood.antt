-- At every moment of a plain run, what the tasks hold is such as they can go on from, and each record in a channel fits.
use Rattle.std.proofs.Common.{◌≡◌, ◌≤◌, ◌+◌, ◌==◌, inl, inr, if◌then◌else◌, All, Option, Some, None, slice_get, unwrap_or, length, map, filter, drop, ℕ, Bool, true, List, [], ◌∷◌, refl, sym, ap, ◌∙◌, subst, arith}
use Rattle.std.specs.Ordering.{is_eq}
use Rattle.std.specs.declared.cmp.Ordering.{Ordering}
use Rattle.std.specs.declared.cmp.Ordering.TheVariants.{Less, Equal, Greater}
use Rattle.std.proofs.lemmas.Bool.{cases_Bool, false≢true}
use Rattle.std.proofs.lemmas.Bool.Decides.{eqb_tells}
use Rattle.std.proofs.lemmas.List.Elements.{All-nil, All-cons, All-head, All-tail, All-append, All-drop, All-filter, All-weaker}
use Rattle.std.proofs.lemmas.Option.{none-some, same_Some, slice_get_within}
use Rattle.dataflow_model.specs.Graph.{Graph, Task, SourceTask, OperatorTask, SinkTask, Channel, Job, admits}
use Rattle.dataflow_model.specs.Machine.{Configuration, Effect, Move, Read, Work, mover, state_under, kept_under, left, handled, received, Takes, Step, Reaches, start}
use Rattle.operators.specs.Operator.{MayBeSent}
use Rattle.engine_model.specs.AllRules.{AllRules, IsGood}
use Rattle.engine_model.specs.RestartLaws.{OperatorsAreLawful}

module _ {R K S O : Type 0} (rules : AllRules R K S O) (graph : Graph O) (partitions : ℕ → List R) where
  abbrev job : Job R K S O
  job = record { meaning = rules.lang.meaning; graph = graph; partitions = partitions }

  pub record IsGoodAt (c : Configuration R K S) : Type 0 where
    pub offsets : (task partition : ℕ) → slice_get job.graph.tasks task ≡ Some (SourceTask partition) → (c.tasks task).offset ≤ length (job.partitions partition)
    pub states : (task : ℕ) (operator : O) (key : K) (state : S) → slice_get job.graph.tasks task ≡ Some (OperatorTask operator) → (c.tasks task).states key ≡ Some state → rules.KeyFits key × IsGood rules operator state
    pub records : (channel : ℕ) → All rules.RecordFits (c.channels channel)

  start_good : IsGoodAt start
  start_good = record {
    offsets = λ task partition is. omega arith;
    states = λ task operator key state is at. absurd (none-some state at);
    records = λ channel. All-nil rules.RecordFits;
  }

  module _ (laws : OperatorsAreLawful rules) (fit : (partition offset : ℕ) (r : R) → slice_get (job.partitions partition) offset ≡ Some r → rules.RecordFits r) where
    first_of : (P : R → Type 0) (xs : List R) (r : R) → slice_get xs 0 ≡ Some r → All P xs → P r
    first_of P [] r at all = absurd (none-some r at)
    first_of P (x ∷ xs) r at all = subst P (same_Some x r at) (All-head P x xs all)

    taken_fits : (move : Move) (kind : Task O) (r : R) (old : Configuration R K S) → IsGoodAt old → Takes job move kind r old → rules.RecordFits r
    taken_fits (Read task) kind r old good takes = fit takes.0 (old.tasks task).offset r takes.2
    taken_fits (Work task input) kind r old good takes = first_of rules.RecordFits (old.channels input) r takes.4 (good.records input)

    -- the state under a key is good
    under_good : (operator : O) (key : Option K) (states : K → Option S) → ((k : K) (state : S) → states k ≡ Some state → rules.KeyFits k × IsGood rules operator state) → IsGood rules operator (state_under key (job.meaning.fresh operator) states)
    under_good operator None states each = laws.fresh operator
    under_good operator (Some k) states each = by (states k) refl
      where
        by : (o : Option S) → states k ≡ o → IsGood rules operator (unwrap_or (states k) (job.meaning.fresh operator))
        by None e = subst (λ (o : Option S). IsGood rules operator (unwrap_or o (job.meaning.fresh operator))) (sym e) (laws.fresh operator)
        by (Some state) e = subst (λ (o : Option S). IsGood rules operator (unwrap_or o (job.meaning.fresh operator))) (sym e) (each k state e).1

    equal_from : (o : Ordering) → is_eq o ≡ true → o ≡ Equal
    equal_from Less e = absurd (false≢true e)
    equal_from Equal e = refl
    equal_from Greater e = absurd (false≢true e)

    kept_good : (operator : O) (key : Option K) (new : S) (states : K → Option S) → ((k : K) → key ≡ Some k → rules.KeyFits k) → IsGood rules operator new
        → ((k : K) (state : S) → states k ≡ Some state → rules.KeyFits k × IsGood rules operator state)
        → (k : K) (state : S) → kept_under job.meaning.same_key key new states k ≡ Some state → rules.KeyFits k × IsGood rules operator state
    kept_good operator None new states fits good each k state at = each k state at
    kept_good operator (Some key) new states fits good each k state at =
        elim (cases_Bool (job.meaning.same_key key k)) [
          | inl here ↦
              let same : key ≡ k = laws.exact key k (equal_from (rules.lang.cmp key k) (sym (laws.same_key key k) ∙ here)) in
              let value : new ≡ state = same_Some new state (ap (λ (b : Bool). if b then Some new else states k) (sym here) ∙ at) in
              (subst rules.KeyFits same (fits key refl), subst (IsGood rules operator) value good)
          | inr off ↦ each k state (ap (λ (b : Bool). if b then Some new else states k) (sym off) ∙ at)
        ]

    all_admitted : (channel : Channel) (sent : List (ℕ × R)) → All (λ (x : ℕ × R). rules.RecordFits x.1) sent → All rules.RecordFits (map (λ (x : ℕ × R). x.1) (filter (admits job.meaning channel) sent))
    all_admitted channel sent all = firsts (filter (admits job.meaning channel) sent) (All-filter (admits job.meaning channel) (λ (x : ℕ × R). rules.RecordFits x.1) sent all)
      where
        firsts : (xs : List (ℕ × R)) → All (λ (x : ℕ × R). rules.RecordFits x.1) xs → All rules.RecordFits (map (λ (x : ℕ × R). x.1) xs)
        firsts [] all = All-nil rules.RecordFits
        firsts (x ∷ xs) all = All-cons rules.RecordFits x.1 (map (λ (y : ℕ × R). y.1) xs) (All-head (λ (y : ℕ × R). rules.RecordFits y.1) x xs all) (firsts xs (All-tail (λ (y : ℕ × R). rules.RecordFits y.1) x xs all))

    all_received : (task : ℕ) (sent : List (ℕ × R)) (o : Option Channel) → All (λ (x : ℕ × R). rules.RecordFits x.1) sent → All rules.RecordFits (received job.meaning task sent o)
    all_received task sent None all = All-nil rules.RecordFits
    all_received task sent (Some channel) all =
        elim (cases_Bool (channel.sender == task)) [
          | inl mine ↦ subst (λ (b : Bool). All rules.RecordFits (if b then map (λ (x : ℕ × R). x.1) (filter (admits job.meaning channel) sent) else [])) (sym mine) (all_admitted channel sent all)
          | inr other ↦ subst (λ (b : Bool). All rules.RecordFits (if b then map (λ (x : ℕ × R). x.1) (filter (admits job.meaning channel) sent) else [])) (sym other) (All-nil rules.RecordFits)
        ]

    all_left : (move : Move) (channel : ℕ) (xs : List R) → All rules.RecordFits xs → All rules.RecordFits (left move channel xs)
    all_left (Read task) channel xs all = all
    all_left (Work task input) channel xs all =
        elim (cases_Bool (channel == input)) [
          | inl here ↦ subst (λ (b : Bool). All rules.RecordFits (if b then drop 1 xs else xs)) (sym here) (All-drop rules.RecordFits 1 xs all)
          | inr off ↦ subst (λ (b : Bool). All rules.RecordFits (if b then drop 1 xs else xs)) (sym off) all
        ]

    -- what a task holds and sends
    pub record EffectIsGood (kind : Task O) (effect : Effect R K S) : Type 0 where
      pub offset : (partition : ℕ) → kind ≡ SourceTask partition → effect.held.offset ≤ length (job.partitions partition)
      pub states : (operator : O) (key : K) (state : S) → kind ≡ OperatorTask operator → effect.held.states key ≡ Some state → rules.KeyFits key × IsGood rules operator state
      pub sent : All (λ (x : ℕ × R). rules.RecordFits x.1) effect.sent

    effect_good : (move : Move) (kind : Task O) (r : R) (old : Configuration R K S) → IsGoodAt old → slice_get job.graph.tasks (mover move) ≡ Some kind → Takes job move kind r old → EffectIsGood kind (handled job.meaning kind (old.tasks (mover move)) r)
    effect_good (Read task) (SourceTask p) r old good is takes = record {
      offset = λ partition e.
          let same : takes.0 ≡ partition = source_is takes.0 partition (sym takes.1 ∙ e) in
          subst (λ (q : ℕ). (old.tasks task).offset + 1 ≤ length (job.partitions q)) same (let within = slice_get_within (job.partitions takes.0) (old.tasks task).offset r takes.2 in omega (arith, within));
      states = λ operator key state e at. absurd (not_both p operator e);
      sent = All-cons (λ (x : ℕ × R). rules.RecordFits x.1) (0, r) [] (taken_fits (Read task) (SourceTask p) r old good takes) (All-nil (λ (x : ℕ × R). rules.RecordFits x.1));
    }
      where
        source_is : (a b : ℕ) → ◌≡◌ {A = Task O} (SourceTask a) (SourceTask b) → a ≡ b
        source_is a b e = cc

        not_both : (a : ℕ) (o : O) → SourceTask a ≡ OperatorTask o → ⊥
        not_both a o e = cc
    effect_good (Read task) (OperatorTask o) r old good is takes = absurd (cc takes.1)
    effect_good (Read task) SinkTask r old good is takes = absurd (cc takes.1)
    effect_good (Work task input) (SourceTask p) r old good is takes = absurd takes.1
    effect_good (Work task input) (OperatorTask o) r old good is takes =
        let fits = taken_fits (Work task input) (OperatorTask o) r old good takes in
        let each : (k : K) (state : S) → (old.tasks task).states k ≡ Some state → rules.KeyFits k × IsGood rules o state = λ k state at. good.states task o k state is at in
        let now = under_good o (job.meaning.key o r) (old.tasks task).states each in
        record {
          offset = λ partition e. absurd (not_both partition o (sym e));
          states = λ operator key state e at.
              let same : o ≡ operator = one_operator o operator e in
              subst (λ (x : O). rules.KeyFits key × IsGood rules x state) same
              (kept_good o (job.meaning.key o r) (job.meaning.apply o (state_under (job.meaning.key o r) (job.meaning.fresh o) (old.tasks task).states) r).state (old.tasks task).states (λ k found. laws.keys o r k fits found)
              (laws.states o (state_under (job.meaning.key o r) (job.meaning.fresh o) (old.tasks task).states) r now fits) each key state at);
          sent = All-weaker (MayBeSent rules.RecordFits (job.meaning.ports o)) (λ (x : ℕ × R). rules.RecordFits x.1) (λ x may. may.1) (job.meaning.apply o (state_under (job.meaning.key o r) (job.meaning.fresh o) (old.tasks task).states) r).sent
              (laws.sent o (state_under (job.meaning.key o r) (job.meaning.fresh o) (old.tasks task).states) r now fits);
        }
      where
        not_both : (a : ℕ) (x : O) → SourceTask a ≡ OperatorTask x → ⊥
        not_both a x e = cc

        one_operator : (a b : O) → OperatorTask a ≡ OperatorTask b → a ≡ b
        one_operator a b e = cc
    effect_good (Work task input) SinkTask r old good is takes = record {
      offset = λ partition e. absurd (cc e);
      states = λ operator key state e at. absurd (cc e);
      sent = All-nil (λ (x : ℕ × R). rules.RecordFits x.1);
    }

    step_good : (move : Move) (old new : Configuration R K S) → Step job move old new → IsGoodAt old → IsGoodAt new
    step_good move old new x good =
        let effect = handled job.meaning x.kind (old.tasks (mover move)) x.taken in
        let e = effect_good move x.kind x.taken old good x.is_task x.takes in
        subst IsGoodAt (sym x.ends) (record {
          offsets = λ task partition is.
              elim (eqb_tells task (mover move)) [
                | inl here ↦
                    subst (λ (b : Bool). (if b then effect.held else old.tasks task).offset ≤ length (job.partitions partition)) (sym here.0)
                    (e.offset partition (same_Some x.kind (SourceTask partition) (sym x.is_task ∙ ap (slice_get job.graph.tasks) (sym here.1) ∙ is)))
                | inr off ↦ subst (λ (b : Bool). (if b then effect.held else old.tasks task).offset ≤ length (job.partitions partition)) (sym off.0) (good.offsets task partition is)
              ];
          states = λ task operator key state is at.
              elim (eqb_tells task (mover move)) [
                | inl here ↦
                    e.states operator key state (same_Some x.kind (OperatorTask operator) (sym x.is_task ∙ ap (slice_get job.graph.tasks) (sym here.1) ∙ is))
                    (ap (λ (b : Bool). (if b then effect.held else old.tasks task).states key) (sym here.0) ∙ at)
                | inr off ↦ good.states task operator key state is (ap (λ (b : Bool). (if b then effect.held else old.tasks task).states key) (sym off.0) ∙ at)
              ];
          records = λ channel. All-append rules.RecordFits (left move channel (old.channels channel)) (received job.meaning (mover move) effect.sent (slice_get job.graph.channels channel)) (all_left move channel (old.channels channel) (good.records channel))
              (all_received (mover move) effect.sent (slice_get job.graph.channels channel) e.sent);
        })

    reaches_good : (moves : List Move) (old new : Configuration R K S) → Reaches job moves old new → IsGoodAt old → IsGoodAt new
    reaches_good [] old new e good = subst IsGoodAt (sym e) good
    reaches_good (move ∷ moves) old new e good = reaches_good moves e.0 new e.2 (step_good move old e.0 e.1 good)

    pub runs_good : (moves : List Move) (new : Configuration R K S) → Reaches job moves start new → IsGoodAt new
    runs_good moves new e = reaches_good moves start new e start_good
