-- An operator works its first record.
use Rattle.std.proofs.Common.{◌≡◌, ◌<◌, All, Option, Some, None, Result, Ok, Err, slice_get, length, ℕ, List, refl, sym, ap, subst, ◌∙◌}
use Rattle.std.proofs.lemmas.Option.{slice_get_within}
use Rattle.std.proofs.lemmas.List.Elements.{All-head, All-weaker}
use Rattle.abs_codec.specs.Entries.{value_at}
use Rattle.channels.specs.declared.item.Item.TheVariants.{Record}
use Rattle.commit_sink.specs.Sink.{Sinking}
use Rattle.dataflow_model.specs.Machine.{state_under}
use Rattle.job_graph.specs.declared.role.Role.TheVariants as role
use Rattle.job_state.specs.Held.{Held, logs_of}
use Rattle.job_state.specs.Sending.{items_at}
use Rattle.job_state.specs.declared.holding.Holding.{Holding}
use Rattle.job_state.specs.declared.holding.Holding.TheVariants as holds
use Rattle.operators.specs.Operator.{MayBeSent, FreshIsGood, StatesStayGood, SentFits}
use Rattle.engine_model.specs.AllRules.{AllRules, IsGood}
use Rattle.engine_model.specs.Calls.{EndsOperate, OperatesNext, input_at, left_by}
use Rattle.engine_model.specs.Keeps.{Keeps, IfRecord}
use Rattle.engine_model.specs.State.{State}
use Rattle.engine_model.specs.View.{run_of}
use Rattle.engine_model.specs.declared.fault.CoreFault.{CoreFault}
use Rattle.engine_model.specs.declared.fault.CoreFault.TheVariants.{NotReady, ChannelBlocked, Memory}
use Rattle.engine_model.proofs.Runs.{operate_runs}
use Rattle.engine_model.proofs.Shape.ShapesKept.{shape_operates}
use Rattle.engine_model.proofs.Calls.Goes.{KeepsAndGoes, shape_of, runs_of}
use Rattle.engine_model.proofs.Calls.Steps.{after, goes_keeps, goes_one, keeps_still}
use Rattle.engine_model.proofs.Calls.Runs.{LogsStay, runs_moved, no_other_sinks}
use Rattle.engine_model.proofs.Shape.Gates.{logs_stay}
use Rattle.engine_model.proofs.Ledger.Sinks.{first_is}

pub operator_no_sink : {K S : Type 0} (entries : List (K × S)) (sink : Sinking) → ◌≡◌ {A = Holding K S} (holds.Operator entries) (holds.Sink sink) → ⊥
operator_no_sink entries sink e = cc

-- an operator's laws: from good states and records that fit it goes on to such
pub record GoesOn {R K S O : Type 0} (rules : AllRules R K S O) (operator : O) : Type 0 where
  pub fresh : IsGood rules operator (rules.lang.meaning.fresh operator)
  pub state : (old : S) (row : R) → IsGood rules operator old → rules.RecordFits row → IsGood rules operator (rules.lang.meaning.apply operator old row).state
  pub sent : (old : S) (row : R) → IsGood rules operator old → rules.RecordFits row → All (λ s. rules.RecordFits s.1) (rules.lang.meaning.apply operator old row).sent

-- what operators promise of their meaning gives these
pub goes_on_of : {R K S O : Type 0} (rules : AllRules R K S O) → FreshIsGood rules.lang.meaning rules.StateFits rules.Suits → StatesStayGood rules.lang.meaning rules.RecordFits rules.StateFits rules.Suits
    → SentFits rules.lang.meaning rules.RecordFits rules.StateFits rules.Suits → (operator : O) → GoesOn rules operator
goes_on_of rules fresh state sent operator = record {
  fresh = fresh operator;
  state = λ old row good fits. state operator old row good fits;
  sent = λ old row good fits.
      All-weaker (MayBeSent rules.RecordFits (rules.lang.meaning.ports operator)) (λ out. rules.RecordFits out.1) (λ out may. may.1) (rules.lang.meaning.apply operator old row).sent (sent operator old row good fits);
}

-- the record that stands first in a channel fits
first_fits : {R K S O : Type 0} (rules : AllRules R K S O) (s : State O R K S) (h : Held R K S) → Keeps rules s → s.held ≡ Some h → (channel : ℕ) (row : R)
    → slice_get (items_at h.channels channel) 0 ≡ Some (Record row) → rules.RecordFits row
first_fits rules s h keeps is channel row head =
    let fit = (shape_of rules s keeps h is).fit channel in
    All-head (IfRecord rules.RecordFits) (Record row) _ (subst (All (IfRecord rules.RecordFits)) (first_is (items_at h.channels channel) (Record row) head) fit)

module _ {R K S O : Type 0} (rules : AllRules R K S O) (s : State O R K S) (h k : Held R K S) (n task number input channel : ℕ) (operator : O)
    (keeps : Keeps rules s) (is : s.held ≡ Some h) (at_task : slice_get s.graph.tasks task ≡ Some (role.Operator number)) (op : slice_get s.operators number ≡ Some operator)
    (goes_on : GoesOn rules operator) (leads : input_at s.graph task input ≡ Some channel) where
  -- the state that the operator goes on from is good
  state_good : (entries : List (K × S)) → slice_get h.tasks task ≡ Some (holds.Operator entries) → (key : Option K) → IsGood rules operator (state_under key (rules.lang.meaning.fresh operator) (value_at rules.lang.cmp entries))
  state_good entries was None = goes_on.fresh
  state_good entries was (Some key) = of (value_at rules.lang.cmp entries key) refl
    where
      of : (o : Option S) → value_at rules.lang.cmp entries key ≡ o → IsGood rules operator (state_under (Some key) (rules.lang.meaning.fresh operator) (value_at rules.lang.cmp entries))
      of None e = rw e goes_on.fresh
      of (Some state) e = rw e ((shape_of rules s keeps h is).good task number operator entries key state at_task op was e)

  operates_next : OperatesNext s.graph task h k input channel rules.lang operator → KeepsAndGoes rules s (after rules.lang s s.ledger (Some k) n)
  operates_next ends =
      let shape = shape_of rules s keeps h is in
      let runs = runs_of rules s keeps h is in
      let key = rules.lang.meaning.key operator ends.row in
      let from = state_under key (rules.lang.meaning.fresh operator) (value_at rules.lang.cmp ends.entries) in
      let outcome = rules.lang.meaning.apply operator from ends.row in
      let from_good = state_good ends.entries ends.was key in
      let fits = first_fits rules s h keeps is channel ends.row ends.head in
      let moved = ends.operates in
      let within : task < length s.graph.tasks = slice_get_within s.graph.tasks task (role.Operator number) at_task in
      let logs : LogsStay rules.lang s h k runs s.ledger (Some k) n = λ t acked. ap (λ (x : Held R K S). logs_of s.graph x t) moved.ends ∙ logs_stay s.graph h task (shape.gate_fits task within) input channel leads ends.row t acked in
      goes_keeps rules s keeps s.ledger (Some k) n refl keeps.ordered
      (shape_operates rules s.graph s.operators h shape rules.lang.meaning task number input channel operator ends.row key outcome.state outcome.sent k at_task op leads ends.head (goes_on.state from ends.row from_good fits) (goes_on.sent from ends.row from_good fits) moved)
      (runs_moved rules.lang s h k runs s.ledger (Some k) n keeps.numbered logs (ap (λ (x : Held R K S). x.copies) moved.ends) (ap (λ (x : Held R K S). x.coordination) moved.ends)
      (λ t sink at.
      no_other_sinks h.tasks task (holds.Operator moved.kept) (slice_get_within h.tasks task (holds.Operator ends.entries) ends.was) (operator_no_sink moved.kept) t sink
      (ap (λ (x : Held R K S). slice_get x.tasks t) (sym moved.ends) ∙ at))
      runs.sinks)
      (goes_one rules.lang s h is s.ledger k n (run_of rules.lang.cmp s.graph k)
      (operate_runs rules.lang s h k task number input channel operator ends.row ends.entries at_task op leads (shape.gate_fits task within) shape.logs ends.free ends.head ends.was moved) refl)

  pub keeps_operate : (result : Result Unit CoreFault) → EndsOperate s.graph task h k input channel rules.lang operator result
      → KeepsAndGoes rules s (record s { held = left_by result (Some k); faults = n })
  keeps_operate (Ok u) ends = operates_next ends
  keeps_operate (Err ChannelBlocked) ends = keeps_still rules s keeps h is k n ends.1
  keeps_operate (Err NotReady) ends = keeps_still rules s keeps h is k n ends.2
  keeps_operate (Err Memory) ends = keeps_still rules s keeps h is k n ends.2
  keeps_operate (Err other) ends = absurd ends
