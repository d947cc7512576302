-- A sink takes records from the places where they stand: each as it would once those before it are taken.
use Rattle.std.proofs.Common.{◌≡◌, ◌≤◌, ◌+◌, ◌⊎◌, inl, inr, ℕ, Bool, false, List, length, slice_get, drop, Option, Some, None, Ok, Err, refl, sym, ap, subst, ◌∙◌}
use Rattle.alignment.specs.Table.{is_logged}
use Rattle.channels.specs.Items.{leading_records}
use Rattle.channels.specs.declared.item.Item.{Item}
use Rattle.channels.specs.declared.item.Item.TheVariants.{Record}
use Rattle.commit_sink.specs.Ledger.{Ledger, Ends, open_refusal, appended}
use Rattle.commit_sink.specs.Sink.{Sinking}
use Rattle.commit_sink.specs.declared.transactions.TransactionFault.{TransactionFault}
use Rattle.commit_sink.specs.declared.transactions.TransactionFault.TheVariants.{Memory, Fault, NotPreCommitted, NotOpen, AlreadyCommitted, NoSuchTransaction}
use Rattle.job_graph.specs.Expanded.{Expanded}
use Rattle.job_graph.specs.declared.role.Role.{Role}
use Rattle.job_graph.specs.declared.role.Role.TheVariants as role
use Rattle.job_state.proofs.AtOnce.{first_here, taken_more}
use Rattle.job_state.specs.AtOnce.{without_first}
use Rattle.job_state.specs.Held.{Held, gate_at, log_with, record_taken}
use Rattle.job_state.specs.Sending.{items_at, without_head}
use Rattle.engine_model.specs.Calls.{input_at, PutsOut, FailsToPutOut}
use Rattle.engine_model.specs.Language.{Language}
use Rattle.engine_model.specs.declared.fault.CoreFault.TheVariants.{Device}
use Rattle.claims.specs.Due.{IsDue, TakesWork, FailsWork, EndsAccept}
use Rattle.claims.specs.Rows.{SinksInto, with_taken}
use Rattle.claims.specs.Tasks.{WorksAs}
use Rattle.claims.specs.declared.parts.Given.TheVariants as given
use Rattle.claims.specs.declared.parts.Made.{Made}
use Rattle.claims.specs.declared.parts.Operand.{Operand}
use Rattle.claims.proofs.Leading.{lead_behind, behind_leads}
use Rattle.claims.proofs.SinkRows.{no_operator, puts_out, same_sink, still_open}

-- a call on an open transaction that has not ended well has failed before its work or after it
pub device_failed : (old new : Ledger × ℕ) (refusal : Option TransactionFault) (after : Ledger) (fault : TransactionFault) → refusal ≡ None → Ends {T = Unit {0}} old new refusal after (Err fault) → (new.0 ≡ old.0) ⊎ (new.0 ≡ after)
device_failed old new refusal after Memory none ends = inl ends.1
device_failed old new refusal after Fault none ends = elim ends.0 [ inl same ↦ inl same | inr done ↦ inr done.1 ]
device_failed old new refusal after NotPreCommitted none ends = absurd (let e : ◌≡◌ {A = Option TransactionFault} (Some NotPreCommitted) None = sym ends.0 ∙ none in cc)
device_failed old new refusal after NotOpen none ends = absurd (let e : ◌≡◌ {A = Option TransactionFault} (Some NotOpen) None = sym ends.0 ∙ none in cc)
device_failed old new refusal after AlreadyCommitted none ends = absurd (let e : ◌≡◌ {A = Option TransactionFault} (Some AlreadyCommitted) None = sym ends.0 ∙ none in cc)
device_failed old new refusal after NoSuchTransaction none ends = absurd (let e : ◌≡◌ {A = Option TransactionFault} (Some NoSuchTransaction) None = sym ends.0 ∙ none in cc)

same_channel : (a b : ℕ) → ◌≡◌ {A = Option ℕ} (Some a) (Some b) → a ≡ b
same_channel a b e = cc

module _ {R K S O : Type 0} (lang : Language R K S O) (graph : Expanded) (operators : List O) (task input channel : ℕ) (h : Held R K S) (place : ℕ) (at : SinksInto graph task input h channel) where
  -- the records before the place are taken
  abbrev there : Held R K S
  there = with_taken h channel place

  first_there : items_at there.channels channel ≡ drop place (items_at h.channels channel)
  first_there = first_here h.channels place channel

  head_there : (row : R) → slice_get (leading_records (items_at h.channels channel)) place ≡ Some row → slice_get (items_at there.channels channel) 0 ≡ Some (Record row)
  head_there row leads = ap (λ (l : List (Item R)). slice_get l 0) first_there ∙ lead_behind (items_at h.channels channel) place row leads

  -- the record that stands at the place is due
  pub due_there : (row : R) → slice_get (leading_records (items_at h.channels channel)) place ≡ Some row → IsDue lang graph operators task input there (given.Sink row)
  due_there row leads = (
    channel,
    record {
      subtask = at.subtask;
      is_sink = at.is_sink;
      leads = at.leads;
      first = (at.free, head_there row leads);
    },
  )

  -- and no other one
  pub other_not_due : (row : R) → place ≤ length (leading_records (items_at h.channels channel)) → (slice_get (leading_records (items_at h.channels channel)) place ≡ Some row → ⊥) → ¬ IsDue lang graph operators task input there (given.Sink row)
  other_not_due row within other due =
      let same : due.0 ≡ channel = same_channel due.0 channel (sym due.1.leads ∙ at.leads) in
      let first : slice_get (items_at there.channels channel) 0 ≡ Some (Record row) = subst (λ (c : ℕ). slice_get (items_at there.channels c) 0 ≡ Some (Record row)) same due.1.first.1 in
      other (behind_leads (items_at h.channels channel) place row within (ap (λ (l : List (Item R)). slice_get l 0) (sym first_there) ∙ first))

  -- no operator's work is
  pub no_operand_due : (operand : Operand O K S R) → ¬ IsDue lang graph operators task input there (given.Operator operand)
  no_operand_due operand due = no_operator due.1.number at.subtask (sym due.1.is_operator ∙ at.is_sink)

  -- where the record is taken, its transaction is open still
  pub still_open_there : (m : Made O K S R) (k : Held R K S) (old new : Ledger) (transaction : ℕ) → EndsAccept lang graph operators task input there k old new m (Ok tt) → (at.sink).open_one ≡ transaction → open_refusal old transaction ≡ None → open_refusal new transaction ≡ None
  still_open_there m k old new transaction ends is is_open =
      let puts = puts_out lang graph operators task input channel there k old new m sinks_still ends in
      let one : (puts.sink).open_one ≡ transaction = ap (λ (s : Sinking). s.open_one) (same_sink puts.sink at.sink (sym puts.was ∙ at.was)) ∙ is in
      let bytes = lang.spelling puts.row in
      subst (λ (l : Ledger). open_refusal l transaction ≡ None) (sym (puts.appends ∙ ap (λ (n : ℕ). appended old n bytes) one)) (still_open old transaction bytes is_open)
    where
      sinks_still : SinksInto graph task input there channel
      sinks_still = record { subtask = at.subtask; sink = at.sink; is_sink = at.is_sink; leads = at.leads; was = at.was; free = at.free }

  module _ (row : R) (leads : slice_get (leading_records (items_at h.channels channel)) place ≡ Some row) (old new : Ledger) where
    -- the record is put out, and taken with no log
    pub row_taken : is_logged (gate_at h task) input ≡ false → new ≡ appended old (at.sink).open_one (lang.spelling row) → TakesWork lang graph operators task input there (with_taken h channel (place + 1)) old new (given.Sink row)
    row_taken unlogged appends =
        let next : Held R K S = with_taken h channel (place + 1) in
        let due = due_there row leads in
        let chs = without_head channel there.channels in
        let one : without_first (place + 1) channel h.channels ≡ chs = sym (taken_more h.channels there.channels chs place channel refl refl) in
        let ends : next ≡ record_taken task input channel row there =
        ap (λ (cs : List (List (Item R))). record h { channels = cs }) one
        ∙ ap (λ (b : Bool). record h { logs = log_with b channel row h.logs; channels = chs }) (sym unlogged) in
        let puts : PutsOut task input there next channel old new lang.spelling =
        record { row = row; sink = at.sink; free = at.free; head = head_there row leads; was = at.was; appends = appends; ends = ends } in (
          due,
          subst (λ (r : Option Role). WorksAs graph task input there next old new lang operators (Ok tt) r (input_at graph task input)) (sym at.is_sink)
              (subst (λ (c : Option ℕ). WorksAs graph task input there next old new lang operators (Ok tt) (Some (role.Sink at.subtask)) c) (sym at.leads) puts),
        )

    -- or the device fails
    pub row_failed : (new ≡ old) ⊎ (new ≡ appended old (at.sink).open_one (lang.spelling row)) → FailsWork lang graph operators task input there there old new (given.Sink row)
    row_failed either =
        let due = due_there row leads in
        let fails : FailsToPutOut task input there there channel old new lang.spelling =
        record { row = row; sink = at.sink; free = at.free; head = head_there row leads; was = at.was; either = either } in (
          due,
          subst (λ (r : Option Role). WorksAs graph task input there there old new lang operators (Err Device) r (input_at graph task input)) (sym at.is_sink)
              (subst (λ (c : Option ℕ). WorksAs graph task input there there old new lang operators (Err Device) (Some (role.Sink at.subtask)) c) (sym at.leads) fails),
        )
