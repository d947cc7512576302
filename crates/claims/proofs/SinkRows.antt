-- A sink takes what was made of its work, one after another.
use Rattle.std.proofs.Common.{◌≡◌, ◌<◌, ◌+◌, ◌++◌, inl, inr, ℕ, suc, List, [], ◌∷◌, length, map, take, drop, get_or, slice_get, Option, Some, None, Result, Ok, Err, refl, sym, ap, subst, ◌∙◌, arith}
use Rattle.alignment.specs.Table.{is_blocked, is_logged}
use Rattle.commit_sink.specs.Ledger.{Ledger, Transaction, IsOrdered, transaction_at, with_transaction, refusal, if_open, open_refusal, appended}
use Rattle.commit_sink.specs.Sink.{Sinking}
use Rattle.commit_sink.specs.declared.transactions.TransactionFault.{TransactionFault}
use Rattle.commit_sink.specs.declared.transactions.TransactionFault.TheVariants.{NoSuchTransaction}
use Rattle.job_graph.specs.Expanded.{Expanded}
use Rattle.job_graph.specs.declared.role.Role.{Role}
use Rattle.job_graph.specs.declared.role.Role.TheVariants as role
use Rattle.job_state.specs.Held.{Held, gate_at}
use Rattle.job_state.specs.declared.holding.Holding.{Holding}
use Rattle.job_state.specs.declared.holding.Holding.TheVariants as holds
use Rattle.engine_model.specs.Calls.{input_at, PutsOut}
use Rattle.engine_model.specs.Language.{Language}
use Rattle.engine_model.specs.declared.fault.CoreFault.{CoreFault}
use Rattle.engine_model.proofs.Ledger.Places.{writes}
use Rattle.claims.specs.Carried.{given_of, records_of}
use Rattle.claims.specs.Due.{EndsAccept}
use Rattle.claims.specs.Rows.{SinksInto, AcceptsInTurn}
use Rattle.claims.specs.Tasks.{WorksAs}
use Rattle.claims.specs.declared.parts.Made.{Made}
use Rattle.claims.specs.declared.parts.Made.TheVariants as made
use Rattle.claims.proofs.Holdings.{logged_length}

-- a transaction to which a record is put is open still
pub still_open : (l : Ledger) (n : ℕ) (bytes : List ℕ) → open_refusal l n ≡ None → open_refusal (appended l n bytes) n ≡ None
still_open l n bytes is_open = by (transaction_at l n) refl
  where
    more : Transaction → Transaction
    more t = record t { records = t.records ++ bytes ∷ [] }

    by : (o : Option Transaction) → transaction_at l n ≡ o → open_refusal (appended l n bytes) n ≡ None
    by None at = absurd (let e : ◌≡◌ {A = Option TransactionFault} (Some NoSuchTransaction) None = sym (ap (refusal if_open) at) ∙ is_open in cc)
    by (Some t) at =
        let is : appended l n bytes ≡ with_transaction l n (more t) = ap (λ (o : Option Transaction). (let r : Ledger = elim o [ None ↦ l | Some u ↦ with_transaction l n (more u) ] in r)) at in
        let here = (writes l (with_transaction l n (more t)) n t (more t) at refl).here in
        ap (λ (x : Ledger). open_refusal x n) is ∙ ap (refusal if_open) here ∙ sym (ap (refusal if_open) at) ∙ is_open

pub same_sink : {K S : Type 0} (a b : Sinking) → ◌≡◌ {A = Option (Holding K S)} (Some (holds.Sink a)) (Some (holds.Sink b)) → a ≡ b
same_sink a b e = cc

pub no_operator : (number subtask : ℕ) → ◌≡◌ {A = Option Role} (Some (role.Operator number)) (Some (role.Sink subtask)) → ⊥
no_operator number subtask e = cc

pub no_fault : (fault : CoreFault) → ◌≡◌ {A = Result Unit CoreFault} (Ok tt) (Err fault) → ⊥
no_fault fault e = cc

module _ {R K S O : Type 0} (lang : Language R K S O) (graph : Expanded) (operators : List O) (task input channel : ℕ) (h k : Held R K S) (old new : Ledger) where
  -- what a sink takes is a record that it puts out
  pub puts_out : (m : Made O K S R) → SinksInto graph task input h channel → EndsAccept lang graph operators task input h k old new m (Ok tt) → PutsOut task input h k channel old new lang.spelling
  puts_out (made.Operator solved) at e = absurd (no_operator e.due.number at.subtask (sym e.due.is_operator ∙ at.is_sink))
  puts_out (made.Sink row bytes) at e =
      subst (λ (c : Option ℕ). WorksAs graph task input h k old new lang operators (Ok tt) (Some (role.Sink at.subtask)) c) at.leads
      (subst (λ (r : Option Role). WorksAs graph task input h k old new lang operators (Ok tt) r (input_at graph task input)) at.is_sink e.1)
  puts_out (made.Refused work) at e = absurd e

  -- it may take the next one too
  pub still_sinks : (m : Made O K S R) (transaction : ℕ) → EndsAccept lang graph operators task input h k old new m (Ok tt) → ((at : SinksInto graph task input h channel) × (at.sink.open_one ≡ transaction)) → input < length (gate_at h task).inputs → channel < length h.logs → open_refusal old transaction ≡ None
      → ((at : SinksInto graph task input k channel) × (at.sink.open_one ≡ transaction)) × (input < length (gate_at k task).inputs) × (channel < length k.logs) × (open_refusal new transaction ≡ None)
  still_sinks m transaction e at within logs is_open =
      let puts = puts_out m at.0 e in
      let one : (puts.sink).open_one ≡ transaction = ap (λ (s : Sinking). s.open_one) (same_sink puts.sink (at.0).sink (sym puts.was ∙ (at.0).was)) ∙ at.1 in
      let bytes = lang.spelling puts.row in
      let there : SinksInto graph task input k channel =
      record {
        subtask = (at.0).subtask;
        sink = (at.0).sink;
        is_sink = (at.0).is_sink;
        leads = (at.0).leads;
        was = ap (λ (x : Held R K S). slice_get x.tasks task) puts.ends ∙ (at.0).was;
        free = λ blocked. (at.0).free (sym (ap (λ (x : Held R K S). is_blocked (gate_at x task) input) puts.ends) ∙ blocked);
      } in (
        (there, at.1),
        subst (λ (x : Held R K S). input < length (gate_at x task).inputs) (sym puts.ends) within,
        subst (λ (x : Held R K S). channel < length x.logs) (sym puts.ends) (subst (λ n. channel < n) (sym (logged_length (is_logged (gate_at h task) input) channel puts.row h.logs)) logs),
        subst (λ (l : Ledger). open_refusal l transaction ≡ None) (sym (puts.appends ∙ ap (λ (n : ℕ). appended old n bytes) one)) (still_open old transaction bytes is_open),
      )

module _ {R K S O : Type 0} (lang : Language R K S O) (graph : Expanded) (operators : List O) (task input : ℕ) where
  -- one more is taken
  pub one_more : (taken : List (Made O K S R)) (m : Made O K S R) (h middle k : Held R K S) (old between new : Ledger) (count : ℕ) → AcceptsInTurn lang graph operators task input taken h middle old between count (Ok tt) → IsOrdered new
      → EndsAccept lang graph operators task input middle k between new m (Ok tt) → AcceptsInTurn lang graph operators task input (taken ++ m ∷ []) h k old new (count + records_of (given_of m)) (Ok tt)
  one_more [] m h middle k old between new count e ordered ends =
      let from = subst (λ (x : Held R K S). EndsAccept lang graph operators task input x k old new m (Ok tt)) e.2 (subst (λ (l : Ledger). EndsAccept lang graph operators task input middle k l new m (Ok tt)) e.3 ends) in
      inr (k, new, 0, omega (arith, e.0), ordered, from, (refl, refl, refl, refl))
  one_more (first ∷ taken) m h middle k old between new count (inl e) ordered ends = absurd (no_fault e.0 e.2)
  one_more (first ∷ taken) m h middle k old between new count (inr e) ordered ends =
      inr (e.0, e.1, e.2 + records_of (given_of m), omega (arith, e.3), e.4, e.5, one_more taken m e.0 middle k e.1 between new e.2 e.6 ordered ends)

  -- and then one is refused
  pub then_refused : (taken : List (Made O K S R)) (m : Made O K S R) (rest : List (Made O K S R)) (h middle k : Held R K S) (old between new : Ledger) (count : ℕ) (fault : CoreFault) → AcceptsInTurn lang graph operators task input taken h middle old between count (Ok tt)
      → EndsAccept lang graph operators task input middle k between new m (Err fault) → AcceptsInTurn lang graph operators task input (taken ++ m ∷ rest) h k old new count (Err fault)
  then_refused [] m rest h middle k old between new count fault e ends =
      let from = subst (λ (x : Held R K S). EndsAccept lang graph operators task input x k old new m (Err fault)) e.2 (subst (λ (l : Ledger). EndsAccept lang graph operators task input middle k l new m (Err fault)) e.3 ends) in
      inl (fault, e.0, refl, from)
  then_refused (first ∷ taken) m rest h middle k old between new count fault (inl e) ends = absurd (no_fault e.0 e.2)
  then_refused (first ∷ taken) m rest h middle k old between new count fault (inr e) ends = inr (e.0, e.1, e.2, e.3, e.4, e.5, then_refused taken m rest e.0 middle k e.1 between new e.2 fault e.6 ends)

-- a list by what stands before a place, at it and behind it
pub split_at : {A : Type 0} (xs all : List A) (x : A) → xs ≡ take (length xs) all → length xs < length all → x ≡ get_or all (length xs) x → all ≡ xs ++ x ∷ drop (suc (length xs)) all
split_at [] [] x so_far within here = absurd (omega (arith, within))
split_at [] (y ∷ all) x so_far within here = ap (λ (z : _). z ∷ all) (sym here)
split_at (z ∷ xs) [] x so_far within here = absurd (omega (arith, within))
split_at {A = A} (z ∷ xs) (y ∷ all) x so_far within here =
    let first : z ≡ y = cc in
    let rest : xs ≡ take (length xs) all = cc in
    ap (λ (w : A). w ∷ all) (sym first) ∙ ap (λ (ws : List A). z ∷ ws) (split_at xs all x rest (omega (arith, within)) here)

pub map_same : {A : Type 0} (xs : List A) → map (λ x. x) xs ≡ xs
map_same [] = refl
map_same {A = A} (x ∷ xs) = ap (λ (ys : List A). x ∷ ys) (map_same xs)
