-- What the channels hold that an attempt begins with: each the log of its receiver, and nothing where there is none.
use Rattle.std.proofs.Common.{◌≡◌, ◌<◌, ◌≤◌, ◌+◌, ◌==◌, ◌⊎◌, inl, inr, All, Option, Some, None, slice_get, unwrap_or, length, map, filter, flat_map, cond, ℕ, zero, suc, Bool, true, false, List, [], ◌∷◌, ◌++◌, refl, sym, ap, ap₂, ◌∙◌, subst, append-nil, arith}
use Rattle.std.proofs.lemmas.Bool.{ne_eqb, eqb-true, false≢true, cases_order}
use Rattle.std.proofs.lemmas.Bool.Decides.{eqb_tells}
use Rattle.std.proofs.lemmas.List.Concat.{flat_map-append}
use Rattle.std.proofs.lemmas.List.Elements.{All-nil, All-cons, All-head, All-tail, All-append, All-filter, All-weaker, filter-append, filter_passes}
use Rattle.std.proofs.lemmas.Option.{none-some, same_Some}
use Rattle.std.specs.List.{range_with_len}
use Rattle.std.specs.Map.{lookup}
use Rattle.std.specs.Option.{option_map_or}
use Rattle.std.specs.declared.cmp.Ordering.{Ordering}
use Rattle.std.specs.BTreeMap.{is_at}
use Rattle.std.specs.Cmp.{nat_cmp_is}
use Rattle.std.specs.Ordering.{nat_cmp, is_eq}
use Rattle.std.specs.declared.cmp.Ordering.TheVariants.{Less, Equal, Greater}
use Rattle.dataflow_model.specs.Graph.{Channel}
use Rattle.job_graph.specs.Expanded.{Expanded, meets, is_input, is_marked, inputs_of}
use Rattle.job_state.specs.Held.{marked_inputs, opened}
use Rattle.task_part.specs.Spelling.{Logs}
use Rattle.engine_model.specs.AllRules.{AllRules}
use Rattle.engine_model.specs.Restart.{IsInPart, IsStart, AreStarts, Suits, first_start, part_for, logs_in, openings_of}
use Rattle.engine_model.specs.View.{log_at, part_view}
use Rattle.engine_model.specs.declared.start.Start.{Start}
use Rattle.engine_model.specs.declared.start.Start.TheVariants as start
use Rattle.job_graph.specs.declared.role.Role.{Role}
use Rattle.job_graph.specs.declared.role.Role.TheVariants as role
use Rattle.snapshot_store.specs.Store.{Stored}
use Rattle.engine_model.proofs.Restart.Starts.{as_long}

-- nothing stands past the end
pub past_end : {A : Type 0} (xs : List A) (i : ℕ) → length xs ≤ i → slice_get xs i ≡ None
past_end [] i past = refl
past_end (x ∷ xs) zero past = absurd (omega (arith, past))
past_end (x ∷ xs) (suc i) past = past_end xs i (omega (arith, past))

-- ---- rising numbers

-- the numbers rise, from this one on
abbrev Rise : ℕ → List ℕ → Type 0
Rise a [] = Unit {0}
Rise a (x ∷ xs) = (a ≤ x) × Rise (x + 1) xs

rise_from : (a b : ℕ) (xs : List ℕ) → a ≤ b → Rise b xs → Rise a xs
rise_from a b [] less r = tt
rise_from a b (x ∷ xs) less r = (let first = r.0 in omega (arith, less, first), r.1)

range_rises : (a n : ℕ) → Rise a (range_with_len a n)
range_rises a zero = tt
range_rises a (suc n) = (omega arith, range_rises (a + 1) n)

filter_rises : (p : ℕ → Bool) (a : ℕ) (xs : List ℕ) → Rise a xs → Rise a (filter p xs)
filter_rises p a [] r = tt
filter_rises p a (x ∷ xs) r = by (p x) (filter_rises p (x + 1) xs r.1)
  where
    by : (b : Bool) → Rise (x + 1) (filter p xs) → Rise a (cond b (x ∷ filter p xs) (filter p xs))
    by true rest = (r.0, rest)
    by false rest = rise_from a (x + 1) (filter p xs) (let first = r.0 in omega (arith, first)) rest

marked_rise : (graph : Expanded) (task : ℕ) → Rise 0 (marked_inputs graph task)
marked_rise graph task =
    filter_rises (meets is_marked graph.channels) 0 (inputs_of graph task)
    (filter_rises (meets (is_input task) graph.channels) 0 (range_with_len 0 (length graph.channels)) (range_rises 0 (length graph.channels)))

-- each is an input of the task
marked_are : (graph : Expanded) (task : ℕ) → All (λ number. meets (is_input task) graph.channels number ≡ true) (marked_inputs graph task)
marked_are graph task =
    All-filter (meets is_marked graph.channels) (λ number. meets (is_input task) graph.channels number ≡ true) (inputs_of graph task)
    (filter_passes (meets (is_input task) graph.channels) (range_with_len 0 (length graph.channels)))

rise_past : (a number : ℕ) (xs : List ℕ) → number < a → Rise a xs → All (λ m. m ≡ number → ⊥) xs
rise_past a number [] less r = All-nil (λ m. m ≡ number → ⊥)
rise_past a number (x ∷ xs) less r =
    All-cons (λ m. m ≡ number → ⊥) x xs (λ e. let first = r.0 in omega (arith, less, first, e)) (rise_past (x + 1) number xs (let first = r.0 in omega (arith, less, first)) r.1)

-- ---- the log of a channel

same_test : (m number : ℕ) → is_eq (nat_cmp number m) ≡ (m == number)
same_test m number =
    elim (eqb_tells m number) [
      | inl here ↦ sym (ap is_eq (nat_cmp_is number m Equal (sym here.1))) ∙ sym here.0
      | inr off ↦
          elim (cases_order number m) [
            | inl e ↦ absurd (off.1 (sym e))
            | inr apart ↦ elim apart [
              | inl below ↦ sym (ap is_eq (nat_cmp_is number m Less below)) ∙ sym off.0
              | inr above ↦ sym (ap is_eq (nat_cmp_is number m Greater above)) ∙ sym off.0
            ]
          ]
    ]

module _ {R : Type 0} where
  abbrev channels_of : Logs R → List ℕ
  channels_of logs = map (λ log. log.0) logs

  opened_first : (m number : ℕ) (rows : List R) (logs : Logs R) (b : Bool) → (m == number) ≡ b → opened ((m, rows) ∷ logs) number ≡ cond b (rows ++ opened logs number) (opened logs number)
  opened_first m number rows logs true e = ap (λ (c : Bool). flat_map (λ (log : ℕ × List R). log.1) (cond c ((m, rows) ∷ filter (λ (log : ℕ × List R). log.0 == number) logs) (filter (λ (log : ℕ × List R). log.0 == number) logs))) e
  opened_first m number rows logs false e = ap (λ (c : Bool). flat_map (λ (log : ℕ × List R). log.1) (cond c ((m, rows) ∷ filter (λ (log : ℕ × List R). log.0 == number) logs) (filter (λ (log : ℕ × List R). log.0 == number) logs))) e

  -- no log is the channel's
  pub opened_none : (logs : Logs R) (number : ℕ) → All (λ m. m ≡ number → ⊥) (channels_of logs) → opened logs number ≡ []
  opened_none [] number all = refl
  opened_none ((m, rows) ∷ logs) number all =
      opened_first m number rows logs false (ne_eqb m number (All-head (λ m. m ≡ number → ⊥) m (channels_of logs) all))
      ∙ opened_none logs number (All-tail (λ m. m ≡ number → ⊥) m (channels_of logs) all)

  -- of logs by rising channels, the one of a channel
  pub opened_is : (a : ℕ) (logs : Logs R) (number : ℕ) → Rise a (channels_of logs) → opened logs number ≡ log_at logs number
  opened_is a [] number r = refl
  opened_is a ((m, rows) ∷ logs) number r =
      elim (eqb_tells m number) [
        | inl here ↦
            opened_first m number rows logs true here.0
            ∙ ap (λ (more : List R). rows ++ more) (opened_none logs number (rise_past (m + 1) number (channels_of logs) (let same = here.1 in omega (arith, same)) r.1)) ∙ append-nil rows
            ∙ sym (ap (λ (b : Bool). unwrap_or (cond b (Some rows) (lookup (is_at (nat_cmp number)) logs)) []) (same_test m number ∙ here.0))
        | inr off ↦
            opened_first m number rows logs false off.0 ∙ opened_is (m + 1) logs number r.1
            ∙ sym (ap (λ (b : Bool). unwrap_or (cond b (Some rows) (lookup (is_at (nat_cmp number)) logs)) []) (same_test m number ∙ off.0))
      ]

  pub opened_append : (xs ys : Logs R) (number : ℕ) → opened (xs ++ ys) number ≡ opened xs number ++ opened ys number
  opened_append xs ys number =
      ap (flat_map (λ (log : ℕ × List R). log.1)) (filter-append (λ (log : ℕ × List R). log.0 == number) xs ys)
      ∙ flat_map-append (λ (log : ℕ × List R). log.1) (filter (λ (log : ℕ × List R). log.0 == number) xs) (filter (λ (log : ℕ × List R). log.0 == number) ys)

  -- of records that fit
  pub opened_fit : (Fits : R → Type 0) (logs : Logs R) (number : ℕ) → All (λ log. All Fits log.1) logs → All Fits (opened logs number)
  opened_fit Fits [] number all = All-nil Fits
  opened_fit Fits ((m, rows) ∷ logs) number all = by (m == number) refl (opened_fit Fits logs number (All-tail (λ (log : ℕ × List R). All Fits log.1) (m, rows) logs all))
    where
      by : (b : Bool) → (m == number) ≡ b → All Fits (opened logs number) → All Fits (opened ((m, rows) ∷ logs) number)
      by true e rest = subst (All Fits) (sym (opened_first m number rows logs true e)) (All-append Fits rows (opened logs number) (All-head (λ (log : ℕ × List R). All Fits log.1) (m, rows) logs all) rest)
      by false e rest = subst (All Fits) (sym (opened_first m number rows logs false e)) rest

-- ---- the logs of all starts

module _ {R K S : Type 0} where
  none_opened : (number : ℕ) (starts : List (Start R K S)) → ((k : ℕ) (st : Start R K S) → slice_get starts k ≡ Some st → opened (logs_in st) number ≡ []) → opened (openings_of starts) number ≡ []
  none_opened number [] each = refl
  none_opened number (st ∷ starts) each =
      opened_append (logs_in st) (openings_of starts) number ∙ ap₂ (λ (a b : List R). a ++ b) (each 0 st refl) (none_opened number starts (λ k other at. each (suc k) other at))

  one_opened : (number k : ℕ) (st : Start R K S) (starts : List (Start R K S)) → slice_get starts k ≡ Some st
      → ((j : ℕ) (other : Start R K S) → slice_get starts j ≡ Some other → (j ≡ k → ⊥) → opened (logs_in other) number ≡ []) → opened (openings_of starts) number ≡ opened (logs_in st) number
  one_opened number k st [] at others = absurd (none-some st at)
  one_opened number zero st (x ∷ starts) at others =
      opened_append (logs_in x) (openings_of starts) number
      ∙ ap₂ (λ (a b : List R). a ++ b) (ap (λ (y : Start R K S). opened (logs_in y) number) (same_Some x st at)) (none_opened number starts (λ j other there. others (suc j) other there (λ e. omega (arith, e))))
      ∙ append-nil (opened (logs_in st) number)
  one_opened number (suc k) st (x ∷ starts) at others =
      opened_append (logs_in x) (openings_of starts) number
      ∙ ap₂ (λ (a b : List R). a ++ b) (others 0 x refl (λ e. omega (arith, e))) (one_opened number k st starts at (λ j other there apart. others (suc j) other there (λ e. apart (omega (arith, e)))))

  all_openings : (P : ℕ × List R → Type 0) (starts : List (Start R K S)) → ((k : ℕ) (st : Start R K S) → slice_get starts k ≡ Some st → All P (logs_in st)) → All P (openings_of starts)
  all_openings P [] each = All-nil P
  all_openings P (st ∷ starts) each = All-append P (logs_in st) (openings_of starts) (each 0 st refl) (all_openings P starts (λ k other at. each (suc k) other at))

  -- what a part says of a channel is its log
  pub view_logs : (cmp : K → K → Ordering) (st : Start R K S) (number : ℕ) → log_at (logs_in st) number ≡ (part_view cmp (part_for st)).logs number
  view_logs cmp (start.Source offset) number = refl
  view_logs cmp (start.Operator entries logs) number = refl
  view_logs cmp (start.Sink subtask names logs) number = refl

-- the logs are for the task's marked inputs, or there are none
abbrev LogsFor : {R : Type 0} → Expanded → ℕ → Logs R → Type 0
LogsFor graph task logs = (logs ≡ []) ⊎ (channels_of logs ≡ marked_inputs graph task)

module _ {R : Type 0} (graph : Expanded) (task : ℕ) (logs : Logs R) (for : LogsFor graph task logs) where
  log_is : (number : ℕ) → opened logs number ≡ log_at logs number
  log_is number =
      elim for [
        | inl none ↦ ap (λ (l : Logs R). opened l number) none ∙ sym (ap (λ (l : Logs R). log_at l number) none)
        | inr are ↦ opened_is 0 logs number (subst (Rise 0) (sym are) (marked_rise graph task))
      ]

  -- a channel that is no input of the task
  no_log : (number : ℕ) → (meets (is_input task) graph.channels number ≡ true → ⊥) → opened logs number ≡ []
  no_log number off =
      elim for [
        | inl none ↦ ap (λ (l : Logs R). opened l number) none
        | inr are ↦
            opened_none logs number (subst (All (λ m. m ≡ number → ⊥)) (sym are)
            (All-weaker (λ m. meets (is_input task) graph.channels m ≡ true) (λ m. m ≡ number → ⊥) (λ m is e. off (ap (meets (is_input task) graph.channels) (sym e) ∙ is)) (marked_inputs graph task) (marked_are graph task)))
      ]

module _ {R K S O : Type 0} (rules : AllRules R K S O) (graph : Expanded) (operators : List O) (partitions : List (List R)) (stored : Stored) (last : Option ℕ)
    (starts : List (Start R K S)) (are : AreStarts rules graph operators partitions stored last starts) where
  record Suited (task : ℕ) (st : Start R K S) : Type 0 where
    pub for : LogsFor graph task (logs_in st)
    pub fit : All (λ log. All rules.RecordFits log.1) (logs_in st)
    pub none : last ≡ None → logs_in st ≡ []

  suited : (task : ℕ) (st : Start R K S) → slice_get starts task ≡ Some st → Suited task st
  suited task st at =
      let r = as_long starts graph.tasks task st (sym are.one_each) at in
      by last refl r.0 st (are.each task r.0 st r.1 at)
    where
      first_none : (r : Role) → logs_in (first_start {R = R} {K = K} {S = S} r) ≡ []
      first_none (role.Source partition) = refl
      first_none (role.Operator number) = refl
      first_none (role.Sink subtask) = refl

      of_suits : (n : ℕ) → last ≡ Some n → (r : Role) (st : Start R K S) → Suits rules graph operators partitions task r st → Suited task st
      of_suits n e (role.Source partition) (start.Source offset) suits = record { for = inl refl; fit = All-nil (λ (log : ℕ × List R). All rules.RecordFits log.1); none = λ h. refl }
      of_suits n e (role.Source partition) (start.Operator entries logs) suits = absurd suits
      of_suits n e (role.Source partition) (start.Sink number names logs) suits = absurd suits
      of_suits n e (role.Operator number) (start.Source offset) suits = absurd suits
      of_suits n e (role.Operator number) (start.Operator entries logs) suits = record { for = inr (suits.3).channels; fit = (suits.3).fit; none = λ h. absurd (none-some n (sym h ∙ e)) }
      of_suits n e (role.Operator number) (start.Sink other names logs) suits = absurd suits
      of_suits n e (role.Sink subtask) (start.Source offset) suits = absurd suits
      of_suits n e (role.Sink subtask) (start.Operator entries logs) suits = absurd suits
      of_suits n e (role.Sink subtask) (start.Sink number names logs) suits = record { for = inr (suits.1).channels; fit = (suits.1).fit; none = λ h. absurd (none-some n (sym h ∙ e)) }

      by : (o : Option ℕ) → last ≡ o → (r : Role) (st : Start R K S) → IsStart rules graph operators partitions stored last task r st → Suited task st
      by None e r st is =
          let first : st ≡ first_start r = subst (λ (o : Option ℕ). IsStart rules graph operators partitions stored o task r st) e is in
          let none : logs_in st ≡ [] = ap logs_in first ∙ first_none r in
          record { for = inl none; fit = subst (All (λ log. All rules.RecordFits log.1)) (sym none) (All-nil (λ (log : ℕ × List R). All rules.RecordFits log.1)); none = λ h. none }
      by (Some n) e r st is =
          let from_part : IsInPart rules graph operators partitions stored n task r st = subst (λ (o : Option ℕ). IsStart rules graph operators partitions stored o task r st) e is in
          of_suits n e r st from_part.suits

  -- a channel holds the log of its receiver
  pub openings_at : (number : ℕ) (channel : Channel) (st : Start R K S) → slice_get graph.channels number ≡ Some channel → slice_get starts channel.receiver ≡ Some st → opened (openings_of starts) number ≡ log_at (logs_in st) number
  openings_at number channel st is at =
      one_opened number channel.receiver st starts at (λ j other there apart. no_log graph j (logs_in other) (suited j other there).for number (λ meant. apart (sym (leads j meant))))
      ∙ log_is graph channel.receiver (logs_in st) (suited channel.receiver st at).for number
    where
      leads : (j : ℕ) → meets (is_input j) graph.channels number ≡ true → channel.receiver ≡ j
      leads j meant = eqb-true channel.receiver j (sym (ap (λ (o : Option Channel). option_map_or (is_input j) o false) is) ∙ meant)

  -- beyond the channels there are none
  pub openings_past : (number : ℕ) → slice_get graph.channels number ≡ None → opened (openings_of starts) number ≡ []
  openings_past number none =
      none_opened number starts (λ j other there. no_log graph j (logs_in other) (suited j other there).for number (λ meant. false≢true (sym (ap (λ (o : Option Channel). option_map_or (is_input j) o false) none) ∙ meant)))

  -- nor at the start
  pub openings_first : last ≡ None → (number : ℕ) → opened (openings_of starts) number ≡ []
  openings_first first number = none_opened number starts (λ j other there. ap (λ (l : Logs R). opened l number) ((suited j other there).none first))

  pub openings_fit : (number : ℕ) → All rules.RecordFits (opened (openings_of starts) number)
  openings_fit number = opened_fit rules.RecordFits (openings_of starts) number (all_openings (λ log. All rules.RecordFits log.1) starts (λ j other there. (suited j other there).fit))
