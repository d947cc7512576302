-- Records that are worked at once are worked one after another.
use Rattle.std.proofs.Common.{◌≡◌, ◌<◌, ◌≤◌, ℕ, zero, suc, Bool, true, false, if◌then◌else◌, List, [], ◌∷◌, ◌++◌, length, map, filter, drop, take, Option, Some, None, slice_get, slice_set, unwrap_or, refl, sym, ap, subst, ◌∙◌, append_assoc, arith, inl, inr}
use Rattle.std.specs.List.{range_with_len}
use Rattle.std.specs.declared.cmp.Ordering.{Ordering}
use Rattle.std.specs.BTreeMap.{is_at}
use Rattle.std.proofs.lemmas.Bool.Decides.{eqb_tells, leb_tells}
use Rattle.std.proofs.lemmas.List.{set-set, length-set, length-map, length-take, append-nil, map-append, take-append-le, drop-append-le}
use Rattle.std.proofs.lemmas.List.Elements.{filter-append}
use Rattle.std.proofs.lemmas.List.FromFn.{length-map-range_with_len}
use Rattle.std.proofs.lemmas.Option.{slice_get_within, slice_get_past}
use mathlib.Core.Path.{fun_ext}
use Rattle.abs_codec.specs.Entries.{value_at}
use Rattle.alignment.specs.Table.{is_logged}
use Rattle.channels.specs.declared.item.Item.{Item}
use Rattle.channels.specs.declared.item.Item.TheVariants.{Record}
use Rattle.dataflow_model.specs.Graph.{Meaning, Channel, admits}
use Rattle.dataflow_model.specs.Machine.{received, kept_under}
use Rattle.job_graph.specs.Expanded.{Expanded}
use Rattle.job_graph.proofs.FlatMaps.{mapped_at}
use Rattle.job_state.specs.Held.{Held, gate_at, record_taken, log_with, Operates}
use Rattle.job_state.specs.Sending.{Puts, items_at, without_head}
use Rattle.job_state.specs.declared.holding.Holding.{Holding}
use Rattle.job_state.specs.declared.holding.Holding.TheVariants as holds
use Rattle.job_state.specs.AtOnce.{without_first, log_with_all, OperatesAll}
use Rattle.job_state.specs.Batch.{Turn, sent_by, kept_by, rows_of, StandFirst, OperatesEach}
use Rattle.job_state.proofs.Places.{get_set_same, get_set_other}

-- ---- lists

-- the items that stand first
pub heads : {A : Type 0} (n : ℕ) (items : List A) (x : A) (xs : List A) → n ≡ length xs → take (suc n) items ≡ x ∷ xs → (slice_get items 0 ≡ Some x) × (take n (drop 1 items) ≡ xs) × (n ≤ length (drop 1 items))
heads n [] x xs many e = absurd cc
heads {A} n (y ∷ ys) x xs many e =
    let same : y ≡ x = cc in
    let rest : take n ys ≡ xs = cc in
    (ap Some same, rest, omega (arith, many, length-take n ys, ap (λ (l : List A). length l) rest))

drop_more : {A : Type 0} (n : ℕ) (items : List A) → drop (suc n) items ≡ drop n (drop 1 items)
drop_more zero [] = refl
drop_more (suc n) [] = refl
drop_more n (x ∷ xs) = refl

no_part : {A : Type 0} (xs ys : List A) → [] ≡ xs ++ ys → ys ≡ []
no_part [] ys e = sym e
no_part (x ∷ xs) ys e = absurd cc

no_front : {A : Type 0} (xs ys : List A) → xs ++ ys ≡ [] → xs ≡ []
no_front [] ys e = refl
no_front (x ∷ xs) ys e = absurd cc

module _ {R : Type 0} where
  -- what stands in each channel after the first items of one were taken
  first_here : (channels : List (List (Item R))) (count input : ℕ) → items_at (without_first count input channels) input ≡ drop count (items_at channels input)
  first_here [] zero input = refl
  first_here [] (suc count) input = refl
  first_here (x ∷ xs) count zero = refl
  first_here (x ∷ xs) count (suc input) = first_here xs count input

  first_other : (channels : List (List (Item R))) (count input channel : ℕ) → (channel ≡ input → ⊥) → items_at (without_first count input channels) channel ≡ items_at channels channel
  first_other channels count input channel apart = ap (λ o. unwrap_or o []) (get_set_other channels input channel (drop count (items_at channels input)) apart)

  items_within : (f : ℕ → List (Item R)) (count number : ℕ) → number < count → items_at (map f (range_with_len 0 count)) number ≡ f number
  items_within f count number within = ap (λ o. unwrap_or o []) (mapped_at f count number within)

  items_past : (channels : List (List (Item R))) (number : ℕ) → length channels ≤ number → items_at channels number ≡ []
  items_past channels number past = ap (λ o. unwrap_or o []) (slice_get_past channels number past)

  log_one : (b : Bool) (channel : ℕ) (row : R) (logs : List (List R)) → log_with_all b channel (row ∷ []) logs ≡ log_with b channel row logs
  log_one false channel row logs = refl
  log_one true channel row logs = refl

  -- one record is logged, and then the others
  log_then : (b : Bool) (channel : ℕ) (row : R) (rows : List R) (logs : List (List R)) → channel < length logs → log_with_all b channel rows (log_with b channel row logs) ≡ log_with_all b channel (row ∷ rows) logs
  log_then false channel row rows logs within = refl
  log_then true channel row rows logs within =
      let was : List R = unwrap_or (slice_get logs channel) [] in
      ap (λ (l : List R). slice_set (slice_set logs channel (was ++ row ∷ [])) channel (l ++ rows)) (ap (λ o. unwrap_or o []) (get_set_same logs channel (was ++ row ∷ []) within))
      ∙ set-set logs channel (was ++ row ∷ []) ((was ++ row ∷ []) ++ rows)
      ∙ ap (slice_set logs channel) (append_assoc was (row ∷ []) rows)

  log_length : (b : Bool) (channel : ℕ) (row : R) (logs : List (List R)) → length (log_with b channel row logs) ≡ length logs
  log_length false channel row logs = refl
  log_length true channel row logs = length-set logs channel (unwrap_or (slice_get logs channel) [] ++ row ∷ [])

module _ {R K S O : Type 0} (meaning : Meaning R K S O) (task : ℕ) where
  -- what a channel receives of two lists, one sent after the other
  received_append : (xs ys : List (ℕ × R)) (channel : Option Channel) → received meaning task (xs ++ ys) channel ≡ received meaning task xs channel ++ received meaning task ys channel
  received_append xs ys None = refl
  received_append xs ys (Some channel) =
      elim (eqb_tells channel.sender task) [
        | inl h ↦ rw h.0 (ap (map (λ r. r.1)) (filter-append (admits meaning channel) xs ys) ∙ map-append (λ r. r.1) (filter (admits meaning channel) xs) (filter (admits meaning channel) ys))
        | inr h ↦ rw h.0 refl
      ]

  -- the items that a channel receives
  abbrev items_for : Expanded → List (ℕ × R) → ℕ → List (Item R)
  items_for graph sent number = map Record (received meaning task sent (slice_get graph.channels number))

  items_append : (graph : Expanded) (xs ys : List (ℕ × R)) (number : ℕ) → items_for graph (xs ++ ys) number ≡ items_for graph xs number ++ items_for graph ys number
  items_append graph xs ys number =
      ap (map Record) (received_append xs ys (slice_get graph.channels number)) ∙ map-append Record (received meaning task xs (slice_get graph.channels number)) (received meaning task ys (slice_get graph.channels number))

module _ {R K S O : Type 0} (meaning : Meaning R K S O) (cmp : K → K → Ordering) (same : (key other : K) → is_at (cmp other) key ≡ meaning.same_key key other) (graph : Expanded) (task input channel : ℕ) where
  -- entries with one state more, which is the one that is found
  entries_with : Option K → S → List (K × S) → List (K × S)
  entries_with None state entries = entries
  entries_with (Some key) state entries = (key, state) ∷ entries

  with_keeps : (key : Option K) (state : S) (entries : List (K × S)) (other : K) → value_at cmp (entries_with key state entries) other ≡ kept_under meaning.same_key key state (value_at cmp entries) other
  unfolding entries_with
  with_keeps None state entries other = refl
  with_keeps (Some key) state entries other = ap (λ (b : Bool). if b then Some state else value_at cmp entries other) (same key other)

  module _ (turn : Turn R K S) (old : Held R K S) (entries : List (K × S)) where
    abbrev one_sent : ℕ → List (Item R)
    one_sent = items_for meaning task graph turn.sent

    abbrev next_channels : List (List (Item R))
    next_channels = map (λ number. items_at (without_head channel old.channels) number ++ one_sent number) (range_with_len 0 (length old.channels))

    -- what is held after the first record
    abbrev next_held : Held R K S
    next_held = record (record_taken task input channel turn.row old) { tasks = slice_set old.tasks task (holds.Operator (entries_with turn.key turn.state entries)); channels = next_channels }

    -- what stands in each channel then
    next_at : (turns : List (Turn R K S)) (new : Held R K S) → Puts (items_for meaning task graph (sent_by (turn ∷ turns))) (without_first (length (turn ∷ turns)) channel old.channels) new.channels →
        (number : ℕ) → items_at next_channels number ≡ items_at (without_head channel old.channels) number ++ one_sent number
    next_at turns new puts number =
        elim (leb_tells (length old.channels) number) [
          | inl past ↦
              let none = items_past new.channels number (omega (arith, past.1, puts.same_length, length-set old.channels channel (drop (length (turn ∷ turns)) (items_at old.channels channel)))) in
              let empty = items_past (without_head channel old.channels) number (omega (arith, past.1, length-set old.channels channel (drop 1 (items_at old.channels channel)))) in
              let sends_none = no_part (items_at (without_first (length (turn ∷ turns)) channel old.channels) number) (items_for meaning task graph (sent_by (turn ∷ turns)) number) (sym none ∙ puts.each number) in
              let one_none = no_front (one_sent number) (items_for meaning task graph (sent_by turns) number) (sym (items_append meaning task graph turn.sent (sent_by turns) number) ∙ sends_none) in
              items_past next_channels number (omega (arith, past.1, length-map-range_with_len (λ n. items_at (without_head channel old.channels) n ++ one_sent n) 0 (length old.channels)))
              ∙ sym (ap (λ (l : List (Item R)). l ++ one_sent number) empty ∙ one_none)
          | inr within ↦ items_within (λ n. items_at (without_head channel old.channels) n ++ one_sent n) (length old.channels) number within.1
        ]

    -- the first record is worked
    one_operates : (turns : List (Turn R K S)) (new : Held R K S) → slice_get old.tasks task ≡ Some (holds.Operator entries) →
        Puts (items_for meaning task graph (sent_by (turn ∷ turns))) (without_first (length (turn ∷ turns)) channel old.channels) new.channels →
        Operates meaning cmp graph task input channel turn.row turn.key turn.state turn.sent old next_held
    one_operates turns new was puts = record {
      entries = entries;
      kept = entries_with turn.key turn.state entries;
      was = was;
      keeps = with_keeps turn.key turn.state entries;
      puts = record {
        same_length = length-map-range_with_len (λ n. items_at (without_head channel old.channels) n ++ one_sent n) 0 (length old.channels) ∙ sym (length-set old.channels channel (drop 1 (items_at old.channels channel)));
        each = next_at turns new puts;
      };
      ends = refl;
    }

  -- the first item is the first record, and the others stand behind it
  stands : (turn : Turn R K S) (turns : List (Turn R K S)) (old : Held R K S) → StandFirst channel (rows_of (turn ∷ turns)) old →
      (slice_get (items_at old.channels channel) 0 ≡ Some (Record turn.row)) × (take (length (rows_of turns)) (drop 1 (items_at old.channels channel)) ≡ map Record (rows_of turns)) × (length (rows_of turns) ≤ length (drop 1 (items_at old.channels channel)))
  stands turn turns old first = heads (length (rows_of turns)) (items_at old.channels channel) (Record turn.row) (map Record (rows_of turns)) (sym (length-map (rows_of turns) Record)) first

  -- what stands in the input then
  input_next : (turn : Turn R K S) (turns : List (Turn R K S)) (old new : Held R K S) (all : OperatesAll meaning cmp graph task input channel (turn ∷ turns) old new) →
      items_at (next_channels turn old all.entries) channel ≡ drop 1 (items_at old.channels channel) ++ one_sent turn old all.entries channel
  input_next turn turns old new all =
      next_at turn old all.entries turns new all.puts channel ∙ ap (λ (l : List (Item R)). l ++ one_sent turn old all.entries channel) (first_here old.channels 1 channel)

  each_part : (turn : Turn R K S) (turns : List (Turn R K S)) (old new : Held R K S) → StandFirst channel (rows_of (turn ∷ turns)) old → (all : OperatesAll meaning cmp graph task input channel (turn ∷ turns) old new) →
      (number : ℕ) → items_at (without_first (suc (length turns)) channel old.channels) number ++ (one_sent turn old all.entries number ++ items_for meaning task graph (sent_by turns) number)
      ≡ items_at (without_first (length turns) channel (next_channels turn old all.entries)) number ++ items_for meaning task graph (sent_by turns) number
  each_part turn turns old new first all number =
      let rest = items_for meaning task graph (sent_by turns) number in
      let one = one_sent turn old all.entries number in
      let next = next_channels turn old all.entries in
      sym (append_assoc (items_at (without_first (suc (length turns)) channel old.channels) number) one rest)
      ∙ ap (λ (l : List (Item R)). l ++ rest) (elim (eqb_tells number channel) [ inl h ↦ here h.1 | inr h ↦ elsewhere h.1 ])
    where
      here : number ≡ channel → items_at (without_first (suc (length turns)) channel old.channels) number ++ one_sent turn old all.entries number ≡ items_at (without_first (length turns) channel (next_channels turn old all.entries)) number
      here is =
          let long : length turns ≤ length (drop 1 (items_at old.channels channel)) = omega (arith, (stands turn turns old first).2, length-map turns (λ t. t.row)) in
          let items = items_at old.channels channel in
          ap (λ k. items_at (without_first (suc (length turns)) channel old.channels) k ++ one_sent turn old all.entries k) is
          ∙ ap (λ (l : List (Item R)). l ++ one_sent turn old all.entries channel) (first_here old.channels (suc (length turns)) channel ∙ drop_more (length turns) items)
          ∙ sym (drop-append-le (length turns) (drop 1 items) (one_sent turn old all.entries channel) long)
          ∙ ap (drop (length turns)) (sym (input_next turn turns old new all))
          ∙ sym (first_here (next_channels turn old all.entries) (length turns) channel)
          ∙ ap (items_at (without_first (length turns) channel (next_channels turn old all.entries))) (sym is)

      elsewhere : (number ≡ channel → ⊥) → items_at (without_first (suc (length turns)) channel old.channels) number ++ one_sent turn old all.entries number ≡ items_at (without_first (length turns) channel (next_channels turn old all.entries)) number
      elsewhere apart =
          ap (λ (l : List (Item R)). l ++ one_sent turn old all.entries number) (first_other old.channels (suc (length turns)) channel number apart ∙ sym (first_other old.channels 1 channel number apart))
          ∙ sym (next_at turn old all.entries turns new all.puts number)
          ∙ sym (first_other (next_channels turn old all.entries) (length turns) channel number apart)

  -- the others are worked at once
  others_operate : (turn : Turn R K S) (turns : List (Turn R K S)) (old new : Held R K S) → channel < length old.logs → StandFirst channel (rows_of (turn ∷ turns)) old → (all : OperatesAll meaning cmp graph task input channel (turn ∷ turns) old new) →
      OperatesAll meaning cmp graph task input channel turns (next_held turn old all.entries) new
  others_operate turn turns old new within first all =
      let next = next_held turn old all.entries in
      let count = length turns in
      let logs_it = is_logged (gate_at old task) input in
      record {
        entries = entries_with turn.key turn.state all.entries;
        kept = all.kept;
        was = get_set_same old.tasks task (holds.Operator (entries_with turn.key turn.state all.entries)) (slice_get_within old.tasks task (holds.Operator all.entries) all.was);
        keeps = λ other.
            all.keeps other ∙ ap (λ (f : K → Option S). kept_by meaning.same_key turns f other) (fun_ext (λ q. sym (with_keeps turn.key turn.state all.entries q)));
        puts = record {
          same_length =
              all.puts.same_length ∙ length-set old.channels channel (drop (suc count) (items_at old.channels channel))
              ∙ sym (length-map-range_with_len (λ n. items_at (without_head channel old.channels) n ++ one_sent turn old all.entries n) 0 (length old.channels))
              ∙ sym (length-set next.channels channel (drop count (items_at next.channels channel)));
          each = λ number. all.puts.each number ∙ ap (λ (l : List (Item R)). items_at (without_first (suc count) channel old.channels) number ++ l) (items_append meaning task graph turn.sent (sent_by turns) number) ∙ each_part turn turns old new first all number;
        };
        ends =
            all.ends
            ∙ ap (λ (l : List (Holding K S)). record old { tasks = l; channels = new.channels; logs = log_with_all logs_it channel (rows_of (turn ∷ turns)) old.logs }) (sym (set-set old.tasks task (holds.Operator (entries_with turn.key turn.state all.entries)) (holds.Operator all.kept)))
            ∙ ap (λ (l : List (List R)). record old { tasks = slice_set next.tasks task (holds.Operator all.kept); channels = new.channels; logs = l }) (sym (log_then logs_it channel turn.row (rows_of turns) old.logs within));
      }

  -- Records that are worked at once are worked one after another.
  pub all_is_each : (turn : Turn R K S) (turns : List (Turn R K S)) (old new : Held R K S) → channel < length old.logs → StandFirst channel (rows_of (turn ∷ turns)) old → OperatesAll meaning cmp graph task input channel (turn ∷ turns) old new →
      OperatesEach meaning cmp graph task input channel (turn ∷ turns) old new
  all_is_each turn [] old new within first all =
      let only = append-nil turn.sent in (
        new,
        (stands turn [] old first).0,
        record {
          entries = all.entries;
          kept = all.kept;
          was = all.was;
          keeps = all.keeps;
          puts = subst (λ (sent : List (ℕ × R)). Puts (items_for meaning task graph sent) (without_head channel old.channels) new.channels) only all.puts;
          ends = all.ends ∙ ap (λ (l : List (List R)). record old { tasks = slice_set old.tasks task (holds.Operator all.kept); channels = new.channels; logs = l }) (log_one (is_logged (gate_at old task) input) channel turn.row old.logs);
        },
        refl,
      )
  all_is_each turn (other ∷ others) old new within first all =
      let next = next_held turn old all.entries in
      let behind = stands turn (other ∷ others) old first in
      let still : channel < length next.logs = omega (arith, within, log_length (is_logged (gate_at old task) input) channel turn.row old.logs) in
      let first_then =
      ap (take (length (rows_of (other ∷ others)))) (input_next turn (other ∷ others) old new all)
      ∙ take-append-le (length (rows_of (other ∷ others))) (drop 1 (items_at old.channels channel)) (one_sent turn old all.entries channel) behind.2 ∙ behind.1 in (
        next,
        behind.0,
        one_operates turn old all.entries (other ∷ others) new all.was all.puts,
        all_is_each other others next new still first_then (others_operate turn (other ∷ others) old new within first all),
      )

  pub all_are_each : (turns : List (Turn R K S)) (old new : Held R K S) → 0 < length turns → channel < length old.logs → StandFirst channel (rows_of turns) old → OperatesAll meaning cmp graph task input channel turns old new → OperatesEach meaning cmp graph task input channel turns old new
  all_are_each [] old new some within first all = absurd (omega (arith, some))
  all_are_each (turn ∷ turns) old new some within first all = all_is_each turn turns old new within first all

  pub none_is_each : (turns : List (Turn R K S)) (old new : Held R K S) → length turns ≡ 0 → new ≡ old → OperatesEach meaning cmp graph task input channel turns old new
  none_is_each [] old new none same = same
  none_is_each (turn ∷ turns) old new none same = absurd (omega (arith, none))
