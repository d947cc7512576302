-- What an attempt holds after several records were worked at once: the states that are kept, the records that were taken, and what was logged.
use Rattle.std.proofs.Common.{◌≡◌, ◌<◌, ◌≤◌, ◌+◌, ◌++◌, ℕ, zero, suc, Bool, true, false, cond, List, [], ◌∷◌, length, map, take, drop, slice_get, slice_set, unwrap_or, Option, Some, None, refl, subst, sym, ap, ◌∙◌, append_assoc, arith, Ordering}
use Rattle.std.specs.Option.{option_or}
use Rattle.std.specs.BTreeMap.{is_at}
use Rattle.std.specs.Cmp.{IsTotalOrder, eq_by_cmp_equiv}
use Rattle.std.specs.List.Sorted.{IsStrictlySortedBy}
use Rattle.std.specs.Map.{keys_of}
use Rattle.std.proofs.lemmas.List.{set-set, take_all, length-set, append-nil}
use Rattle.std.proofs.lemmas.Map.{lookup-none}
use Rattle.std.proofs.lemmas.Map.Entries.{none_past_head}
use Rattle.std.proofs.lemmas.Map.Keys.{IsDistinct-from_sorted, sorted_tail}
use Rattle.abs_codec.specs.Entries.{value_at}
use Rattle.alignment.specs.Table.{is_logged}
use Rattle.channels.specs.declared.item.Item.{Item}
use Rattle.channels.specs.declared.item.Item.TheVariants.{Record}
use Rattle.dataflow_model.specs.Graph.{Meaning}
use Rattle.dataflow_model.specs.Machine.{received}
use Rattle.job_graph.specs.Expanded.{Expanded}
use Rattle.task_part.specs.declared.part.Part.{Part}
use Rattle.job_state.specs.AtOnce.{without_first, log_with_all, KeepsAll, OperatesAll}
use Rattle.job_state.specs.Batch.{Turn, sent_by, kept_by, put_all, AreLastStates, rows_of}
use Rattle.job_state.specs.Held.{Held, gate_at, log_with}
use Rattle.job_state.specs.Sending.{Puts, items_at, without_head}
use Rattle.job_state.specs.declared.holding.Holding.{Holding}
use Rattle.job_state.specs.declared.holding.Holding.TheVariants as holds
use Rattle.job_state.proofs.Places.{get_set_same}

-- ---- the states

-- the key that a look-up finds is the same
pub equal_keys : {K : Type 0} {cmp : K → K → Ordering} (order : IsTotalOrder cmp) (same_key : K → K → Bool) (same : (a b : K) → same_key a b ≡ is_at (cmp a) b) → (key other : K) → is_at (cmp other) key ≡ same_key key other
equal_keys order same_key same key other = (eq_by_cmp_equiv order).symm other key ∙ sym (same key other)

module _ {K S : Type 0} {cmp : K → K → Ordering} (order : IsTotalOrder cmp) (same_key : K → K → Bool) (same : (a b : K) → same_key a b ≡ is_at (cmp a) b) where
  -- states that are put one after another: the one that is found at a key, or what was there
  put_is_or : (entries : List (K × S)) (states : K → Option S) (other : K) → IsStrictlySortedBy cmp (keys_of entries) → put_all same_key entries states other ≡ option_or (value_at cmp entries other) (states other)
  put_is_or [] states other rises = refl
  put_is_or (e ∷ entries) states other rises =
      put_is_or entries (λ q. cond (same_key e.0 q) (Some e.1) (states q)) other (sorted_tail cmp e.0 (keys_of entries) rises)
      ∙ ap (λ (b : Bool). option_or (value_at cmp entries other) (cond b (Some e.1) (states other))) (same e.0 other ∙ (eq_by_cmp_equiv order).symm e.0 other) ∙ by (is_at (cmp other) e.0) refl
    where
      by : (b : Bool) → is_at (cmp other) e.0 ≡ b → option_or (value_at cmp entries other) (cond b (Some e.1) (states other)) ≡ option_or (cond b (Some e.1) (value_at cmp entries other)) (states other)
      by true h =
          let none : value_at cmp entries other ≡ None = lookup-none (is_at (cmp other)) entries (none_past_head (eq_by_cmp_equiv order) other e entries (IsDistinct-from_sorted cmp (keys_of (e ∷ entries)) rises) h) in
          ap (λ (found : Option S). option_or found (Some e.1)) none
      by false h = refl

  -- the last states that records leave are those that they leave one after another
  pub keeps_in_turn : {R : Type 0} (turns : List (Turn R K S)) (states : List (K × S)) (before after : List (K × S)) → IsStrictlySortedBy cmp (keys_of states) → AreLastStates same_key turns states →
      ((other : K) → value_at cmp after other ≡ option_or (value_at cmp states other) (value_at cmp before other)) → (other : K) → value_at cmp after other ≡ kept_by same_key turns (value_at cmp before) other
  keeps_in_turn turns states before after rises last keeps other = keeps other ∙ sym (put_is_or states (value_at cmp before) other rises) ∙ last (value_at cmp before) other

-- ---- the records that are taken

-- of records that stand first, so many are logged
abbrev pub IsLogged : {R : Type 0} → Bool → ℕ → ℕ → ℕ → List (List (Item R)) → List (List R) → List (List R) → Type 0
IsLogged {R} b channel count done channels before now =
    (rows : List R) → count ≡ length rows → take count (items_at channels channel) ≡ map Record rows → now ≡ log_with_all b channel (take done rows) before

module _ {A : Type 0} where
  drop_one : (n : ℕ) (items : List A) → drop 1 (drop n items) ≡ drop (suc n) items
  drop_one zero items = refl
  drop_one (suc n) [] = refl
  drop_one (suc n) (x ∷ items) = drop_one n items

  first_left : (n : ℕ) (items : List A) → slice_get (drop n items) 0 ≡ slice_get items n
  first_left zero items = refl
  first_left (suc n) [] = refl
  first_left (suc n) (x ∷ items) = first_left n items

  pub there : (xs : List A) (n : ℕ) → n < length xs → (x : A) × (slice_get xs n ≡ Some x)
  there [] n within = absurd (omega (arith, within))
  there (x ∷ xs) zero within = (x, refl)
  there (x ∷ xs) (suc n) within = there xs n (omega (arith, within))

  one_more : (xs : List A) (n : ℕ) (x : A) → slice_get xs n ≡ Some x → take (suc n) xs ≡ take n xs ++ x ∷ []
  one_more [] n x is = absurd cc
  one_more (y ∷ xs) zero x is = let same : y ≡ x = cc in ap (λ z. z ∷ []) same
  one_more (y ∷ xs) (suc n) x is = ap (λ l. y ∷ l) (one_more xs n x is)

  among_first : {B : Type 0} (f : B → A) (items : List A) (xs : List B) (n : ℕ) (x : B) → take (length xs) items ≡ map f xs → slice_get xs n ≡ Some x → slice_get items n ≡ Some (f x)
  among_first f items [] n x first is = absurd cc
  among_first f [] (y ∷ xs) n x first is = absurd cc
  among_first f (z ∷ items) (y ∷ xs) zero x first is = let head : z ≡ f y = cc in let same : y ≡ x = cc in ap Some (head ∙ ap f same)
  among_first f (z ∷ items) (y ∷ xs) (suc n) x first is = let rest : take (length xs) items ≡ map f xs = cc in among_first f items xs n x rest is

module _ {R : Type 0} where
  pub first_here : (channels : List (List (Item R))) (count input : ℕ) → items_at (without_first count input channels) input ≡ drop count (items_at channels input)
  first_here [] zero input = refl
  first_here [] (suc count) input = refl
  first_here (x ∷ xs) count zero = refl
  first_here (x ∷ xs) count (suc input) = first_here xs count input

  none_taken : (channels : List (List (Item R))) (channel : ℕ) → without_first 0 channel channels ≡ channels
  none_taken [] channel = refl
  none_taken (x ∷ xs) zero = refl
  none_taken (x ∷ xs) (suc channel) = ap (λ l. x ∷ l) (none_taken xs channel)

  none_logged : (b : Bool) (channel : ℕ) (logs : List (List R)) → log_with_all b channel [] logs ≡ logs
  none_logged false channel logs = refl
  none_logged true channel logs = at channel logs
    where
      at : (n : ℕ) (l : List (List R)) → slice_set l n (unwrap_or (slice_get l n) [] ++ []) ≡ l
      at n [] = refl
      at zero (x ∷ l) = ap (λ y. y ∷ l) (append-nil x)
      at (suc n) (x ∷ l) = ap (λ y. x ∷ y) (at n l)

  pub taken_none : (now before : List (List (Item R))) (channel : ℕ) → now ≡ before → now ≡ without_first 0 channel before
  taken_none now before channel same = same ∙ sym (none_taken before channel)

  pub logged_none : (b : Bool) (channel : ℕ) (rows : List R) (logs : List (List R)) → logs ≡ log_with_all b channel (take 0 rows) logs
  logged_none b channel rows logs = sym (none_logged b channel logs)

  -- one more is taken
  pub taken_more : (channels now after : List (List (Item R))) (count channel : ℕ) → now ≡ without_first count channel channels → after ≡ without_head channel now → after ≡ without_first (count + 1) channel channels
  taken_more channels now after count channel is taken =
      let one : suc count ≡ count + 1 = omega arith in
      taken ∙ ap (without_head channel) is
      ∙ ap (λ (l : List (Item R)). slice_set (without_first count channel channels) channel (drop 1 l)) (first_here channels count channel)
      ∙ set-set channels channel (drop count (items_at channels channel)) (drop 1 (drop count (items_at channels channel)))
      ∙ ap (slice_set channels channel) (drop_one count (items_at channels channel))
      ∙ ap (λ (n : ℕ). without_first n channel channels) one

  -- which record it is
  pub taken_is : (channels now : List (List (Item R))) (count channel : ℕ) (rows : List R) (row : R) → now ≡ without_first count channel channels → take (length rows) (items_at channels channel) ≡ map Record rows → slice_get rows count ≡ Some row →
      slice_get (items_at now channel) 0 ≡ Some (Record row)
  taken_is channels now count channel rows row is first here =
      ap (λ (l : List (List (Item R))). slice_get (items_at l channel) 0) is ∙ ap (λ (l : List (Item R)). slice_get l 0) (first_here channels count channel)
      ∙ first_left count (items_at channels channel) ∙ among_first Record (items_at channels channel) rows count row first here

  log_length : (b : Bool) (channel : ℕ) (rows : List R) (logs : List (List R)) → length (log_with_all b channel rows logs) ≡ length logs
  log_length false channel rows logs = refl
  log_length true channel rows logs = length-set logs channel (unwrap_or (slice_get logs channel) [] ++ rows)

  push_logged : (b : Bool) (channel : ℕ) (rows : List R) (row : R) (logs : List (List R)) → channel < length logs → log_with b channel row (log_with_all b channel rows logs) ≡ log_with_all b channel (rows ++ row ∷ []) logs
  push_logged false channel rows row logs within = refl
  push_logged true channel rows row logs within =
      let was : List R = unwrap_or (slice_get logs channel) [] in
      ap (λ (l : List R). slice_set (slice_set logs channel (was ++ rows)) channel (l ++ row ∷ [])) (ap (λ o. unwrap_or o []) (get_set_same logs channel (was ++ rows) within))
      ∙ set-set logs channel (was ++ rows) ((was ++ rows) ++ row ∷ [])
      ∙ ap (slice_set logs channel) (append_assoc was rows (row ∷ []))

  -- it is logged after the others
  pub logged_more : (b : Bool) (channel count : ℕ) (rows : List R) (row : R) (before now after : List (List R)) → channel < length before → slice_get rows count ≡ Some row →
      now ≡ log_with_all b channel (take count rows) before → after ≡ log_with b channel row now → after ≡ log_with_all b channel (take (count + 1) rows) before
  logged_more b channel count rows row before now after within here was logged =
      let one : suc count ≡ count + 1 = omega arith in
      logged ∙ ap (log_with b channel row) was ∙ push_logged b channel (take count rows) row before within
      ∙ ap (λ (l : List R). log_with_all b channel l before) (sym (one_more rows count row here)) ∙ ap (λ (n : ℕ). log_with_all b channel (take n rows) before) one

  pub logged_all : (b : Bool) (channel count : ℕ) (rows : List R) (before after : List (List R)) → count ≡ length rows → after ≡ log_with_all b channel (take count rows) before → after ≡ log_with_all b channel rows before
  logged_all b channel count rows before after many is =
      let all : length rows ≤ count = omega (arith, many) in
      is ∙ ap (λ (l : List R). log_with_all b channel l before) (take_all count rows all)

-- ---- the attempt

module _ {R K S O : Type 0} (meaning : Meaning R K S O) (graph : Expanded) (task : ℕ) where
  pub operates_all_from : (cmp : K → K → Ordering) (input channel count : ℕ) (turns : List (Turn R K S)) (states : List (K × S)) (sent : List (ℕ × R)) (seen old new : Held R K S) (before after : Holding K S) (tasks : List (Holding K S)) (copies : List (Option (Part R K S))) →
      seen ≡ old → slice_get seen.tasks task ≡ Some before → (keeps : KeepsAll cmp states before after) →
      ((other : K) → value_at cmp keeps.kept other ≡ kept_by meaning.same_key turns (value_at cmp keeps.entries) other) → count ≡ length turns → sent ≡ sent_by turns →
      Puts (λ number. map Record (received meaning task sent (slice_get graph.channels number))) (without_first count channel seen.channels) new.channels →
      new.came ≡ seen.came → new.logs ≡ log_with_all (is_logged (gate_at seen task) input) channel (rows_of turns) seen.logs →
      tasks ≡ slice_set seen.tasks task after → copies ≡ seen.copies →
      new ≡ record seen { tasks = tasks; channels = new.channels; came = new.came; logs = new.logs; copies = copies } → OperatesAll meaning cmp graph task input channel turns old new
  operates_all_from cmp input channel count turns states sent seen old new before after tasks copies same here keeps kept_so many sends puts came logged set kept ends = record {
    entries = keeps.entries;
    kept = keeps.kept;
    was = ap (λ (h : Held R K S). slice_get h.tasks task) (sym same) ∙ here ∙ ap Some keeps.was;
    keeps = kept_so;
    puts =
        subst (λ (h : Held R K S). Puts (λ number. map Record (received meaning task (sent_by turns) (slice_get graph.channels number))) (without_first (length turns) channel h.channels) new.channels) same
        (subst (λ (n : ℕ). Puts (λ number. map Record (received meaning task (sent_by turns) (slice_get graph.channels number))) (without_first n channel seen.channels) new.channels) many
        (subst (λ (s : List (ℕ × R)). Puts (λ number. map Record (received meaning task s (slice_get graph.channels number))) (without_first count channel seen.channels) new.channels) sends puts));
    ends = ends
        ∙ ap (λ l. record seen { tasks = l; channels = new.channels; came = new.came; logs = new.logs; copies = copies }) set
        ∙ ap (λ l. record seen { tasks = slice_set seen.tasks task after; channels = new.channels; came = new.came; logs = new.logs; copies = l }) kept
        ∙ ap (λ l. record seen { tasks = slice_set seen.tasks task after; channels = new.channels; came = l; logs = new.logs }) came
        ∙ ap (λ l. record seen { tasks = slice_set seen.tasks task after; channels = new.channels; logs = l }) logged
        ∙ ap (λ t. record seen { tasks = slice_set seen.tasks task t; channels = new.channels; logs = log_with_all (is_logged (gate_at seen task) input) channel (rows_of turns) seen.logs }) keeps.is
        ∙ ap (λ (h : Held R K S). record h { tasks = slice_set h.tasks task (holds.Operator keeps.kept); channels = new.channels; logs = log_with_all (is_logged (gate_at h task) input) channel (rows_of turns) h.logs }) same;
  }
