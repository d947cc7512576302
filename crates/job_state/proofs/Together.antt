-- Records that all go into one channel.
use Rattle.std.proofs.Common.{◌≡◌, ◌<◌, ◌≤◌, ◌+◌, ◌==◌, ℕ, zero, suc, List, [], ◌∷◌, ◌++◌, length, map, take, drop, get_or, Option, Some, slice_get, slice_set, unwrap_or, refl, subst, sym, ap, ◌∙◌, arith, inl, inr}
use Rattle.std.specs.Prelude.{◌⊎◌, IfSome}
use Rattle.std.proofs.lemmas.Bool.Decides.{eqb_tells}
use Rattle.std.proofs.lemmas.List.{append-nil, map-append, map-set, length-map, length-set, get_or-map, take_more, drop_all}
use Rattle.std.proofs.lemmas.List.Concat.{flat_map-cons}
use Rattle.channels.specs.Channel.{Contents}
use Rattle.channels.specs.declared.item.Item.{Item}
use Rattle.channels.specs.declared.item.Item.TheVariants.{Record}
use Rattle.dataflow_model.specs.Graph.{Meaning}
use Rattle.deliveries.specs.Deliveries.{deliveries_of, deliveries_of_one, on_first}
use Rattle.job_graph.specs.Expanded.{Expanded}
use Rattle.job_state.specs.AtOnce.{without_first}
use Rattle.job_state.specs.Sending.{items_at, put_into, contents_items, into_one, room_at, waiting_at, AreChannels, AreLanes, HasPlace, TakesAll}
use Rattle.job_state.specs.declared.ready.Ready.{Ready}
use Rattle.job_state.specs.declared.ready.Ready.TheVariants as Ready
use Rattle.job_state.proofs.Departures.{sent_more, lane_known}
use Rattle.job_state.proofs.Places.{get_set_same, get_set_other}
use Rattle.job_state.proofs.Putting.{items_here, room_here}

module _ {R K S O : Type 0} (meaning : Meaning R K S O) (graph : Expanded) (task : ℕ) where
  -- where each record goes into the channel, all do
  pub all_fixed : (number : ℕ) (rows : List R) → ((row : R) → deliveries_of meaning graph task ((0, row) ∷ []) ≡ (number, Record row) ∷ []) → deliveries_of meaning graph task (on_first rows) ≡ into_one number rows
  all_fixed number [] fixed = refl
  all_fixed number (row ∷ rows) fixed =
      let one = deliveries_of_one meaning graph task (0, row) in
      flat_map-cons (deliveries_of_one meaning graph task) (0, row) (on_first rows)
      ∙ ap (λ l. l ++ deliveries_of meaning graph task (on_first rows)) (sym (append-nil one) ∙ fixed row)
      ∙ ap (λ l. (number, Record row) ∷ l) (all_fixed number rows fixed)

  -- one record more goes into the channel
  pub goes_more : (rows : List R) (i number : ℕ) (row : R) → i < length rows → row ≡ get_or rows i row → deliveries_of_one meaning graph task (0, row) ≡ (number, Record row) ∷ [] →
      deliveries_of meaning graph task (on_first (take i rows)) ≡ into_one number (take i rows) → deliveries_of meaning graph task (on_first (take (i + 1) rows)) ≡ into_one number (take (i + 1) rows)
  goes_more rows i number row within is goes so_far =
      let first : R → ℕ × R = λ r. (0, r) in
      let into : R → ℕ × Item R = λ r. (number, Record r) in
      let more : take (i + 1) rows ≡ take i rows ++ row ∷ [] = take_more rows i row within ∙ ap (λ r. take i rows ++ r ∷ []) (sym is) in
      ap (λ l. deliveries_of meaning graph task (on_first l)) more
      ∙ ap (deliveries_of meaning graph task) (map-append first (take i rows) (row ∷ []))
      ∙ sent_more meaning graph task (on_first (take i rows)) (0, row)
      ∙ ap (λ l. l ++ deliveries_of_one meaning graph task (0, row)) so_far
      ∙ ap (λ l. into_one number (take i rows) ++ l) goes
      ∙ sym (map-append into (take i rows) (row ∷ []))
      ∙ sym (ap (into_one number) more)

  -- a lane that is told at a record's place is its own
  pub lane_of_row : (rows : List R) (lanes : List ℕ) (i : ℕ) (row : R) (known : Option ℕ) → i < length rows → row ≡ get_or rows i row → AreLanes meaning (on_first rows) lanes → known ≡ slice_get lanes i → IfSome known (λ lane. lane ≡ meaning.lane row)
  lane_of_row rows lanes i row known within is told at =
      let first : R → ℕ × R = λ r. (0, r) in
      let inside : i < length (on_first rows) = omega (arith, within, length-map rows first) in
      lane_known meaning graph task (on_first rows) (on_first rows) lanes i (0, row) known inside inside refl (ap first is ∙ sym (get_or-map first rows i row (0, row) within)) told at

module _ {R : Type 0} where
  -- the channel that some records go into is there
  pub into_below : (rows : List R) (number count : ℕ) → 0 < length rows → AreChannels count (into_one number rows) → number < count
  into_below [] number count some all = absurd (omega (arith, some))
  into_below (row ∷ rows) number count some all = all 0 (number, Record row) (omega arith)

  hit : (n : ℕ) (row : R) (puts : List (ℕ × Item R)) → put_into n ((n, Record row) ∷ puts) ≡ Record row ∷ put_into n puts
  hit n row puts = elim (eqb_tells n n) [ inl h ↦ rw h.0 refl | inr h ↦ absurd (h.1 refl) ]

  miss : (n k : ℕ) (row : R) (puts : List (ℕ × Item R)) → (n ≡ k → ⊥) → put_into k ((n, Record row) ∷ puts) ≡ put_into k puts
  miss n k row puts apart = elim (eqb_tells n k) [ inl h ↦ absurd (apart h.1) | inr h ↦ rw h.0 refl ]

  into_same : (n : ℕ) (rows : List R) → put_into n (into_one n rows) ≡ map Record rows
  into_same n [] = refl
  into_same n (row ∷ rows) = hit n row (into_one n rows) ∙ ap (λ l. Record row ∷ l) (into_same n rows)

  into_others : (n k : ℕ) (rows : List R) → (n ≡ k → ⊥) → put_into k (into_one n rows) ≡ []
  into_others n k [] apart = refl
  into_others n k (row ∷ rows) apart = miss n k row (into_one n rows) apart ∙ into_others n k rows apart

  -- records were put last into one channel
  pub items_appended : (channels : List (Contents R)) (n : ℕ) (was new : Contents R) (rows : List R) → n < length channels → slice_get channels n ≡ Some was → new.items ≡ was.items ++ map Record rows →
      (k : ℕ) → items_at (contents_items (slice_set channels n new)) k ≡ items_at (contents_items channels) k ++ put_into k (into_one n rows)
  items_appended channels n was new rows within is appended k =
      elim (eqb_tells n k) [
        | inl h ↦ subst (λ j. items_at (contents_items (slice_set channels n new)) j ≡ items_at (contents_items channels) j ++ put_into j (into_one n rows)) h.1 here
        | inr h ↦
            ap (λ l. items_at l k) (map-set (λ c. c.items) channels n new)
            ∙ ap (λ o. unwrap_or o []) (get_set_other (contents_items channels) n k new.items (λ e. h.1 (sym e)))
            ∙ sym (append-nil (items_at (contents_items channels) k))
            ∙ ap (λ l. items_at (contents_items channels) k ++ l) (sym (into_others n k rows h.1))
      ]
    where
      here : items_at (contents_items (slice_set channels n new)) n ≡ items_at (contents_items channels) n ++ put_into n (into_one n rows)
      here =
          items_here (slice_set channels n new) n new (get_set_same channels n new within) ∙ appended
          ∙ ap (λ l. l ++ map Record rows) (sym (items_here channels n was is))
          ∙ ap (λ l. items_at (contents_items channels) n ++ l) (sym (into_same n rows))

  -- a channel takes what it takes where it is read
  pub takes_here : (channels : List (Contents R)) (n count : ℕ) (was : Contents R) → slice_get channels n ≡ Some was → TakesAll channels n count → (was.items ≡ []) ⊎ (count ≤ was.room)
  takes_here channels n count was is takes =
      elim takes.1 [
        | inl none ↦ inl (sym (items_here channels n was is) ∙ none)
        | inr room ↦ inr (omega (arith, room, room_here channels n was is))
      ]

  -- in which nothing stands takes all
  pub empty_takes : (channels : List (Contents R)) (n count : ℕ) (was : Contents R) → n < length channels → slice_get channels n ≡ Some was → was.items ≡ [] → TakesAll channels n count
  empty_takes channels n count was within is none = (within, inl (items_here channels n was is ∙ none))

  -- for which there is room takes them
  pub roomy_takes : (old new : List (Contents R)) (n count : ℕ) → n < length old → contents_items new ≡ contents_items old → ((k : ℕ) → room_at old k + waiting_at n count k ≤ room_at new k) → TakesAll new n count
  roomy_takes old new n count within same room = (
    omega (arith, within, ap (λ l. length l) same, length-map old (λ c. c.items), length-map new (λ c. c.items)),
    inr (omega (arith, room n, waits_here n count)),
  )
    where
      waits_here : (n count : ℕ) → waiting_at n count n ≡ count
      waits_here n count = elim (eqb_tells n n) [ inl h ↦ rw h.0 refl | inr h ↦ absurd (h.1 refl) ]

  none_left : (count : ℕ) (items : List (Item R)) → items ≡ [] → drop count items ≡ []
  none_left count items none = ap (λ l. drop count l) none ∙ drop_all count [] (omega arith)

  skipped_none : (count channel n : ℕ) (channels : List (List (Item R))) → items_at channels n ≡ [] → items_at (without_first count channel channels) n ≡ []
  skipped_none count channel n channels none =
      elim (eqb_tells n channel) [
        | inl h ↦ ap (items_at (without_first count channel channels)) h.1 ∙ here channel channels (drop count (items_at channels channel)) (none_left count (items_at channels channel) (ap (items_at channels) (sym h.1) ∙ none))
        | inr h ↦ ap (λ o. unwrap_or o []) (get_set_other channels channel n (drop count (items_at channels channel)) h.1) ∙ none
      ]
    where
      here : (i : ℕ) (xs : List (List (Item R))) (left : List (Item R)) → left ≡ [] → items_at (slice_set xs i left) i ≡ []
      here i [] left is = refl
      here zero (x ∷ xs) left is = is
      here (suc i) (x ∷ xs) left is = here i xs left is

  -- what a channel takes it takes where records were taken away before
  pub takes_still : (old new : List (Contents R)) (count channel n many : ℕ) → contents_items new ≡ without_first count channel (contents_items old) → ((k : ℕ) → room_at old k ≤ room_at new k) → TakesAll old n many → TakesAll new n many
  takes_still old new count channel n many rest room takes = (
    omega (arith, takes.0, ap (λ l. length l) rest, length-set (contents_items old) channel (drop count (items_at (contents_items old) channel)), length-map old (λ c. c.items), length-map new (λ c. c.items)),
    elim takes.1 [
      | inl none ↦ inl (ap (λ l. items_at l n) rest ∙ skipped_none count channel n (contents_items old) none)
      | inr fits ↦ inr (omega (arith, fits, room n))
    ],
  )

  pub place_still : (old new : List (Contents R)) (count channel : ℕ) (ready : Ready R) → contents_items new ≡ without_first count channel (contents_items old) → ((k : ℕ) → room_at old k ≤ room_at new k) → HasPlace old ready → HasPlace new ready
  place_still old new count channel (Ready.One number row) rest room place = λ k. omega (arith, place k, room k)
  place_still old new count channel (Ready.Together number rows) rest room place = takes_still old new count channel number (length rows.items) rest room place
  place_still old new count channel (Ready.Rows rows) rest room place = λ k. omega (arith, place k, room k)
  place_still old new count channel (Ready.Each puts) rest room place = λ k. omega (arith, place k, room k)
