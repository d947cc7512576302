-- What a task sends, where there is room for it.
use Rattle.std.proofs.Common.{◌≡◌, ◌<◌, ◌≤◌, ℕ, List, [], ◌∷◌, ◌+◌, ◌++◌, length, map, take, drop, get_or, slice_get, slice_set, Option, None, Some, All, refl, subst, sym, ap, ◌∙◌, arith, inl, inr}
use Rattle.std.specs.Prelude.{IfSome, option_map}
use Rattle.std.proofs.lemmas.List.{append-nil, get_or_default, map-append, length-map, length-set, get_or-map, take-map, take_more, take_more_set, drop_more, drop-set}
use Rattle.std.proofs.lemmas.List.Concat.{flat_map-append}
use Rattle.std.proofs.lemmas.Option.{slice_get-get_or, slice_get-map}
use Rattle.std.proofs.lemmas.List.Elements.{All-filter, All-map}
use Rattle.channels.specs.Items.{leading_records}
use Rattle.channels.specs.declared.item.Item.{Item}
use Rattle.channels.specs.declared.item.Item.TheVariants.{Record, Barrier}
use Rattle.dataflow_model.specs.Graph.{Meaning}
use Rattle.deliveries.specs.Deliveries.{deliveries_of, deliveries_of_one, delivered_last}
use Rattle.job_graph.specs.Expanded.{Expanded, meets, takes, is_outlet, outlets_of, targets_of}
use Rattle.job_graph.proofs.Targets.{targets_are}
use Rattle.job_state.specs.Sending.{as_puts, AreLanes}
use Rattle.job_state.proofs.Received.{numbers_below}

-- records that stand first stand before the first barrier
pub leads : {R : Type 0} (rows : List R) (items : List (Item R)) → take (length rows) items ≡ map Record rows → length rows ≤ length (leading_records items)
leads [] items first = omega arith
leads (row ∷ rows) [] first = absurd cc
leads (row ∷ rows) (Record r ∷ items) first = let rest : take (length rows) items ≡ map Record rows = cc in omega (arith, leads rows items rest)
leads (row ∷ rows) (Barrier n ∷ items) first = absurd cc

module _ {R : Type 0} where
  -- a record with its channel, as the item that comes next
  pub next_put : (rows : List (ℕ × R)) (i : ℕ) (row : ℕ × R) → i < length rows → row ≡ get_or rows i row → (i < length (as_puts rows)) × ((row.0, Record row.1) ≡ get_or (as_puts rows) i (row.0, Record row.1))
  next_put rows i row within is =
      let put : ℕ × R → ℕ × Item R = λ r. (r.0, Record r.1) in
      (omega (arith, within, length-map rows put), ap put is ∙ sym (get_or-map put rows i row (row.0, Record row.1) within))

  pub puts_so_far : (rows yielded : List (ℕ × R)) → yielded ≡ take (length yielded) rows → as_puts yielded ≡ take (length yielded) (as_puts rows)
  puts_so_far rows yielded so_far = let put : ℕ × R → ℕ × Item R = λ r. (r.0, Record r.1) in ap as_puts so_far ∙ sym (take-map put (length yielded) rows)

  -- one record more is put
  pub one_put_more : (rows : List (ℕ × R)) (row : ℕ × R) → as_puts (rows ++ row ∷ []) ≡ as_puts rows ++ (row.0, Record row.1) ∷ []
  one_put_more rows row = let put : ℕ × R → ℕ × Item R = λ r. (r.0, Record r.1) in map-append put rows (row ∷ [])

module _ {R K S O : Type 0} (meaning : Meaning R K S O) (graph : Expanded) (task : ℕ) where
  pub outlets_below : (port : ℕ) → All (λ n. n < length graph.channels) (outlets_of graph task port)
  outlets_below port = numbers_below (is_outlet task port) graph.channels

  -- the channel that a record goes into is one of its port's
  pub goes_among : (P : ℕ → Type 0) (port : ℕ) (row : R) (number : ℕ) → All P (outlets_of graph task port) → deliveries_of_one meaning graph task (port, row) ≡ delivered_last row (Some number) → P number
  goes_among P port row number all goes =
      let lane = meaning.lane row in
      let targets : All P (targets_of graph task port lane) = subst (All P) (sym (targets_are graph task port lane)) (All-filter (meets (takes lane) graph.channels) P (outlets_of graph task port) all) in
      let delivered = All-map {X = ℕ × Item R} (λ p. P p.0) (λ n. (n, Record row)) (targets_of graph task port lane) targets in
      subst (All (λ p. P p.0)) goes delivered 0 (number, Record row) (omega arith)

  -- one record more is sent
  pub sent_more : (sent : List (ℕ × R)) (one : ℕ × R) → deliveries_of meaning graph task (sent ++ one ∷ []) ≡ deliveries_of meaning graph task sent ++ deliveries_of_one meaning graph task one
  sent_more sent one = flat_map-append (deliveries_of_one meaning graph task) sent (one ∷ []) ∙ ap (λ l. deliveries_of meaning graph task sent ++ l) (append-nil (deliveries_of_one meaning graph task one))

  -- a record that was not told its channel yet is as it was
  still_there : (rows old : List (ℕ × R)) (i : ℕ) (seen : ℕ × R) → i < length rows → i < length old → drop i rows ≡ drop i old → seen ≡ get_or rows i seen → get_or old i seen ≡ seen
  still_there rows old i seen inside within others is =
      ap (λ l. get_or l 0 seen) (sym (drop_more old i seen within) ∙ sym others ∙ drop_more rows i seen inside) ∙ sym is

  -- a lane that is told at its place is its own
  pub lane_known : (rows old : List (ℕ × R)) (lanes : List ℕ) (i : ℕ) (seen : ℕ × R) (known : Option ℕ) → i < length rows → i < length old → drop i rows ≡ drop i old → seen ≡ get_or rows i seen → AreLanes meaning old lanes → known ≡ slice_get lanes i →
      IfSome known (λ lane. lane ≡ meaning.lane seen.1)
  lane_known rows old lanes i seen known inside within others is told at = subst (λ k. IfSome k (λ lane. lane ≡ meaning.lane seen.1)) (sym at) (by (slice_get lanes i) refl)
    where
      lane : ℕ × R → ℕ
      lane s = meaning.lane s.1

      there : slice_get old i ≡ Some seen
      there = slice_get-get_or old i seen within ∙ ap Some (still_there rows old i seen inside within others is)

      by : (k : Option ℕ) → slice_get lanes i ≡ k → IfSome k (λ l. l ≡ meaning.lane seen.1)
      by None e = tt
      by (Some l) e =
          elim told [
            | inl none ↦ absurd (let nothing : ◌≡◌ {A = Option ℕ} (slice_get [] i) (Some l) = subst (λ (ls : List ℕ). slice_get ls i ≡ Some l) none e in cc)
            | inr all ↦
                let same : ◌≡◌ {A = Option ℕ} (Some (meaning.lane seen.1)) (Some l) = sym (slice_get-map lane old i ∙ ap (option_map lane) there) ∙ sym (ap (λ ls. slice_get ls i) all) ∙ e in
                cc
          ]

  -- the first record that was not told its channel yet is told it
  pub row_told : (rows old : List (ℕ × R)) (i number : ℕ) (seen was : ℕ × R) → i < length rows → i < length old → drop i rows ≡ drop i old → seen ≡ get_or rows i seen → was ≡ get_or rows i was →
      deliveries_of_one meaning graph task seen ≡ (number, Record seen.1) ∷ [] → as_puts (take i rows) ≡ deliveries_of meaning graph task (take i old) →
      as_puts (take (i + 1) (slice_set rows i (number, was.1))) ≡ deliveries_of meaning graph task (take (i + 1) old)
  row_told rows old i number seen was inside within others is was_is goes told =
      let same : get_or old i seen ≡ seen = still_there rows old i seen inside within others is in
      let one : was ≡ seen = was_is ∙ get_or_default rows i was seen inside ∙ sym is in
      let sent : (number, Record seen.1) ∷ [] ≡ deliveries_of_one meaning graph task (get_or old i seen) = sym goes ∙ ap (deliveries_of_one meaning graph task) (sym same) in
      ap as_puts (take_more_set rows i (number, was.1) inside)
      ∙ map-append (λ p. (p.0, Record p.1)) (take i rows) ((number, was.1) ∷ [])
      ∙ ap (λ l. l ++ (number, Record was.1) ∷ []) told
      ∙ ap (λ s. deliveries_of meaning graph task (take i old) ++ (number, Record s.1) ∷ []) one
      ∙ ap (λ l. deliveries_of meaning graph task (take i old) ++ l) sent
      ∙ sym (sent_more (take i old) (get_or old i seen))
      ∙ ap (deliveries_of meaning graph task) (sym (take_more old i seen within))

-- what was not told yet is as it was, behind the one that is told
pub left_behind : {X : Type 0} (rows old : List X) (i : ℕ) (d x : X) → i < length rows → i < length old → drop i rows ≡ drop i old → drop (i + 1) (slice_set rows i x) ≡ drop (i + 1) old
left_behind rows old i d x inside within others =
    ap (λ l. drop 1 l) (sym (drop_more (slice_set rows i x) i d (omega (arith, inside, length-set rows i x))) ∙ drop-set rows i x inside)
    ∙ ap (λ l. drop 1 l) (sym (drop_more rows i d inside) ∙ others ∙ drop_more old i d within)
