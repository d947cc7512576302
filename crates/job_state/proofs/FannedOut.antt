-- What a task sends on ports each of whose channels takes it: how much room it takes.
use Rattle.std.proofs.Common.{◌≡◌, ◌<◌, ◌+◌, ◌==◌, ◌∷◌, ◌++◌, ℕ, zero, suc, List, [], length, map, filter, take, slice_index, refl, sym, ap, ◌∙◌, inl, inr, arith}
use Rattle.std.specs.Prelude.{All}
use Rattle.std.proofs.lemmas.Bool.Decides.{eqb_tells}
use Rattle.std.proofs.lemmas.List.{length-append, map-append}
use Rattle.std.proofs.lemmas.List.Elements.{All-head, All-tail}
use Rattle.channels.specs.declared.item.Item.{Item}
use Rattle.channels.specs.declared.item.Item.TheVariants.{Record}
use Rattle.dataflow_model.specs.Graph.{Meaning}
use Rattle.deliveries.specs.Deliveries.{deliveries_of, deliveries_of_one, fanned_by, numbers_at}
use Rattle.job_graph.specs.Expanded.{Expanded}
use Rattle.job_state.specs.Sending.{as_puts, put_into, waiting_at, waiting_in, GoToAll}
use Rattle.job_state.proofs.Putting.{put_into_append, waits_more, waits_none}

-- one channel more
pub waiting_in_more : (numbers : List ℕ) (i count k : ℕ) → i < length numbers → waiting_in (take (suc i) numbers) count k ≡ waiting_in (take i numbers) count k + waiting_at (slice_index numbers i) count k
waiting_in_more [] i count k within = absurd (omega (arith, within))
waiting_in_more (n ∷ numbers) zero count k within = omega arith
waiting_in_more (n ∷ numbers) (suc i) count k within = omega (arith, waiting_in_more numbers i count k (omega (arith, within)))

-- ---- those for one channel

module _ (k : ℕ) where
  -- one more
  waiting_at_more : (n count : ℕ) → waiting_at n (suc count) k ≡ waiting_at n 1 k + waiting_at n count k
  waiting_at_more n count = elim (eqb_tells n k) [ inl h ↦ rw h.0 (omega arith) | inr h ↦ rw h.0 refl ]

  each_waits_more : (numbers : List ℕ) (count : ℕ) → waiting_in numbers (suc count) k ≡ waiting_in numbers 1 k + waiting_in numbers count k
  each_waits_more [] count = omega arith
  each_waits_more (n ∷ numbers) count = omega (arith, waiting_at_more n count, each_waits_more numbers count)

  waiting_in_none : (numbers : List ℕ) → waiting_in numbers 0 k ≡ 0
  waiting_in_none [] = refl
  waiting_in_none (n ∷ numbers) = omega (arith, waits_none n k, waiting_in_none numbers)

  module _ {R : Type 0} (row : R) where
    abbrev put : ℕ → ℕ × Item R
    put n = (n, Record row)

    -- a record that goes into each of these channels
    puts_in : (numbers : List ℕ) → length (put_into k (map put numbers)) ≡ waiting_in numbers 1 k
    puts_in [] = refl
    puts_in (n ∷ numbers) =
        omega (
          arith,
          ap (λ l. length l) (put_into_append k (put n ∷ []) (map put numbers)),
          length-append (put_into k (put n ∷ [])) (put_into k (map put numbers)),
          waits_more n 0 k (Record row),
          waits_none n k,
          puts_in numbers,
        )

module _ {R K S O : Type 0} (meaning : Meaning R K S O) (graph : Expanded) (task : ℕ) (first second : List ℕ) (all : GoToAll meaning graph task first second) (k : ℕ) where
  abbrev on : ℕ → List (ℕ × R) → ℕ
  on port sent = length (filter (λ s. s.0 == port) sent)

  -- what is sent on two ports: so many for each channel of the first, and so many for each of the second
  pub fans_in : (sent : List (ℕ × R)) → All (λ s. s.0 < 2) sent → length (put_into k (deliveries_of meaning graph task sent)) ≡ waiting_in first (on 0 sent) k + waiting_in second (on 1 sent) k
  fans_in [] two = omega (arith, waiting_in_none k first, waiting_in_none k second)
  fans_in ((port, row) ∷ sent) two = by port (All-head (λ s. s.0 < 2) (port, row) sent two) (fans_in sent (All-tail (λ s. s.0 < 2) (port, row) sent two))
    where
      rest : Type 0
      rest = length (put_into k (deliveries_of meaning graph task sent)) ≡ waiting_in first (on 0 sent) k + waiting_in second (on 1 sent) k

      both : (p : ℕ) → p < 2 → length (put_into k (deliveries_of meaning graph task ((p, row) ∷ sent))) ≡ waiting_in (numbers_at first second p) 1 k + length (put_into k (deliveries_of meaning graph task sent))
      both p below =
          let here = deliveries_of_one meaning graph task (p, row) in
          let more = deliveries_of meaning graph task sent in
          omega (
            arith,
            ap (λ l. length l) (put_into_append k here more),
            length-append (put_into k here) (put_into k more),
            ap (λ l. length (put_into k l)) (all p row below),
            puts_in k row (numbers_at first second p),
          )

      by : (p : ℕ) → p < 2 → rest → length (put_into k (deliveries_of meaning graph task ((p, row) ∷ sent))) ≡ waiting_in first (on 0 ((p, row) ∷ sent)) k + waiting_in second (on 1 ((p, row) ∷ sent)) k
      by zero below is =
          let counted : waiting_in first (on 0 ((zero, row) ∷ sent)) k ≡ waiting_in first (suc (on 0 sent)) k = refl in
          let others : waiting_in second (on 1 ((zero, row) ∷ sent)) k ≡ waiting_in second (on 1 sent) k = refl in
          let numbers : waiting_in (numbers_at first second zero) 1 k ≡ waiting_in first 1 k = refl in
          omega (arith, is, counted, others, numbers, both zero below, each_waits_more k first (on 0 sent))
      by (suc zero) below is =
          let counted : waiting_in second (on 1 ((suc zero, row) ∷ sent)) k ≡ waiting_in second (suc (on 1 sent)) k = refl in
          let others : waiting_in first (on 0 ((suc zero, row) ∷ sent)) k ≡ waiting_in first (on 0 sent) k = refl in
          let numbers : waiting_in (numbers_at first second (suc zero)) 1 k ≡ waiting_in second 1 k = refl in
          omega (arith, is, counted, others, numbers, both (suc zero) below, each_waits_more k second (on 1 sent))
      by (suc (suc p)) below is = absurd (omega (arith, below))

module _ {R K S O : Type 0} (meaning : Meaning R K S O) (graph : Expanded) (task : ℕ) (first second : List ℕ) (all : GoToAll meaning graph task first second) where
  -- what is sent, once for each channel of its port, is what goes into them
  pub fanned_are_sent : (sent : List (ℕ × R)) → All (λ s. s.0 < 2) sent → as_puts (fanned_by first second sent) ≡ deliveries_of meaning graph task sent
  fanned_are_sent [] two = refl
  fanned_are_sent ((port, row) ∷ sent) two =
      let numbers = numbers_at first second port in
      map-append item (map (λ n. (n, row)) numbers) (fanned_by first second sent)
      ∙ ap (λ l. l ++ as_puts (fanned_by first second sent)) (each_as_put numbers)
      ∙ ap (λ l. l ++ as_puts (fanned_by first second sent)) (sym (all port row (All-head (λ s. s.0 < 2) (port, row) sent two)))
      ∙ ap (λ l. deliveries_of_one meaning graph task (port, row) ++ l) (fanned_are_sent sent (All-tail (λ s. s.0 < 2) (port, row) sent two))
    where
      item : ℕ × R → ℕ × Item R
      item p = (p.0, Record p.1)

      each_as_put : (ns : List ℕ) → map item (map (λ n. (n, row)) ns) ≡ map (λ n. (n, Record row)) ns
      each_as_put [] = refl
      each_as_put (n ∷ ns) = ap (λ l. (n, Record row) ∷ l) (each_as_put ns)

  pub known_are_sent : (rows sent : List (ℕ × R)) (f s : List ℕ) → rows ≡ fanned_by f s sent → (f ≡ first) × (s ≡ second) → All (λ e. e.0 < 2) sent → as_puts rows ≡ deliveries_of meaning graph task sent
  known_are_sent rows sent f s known same two =
      ap as_puts (known ∙ ap (λ l. fanned_by l s sent) same.0 ∙ ap (λ l. fanned_by first l sent) same.1) ∙ fanned_are_sent sent two
