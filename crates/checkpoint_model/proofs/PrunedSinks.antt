-- The records of a sink under the calls on its transactions.
use Rattle.std.proofs.Common.{◌≡◌, ℕ, List, [], ◌∷◌, ◌++◌, sym, ap, ap₂, ◌∙◌, append_assoc, append-nil}
use Rattle.std.proofs.lemmas.List.{map-append}
use Rattle.std.proofs.lemmas.List.Concat.{flat_map-append}
use Rattle.checkpoint_model.specs.Durable.{Transaction, PreCommitted, SinkTransactions, joined, transactions_of, begun, Appends, PreCommits, Commits}
use Rattle.checkpoint_model.specs.PrunedLaws.{HasOneOpen, all_records}
use Rattle.checkpoint_model.proofs.Steps.{only_one}

module _ {B : Type 0} where
  put_more : (xs : List (Transaction B)) (x : Transaction B) (bytes : B) → joined (xs ++ record { number = x.number; records = x.records ++ bytes ∷ [] } ∷ []) ≡ joined (xs ++ x ∷ []) ++ bytes ∷ []
  put_more xs x bytes =
      let x' : Transaction B = record { number = x.number; records = x.records ++ bytes ∷ [] } in
      flat_map-append (λ (t : Transaction B). t.records) xs (x' ∷ [])
      ∙ ap (λ l. joined xs ++ l) (append-nil (x.records ++ bytes ∷ []))
      ∙ sym (append_assoc (joined xs) x.records (bytes ∷ []))
      ∙ ap (λ l. (joined xs ++ l) ++ bytes ∷ []) (sym (append-nil x.records))
      ∙ ap (λ l. l ++ bytes ∷ []) (sym (flat_map-append (λ (t : Transaction B). t.records) xs (x ∷ [])))

  abbrev closed : SinkTransactions B → List (Transaction B)
  closed sink = sink.committed ++ transactions_of sink.pre_committed

  pub appended : (bytes : B) (old new : SinkTransactions B) → HasOneOpen old → Appends bytes old new → all_records new ≡ all_records old ++ bytes ∷ []
  appended bytes old new one a =
      let split = only_one one.0 a.front a.changed a.back (sym one.1 ∙ a.was) in
      let more : Transaction B → Transaction B = λ x. record { number = x.number; records = x.records ++ bytes ∷ [] } in
      let opens : a.front ++ more a.changed ∷ a.back ≡ more one.0 ∷ [] = ap₂ (λ x y. x ++ more a.changed ∷ y) split.0 split.2 ∙ ap (λ x. more x ∷ []) split.1 in
      ap all_records a.ends
      ∙ ap (λ l. joined (closed old ++ l)) opens
      ∙ put_more (closed old) one.0 bytes
      ∙ ap (λ l. joined (closed old ++ l) ++ bytes ∷ []) (sym one.1)

  pub begun_records : (number : ℕ) (old : SinkTransactions B) → all_records (begun number old) ≡ all_records old
  begun_records number old =
      let empty : Transaction B = record { number = number; records = [] } in
      ap joined (sym (append_assoc (closed old) old.open_ones (empty ∷ [])))
      ∙ flat_map-append (λ (t : Transaction B). t.records) (closed old ++ old.open_ones) (empty ∷ [])
      ∙ append-nil (all_records old)

  pub pre_committed_records : (line : List ℕ) (n : ℕ) (old new : SinkTransactions B) (a : PreCommits line n old new) → a.front ≡ [] → all_records new ≡ all_records old
  pre_committed_records line n old new a is_first =
      let pre = transactions_of old.pre_committed in
      let rest = a.front ++ a.back in
      let newest : PreCommitted B = record { transaction = a.changed; checkpoint = n } in
      ap all_records a.ends
      ∙ ap (λ l. joined ((old.committed ++ l) ++ rest)) (map-append (λ (q : PreCommitted B). q.transaction) old.pre_committed (newest ∷ []))
      ∙ ap (λ l. joined (l ++ rest)) (sym (append_assoc old.committed pre (a.changed ∷ [])))
      ∙ ap joined (append_assoc (closed old) (a.changed ∷ []) rest)
      ∙ ap (λ l. joined (closed old ++ a.changed ∷ (l ++ a.back))) is_first
      ∙ ap (λ l. joined (closed old ++ (l ++ a.changed ∷ a.back))) (sym is_first)
      ∙ ap (λ l. joined (closed old ++ l)) (sym a.was)

  pub committed_records : (line : List ℕ) (old new : SinkTransactions B) (a : Commits line old new) → a.front ≡ [] → all_records new ≡ all_records old
  committed_records line old new a is_first =
      let c = old.committed in
      let x = a.changed.transaction in
      ap all_records a.ends
      ∙ ap (λ l. joined (l ++ old.open_ones)) (append_assoc c (x ∷ []) (transactions_of (a.front ++ a.back)))
      ∙ ap (λ l. joined ((c ++ x ∷ transactions_of (l ++ a.back)) ++ old.open_ones)) is_first
      ∙ ap (λ l. joined ((c ++ transactions_of (l ++ a.changed ∷ a.back)) ++ old.open_ones)) (sym is_first)
      ∙ ap (λ l. joined ((c ++ transactions_of l) ++ old.open_ones)) (sym a.was)
