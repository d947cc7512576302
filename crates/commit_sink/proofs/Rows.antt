-- A subtask's share tells its committed records.
use Rattle.std.proofs.Common.{◌≡◌, ◌<◌, ◌≤◌, ◌+◌, ℕ, List, [], ◌∷◌, ◌++◌, length, sum_by, take, drop, get_or, slice_get, Option, Some, None, refl, sym, ap, ◌∙◌, subst, arith}
use Rattle.std.specs.List.{flat_map}
use Rattle.std.specs.List.Sorted.{IsNonDecreasingBy}
use Rattle.std.proofs.lemmas.List.{drop-append-le, drop-drop, drop_at, drop_more, length-append, length-map, take-append-drop, take_more, take-take}
use Rattle.std.proofs.Math.Seq.{take-length}
use Rattle.std.proofs.lemmas.List.Concat.{flat_map-append, get_or-flat_map, length-flat_map}
use Rattle.std.proofs.lemmas.List.Folds.{length-flat_map-take}
use Rattle.std.proofs.lemmas.List.Sums.{sum_by-take-le}
use Rattle.std.proofs.lemmas.Option.{get_or_from_slice_get, slice_get-get_or, slice_get-map, slice_get_past, slice_get_within}
use Rattle.std.specs.Option.{option_map}
use Rattle.commit_sink.specs.declared.share.End.{End}
use Rattle.commit_sink.specs.declared.share.Share.{Share}
use Rattle.commit_sink.specs.Ends.{Stands, rows_of}
use Rattle.commit_sink.specs.Ledger.{Ledger, Transaction, committed_rows, records_of, transaction_at}
use Rattle.commit_sink.specs.Runs.{IsRunFrom}
use Rattle.commit_sink.specs.Shares.{IsShare, empty_share, numbers_of}
use Rattle.commit_sink.proofs.Ends.{rows_of-take}
use Rattle.commit_sink.proofs.Runs.{run-within}

pub rows_of-committed : (l : Ledger) (s : ℕ) (share : Share) → IsShare l s share → rows_of share.ends.items ≡ length (committed_rows l s)
rows_of-committed l s share i =
    ap rows_of (sym (take-length share.ends.items))
    ∙ i.rows (length share.ends.items) (omega arith)
    ∙ ap (λ k. length (flat_map (records_of l) (take k (numbers_of share.ends.items)))) (sym (length-map share.ends.items (λ e. e.transaction)))
    ∙ ap (λ xs. length (flat_map (records_of l) xs)) (take-length (numbers_of share.ends.items))
    ∙ ap (λ xs. length (flat_map (records_of l) xs)) i.numbers

flat_map-rises : {A B : Type 0} (f : A → List B) (xs : List A) (i j : ℕ) → i ≤ j → length (flat_map f (take i xs)) ≤ length (flat_map f (take j xs))
flat_map-rises f xs i j le =
    let first = length-flat_map f (take i xs) in
    let second = length-flat_map f (take j xs) in
    let part = sum_by-take-le (λ x. length (f x)) (take j xs) i in
    let same : sum_by (λ x. length (f x)) (take i (take j xs)) ≡ sum_by (λ x. length (f x)) (take i xs) = ap (sum_by (λ x. length (f x))) (take-take i j xs le) in
    omega (arith, first, second, part, same)

pub rows-rise : (l : Ledger) (s : ℕ) (share : Share) → IsShare l s share → IsNonDecreasingBy (λ e. e.rows) share.ends.items
rows-rise l s share i a b d le within =
    let at_a = rows_of-take share.ends.items a d (omega (arith, le, within)) in
    let at_b = rows_of-take share.ends.items b d within in
    let is_a = i.rows (a + 1) (omega (arith, le, within)) in
    let is_b = i.rows (b + 1) (omega (arith, within)) in
    let rises = flat_map-rises (records_of l) (numbers_of share.ends.items) (a + 1) (b + 1) (omega (arith, le)) in
    omega (arith, at_a, at_b, is_a, is_b, rises)

-- The committed record of an index is one of a transaction's.
pub record RowFound (l : Ledger) (s index n place : ℕ) : Type 0 where
  pub transaction : Transaction
  pub is : transaction_at l n ≡ Some transaction
  pub within : place < length transaction.records
  pub row : slice_get (committed_rows l s) index ≡ slice_get transaction.records place

abbrev records_one : Option Transaction → List (List ℕ)
records_one o = elim o [ None ↦ [] | Some t ↦ t.records ]

pub found-in : (l : Ledger) (s index n place : ℕ) (o : Option Transaction) → transaction_at l n ≡ o → place < length (records_of l n) → slice_get (committed_rows l s) index ≡ slice_get (records_of l n) place → RowFound l s index n place
found-in l s index n place None is within row =
    let none : length (records_of l n) ≡ 0 = ap (λ o. length (records_one o)) is in absurd (omega (arith, none, within))
found-in l s index n place (Some t) is within row =
    let records : records_of l n ≡ t.records = ap records_one is in
    record {
      transaction = t;
      is = is;
      within = subst (λ xs. place < length xs) records within;
      row = row ∙ ap (λ xs. slice_get xs place) records;
    }

pub row-found : (l : Ledger) (s index : ℕ) (share : Share) (k n place : ℕ) → IsShare l s share → Stands share.ends.items k index (n, place) → RowFound l s index n place
row-found l s index share k n place i st =
    let items : List End = share.ends.items in
    let ns : List ℕ = numbers_of share.ends.items in
    let within : k < length items = slice_get_within items k st.end st.is in
    let within_ns : k < length ns = subst (λ m. k < m) (sym (length-map items (λ e. e.transaction))) within in
    let number : slice_get ns k ≡ Some n = slice_get-map (λ e. e.transaction) items k ∙ ap (option_map (λ e. e.transaction)) st.is ∙ ap Some st.transaction in
    let is_n : get_or ns k 0 ≡ n = get_or_from_slice_get ns k n 0 number in
    let end_is : rows_of (take (k + 1) items) ≡ st.end.rows = rows_of-take items k st.end within ∙ ap (λ e. e.rows) (get_or_from_slice_get items k st.end st.end st.is) in
    let upto = i.rows (k + 1) (omega (arith, within)) in
    let before = i.rows k (omega (arith, within)) in
    let more : flat_map (records_of l) (take (k + 1) ns) ≡ flat_map (records_of l) (take k ns) ++ flat_map (records_of l) (get_or ns k 0 ∷ []) =
    ap (flat_map (records_of l)) (take_more ns k 0 within_ns) ∙ flat_map-append (records_of l) (take k ns) (get_or ns k 0 ∷ []) in
    let lengths : length (flat_map (records_of l) (take (k + 1) ns)) ≡ length (flat_map (records_of l) (take k ns)) + length (flat_map (records_of l) (get_or ns k 0 ∷ [])) =
    ap length more ∙ length-append (flat_map (records_of l) (take k ns)) (flat_map (records_of l) (get_or ns k 0 ∷ [])) in
    let alone : length (flat_map (records_of l) (get_or ns k 0 ∷ [])) ≡ length (records_of l (get_or ns k 0)) + 0 = length-append (records_of l (get_or ns k 0)) [] in
    let above = st.above in
    let at = st.place in
    let there : place < length (records_of l (get_or ns k 0)) = omega (arith, end_is, upto, before, lengths, alone, above, at) in
    let index_is : length (flat_map (records_of l) (take k ns)) + place ≡ index = omega (arith, before, at) in
    let all = length-flat_map-take (records_of l) ns k 0 within_ns in
    let inside : index < length (flat_map (records_of l) ns) = omega (arith, index_is, there, all) in
    let found : slice_get (flat_map (records_of l) ns) index ≡ slice_get (records_of l (get_or ns k 0)) place =
    slice_get-get_or (flat_map (records_of l) ns) index [] inside
    ∙ ap Some (ap (λ m. get_or (flat_map (records_of l) ns) m []) (sym index_is) ∙ get_or-flat_map (records_of l) ns k place 0 [] within_ns there)
    ∙ sym (slice_get-get_or (records_of l (get_or ns k 0)) place [] there) in
    found-in l s index n place (transaction_at l n) refl (subst (λ m. place < length (records_of l m)) is_n there)
    (ap (λ xs. slice_get (flat_map (records_of l) xs) index) (sym i.numbers) ∙ found ∙ ap (λ m. slice_get (records_of l m) place) is_n)

pub no_row : (l : Ledger) (s index : ℕ) (share : Share) → IsShare l s share → rows_of share.ends.items ≤ index → slice_get (committed_rows l s) index ≡ None
no_row l s index share i past = slice_get_past (committed_rows l s) index (subst (λ n. n ≤ index) (rows_of-committed l s share i) past)

pub empty_rows : (l : Ledger) (s : ℕ) → IsShare l s empty_share → committed_rows l s ≡ []
empty_rows l s i = ap (flat_map (records_of l)) (sym i.numbers)

-- what stands in joined lists from a place of one of them on
joined-from : {A : Type 0} (f : ℕ → List A) (ns : List ℕ) (k place : ℕ) → k < length ns → place ≤ length (f (get_or ns k 0))
    → drop (length (flat_map f (take k ns)) + place) (flat_map f ns) ≡ drop place (f (get_or ns k 0)) ++ flat_map f (drop (k + 1) ns)
joined-from f ns k place within inside =
    let parts : flat_map f ns ≡ flat_map f (take k ns) ++ (f (get_or ns k 0) ++ flat_map f (drop (k + 1) ns)) =
    ap (flat_map f) (sym (take-append-drop k ns) ∙ ap (λ l. take k ns ++ l) (drop_more ns k 0 within)) ∙ flat_map-append f (take k ns) (get_or ns k 0 ∷ drop (k + 1) ns) in
    ap (drop (length (flat_map f (take k ns)) + place)) parts
    ∙ sym (drop-drop place (length (flat_map f (take k ns))) (flat_map f (take k ns) ++ (f (get_or ns k 0) ++ flat_map f (drop (k + 1) ns))))
    ∙ ap (drop place) (drop_at (flat_map f (take k ns)) (f (get_or ns k 0) ++ flat_map f (drop (k + 1) ns)) (length (flat_map f (take k ns))) refl)
    ∙ drop-append-le place (f (get_or ns k 0)) (flat_map f (drop (k + 1) ns)) inside

-- a run of the records of the transaction that has the record, from that one on
pub run-found : (l : Ledger) (s index : ℕ) (share : Share) (k n place : ℕ) → IsShare l s share → Stands share.ends.items k index (n, place) → (r : RowFound l s index n place) → (run : List (List ℕ)) → IsRunFrom r.transaction.records place run → IsRunFrom (committed_rows l s) index run
run-found l s index share k n place i st r run of =
    let items : List End = share.ends.items in
    let ns : List ℕ = numbers_of share.ends.items in
    let within : k < length items = slice_get_within items k st.end st.is in
    let within_ns : k < length ns = subst (λ m. k < m) (sym (length-map items (λ e. e.transaction))) within in
    let number : slice_get ns k ≡ Some n = slice_get-map (λ e. e.transaction) items k ∙ ap (option_map (λ e. e.transaction)) st.is ∙ ap Some st.transaction in
    let records : records_of l (get_or ns k 0) ≡ r.transaction.records = ap (records_of l) (get_or_from_slice_get ns k n 0 number) ∙ ap records_one r.is in
    let inside = r.within in
    let there : place < length (records_of l (get_or ns k 0)) = subst (λ xs. place < length xs) (sym records) inside in
    let before = i.rows k (omega (arith, within)) in
    let at = st.place in
    let index_is : length (flat_map (records_of l) (take k ns)) + place ≡ index = omega (arith, before, at) in
    let from : drop index (committed_rows l s) ≡ drop place r.transaction.records ++ flat_map (records_of l) (drop (k + 1) ns) =
    ap (λ xs. drop index (flat_map (records_of l) xs)) (sym i.numbers)
    ∙ ap (λ m. drop m (flat_map (records_of l) ns)) (sym index_is)
    ∙ joined-from (records_of l) ns k place within_ns (omega (arith, there))
    ∙ ap (λ xs. drop place xs ++ flat_map (records_of l) (drop (k + 1) ns)) records in
    run-within (committed_rows l s) r.transaction.records (flat_map (records_of l) (drop (k + 1) ns)) run index place from inside of
