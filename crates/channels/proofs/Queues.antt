-- The records and the barriers of a channel, as one list.
use Rattle.std.proofs.Common.{zero, suc, ◌≡◌, ◌<◌, ◌≤◌, ◌+◌, ◌-◌, ℕ, List, [], ◌∷◌, ◌++◌, length, map, take, drop, Option, Some, None, slice_get, slice_set, get_or, refl, subst, sym, ap, ◌∙◌, arith, append_assoc}
use Rattle.std.proofs.lemmas.List.{map-append, length-map, length-append, length-take, length-take-le, length-drop, take_all, take_min, drop_all, drop-take, drop-map, take-append-le, drop-append-le}
use lib.Seq.{drop-drop}
use Rattle.std.proofs.lemmas.List.Sums.{sum_by-cons}
use Rattle.std.proofs.lemmas.Option.{slice_get_read}
use Rattle.std.specs.Borrow.{Bor}
use Rattle.std.specs.Option.{option_copied, IsSome, IfSome}
use Rattle.channels.specs.Channel.{Contents}
use Rattle.channels.specs.Items.{leading_records}
use Rattle.channels.specs.Queues.{gaps, interleaved}
use Rattle.channels.specs.declared.item.Item.{Item}
use Rattle.channels.specs.declared.item.Item.TheVariants.{Record, Barrier}
use Rattle.channels.specs.declared.spaced_barrier.SpacedBarrier.{SpacedBarrier}

pub gaps-cons : (b : SpacedBarrier) (barriers : List SpacedBarrier) → gaps (b ∷ barriers) ≡ b.gap + gaps barriers
gaps-cons b barriers = sum_by-cons (λ (a : SpacedBarrier). a.gap) b barriers

pub gaps_popped : (b : SpacedBarrier) (rest barriers : List SpacedBarrier) → barriers ≡ b ∷ rest → b.gap ≡ 0 → gaps rest ≡ gaps barriers
gaps_popped b rest barriers is none = rw is (let was = gaps-cons b rest in omega arith)

-- the first barrier has so many records fewer before it
pub gaps_skipped : (count : ℕ) (b : SpacedBarrier) (barriers : List SpacedBarrier) → 0 < length barriers → b ≡ get_or barriers 0 b → count ≤ b.gap → gaps (slice_set barriers 0 (record b { gap = b.gap - count })) + count ≡ gaps barriers
gaps_skipped count b [] some is more = absurd (omega arith)
gaps_skipped count b (first ∷ barriers) some is more =
    let was = gaps-cons first barriers in
    let gap : b.gap ≡ first.gap = ap (λ (a : SpacedBarrier). a.gap) is in
    omega (arith, gaps-cons (record b { gap = b.gap - count }) barriers)

module _ {R : Type 0} where
  pub length-interleaved : (barriers : List SpacedBarrier) (records : List R) → gaps barriers ≤ length records → length (interleaved barriers records) ≡ length records + length barriers
  length-interleaved [] records within = omega (arith, length-map records (λ r. Record r))
  length-interleaved (b ∷ barriers) records within =
      let more = gaps-cons b barriers in
      let first : List (Item R) = map Record (take b.gap records) in
      let rest = length-interleaved barriers (drop b.gap records) (omega (arith, length-drop b.gap records)) in
      omega (arith, rest, length-append first (Barrier b.checkpoint ∷ interleaved barriers (drop b.gap records)), length-map (take b.gap records) (λ r. Record r), length-take-le b.gap records (omega arith), length-drop b.gap records)

  -- records are sent
  pub records_pushed : (barriers : List SpacedBarrier) (records more : List R) → gaps barriers ≤ length records → interleaved barriers (records ++ more) ≡ interleaved barriers records ++ map Record more
  records_pushed [] records more within = map-append (λ r. Record r) records more
  records_pushed (b ∷ barriers) records more within =
      let all = gaps-cons b barriers in
      let fits : b.gap ≤ length records = omega arith in
      let first : List (Item R) = map Record (take b.gap records) in
      let rest = records_pushed barriers (drop b.gap records) more (omega (arith, length-drop b.gap records)) in
      ap (λ t. map Record t ++ Barrier b.checkpoint ∷ interleaved barriers (drop b.gap (records ++ more))) (take-append-le b.gap records more fits) ∙
      ap (λ t. first ++ Barrier b.checkpoint ∷ interleaved barriers t) (drop-append-le b.gap records more fits) ∙
      ap (λ t. first ++ Barrier b.checkpoint ∷ t) rest ∙
      sym (append_assoc first (Barrier b.checkpoint ∷ interleaved barriers (drop b.gap records)) (map Record more))

  -- where nothing stands, there is no record and no barrier
  pub none_stands : (barriers : List SpacedBarrier) (records : List R) → gaps barriers ≤ length records → interleaved barriers records ≡ [] → length records + length barriers ≡ 0
  none_stands barriers records within none = omega (arith, length-interleaved barriers records within, ap (λ (l : List (Item R)). length l) none)

  -- a channel in which nothing stands holds what it is given
  pub filled : (barriers : List SpacedBarrier) (records more : List R) (old : List (Item R)) → gaps barriers ≤ length records → interleaved barriers records ≡ old → old ≡ [] → interleaved barriers more ≡ old ++ map Record more
  filled [] records more old within is none = sym (ap (λ (l : List (Item R)). l ++ map Record more) none)
  filled (b ∷ barriers) records more old within is none = absurd (let some = none_stands (b ∷ barriers) records within (is ∙ none) in omega arith)

  -- a barrier is sent, behind all the records
  pub barrier_pushed : (barriers : List SpacedBarrier) (records : List R) (last : SpacedBarrier) → gaps barriers + last.gap ≡ length records → interleaved (barriers ++ last ∷ []) records ≡ interleaved barriers records ++ Barrier last.checkpoint ∷ []
  barrier_pushed [] records last all =
      ap (λ t. map Record t ++ Barrier last.checkpoint ∷ map Record (drop last.gap records)) (take_all last.gap records (omega arith)) ∙
      ap (λ t. map Record records ++ Barrier last.checkpoint ∷ map Record t) (drop_all last.gap records (omega arith))
  barrier_pushed (b ∷ barriers) records last all =
      let more = gaps-cons b barriers in
      let first : List (Item R) = map Record (take b.gap records) in
      let rest = barrier_pushed barriers (drop b.gap records) last (omega (arith, length-drop b.gap records)) in
      ap (λ t. first ++ Barrier b.checkpoint ∷ t) rest ∙
      sym (append_assoc first (Barrier b.checkpoint ∷ interleaved barriers (drop b.gap records)) (Barrier last.checkpoint ∷ []))

  leading_all : (records : List R) → leading_records (map Record records) ≡ records
  leading_all [] = refl
  leading_all (row ∷ records) = ap (λ l. row ∷ l) (leading_all records)

  leading_before : (records : List R) (checkpoint : ℕ) (items : List (Item R)) → leading_records (map Record records ++ Barrier checkpoint ∷ items) ≡ records
  leading_before [] checkpoint items = refl
  leading_before (row ∷ records) checkpoint items = ap (λ l. row ∷ l) (leading_before records checkpoint items)

  leading-interleaved : (b : SpacedBarrier) (barriers : List SpacedBarrier) (records : List R) → leading_records (interleaved (b ∷ barriers) records) ≡ take b.gap records
  leading-interleaved b barriers records = leading_before (take b.gap records) b.checkpoint (interleaved barriers (drop b.gap records))

  -- as many records lead as the first barrier says
  pub leading_gap : (b : SpacedBarrier) (barriers : List SpacedBarrier) (records : List R) → 0 < length barriers → b ≡ get_or barriers 0 b → gaps barriers ≤ length records → b.gap ≡ length (leading_records (interleaved barriers records))
  leading_gap b [] records some is within = absurd (omega arith)
  leading_gap b (first ∷ barriers) records some is within =
      let more = gaps-cons first barriers in
      ap (λ (a : SpacedBarrier). a.gap) is ∙ sym (ap (λ (l : List R). length l) (leading-interleaved first barriers records) ∙ length-take-le first.gap records (omega arith))

  pub leading_length : (barriers : List SpacedBarrier) (records : List R) → length barriers ≡ 0 → length records ≡ length (leading_records (interleaved barriers records))
  leading_length [] records none = ap (λ (l : List R). length l) (sym (leading_all records))
  leading_length (b ∷ barriers) records none = absurd (omega arith)

  -- no more records lead than there are
  pub leading_within : (barriers : List SpacedBarrier) (records : List R) → length (leading_records (interleaved barriers records)) ≤ length records
  leading_within [] records = omega (arith, leading_length [] records refl)
  leading_within (b ∷ barriers) records = rw leading-interleaved (omega (arith, length-take b.gap records))

  -- those that lead are the first records
  pub leads_of_records : (barriers : List SpacedBarrier) (records : List R) → leading_records (interleaved barriers records) ≡ take (length (leading_records (interleaved barriers records))) records
  leads_of_records [] records =
      let all : leading_records (map Record records) ≡ records = leading_all records in
      all ∙ sym (take_all (length (leading_records (map Record records))) records (omega (arith, ap (λ (l : List R). length l) all)))
  leads_of_records (b ∷ barriers) records = rw leading-interleaved (sym (ap (λ n. take n records) (length-take b.gap records) ∙ take_min b.gap records))

  slice_get-take : (n : ℕ) (records : List R) (index : ℕ) → index < n → slice_get (take n records) index ≡ slice_get records index
  slice_get-take zero records index within = absurd (omega arith)
  slice_get-take (suc n) [] index within = refl
  slice_get-take (suc n) (row ∷ records) zero within = refl
  slice_get-take (suc n) (row ∷ records) (suc index) within = slice_get-take n records index (omega arith)

  pub leading_get : (barriers : List SpacedBarrier) (records : List R) (index : ℕ) → index < length (leading_records (interleaved barriers records)) → slice_get records index ≡ slice_get (leading_records (interleaved barriers records)) index
  leading_get [] records index within = ap (λ (l : List R). slice_get l index) (sym (leading_all records))
  leading_get (b ∷ barriers) records index within =
      let lead = leading-interleaved b barriers records in
      let cut = ap (λ (l : List R). length l) lead in
      sym (ap (λ (l : List R). slice_get l index) lead ∙ slice_get-take b.gap records index (omega (arith, length-take b.gap records)))

  -- a record that leads is the first item
  pub first_is_record : (items : List (Item R)) (row : R) → Some row ≡ slice_get (leading_records items) 0 → Some (Record row) ≡ slice_get items 0
  first_is_record [] row is = absurd cc
  first_is_record (Record r ∷ items) row is = cc
  first_is_record (Barrier n ∷ items) row is = absurd cc

  pub none_leads : (records : List R) → None ≡ slice_get records 0 → length records ≡ 0
  none_leads [] is = refl
  none_leads (row ∷ records) is = absurd cc

  -- no record leads: a barrier is the first item
  pub barrier_popped : (b : SpacedBarrier) (rest barriers : List SpacedBarrier) (records : List R) → barriers ≡ b ∷ rest → length (leading_records (interleaved barriers records)) ≡ 0 → gaps barriers ≤ length records →
      (b.gap ≡ 0) × (interleaved barriers records ≡ Barrier b.checkpoint ∷ interleaved rest records)
  barrier_popped b rest barriers records is none within =
      let lead = leading_gap b (b ∷ rest) records (omega arith) refl (subst (λ (l : List SpacedBarrier). gaps l ≤ length records) is within) in
      let at = ap (λ (l : List SpacedBarrier). length (leading_records (interleaved l records))) is in
      let gap : b.gap ≡ 0 = omega arith in
      (gap, ap (λ (l : List SpacedBarrier). interleaved l records) is ∙ ap (λ (n : ℕ). map Record (take n records) ++ Barrier b.checkpoint ∷ interleaved rest (drop n records)) gap)

  pub barrier_first : (b : SpacedBarrier) (barriers : List SpacedBarrier) (records : List R) → 0 < length barriers → b ≡ get_or barriers 0 b → length (leading_records (interleaved barriers records)) ≡ 0 → gaps barriers ≤ length records →
      Some (Barrier b.checkpoint) ≡ slice_get (interleaved barriers records) 0
  barrier_first b [] records some is none within = absurd (omega arith)
  barrier_first b (first ∷ barriers) records some is none within =
      ap (λ (a : SpacedBarrier). Some (Barrier a.checkpoint)) is ∙ sym (ap (λ (l : List (Item R)). slice_get l 0) (barrier_popped first barriers (first ∷ barriers) records refl none within).1)

  pub nothing_first : (barriers : List SpacedBarrier) (records : List R) → length barriers ≡ 0 → length (leading_records (interleaved barriers records)) ≡ 0 → None ≡ slice_get (interleaved barriers records) 0
  nothing_first [] [] none lead = refl
  nothing_first [] (row ∷ records) none lead = absurd (omega (arith, leading_length [] (row ∷ records) refl))
  nothing_first (b ∷ barriers) records none lead = absurd (omega arith)

  -- the first record, as it leads
  pub record_first : (barriers : List SpacedBarrier) (records : List R) (row : R) (rest : List R) → records ≡ row ∷ rest → 0 < length (leading_records (interleaved barriers records)) → Some (Record row) ≡ slice_get (interleaved barriers records) 0
  record_first barriers records row rest is some =
      first_is_record (interleaved barriers records) row (sym (ap (λ (l : List R). slice_get l 0) is) ∙ leading_get barriers records 0 some)

  -- the first records are gone, and the first barrier is nearer by so many
  skipped : (count gap checkpoint : ℕ) (barriers : List SpacedBarrier) (records : List R) → count ≤ gap → gap ≤ length records →
      map Record (take (gap - count) (drop count records)) ++ Barrier checkpoint ∷ interleaved barriers (drop (gap - count) (drop count records)) ≡ drop count (map Record (take gap records) ++ Barrier checkpoint ∷ interleaved barriers (drop gap records))
  skipped count gap checkpoint barriers records few within =
      let all : count + (gap - count) ≡ gap = omega (arith, few) in
      let long : count ≤ length (map {B = Item R} Record (take gap records)) = omega (arith, few, within, length-map (take gap records) (λ r. Record r), length-take-le gap records within) in
      let before : take (gap - count) (drop count records) ≡ drop count (take gap records) = sym (drop-take count (gap - count) records) ∙ ap (λ n. drop count (take n records)) all in
      let behind : drop (gap - count) (drop count records) ≡ drop gap records = drop-drop (gap - count) count records ∙ ap (λ n. drop n records) all in
      ap (λ l. map Record l ++ Barrier checkpoint ∷ interleaved barriers (drop (gap - count) (drop count records))) before
      ∙ ap (λ l. map Record (drop count (take gap records)) ++ Barrier checkpoint ∷ interleaved barriers l) behind
      ∙ ap (λ l. l ++ Barrier checkpoint ∷ interleaved barriers (drop gap records)) (sym (drop-map (λ r. Record r) count (take gap records)))
      ∙ sym (drop-append-le count (map Record (take gap records)) (Barrier checkpoint ∷ interleaved barriers (drop gap records)) long)

  pub records_skipped : (count : ℕ) (b : SpacedBarrier) (barriers : List SpacedBarrier) (records rest : List R) → rest ≡ drop count records → 0 < length barriers → b ≡ get_or barriers 0 b →
      gaps barriers ≤ length records → count ≤ length (leading_records (interleaved barriers records)) →
      interleaved (slice_set barriers 0 (record b { gap = b.gap - count })) rest ≡ drop count (interleaved barriers records)
  records_skipped count b [] records rest left some is within few = absurd (omega arith)
  records_skipped count b (first ∷ barriers) records rest left some is within few =
      let more = gaps-cons first barriers in
      let gap = leading_gap first (first ∷ barriers) records some refl within in
      subst (λ (a : SpacedBarrier). interleaved (slice_set (first ∷ barriers) 0 (record a { gap = a.gap - count })) rest ≡ drop count (interleaved (first ∷ barriers) records)) (sym is)
      (ap (λ l. interleaved (record first { gap = first.gap - count } ∷ barriers) l) left
      ∙ skipped count first.gap first.checkpoint barriers records (omega (arith, few, gap)) (omega (arith, more)))

  -- there is no barrier
  pub last_skipped : (count : ℕ) (barriers : List SpacedBarrier) (records rest : List R) → rest ≡ drop count records → length barriers ≡ 0 → interleaved barriers rest ≡ drop count (interleaved barriers records)
  last_skipped count [] records rest left none = ap (λ l. map Record l) left ∙ sym (drop-map (λ r. Record r) count records)
  last_skipped count (b ∷ barriers) records rest left none = absurd (omega arith)

  -- a record that is lent
  pub lent : (records : List R) (index : ℕ) (row : Option (Bor R)) → IsSome row → IfSome row (λ r. r.now ≡ get_or records index r.now) → index < length records → option_copied row ≡ slice_get records index
  lent records index None some is within = absurd cc
  lent records index (Some row) some is within = sym (slice_get_read records (length records) index row.now refl within is)

  abbrev pub contents : List (Item R) → ℕ → Contents R
  contents items room = record { items = items; room = room }
