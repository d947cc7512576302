-- The entries that are left to be spelled, and what is read of those that are.
use Rattle.std.proofs.Common.{◌≡◌, ◌<◌, ◌≤◌, ◌+◌, ◌-◌, ◌^◌, ℕ, zero, suc, Bool, true, false, Option, Some, None, List, [], ◌∷◌, ◌++◌, length, take, drop, Ordering, refl, sym, ap, subst, ◌∙◌, append_assoc, arith}
use mathlib.Core.Bool.{beq, not}
use Rattle.std.specs.Prelude.{slice_get, filter, unwrap_or, is_some}
use Rattle.std.specs.Cmp.{IsTotalOrder}
use Rattle.std.specs.Int.{to_be_bytes, w32}
use Rattle.std.specs.List.{flat_map, All, AllByRecursion}
use Rattle.std.specs.List.Sorted.{IsStrictlySortedBy}
use Rattle.std.specs.Map.{keys_of}
use Rattle.std.specs.Ordering.{is_lt, ordering_reverse}
use Rattle.std.specs.declared.cmp.Ordering.TheVariants.{Less, Equal, Greater}
use Rattle.std.proofs.lemmas.List.{append-nil, take_all, length-drop, drop-drop}
use Rattle.std.proofs.lemmas.List.Concat.{flat_map-append, flat_map-cons}
use Rattle.std.proofs.lemmas.List.Elements.{All-append, All-nil}
use Rattle.abs_codec.specs.Laws.{IsCode}
use Rattle.abs_codec.specs.Maps.{map_code}
use Rattle.abs_codec.specs.Reading.{Reading, map_at}
use Rattle.abs_codec.specs.Spelling.{list_spelling, pair_spelling, PairIsSpelled, MapIsSpelled}
use Rattle.keyed_state.specs.KeyedMap.{entries_above}
use Rattle.operator_state.specs.Spelled.{copied, entries_or_none, front_spelling, Begins, ComesNext, GoesOn, IsFront, IsHeld}

-- ---- lists

module _ {X : Type 0} where
  pub head_is : (xs : List X) (e : X) → slice_get xs 0 ≡ Some e → xs ≡ e ∷ drop 1 xs
  head_is [] e h = absurd cc
  head_is (x ∷ xs) e h = ap (λ (y : X). y ∷ xs) (ap (λ (o : Option X). unwrap_or o x) h)

  pub none_is : (xs : List X) → slice_get xs 0 ≡ None → length xs ≡ 0
  none_is [] h = refl
  none_is (x ∷ xs) h = absurd cc

  pub take_on : (i : ℕ) (xs : List X) (e : X) (rest : List X) → drop i xs ≡ e ∷ rest → take (suc i) xs ≡ take i xs ++ e ∷ []
  take_on zero [] e rest h = absurd cc
  take_on zero (x ∷ xs) e rest h = ap (take 1) h
  take_on (suc i) [] e rest h = absurd cc
  take_on (suc i) (x ∷ xs) e rest h = ap (λ (l : List X). x ∷ l) (take_on i xs e rest h)

  pub drop_on : (i : ℕ) (xs : List X) (e : X) (rest : List X) → drop i xs ≡ e ∷ rest → drop (suc i) xs ≡ rest
  drop_on zero [] e rest h = absurd cc
  drop_on zero (x ∷ xs) e rest h = ap (drop 1) h
  drop_on (suc i) [] e rest h = absurd cc
  drop_on (suc i) (x ∷ xs) e rest h = drop_on i xs e rest h

  pub take_add : (n m : ℕ) (xs : List X) → take (n + m) xs ≡ take n xs ++ take m (drop n xs)
  take_add zero m xs = let at : 0 + m ≡ m = omega arith in ap (λ (n : ℕ). take n xs) at
  take_add (suc n) m [] = take_all (suc n + m) [] (omega arith) ∙ sym (take_all m [] (omega arith))
  take_add (suc n) m (x ∷ xs) = let at : suc n + m ≡ suc (n + m) = omega arith in ap (λ (k : ℕ). take k (x ∷ xs)) at ∙ ap (λ (l : List X). x ∷ l) (take_add n m xs)

  pub none_left : (xs left : List X) (i count : ℕ) → xs ≡ drop i left → None ≡ slice_get xs 0 → i < count → count ≤ length left → ⊥
  none_left xs left i count at none lt le = omega (arith, none_is xs (sym none), ap length at, length-drop i left)

-- ---- the entries above a key

itself_is : (r : Ordering) → r ≡ ordering_reverse r → r ≡ Equal
itself_is Less h = absurd cc
itself_is Equal h = refl
itself_is Greater h = absurd cc

module _ {K S : Type 0} {cmp : K → K → Ordering} (order : IsTotalOrder cmp) where
  abbrev above : K → K × S → Bool
  above key entry = is_lt (cmp key entry.0)

  all_above : (key : K) (es : List (K × S)) → AllByRecursion (λ q. cmp key q ≡ Less) (keys_of es) → filter (above key) es ≡ es
  all_above key [] all = refl
  all_above key (e ∷ es) all = rw all.0 (ap (λ (l : List (K × S)). e ∷ l) (all_above key es all.1))

  further_up : (a b : K) (es : List (K × S)) → cmp a b ≡ Less → AllByRecursion (λ q. cmp b q ≡ Less) (keys_of es) → AllByRecursion (λ q. cmp a q ≡ Less) (keys_of es)
  further_up a b [] h all = tt
  further_up a b (e ∷ es) h all = (order.trans a b e.0 h all.0, further_up a b es h all.1)

  -- the first that passes is one of them
  first_is_above : (j key : K) (es : List (K × S)) (e : K × S) (rest : List (K × S)) → AllByRecursion (λ q. cmp j q ≡ Less) (keys_of es) → filter (above key) es ≡ e ∷ rest → cmp j e.0 ≡ Less
  first_is_above j key [] e rest all h = absurd cc
  first_is_above j key (x ∷ es) e rest all h = by (above key x) refl (first_is_above j key es e rest all.1)
    where
      by : (b : Bool) → above key x ≡ b → (filter (above key) es ≡ e ∷ rest → cmp j e.0 ≡ Less) → cmp j e.0 ≡ Less
      by true p later =
          let kept : filter (above key) (x ∷ es) ≡ x ∷ filter (above key) es = rw p refl in
          let same : x ≡ e = ap (λ (l : List (K × S)). unwrap_or (slice_get l 0) x) (sym kept ∙ h) in
          subst (λ (y : K × S). cmp j y.0 ≡ Less) same all.0
      by false p later =
          let left_out : filter (above key) (x ∷ es) ≡ filter (above key) es = rw p refl in
          later (sym left_out ∙ h)

  -- of entries whose keys rise, those above the first are the others
  above_first : (x : K × S) (es : List (K × S)) → AllByRecursion (λ q. cmp x.0 q ≡ Less) (keys_of es) → filter (above x.0) (x ∷ es) ≡ es
  above_first x es all = rw (itself_is (cmp x.0 x.0) (order.antisymm x.0 x.0)) (all_above x.0 es all)

  first_of : (x : K × S) (es : List (K × S)) (e : K × S) (rest : List (K × S)) → x ∷ es ≡ e ∷ rest → x ≡ e
  first_of x es e rest h = ap (λ (l : List (K × S)). unwrap_or (slice_get l 0) x) h

  -- the entries after the first of those above a key
  pub next_above : (after : Option K) (es : List (K × S)) (e : K × S) (rest : List (K × S)) → IsStrictlySortedBy cmp (keys_of es) → entries_above cmp after es ≡ e ∷ rest → entries_above cmp (Some e.0) es ≡ rest
  unfolding IsStrictlySortedBy
  next_above None [] e rest rises h = absurd cc
  next_above None (x ∷ es) e rest rises h =
      subst (λ (y : K × S). filter (above y.0) (x ∷ es) ≡ rest) (first_of x es e rest h) (above_first x es rises.0 ∙ ap (drop 1) h)
  next_above (Some key) [] e rest rises h = absurd cc
  next_above (Some key) (x ∷ es) e rest rises h = by (cmp key x.0) refl (next_above (Some key) es e rest rises.1)
    where
      passed : cmp key x.0 ≡ Less → filter (above e.0) (x ∷ es) ≡ rest
      passed p =
          let all : filter (above key) (x ∷ es) ≡ x ∷ es = rw p (ap (λ (l : List (K × S)). x ∷ l) (all_above key es (further_up key x.0 es p rises.0))) in
          let seen : x ∷ es ≡ e ∷ rest = sym all ∙ h in
          subst (λ (y : K × S). filter (above y.0) (x ∷ es) ≡ rest) (first_of x es e rest seen) (above_first x es rises.0 ∙ ap (drop 1) seen)

      failed : is_lt (cmp key x.0) ≡ false → (filter (above key) es ≡ e ∷ rest → filter (above e.0) es ≡ rest) → filter (above e.0) (x ∷ es) ≡ rest
      failed p on =
          let left_out : filter (above key) (x ∷ es) ≡ filter (above key) es = rw p refl in
          let seen : filter (above key) es ≡ e ∷ rest = sym left_out ∙ h in
          let up : cmp x.0 e.0 ≡ Less = first_is_above x.0 key es e rest rises.0 seen in
          let down : cmp e.0 x.0 ≡ Greater = order.antisymm e.0 x.0 ∙ ap ordering_reverse up in
          rw down (on seen)

      by : (r : Ordering) → cmp key x.0 ≡ r → (filter (above key) es ≡ e ∷ rest → filter (above e.0) es ≡ rest) → filter (above e.0) (x ∷ es) ≡ rest
      by Less p on = passed p
      by Equal p on = failed (ap is_lt p) on
      by Greater p on = failed (ap is_lt p) on

  -- one entry further, where i entries are done of those that were left
  pub one_on : (next : Option K) (es left : List (K × S)) (i : ℕ) (e : K × S) → IsStrictlySortedBy cmp (keys_of es) → entries_above cmp next es ≡ drop i left → Some e ≡ slice_get (entries_above cmp next es) 0 → (entries_above cmp (Some e.0) es ≡ drop (i + 1) left) × (take (i + 1) left ≡ take i left ++ e ∷ [])
  one_on next es left i e rises so_far found =
      let split : entries_above cmp next es ≡ e ∷ drop 1 (entries_above cmp next es) = head_is (entries_above cmp next es) e (sym found) in
      let at : drop i left ≡ e ∷ drop 1 (entries_above cmp next es) = sym so_far ∙ split in
      let on : i + 1 ≡ suc i = omega arith in (
        next_above next es e (drop 1 (entries_above cmp next es)) rises split ∙ sym (drop_on i left e (drop 1 (entries_above cmp next es)) at) ∙ ap (λ (n : ℕ). drop n left) (sym on),
        ap (λ (n : ℕ). take n left) on ∙ take_on i left e (drop 1 (entries_above cmp next es)) at,
      )

module _ {X : Type 0} (spelling : X → List ℕ) (old out last : List ℕ) (before after : List X) (x : X) where
  -- and its spelling
  pub text_on : out ≡ old ++ flat_map spelling before → last ≡ out ++ spelling x → after ≡ before ++ x ∷ [] → last ≡ old ++ flat_map spelling after
  text_on so_far written more =
      let whole : flat_map spelling after ≡ flat_map spelling before ++ spelling x = ap (flat_map spelling) more ∙ flat_map-append spelling before (x ∷ []) ∙ ap (λ (t : List ℕ). flat_map spelling before ++ t) (flat_map-cons spelling x [] ∙ append-nil (spelling x)) in
      written ∙ ap (λ (t : List ℕ). t ++ spelling x) so_far ∙ append_assoc old (flat_map spelling before) (spelling x) ∙ ap (λ (t : List ℕ). old ++ t) (sym whole)

-- what was written since
pub since : (old out last all more : List ℕ) → out ≡ old ++ all → last ≡ out ++ more → (both : List ℕ) × (last ≡ old ++ both)
since old out last all more so_far written = (all ++ more, written ∙ ap (λ (t : List ℕ). t ++ more) so_far ∙ append_assoc old all more)

-- ---- what is kept of a copy

-- entries come before a piece as they do here
pub both_begin : (begun here : Bool) → not (beq begun here) ≡ false → begun ≡ here
both_begin true true h = refl
both_begin true false h = absurd cc
both_begin false true h = absurd cc
both_begin false false h = refl

module _ {K S : Type 0} (cmp : K → K → Ordering) (order : IsTotalOrder cmp) (Key : K → Type 0) (keys : K → List ℕ) (read_key : List ℕ → Reading K) (key_code : IsCode Key keys read_key)
    (State : S → Type 0) (states : S → List ℕ) (read_state : List ℕ → Reading S) (state_code : IsCode State states read_state) where
  abbrev Pair : K × S → Type 0
  Pair = PairIsSpelled Key State

  abbrev pair : K × S → List ℕ
  pair = pair_spelling keys states

  abbrev seen : Option (List (K × S)) → List ℕ → List (K × S)
  seen = copied cmp read_key read_state

  abbrev Front : Option K → List (K × S) → ℕ → List ℕ → Type 0
  Front = IsFront cmp Key keys State states

  abbrev Held : Option (List (K × S)) → Bool → Option K → ℕ → List ℕ → Type 0
  Held frozen has_copied last left bytes = IsHeld cmp Key keys State states frozen (seen frozen bytes) has_copied last left bytes

  whole : (es : List (K × S)) → take (length es - 0) es ≡ es
  whole es = take_all (length es - 0) es (omega arith)

  all_text : (key : K) (es : List (K × S)) (bytes : List ℕ) → Front (Some key) es 0 bytes → bytes ≡ 1 ∷ list_spelling pair es
  all_text key es bytes h = h.text ∙ ap (front_spelling keys states (length es)) (whole es)

  all_spelled : (key : K) (es : List (K × S)) (bytes : List ℕ) → IsStrictlySortedBy cmp (keys_of es) → Front (Some key) es 0 bytes → MapIsSpelled cmp Key State es
  all_spelled key es bytes rises h = (rises, (h.counted, subst (All Pair) (whole es) h.spelled))

  nil_is : (es : List (K × S)) → 0 ≡ length es → es ≡ []
  nil_is [] h = refl
  nil_is (e ∷ es) h = absurd (omega (arith, h))

  -- the entries, once all are spelled
  pub read_back : (last : Option K) (es : List (K × S)) (bytes : List ℕ) → IsStrictlySortedBy cmp (keys_of es) → Front last es 0 bytes → seen None bytes ≡ es
  read_back None es bytes rises h = ap (seen None) h.1 ∙ sym (nil_is es h.0)
  read_back (Some key) es bytes rises h =
      let code = map_code cmp order Key keys read_key key_code State states read_state state_code in
      ap (seen None) (all_text key es bytes h) ∙ ap entries_or_none (ap (map_at cmp read_key read_state) (sym (append-nil (list_spelling pair es))) ∙ code.again es [] (all_spelled key es bytes rises h))

  pub nothing_held : (frozen : Option (List (K × S))) → frozen ≡ None → Held frozen false None 0 []
  unfolding IsStrictlySortedBy
  nothing_held frozen thawed = subst (λ (f : Option (List (K × S))). Held f false None 0 []) (sym thawed) (record {
    rises = tt;
    within = omega arith;
    front = (refl, refl);
    frozen_on = λ _. refl;
    frozen_off = λ _. refl;
    copied_first = λ _. refl;
  })

  -- ---- a copy that someone else has spelled

  -- the copy stays, and is held
  pub on_taken : (frozen thawed : Option (List (K × S))) (has_copied : Bool) (last next : Option K) (left fewer : ℕ) (before kept : List ℕ) (es : List (K × S)) → Held frozen has_copied last left before → frozen ≡ Some es → Front next es fewer kept → fewer ≡ 0 → thawed ≡ None → (seen thawed kept ≡ seen frozen before) × Held thawed has_copied next fewer kept
  on_taken frozen thawed has_copied last next left fewer before kept es h is front done none =
      let were : seen frozen before ≡ es = ap (λ (f : Option (List (K × S))). seen f before) is in
      let rises : IsStrictlySortedBy cmp (keys_of es) = subst (λ (l : List (K × S)). IsStrictlySortedBy cmp (keys_of l)) were h.rises in
      let whole_front : Front next es 0 kept = subst (λ (n : ℕ). Front next es n kept) done front in
      let now : seen thawed kept ≡ es = ap (λ (f : Option (List (K × S))). seen f kept) none ∙ read_back next es kept rises whole_front in (
        now ∙ sym were,
        record {
          rises = subst (λ (l : List (K × S)). IsStrictlySortedBy cmp (keys_of l)) (sym now) rises;
          within = omega arith;
          front = subst (λ (l : List (K × S)). Front next l fewer kept) (sym now) front;
          frozen_on = λ _. done;
          frozen_off = λ _. none;
          copied_first = λ _. done;
        },
      )

  -- ---- entries that are left

  pub left_above : (last : Option K) (es : List (K × S)) (left : ℕ) (bytes : List ℕ) → Front last es left bytes → entries_above cmp last es ≡ drop (length es - left) es
  left_above None es left bytes h = let none : length es - left ≡ 0 = omega (arith, h.0) in ap (λ (n : ℕ). drop n es) (sym none)
  left_above (Some key) es left bytes h = h.others

  is_frozen : (frozen : Option (List (K × S))) (has_copied : Bool) (last : Option K) (left : ℕ) (bytes : List ℕ) → Held frozen has_copied last left bytes → 0 < left → frozen ≡ Some (seen frozen bytes)
  is_frozen None has_copied last left bytes h some = absurd (omega (arith, h.frozen_on refl))
  is_frozen (Some es) has_copied last left bytes h some = refl

  record Begun (es : List (K × S)) (left : ℕ) (bytes : List ℕ) : Type 0 where
    counted : length es < 2 ^ 32
    spelled : All Pair (take (length es - left) es)
    text : bytes ≡ front_spelling keys states (length es) (take (length es - left) es)

  begun : (last : Option K) (es : List (K × S)) (left : ℕ) (before after : List ℕ) → Front last es left before → Begins last left before after → Begun es left after
  begun None es left before after h b =
      let none : length es - left ≡ 0 = omega (arith, h.0) in
      let first : take (length es - left) es ≡ [] = ap (λ (n : ℕ). take n es) none in record {
        counted = subst (λ (n : ℕ). n < 2 ^ 32) h.0 b.0;
        spelled = subst (All Pair) (sym first) (All-nil Pair);
        text = b.1 ∙ ap (λ (t : List ℕ). t ++ 1 ∷ to_be_bytes w32 left) h.1 ∙ ap (λ (n : ℕ). 1 ∷ to_be_bytes w32 n) h.0 ∙ ap (λ (t : List ℕ). 1 ∷ t) (sym (append-nil (to_be_bytes w32 (length es)))) ∙ ap (front_spelling keys states (length es)) (sym first);
      }
  begun (Some key) es left before after h b = record { counted = h.counted; spelled = h.spelled; text = b ∙ h.text }

  -- these entries of a list are spelled, and so are those after them
  further : (es : List (K × S)) (left count : ℕ) (next : Option K) (bytes text : List ℕ) → Begun es left bytes → 0 < count → count ≤ left → left ≤ length es → text ≡ bytes ++ flat_map pair (take count (drop (length es - left) es)) → All Pair (take count (drop (length es - left) es)) → entries_above cmp next es ≡ drop count (drop (length es - left) es) → Front next es (left - count) text
  further es left count next bytes text b some le within more spelled others = by next others
    where
      n : ℕ
      n = length es - left

      here : length es - (left - count) ≡ n + count
      here = omega arith

      both : take (length es - (left - count)) es ≡ take n es ++ take count (drop n es)
      both = ap (λ (m : ℕ). take m es) here ∙ take_add n count es

      by : (next : Option K) → entries_above cmp next es ≡ drop count (drop n es) → Front next es (left - count) text
      by None all =
          let long : length es ≡ length es - n - count = ap length all ∙ length-drop count (drop n es) ∙ ap (λ (m : ℕ). m - count) (length-drop n es) in
          absurd (omega arith)
      by (Some key) all = record {
        counted = b.counted;
        spelled = subst (All Pair) (sym both) (All-append Pair (take n es) (take count (drop n es)) b.spelled spelled);
        text = more ∙ ap (λ (t : List ℕ). t ++ flat_map pair (take count (drop n es))) b.text ∙ ap (λ (t : List ℕ). 1 ∷ t) (append_assoc (to_be_bytes w32 (length es)) (flat_map pair (take n es)) (flat_map pair (take count (drop n es))) ∙ ap (λ (t : List ℕ). to_be_bytes w32 (length es) ++ t) (sym (flat_map-append pair (take n es) (take count (drop n es))) ∙ ap (flat_map pair) (sym both)));
        others = all ∙ drop-drop count n es ∙ ap (λ (m : ℕ). drop m es) (sym here);
      }

  -- ---- a piece that someone else spells

  begins_behind : (last key : Option K) (left : ℕ) (front head : List ℕ) → Begins last left [] head → is_some key ≡ is_some last → Begins key left front (front ++ head)
  begins_behind None None left front head b same = (b.0, ap (λ (t : List ℕ). front ++ t) b.1)
  begins_behind None (Some key) left front head b same = absurd cc
  begins_behind (Some own) None left front head b same = absurd cc
  begins_behind (Some own) (Some key) left front head b same = ap (λ (t : List ℕ). front ++ t) b ∙ append-nil front

  -- behind any front it goes on
  pub goes_on : (last next : Option K) (left count : ℕ) (es : List (K × S)) (head text : List ℕ) → ComesNext cmp Key keys State states last left count es → Begins last left [] head → text ≡ head ++ flat_map pair (take count (entries_above cmp last es)) → All Pair (take count (entries_above cmp last es)) → entries_above cmp next es ≡ drop count (entries_above cmp last es) → GoesOn cmp Key keys State states es (is_some last) left next (left - count) text
  goes_on last next left count es head text place b more spelled others =
      let todo : entries_above cmp last es ≡ drop (length es - left) es = left_above last es left place.front place.behind in record {
        fewer = omega (arith, place.some, place.there);
        behind = λ key front same first.
            let together : front ++ text ≡ (front ++ head) ++ flat_map pair (take count (drop (length es - left) es)) = ap (λ (t : List ℕ). front ++ t) (more ∙ ap (λ (l : List (K × S)). head ++ flat_map pair (take count l)) todo) ∙ sym (append_assoc front head (flat_map pair (take count (drop (length es - left) es)))) in
            further es left count next (front ++ head) (front ++ text) (begun key es left front (front ++ head) first (begins_behind last key left front head b same)) place.some place.there place.within together
            (subst (λ (l : List (K × S)). All Pair (take count l)) todo spelled)
            (others ∙ ap (drop count) todo);
      }

  -- so many come next
  pub there_are : (last : Option K) (left count : ℕ) (es : List (K × S)) → ComesNext cmp Key keys State states last left count es → count ≤ length (entries_above cmp last es)
  there_are last left count es place =
      let todo : entries_above cmp last es ≡ drop (length es - left) es = left_above last es left place.front place.behind in
      omega (arith, place.there, place.within, ap length todo, length-drop (length es - left) es)

  -- it is joined to the front that it comes behind
  pub joined : (frozen : Option (List (K × S))) (has_copied : Bool) (last next : Option K) (left was fewer : ℕ) (before piece kept : List ℕ) (begun : Bool) (es : List (K × S)) → Held frozen has_copied last left before → frozen ≡ Some es → GoesOn cmp Key keys State states es begun was next fewer piece → begun ≡ is_some last → was ≡ left → kept ≡ before ++ piece → Front next es fewer kept
  joined frozen has_copied last next left was fewer before piece kept begun es h is goes same_key same_left all =
      let were : seen frozen before ≡ es = ap (λ (f : Option (List (K × S))). seen f before) is in
      let first : Front last es was before = subst (λ (n : ℕ). Front last es n before) (sym same_left) (subst (λ (l : List (K × S)). Front last l left before) were h.front) in
      subst (Front next es fewer) (sym all) (goes.behind last before (sym same_key) first)

  -- and some of the copy is left
  pub on_joined : (frozen : Option (List (K × S))) (has_copied : Bool) (last next : Option K) (left fewer : ℕ) (before kept : List ℕ) (es : List (K × S)) → Held frozen has_copied last left before → frozen ≡ Some es → Front next es fewer kept → fewer < left → 0 < fewer → (seen frozen kept ≡ seen frozen before) × Held frozen has_copied next fewer kept
  on_joined frozen has_copied last next left fewer before kept es h is front less some =
      let were : seen frozen before ≡ es = ap (λ (f : Option (List (K × S))). seen f before) is in
      let now : seen frozen kept ≡ es = ap (λ (f : Option (List (K × S))). seen f kept) is in
      let same : seen frozen kept ≡ seen frozen before = now ∙ sym were in (
        same,
        record {
          rises = subst (λ (l : List (K × S)). IsStrictlySortedBy cmp (keys_of l)) (sym same) h.rises;
          within = subst (λ (l : List (K × S)). fewer ≤ length l) (sym same) (let w : left ≤ length (seen frozen before) = h.within in omega arith);
          front = subst (λ (l : List (K × S)). Front next l fewer kept) (sym now) front;
          frozen_on = λ none. absurd (omega (arith, h.frozen_on none));
          frozen_off = λ done. absurd (omega arith);
          copied_first = λ none. absurd (omega (arith, h.copied_first none));
        },
      )

  -- ---- after a call

  module _ (frozen : Option (List (K × S))) (has_copied : Bool) (last next : Option K) (left count : ℕ) (before head after : List ℕ) (h : Held frozen has_copied last left before) (some : 0 < count) (le : count ≤ left) where
    -- what a call spells
    pub spelled_on : (cut : List ℕ) (asked : Option K) → cut ≡ before → asked ≡ last → Begins last left cut head → after ≡ head ++ flat_map pair (take count (entries_above cmp asked (unwrap_or frozen []))) → All Pair (take count (entries_above cmp asked (unwrap_or frozen []))) → entries_above cmp next (unwrap_or frozen []) ≡ drop count (entries_above cmp asked (unwrap_or frozen [])) → Front next (seen frozen before) (left - count) after
    spelled_on cut asked from same b more spelled others =
        let es : List (K × S) = seen frozen before in
        let there : unwrap_or frozen [] ≡ es = ap (λ (f : Option (List (K × S))). unwrap_or f []) (is_frozen frozen has_copied last left before h (omega arith)) in
        let todo : entries_above cmp asked (unwrap_or frozen []) ≡ drop (length es - left) es = ap (λ (k : Option K). entries_above cmp k (unwrap_or frozen [])) same ∙ ap (entries_above cmp last) there ∙ left_above last es left before h.front in
        further es left count next head after (begun last es left before head h.front (subst (λ (t : List ℕ). Begins last left t head) from b)) some le h.within
        (more ∙ ap (λ (l : List (K × S)). head ++ flat_map pair (take count l)) todo)
        (subst (λ (l : List (K × S)). All Pair (take count l)) todo spelled)
        (ap (entries_above cmp next) (sym there) ∙ others ∙ ap (drop count) todo)

    module _ (front : Front next (seen frozen before) (left - count) after) (kept : List ℕ) (all : kept ≡ after) where
      -- the copy stays, and is held
      pub on_frozen : 0 < left - count → (seen frozen kept ≡ seen frozen before) × Held frozen has_copied next (left - count) kept
      on_frozen more =
          let is : frozen ≡ Some (seen frozen before) = is_frozen frozen has_copied last left before h (omega arith) in
          let same : seen frozen kept ≡ seen frozen before = ap (λ (f : Option (List (K × S))). seen f kept) is in (
            same,
            record {
              rises = subst (λ (es : List (K × S)). IsStrictlySortedBy cmp (keys_of es)) (sym same) h.rises;
              within = subst (λ (es : List (K × S)). left - count ≤ length es) (sym same) (let w : left ≤ length (seen frozen before) = h.within in omega arith);
              front = subst (λ (es : List (K × S)). Front next es (left - count) kept) (sym same) (subst (Front next (seen frozen before) (left - count)) (sym all) front);
              frozen_on = λ none. absurd (omega (arith, h.frozen_on none));
              frozen_off = λ done. absurd (omega arith);
              copied_first = λ none. absurd (omega (arith, h.copied_first none));
            },
          )

      pub on_thawed : (thawed : Option (List (K × S))) → thawed ≡ None → left - count ≡ 0 → (seen thawed kept ≡ seen frozen before) × Held thawed has_copied next (left - count) kept
      on_thawed thawed none done =
          let es : List (K × S) = seen frozen before in
          let whole_front : Front next es (left - count) kept = subst (Front next es (left - count)) (sym all) front in
          let same : seen thawed kept ≡ es = ap (λ (f : Option (List (K × S))). seen f kept) none ∙ read_back next es kept h.rises (subst (λ (n : ℕ). Front next es n kept) done whole_front) in (
            same,
            record {
              rises = subst (λ (es : List (K × S)). IsStrictlySortedBy cmp (keys_of es)) (sym same) h.rises;
              within = omega arith;
              front = subst (λ (es : List (K × S)). Front next es (left - count) kept) (sym same) whole_front;
              frozen_on = λ _. done;
              frozen_off = λ _. none;
              copied_first = λ _. done;
            },
          )
